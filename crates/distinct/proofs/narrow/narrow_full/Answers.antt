use Rattle.std.proofs.Common.{◌<◌, length, arith}
use Rattle.places.specs.Families.{family}
use Rattle.places.proofs.Families.{family_all}
use Rattle.rules.specs.Progressions.{jobs_of}
use Rattle.distinct.proofs.Narrowings.{narrowed_full}
use Rattle.distinct.proofs.Spreads.{count_is, last_below}
use Rattle.distinct.proofs.narrow.narrow_full.Goals as goal

pub invariant_of-components : goal.invariant_of-components
invariant_of-components g c = record { few = c.requires.few; fits = last_below c.args.jobs.now (length c.args.lists.now) c.requires.scope }

pub sift_all-requires : goal.sift_all-requires
sift_all-requires g c =
    let d = c.args.jobs.now in
    let f = c.requires.full in
    let (lp, lc, lm, ln) = c.requires.tables in
    record {
      scope = c.requires.scope;
      tables = record {
        places_fit = omega (arith, lp);
        holders_fit = f.matched.holders_fit;
        labels_fit = omega (arith, c.components.auto.labels, c.split_at_mut-labels.ensures.front_len);
        marks_fit = omega (arith, c.components.auto.index, lm);
        jobs = λ p l ne. (f.matched.back p l ne).0;
      };
    }

pub returns : goal.returns
returns g c =
    let d = c.args.jobs.now in
    let has = g.L.PlaceSet.has in
    let limit = g.L.PlaceSet.LIMIT in
    narrowed_full (jobs_of d) d.count limit (count_is d (length c.args.lists.now) c.requires.scope) (family has c.args.lists.now) (family has c.sift_all.new.lists)
    (family_all has (λ p. p < limit) g.met.L.PlaceSet.within c.args.lists.now) c.args.places.now c.args.holders.now c.components.new.labels c.components.new.index
    c.requires.full c.components.ensures c.sift_all.ensures
