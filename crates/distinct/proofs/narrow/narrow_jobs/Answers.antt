use Rattle.std.proofs.Common.{◌≡◌, ◌<◌, not, length, ◌∙◌, arith}
use borrow.Author.Tests.{not-true}
use Rattle.theory.proofs.Sums.{count_has}
use Rattle.matching.specs.Tables.{filled}
use Rattle.places.specs.Families.{family}
use Rattle.places.proofs.Families.{family_all}
use Rattle.rules.specs.Progressions.{jobs_of}
use Rattle.distinct.proofs.Countings.{missing, none_missing}
use Rattle.distinct.proofs.Narrowings.{narrowed_none}
use Rattle.distinct.proofs.Spreads.{count_is, last_below}
use Rattle.distinct.proofs.narrow.narrow_jobs.Goals as goal

pub invariant_of-match_jobs : goal.invariant_of-match_jobs
invariant_of-match_jobs g c = record { few = c.requires.few; fits = last_below c.args.jobs.now (length c.args.lists.now) c.requires.scope }

pub empty_all-requires : goal.empty_all-requires
empty_all-requires g c = record { scope = c.requires.scope }

pub returns-then-count_none-gt0 : goal.returns-then-count_none-gt0
returns-then-count_none-gt0 g c =
    let d = c.args.jobs.now in
    let has = g.L.PlaceSet.has in
    let limit = g.L.PlaceSet.LIMIT in
    let ps = c.match_jobs.new.places in
    let lp : length ps ≡ d.count = c.match_jobs.auto.places ∙ c.split_at_mut-places.ensures.front_len in
    let (i, l, e) = count_has (λ k. not (filled ps k)) (length ps) (omega (arith, c.count_none.ensures ∙ missing ps, c.if-count_none-gt0.true)) in
    narrowed_none (jobs_of d) d.count limit (count_is d (length c.args.lists.now) c.requires.scope) (family has c.args.lists.now) (family has c.empty_all.new.lists)
    (family_all has (λ p. p < limit) g.met.L.PlaceSet.within c.args.lists.now) ps c.match_jobs.new.holders c.match_jobs.new.parents c.match_jobs.ensures
    i (omega (arith, l, lp)) (not-true (filled ps i) e) c.empty_all.ensures

pub narrow_full-requires : goal.narrow_full-requires
narrow_full-requires g c =
    let d = c.args.jobs.now in
    let ps = c.match_jobs.new.places in
    let lp : length ps ≡ d.count = c.match_jobs.auto.places ∙ c.split_at_mut-places.ensures.front_len in
    record {
      few = c.requires.few;
      scope = c.requires.scope;
      tables = (
        lp,
        c.match_jobs.auto.parents ∙ c.split_at_mut-parents.ensures.front_len,
        c.match_jobs.auto.slots ∙ c.split_at_mut-slots.ensures.front_len,
        omega (arith, c.requires.memory, c.split_at_mut-slots.ensures.back_len, c.split_at_mut-parents.ensures.back_len, c.split_at_mut-holders.ensures.back_len, c.split_at_mut-places.ensures.back_len),
      );
      full = record {
        few = omega (arith, c.requires.few);
        narrow = g.met.L.PlaceSet.bounded.1;
        matched = c.match_jobs.ensures.matched;
        every = λ i l. none_missing ps (length ps) (omega (arith, c.count_none.ensures ∙ missing ps, c.if-count_none-gt0.false)) i (omega (arith, lp, l));
      };
    }
