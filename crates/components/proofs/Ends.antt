-- The start and the end of the search.
use Rattle.std.proofs.Common.{◌≡◌, ℕ, ◌<◌, ◌≤◌, Bool, true, false, ◌&&◌, ◌==◌, nat_lt, refl, ap, ◌∙◌, arith, ltb-true}
use native.Mathlib.Decide.{ℕ_discrete}
use Rattle.theory.specs.Counts.{count}
use Rattle.theory.specs.Reach.{Along}
use Rattle.theory.specs.Assignments.{Searched, Leads, Open, Spare, all, with}
use Rattle.theory.specs.SingleRows.{single}
use Rattle.theory.specs.TrailTheorems.{Passed}
use Rattle.theory.proofs.Sums.{clash, and_right, count_same}
use Rattle.theory.proofs.Moves.{with_same, with_has}
use Rattle.theory.proofs.Trails.{trail_done}
use Rattle.theory.proofs.Walks.{reach_map}
use Rattle.matching.specs.Tables.{at, filled}
use Rattle.matching.proofs.Tables.{none_filled, filled_set}
use Rattle.matching.proofs.Shifts.{free_spare, held_tight}
use Rattle.components.specs.Walks.{Heights, Setting, FullMatching, Tables, Fit, edge, passed, cut, Free, loose, Walked, empty_at}
use Rattle.components.specs.Steps.{Pushed}
use Rattle.components.proofs.Cuts.{cut_is}
use Rattle.components.proofs.Walks.{idle_top, walked_pushes}
use Rattle.components.proofs.Follows.{retabled}

-- nothing was seen
pub walked_starts : (g : Setting) (t : Tables) → g.jobs ≤ 65535 → Fit g.jobs t → ((k : ℕ) → k < g.jobs → at t.index k ≡ 65535) → ((k : ℕ) → k < g.jobs → at t.labels k ≡ 65535)
    → ((k : ℕ) → k < g.jobs → at t.cursors k ≡ 0) → Walked g t (empty_at 0)
walked_starts g t few fit hi hl hc = record {
  trail = record {
    on_job = λ x l. absurd (omega arith);
    on_open = λ x l. absurd (omega arith);
    on_seen = λ x l. absurd (omega arith);
    on_pos = λ x l. absurd (omega arith);
    done_seen = λ a l e. absurd (undone a l e);
    seen_is = λ a l e. absurd (clash e (none_filled t.index a (hi a l)));
    fresh = λ a b l e p. unpassed a b l p;
    up = λ x y l k. absurd (omega arith);
    down = λ x y l k. absurd (omega arith);
    closed = λ a b la lb e. absurd (undone a la e);
    linked = λ a b la lb e. absurd (undone a la e);
    numbered = λ a l e. absurd (undone a l e);
    past_on = λ x b l. absurd (omega arith);
    path_below = λ d l. absurd (omega arith);
    path_rises = λ d e l k. absurd (omega arith);
    cut_on = λ z e. let (i, l, q) = cut_is t.cuts 0 z e in absurd (omega arith);
    rest = λ x l. absurd (omega arith);
    first = λ l. absurd (omega arith);
  };
  loosened = record {
    frees = λ a l e. absurd (undone a l e);
    exit_loose = λ a l e. absurd (undone a l e);
    next_loose = λ a b la lb e. absurd (undone a la e);
  };
  rises = λ i j l k. absurd (omega arith);
  tally = omega arith;
  few = few;
  fit = fit;
}
  where
    undone : (a : ℕ) → a < g.jobs → filled t.labels a ≡ true → ⊥
    undone a l e = clash e (none_filled t.labels a (hl a l))

    unpassed : (a b : ℕ) → a < g.jobs → passed g t.cursors a b ≡ true → ⊥
    unpassed a b l e = omega (arith, hc a l, ltb-true (at g.places b) (at t.cursors a) (and_right (edge g a b) _ (and_right (nat_lt b g.jobs) _ e)))

-- a root comes on the empty stack
module _ (g : Setting) (t : Tables) (s : Heights) (root : ℕ) (k : Walked g t s) (idle : s.depth ≡ 0) (lr : root < g.jobs) (t' : Tables) (s' : Heights) (p : Pushed t s root t' s') where
  pub walked_root : filled t.index root ≡ false → Walked g t' s'
  walked_root e = retabled g p.tables p.heights (walked_pushes g t s k root lr e (λ d q. absurd (omega arith)))

  seen_now : filled t'.index ≡ with (filled t.index) root
  seen_now = ap {B = ℕ → Bool} (λ (v : Tables). filled v.index) p.tables ∙ filled_set t.index root s.top (omega (arith, k.fit.index)) (λ z. omega (arith, idle_top g t s k idle))

  pub root_seen : filled t'.index root ≡ true
  root_seen = ap (λ (A : ℕ → Bool). A root) seen_now ∙ with_same (filled t.index) root

  pub root_keeps : (a : ℕ) → filled t.index a ≡ true → filled t'.index a ≡ true
  root_keeps a h = ap (λ (A : ℕ → Bool). A a) seen_now ∙ with_has (filled t.index) root a h

-- all were seen
module _ (g : Setting) (f : FullMatching g) where
  -- a place is free exactly if it is spare
  spare_all : (p : ℕ) → count (λ k. filled g.places k && (at g.places k == p)) g.jobs ≡ count (λ k. true && (at g.places k == p)) g.jobs
  spare_all p = count_same _ _ g.jobs (λ k l. ap (λ (b : Bool). b && (at g.places k == p)) (f.every k l))

  free_open : (a : ℕ) → Free g a → Open (single g.jobs g.width g.holds) all (at g.places) a
  free_open a (p, lp, h, e) = record {
    place = p;
    below = lp;
    listed = h;
    spare = omega (arith, spare_all p, free_spare g.jobs g.width g.holds g.places g.holders p f.few f.matched e);
  }

  spare_free : (p : ℕ) → p < g.width → Spare (single g.jobs g.width g.holds) all (at g.places) p → at g.holders p ≡ 65535
  spare_free p lp s = elim (ℕ_discrete (at g.holders p) 65535) [
    | yes e ↦ e
    | no ne ↦ absurd (omega (arith, spare_all p, held_tight g.jobs g.width g.holds g.places g.holders p f.matched lp ne))
  ]

  abbrev steps : ℕ → ℕ → Type 0
  steps = Leads (single g.jobs g.width g.holds) all (at g.places)

  leads : (a b : ℕ) → Along g.jobs (edge g) a b → steps a b
  leads a b (la, lb, h) = (lb, refl, h)

  pub searched : (t : Tables) (next : ℕ) → Walked g t (empty_at next) → ((a : ℕ) → a < g.jobs → filled t.index a ≡ true)
      → Searched (single g.jobs g.width g.holds) (at g.places) (loose t.index) (at t.labels)
  searched t next k every =
      let m = g.jobs in
      let done : (a : ℕ) → a < g.jobs → filled t.labels a ≡ true =
      trail_done (Along m (edge g)) m (Passed (passed g t.cursors)) (filled t.index) (filled t.labels) (at t.labels) next (at t.index) (at t.nodes) 0 (cut t.cuts 0) (at t.path) 0 k.trail refl every in
      record {
        frees = λ j l h.
            let (e, w, o) = k.loosened.frees j l (done j l) h in
            (e, reach_map (Along m (edge g)) steps leads j e w, free_open e o);
        open_loose = λ j q lj lq h s. k.loosened.exit_loose j lj (done j lj) (q, lq, h, spare_free q lq s);
        next_loose = λ a b la lb h o. k.loosened.next_loose a b la lb (done a la) (la, lb, h) o;
        falls = λ a b la lb h. (k.trail.closed a b la lb (done a la) (la, lb, h)).1;
        linked = λ a b la lb e. reach_map (Along m (edge g)) steps leads a b (k.trail.linked a b la lb (done a la) (done b lb) e);
      }
