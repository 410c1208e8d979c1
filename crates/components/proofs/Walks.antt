-- The steps of a path-based search for components, in tables.
use Rattle.std.proofs.Common.{◌≡◌, ℕ, zero, suc, ◌+◌, ◌-◌, ◌<◌, ◌≤◌, Bool, true, false, ◌==◌, ◌≢◌, ◌⊎◌, List, length, slice_set, sym, refl, ap, ◌∙◌, subst, subst₂, add-one, arith, length-set, get_or-set_other, get_or-set_same}
use native.Mathlib.Decide.{ℕ_discrete, dec_lt}
use Rattle.theory.specs.Counts.{count}
use Rattle.theory.specs.Reach.{Along}
use Rattle.theory.specs.Assignments.{put, with}
use Rattle.theory.specs.Trail.{Trail, Spent, Ends}
use Rattle.theory.specs.TrailTheorems.{Passed}
use Rattle.theory.proofs.Sums.{clash, count_lt, count_most, count_all}
use Rattle.theory.proofs.Moves.{count_with}
use Rattle.theory.proofs.Trails.{trail_pushes, trail_follows, trail_joins, trail_pops, none_on}
use Rattle.matching.specs.Tables.{at, filled}
use Rattle.matching.proofs.Tables.{at_set, filled_set}
use Rattle.components.specs.Walks.{Heights, Setting, Tables, tables, edge, passed, cut, loose, Walked}
use Rattle.components.specs.Steps.{HasRoom, pushed, on_top, Collapsed}
use Rattle.components.proofs.Cuts.{cut_has, cut_is, cut_push, collapsed_low, collapsed_high, last_not}

-- rising numbers are at least their positions
pub rising_ge : (f : ℕ → ℕ) (n : ℕ) → ((i j : ℕ) → i < j → j < n → f i < f j) → (i : ℕ) → i < n → i ≤ f i
rising_ge f n h zero l = omega arith
rising_ge f n h (suc i) l = omega (arith, rising_ge f n h i (omega arith), h i (suc i) (omega arith) l)

abbrev pub heights : ℕ → ℕ → ℕ → ℕ → Heights
heights top n depth next = record { top = top; cuts = n; depth = depth; next = next }

module _ (g : Setting) (t : Tables) (s : Heights) (k : Walked g t s) where
  abbrev m : ℕ
  m = g.jobs

  abbrev R : ℕ → ℕ → Type 0
  R = Along g.jobs (edge g)

  abbrev past : ℕ → ℕ → Type 0
  past = Passed (passed g t.cursors)

  -- the last of the path
  abbrev pub last : ℕ
  last = at t.path (s.depth - 1)

  -- a cut is at most the last position of the path
  pub cut_last : (i : ℕ) → 0 < s.depth → i < s.cuts → at t.cuts i ≤ last
  cut_last i p l =
      let (d, ld, q) = k.trail.cut_on (at t.cuts i) (cut_has t.cuts s.cuts i (at t.cuts i) l refl) in
      elim (ℕ_discrete d (s.depth - 1)) [ yes w ↦ omega (arith, ap (at t.path) w, q) | no ne ↦ omega (arith, k.trail.path_rises d (s.depth - 1) (omega arith) (omega arith), q) ]

  pub cuts_some : 0 < s.top → 0 < s.cuts
  cuts_some l = let (i, h, q) = cut_is t.cuts s.cuts 0 (k.trail.first l) in omega arith

  pub cuts_few : s.cuts ≤ s.top
  cuts_few = elim (dec_lt 0 s.cuts) [
    | yes l ↦
        let (d, ld, q) = k.trail.cut_on (at t.cuts (s.cuts - 1)) (cut_has t.cuts s.cuts (s.cuts - 1) (at t.cuts (s.cuts - 1)) (omega arith) refl) in
        omega (arith, rising_ge (at t.cuts) s.cuts k.rises (s.cuts - 1) (omega arith), k.trail.path_below d ld, q)
    | no nl ↦ omega arith
  ]

  pub depth_few : s.depth ≤ s.top
  depth_few = elim (dec_lt 0 s.depth) [
    | yes l ↦ omega (arith, rising_ge (at t.path) s.depth k.trail.path_rises (s.depth - 1) (omega arith), k.trail.path_below (s.depth - 1) (omega arith))
    | no nl ↦ omega arith
  ]

  pub tops : s.next + s.top ≤ m
  tops = omega (arith, k.tally, count_most (filled t.index) m)

  -- while a job was not seen, the tables have room
  pub room : (w : ℕ) → w < m → filled t.index w ≡ false → s.next + s.top < m
  room w l e = omega (arith, k.tally, count_lt (filled t.index) (λ a. true) m w (λ a h y. refl) l e refl, count_all m)

  pub last_on : 0 < s.depth → last < s.top
  last_on p = k.trail.path_below (s.depth - 1) (omega arith)

  pub last_job : 0 < s.depth → at t.nodes last < m
  last_job p = k.trail.on_job last (last_on p)

  -- the last of the path is spent, and not the first of its segment
  pub walked_pops : 0 < s.depth → Spent R past (at t.nodes last) → at t.cuts (s.cuts - 1) ≢ last → Walked g t (heights s.top s.cuts (s.depth - 1) s.next)
  walked_pops p e ne =
      let some : 0 < s.cuts = cuts_some (omega (arith, last_on p)) in
      record {
        trail = trail_pops R m past (filled t.index) (filled t.labels) (at t.labels) s.next (at t.index) (at t.nodes) s.top (cut t.cuts s.cuts) (at t.path) s.depth k.trail
            (s.depth - 1) (omega arith) e (last_not t.cuts s.cuts k.rises (s.cuts - 1) last (omega arith) ne (cut_last (s.cuts - 1) p (omega arith)));
        loosened = k.loosened;
        rises = k.rises;
        tally = k.tally;
        few = k.few;
        fit = k.fit;
      }

  -- the same at a position that is the last of the path
  pub pops_at : (x : ℕ) → last ≡ x → 0 < s.depth → Spent R past (at t.nodes x) → at t.cuts (s.cuts - 1) ≢ x → Walked g t (heights s.top s.cuts (s.depth - 1) s.next)
  pops_at x e p = subst (λ (y : ℕ). Spent R past (at t.nodes y) → at t.cuts (s.cuts - 1) ≢ y → Walked g t (heights s.top s.cuts (s.depth - 1) s.next)) e (walked_pops p)

  -- a step to a job on the stack joins segments
  pub walked_joins : (xb n : ℕ) → 0 < s.depth → xb < s.top → R (at t.nodes last) (at t.nodes xb) → Collapsed t.cuts s.cuts xb n → Walked g t (heights s.top n s.depth s.next)
  walked_joins xb n p lb r c = record {
    trail = trail_joins R m past (filled t.index) (filled t.labels) (at t.labels) s.next (at t.index) (at t.nodes) s.top (cut t.cuts s.cuts) (at t.path) s.depth k.trail
        (cut t.cuts n) (s.depth - 1) xb (omega arith) lb r (collapsed_low t.cuts s.cuts k.rises n xb c.few c.above) (collapsed_high t.cuts s.cuts k.rises n xb c.below);
    loosened = k.loosened;
    rises = λ i j l h. k.rises i j l (omega (arith, c.few));
    tally = k.tally;
    few = k.few;
    fit = k.fit;
  }

  -- one more step was followed, from the job at xa to b
  pub walked_follows : (cursors' : List ℕ) (xa b : ℕ) → length cursors' ≡ length t.cursors
      → ((x y : ℕ) → passed g t.cursors x y ≡ true → passed g cursors' x y ≡ true)
      → ((x y : ℕ) → passed g cursors' x y ≡ true → (passed g t.cursors x y ≡ true) ⊎ ((x ≡ at t.nodes xa) × (y ≡ b)))
      → xa < s.top → Ends (filled t.labels) (at t.nodes) s.top (cut t.cuts s.cuts) xa b
      → Walked g (tables cursors' t.index t.labels t.nodes t.cuts t.path) s
  walked_follows cursors' xa b len more only l ends = record {
    trail = trail_follows R m past (filled t.index) (filled t.labels) (at t.labels) s.next (at t.index) (at t.nodes) s.top (cut t.cuts s.cuts) (at t.path) s.depth k.trail
        (Passed (passed g cursors')) xa b more only l ends;
    loosened = k.loosened;
    rises = k.rises;
    tally = k.tally;
    few = k.few;
    fit = record { cursors = omega (arith, k.fit.cursors); index = k.fit.index; labels = k.fit.labels; nodes = k.fit.nodes; cuts = k.fit.cuts; path = k.fit.path };
  }

  -- a new job comes on the stack
  module _ (w : ℕ) (lw : w < m) (sw : filled t.index w ≡ false) where
    li : w < length t.index
    li = omega (arith, k.fit.index)

    lt : s.top < length t.nodes
    lt = omega (arith, room w lw sw, k.fit.nodes)

    ln : s.cuts < length t.cuts
    ln = omega (arith, room w lw sw, cuts_few, k.fit.cuts)

    ld : s.depth < length t.path
    ld = omega (arith, room w lw sw, depth_few, k.fit.path)

    pub has_room : HasRoom t s
    has_room = (lt, omega (arith, room w lw sw, k.few), ln, ld)

    nt : s.top ≢ 65535
    nt z = omega (arith, room w lw sw, k.few)

    seen_now : filled (slice_set t.index w s.top) ≡ with (filled t.index) w
    seen_now = filled_set t.index w s.top li nt

    -- a job that is done is not w
    not_done : (a : ℕ) → a < m → filled t.labels a ≡ true → a ≢ w
    not_done a l e q = clash (ap (filled t.index) (sym q) ∙ k.trail.done_seen a l e) sw

    loose_kept : (a : ℕ) → a < m → filled t.labels a ≡ true → loose (slice_set t.index w s.top) a ≡ loose t.index a
    loose_kept a l e = ap (λ (x : ℕ). x == 1) (get_or-set_other t.index w a s.top 0 (not_done a l e))

    pub walked_pushes : ((d : ℕ) → suc d ≡ s.depth → R (at t.nodes (at t.path d)) w) → Walked g (on_top t s w) (pushed s)
    walked_pushes r = record {
      trail = simp add-one
          (subst₂ (λ (sn : ℕ → Bool) (ix : ℕ → ℕ). Trail R past m sn (filled t.labels) (at t.labels) s.next ix (at (slice_set t.nodes s.top w)) (suc s.top) (cut (slice_set t.cuts s.cuts s.top) (suc s.cuts)) (at (slice_set t.path s.depth s.top)) (suc s.depth))
          (sym seen_now) (sym (at_set t.index w s.top li))
          (subst₂ (λ (nd : ℕ → ℕ) (ct : ℕ → Bool). Trail R past m (with (filled t.index) w) (filled t.labels) (at t.labels) s.next (put (at t.index) w s.top) nd (suc s.top) ct (at (slice_set t.path s.depth s.top)) (suc s.depth))
          (sym (at_set t.nodes s.top w lt)) (sym (cut_push t.cuts s.cuts s.top ln))
          (subst (λ (pt : ℕ → ℕ). Trail R past m (with (filled t.index) w) (filled t.labels) (at t.labels) s.next (put (at t.index) w s.top) (put (at t.nodes) s.top w) (suc s.top) (with (cut t.cuts s.cuts) s.top) pt (suc s.depth))
          (sym (at_set t.path s.depth s.top ld))
          (trail_pushes R m past (filled t.index) (filled t.labels) (at t.labels) s.next (at t.index) (at t.nodes) s.top (cut t.cuts s.cuts) (at t.path) s.depth k.trail w lw sw r))));
      loosened = record {
        frees = λ a l e h. k.loosened.frees a l e (sym (loose_kept a l e) ∙ h);
        exit_loose = λ a l e o. loose_kept a l e ∙ k.loosened.exit_loose a l e o;
        next_loose = λ a b la lb e q h.
            let eb : filled t.labels b ≡ true = (k.trail.closed a b la lb e q).0 in
            loose_kept a la e ∙ k.loosened.next_loose a b la lb e q (sym (loose_kept b lb eb) ∙ h);
      };
      rises = λ i j l h. elim (ℕ_discrete j s.cuts) [
        | yes z ↦
            let (x, lx, q) = k.trail.cut_on (at t.cuts i) (cut_has t.cuts s.cuts i (at t.cuts i) (omega arith) refl) in
            omega (arith, get_or-set_other t.cuts s.cuts i s.top 0 (λ y. omega arith), get_or-set_same t.cuts s.cuts s.top 0 ln, ap (at (slice_set t.cuts s.cuts s.top)) z, k.trail.path_below x lx, q)
        | no nz ↦ omega (arith, get_or-set_other t.cuts s.cuts i s.top 0 (λ y. omega arith), get_or-set_other t.cuts s.cuts j s.top 0 nz, k.rises i j l (omega arith))
      ];
      tally = omega (arith, k.tally, ap (λ (A : ℕ → Bool). count A m) seen_now, count_with (filled t.index) w m lw sw);
      few = k.few;
      fit = record {
        cursors = k.fit.cursors;
        index = simp length-set k.fit.index;
        labels = k.fit.labels;
        nodes = simp length-set k.fit.nodes;
        cuts = simp length-set k.fit.cuts;
        path = simp length-set k.fit.path;
      };
    }

-- an empty path has empty stacks
pub idle_top : (g : Setting) (t : Tables) (s : Heights) → Walked g t s → s.depth ≡ 0 → s.top ≡ 0
idle_top g t s k e = none_on (Along g.jobs (edge g)) g.jobs (Passed (passed g t.cursors)) (filled t.index) (filled t.labels) (at t.labels) s.next (at t.index) (at t.nodes) s.top (cut t.cuts s.cuts) (at t.path) s.depth k.trail e

pub empties : (g : Setting) (t : Tables) (s : Heights) → Walked g t s → s.depth ≡ 0 → Walked g t (heights 0 0 0 s.next)
empties g t s k e =
    let et : s.top ≡ 0 = idle_top g t s k e in
    let en : s.cuts ≡ 0 = omega (arith, cuts_few g t s k) in
    subst (λ (x : ℕ). Walked g t (heights x 0 0 s.next)) et
    (subst (λ (x : ℕ). Walked g t (heights s.top x 0 s.next)) en
    (subst (λ (x : ℕ). Walked g t (heights s.top s.cuts x s.next)) e k))
