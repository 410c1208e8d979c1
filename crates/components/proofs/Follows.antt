-- One place of a list is followed, in tables.
use Rattle.std.proofs.Common.{◌≡◌, ℕ, ◌+◌, ◌-◌, ◌*◌, ◌<◌, ◌≤◌, Bool, true, false, nat_lt, ◌≢◌, ◌⊎◌, List, length, slice_set, sym, ap, ◌∙◌, subst, subst₂, inl, inr, arith, length-set, get_or-set_other, get_or-set_same, ltb-true, lt-ltb}
use mathlib.Core.Path.{fun_ext}
use native.Mathlib.Decide.{ℕ_discrete, dec_lt}
use Rattle.theory.specs.Reach.{Along}
use Rattle.theory.specs.Trail.{Trail, Spent}
use Rattle.theory.specs.TrailTheorems.{Passed}
use Rattle.theory.proofs.Sums.{cases, clash, and_left, and_right, both, sum_put}
use Rattle.theory.proofs.Moves.{with_has}
use Rattle.matching.specs.Tables.{at, filled}
use Rattle.matching.proofs.Tables.{filled_set}
use Rattle.components.specs.Walks.{Heights, Setting, FullMatching, Tables, tables, Fit, edge, passed, cut, Walked, effort}
use Rattle.components.specs.Steps.{pushed, Collapsed, Followed}
use Rattle.components.proofs.Cuts.{collapsed_high}
use Rattle.components.proofs.Walks.{heights, last, last_on, last_job, room, walked_joins, walked_follows, walked_pushes}

-- a search in tables that are equal
pub retabled : (g : Setting) {t t' : Tables} {s s' : Heights} → t' ≡ t → s' ≡ s → Walked g t s → Walked g t' s'
retabled g et es k = subst₂ (Walked g) (sym et) (sym es) k

-- the list has no place left
pub spent_from : (g : Setting) (cursors : List ℕ) (a : ℕ) → ((q : ℕ) → at cursors a ≤ q → g.holds a q ≡ false) → Spent (Along g.jobs (edge g)) (Passed (passed g cursors)) a
spent_from g cursors a none b (la, lb, h) = both (lt-ltb b g.jobs lb) (both h (lt-ltb (at g.places b) (at cursors a) (elim (dec_lt (at g.places b) (at cursors a)) [
  | yes l ↦ l
  | no nl ↦ absurd (clash h (none (at g.places b) (omega arith)))
])))

module _ (g : Setting) (f : FullMatching g) (cursors : List ℕ) (fit : g.jobs ≤ length cursors) (a p : ℕ) (la : a < g.jobs) (low : at cursors a ≤ p)
    (none : (q : ℕ) → at cursors a ≤ q → q < p → g.holds a q ≡ false) where
  abbrev cursors' : List ℕ
  cursors' = slice_set cursors a (p + 1)

  here : at cursors' a ≡ p + 1
  here = get_or-set_same cursors a (p + 1) 0 (omega arith)

  pub past_more : (x y : ℕ) → passed g cursors x y ≡ true → passed g cursors' x y ≡ true
  past_more x y e =
      let ly = and_left (nat_lt y g.jobs) _ e in
      let h = and_left (edge g x y) _ (and_right (nat_lt y g.jobs) _ e) in
      let l : at g.places y < at cursors x = ltb-true (at g.places y) (at cursors x) (and_right (edge g x y) _ (and_right (nat_lt y g.jobs) _ e)) in
      both ly (both h (lt-ltb (at g.places y) (at cursors' x) (elim (ℕ_discrete x a) [
        | yes q ↦ omega (arith, l, ap (at cursors) q, ap (at cursors') q, here)
        | no ne ↦ omega (arith, l, get_or-set_other cursors a x (p + 1) 0 ne)
      ])))

  -- a step that is new ends at the holder of p
  pub past_only : (x y : ℕ) → passed g cursors' x y ≡ true → (passed g cursors x y ≡ true) ⊎ ((x ≡ a) × (y ≡ at g.holders p))
  past_only x y e =
      let ly = and_left (nat_lt y g.jobs) _ e in
      let h = and_left (edge g x y) _ (and_right (nat_lt y g.jobs) _ e) in
      let l : at g.places y < at cursors' x = ltb-true (at g.places y) (at cursors' x) (and_right (edge g x y) _ (and_right (nat_lt y g.jobs) _ e)) in
      let jy : y < g.jobs = ltb-true y g.jobs ly in
      elim (dec_lt (at g.places y) (at cursors x)) [
        | yes b ↦ inl (both ly (both h (lt-ltb (at g.places y) (at cursors x) b)))
        | no nb ↦ elim (ℕ_discrete x a) [
          | no ne ↦ absurd (omega (arith, l, get_or-set_other cursors a x (p + 1) 0 ne))
          | yes q ↦ elim (ℕ_discrete (at g.places y) p) [
            | yes r ↦ inr (q, sym (f.matched.taken y jy (f.every y jy)) ∙ ap (at g.holders) r)
            | no nr ↦ absurd (clash (sym (ap (λ (z : ℕ). edge g z y) q) ∙ h) (none (at g.places y) (omega (arith, ap (at cursors) q)) (omega (arith, l, ap (at cursors') q, here))))
          ]
        ]
      ]

  -- no step is new where p has no holder
  pub past_free : at g.holders p ≡ 65535 → passed g cursors ≡ passed g cursors'
  past_free e = fun_ext (λ x. fun_ext (λ y. same x y))
    where
      same : (x y : ℕ) → passed g cursors x y ≡ passed g cursors' x y
      same x y = elim (cases (passed g cursors' x y)) [
        | inl h ↦ elim (past_only x y h) [
          | inl o ↦ o ∙ sym h
          | inr (q, r) ↦ absurd (omega (arith, r, e, f.few, ltb-true y g.jobs (and_left (nat_lt y g.jobs) _ h)))
        ]
        | inr n ↦ elim (cases (passed g cursors x y)) [ inl o ↦ absurd (clash (past_more x y o) n) | inr o ↦ o ∙ sym n ]
      ]

  -- the search has less to do
  pub effort_falls : (depth : ℕ) → p < g.width → effort g.jobs cursors' (depth + 1) < effort g.jobs cursors depth
  effort_falls depth lp =
      omega (arith, here, f.narrow, sum_put (λ k. 2 * (2049 - at cursors' k)) (λ k. 2 * (2049 - at cursors k)) g.jobs a la (λ k l ne. ap (λ (z : ℕ). 2 * (2049 - z)) (get_or-set_other cursors a k (p + 1) 0 ne)))

-- what one step leads to: what was seen stays so, and the search has less to do
pub record Advanced (g : Setting) (t : Tables) (s : Heights) (t' : Tables) (s' : Heights) : Type 0 where
  pub walked : Walked g t' s'
  pub seen : (x : ℕ) → filled t.index x ≡ true → filled t'.index x ≡ true
  pub less : effort g.jobs t'.cursors s'.depth < effort g.jobs t.cursors s.depth

-- the last of the path goes on to the next place of its list
module _ (g : Setting) (f : FullMatching g) (t : Tables) (s : Heights) (k : Walked g t s) (d : 0 < s.depth) (p : ℕ) (low : at t.cursors (at t.nodes (last g t s k)) ≤ p)
    (none : (q : ℕ) → at t.cursors (at t.nodes (last g t s k)) ≤ q → q < p → g.holds (at t.nodes (last g t s k)) q ≡ false) where
  abbrev a : ℕ
  a = at t.nodes (last g t s k)

  abbrev passing : List ℕ
  passing = slice_set t.cursors a (p + 1)

  la : a < g.jobs
  la = last_job g t s k d

  -- the tables after the place was passed
  abbrev past : Tables
  past = tables passing t.index t.labels t.nodes t.cuts t.path

  fits : Fit g.jobs past
  fits = record { cursors = simp length-set k.fit.cursors; index = k.fit.index; labels = k.fit.labels; nodes = k.fit.nodes; cuts = k.fit.cuts; path = k.fit.path }

  -- it is free
  pub advanced_past : p < g.width → at g.holders p ≡ 65535 → Advanced g t s past s
  advanced_past lp e = record {
    walked = record {
      trail = subst (λ (past : ℕ → ℕ → Bool). Trail (Along g.jobs (edge g)) (Passed past) g.jobs (filled t.index) (filled t.labels) (at t.labels) s.next (at t.index) (at t.nodes) s.top (cut t.cuts s.cuts) (at t.path) s.depth)
          (past_free g f t.cursors k.fit.cursors a p la low none e) k.trail;
      loosened = k.loosened;
      rises = k.rises;
      tally = k.tally;
      few = k.few;
      fit = fits;
    };
    seen = λ x h. h;
    less = omega (arith, effort_falls g f t.cursors k.fit.cursors a p la low none s.depth lp);
  }

  -- or job b has it
  module _ (b : ℕ) (lp : p < g.width) (h : g.holds a p ≡ true) (eb : at g.holders p ≡ b) (nb : b ≢ 65535) where
    pub holder_job : b < g.jobs
    holder_job = omega (arith, (f.matched.back p lp (λ z. nb (sym eb ∙ z))).0, eb)

    leads : Along g.jobs (edge g) a b
    leads =
        let back = (f.matched.back p lp (λ z. nb (sym eb ∙ z))).2 in
        (la, holder_job, ap (g.holds a) (sym (ap (at g.places) eb) ∙ back) ∙ h)

    only : (x y : ℕ) → passed g passing x y ≡ true → (passed g t.cursors x y ≡ true) ⊎ ((x ≡ a) × (y ≡ b))
    only x y o = elim (past_only g f t.cursors k.fit.cursors a p la low none x y o) [ inl i ↦ inl i | inr (q, r) ↦ inr (q, r ∙ eb) ]

    to_done : filled t.labels b ≡ true → Walked g past s
    to_done e = walked_follows g t s k passing (last g t s k) b (simp length-set) (past_more g f t.cursors k.fit.cursors a p la low none) only (last_on g t s k d) (inl e)

    to_open : (n : ℕ) → filled t.index b ≡ true → filled t.labels b ≡ false → Collapsed t.cuts s.cuts (at t.index b) n
        → Walked g past (heights s.top n s.depth s.next)
    to_open n sb e c = elim (k.trail.seen_is b holder_job sb) [
      | inl y ↦ absurd (clash y e)
      | inr (x, lx, q) ↦
          let z : x ≡ at t.index b = sym (k.trail.on_pos x lx) ∙ ap (at t.index) q in
          let j = walked_joins g t s k (at t.index b) n d (omega (arith, lx, z)) (subst (Along g.jobs (edge g) a) (sym q ∙ ap (at t.nodes) z) leads) c in
          walked_follows g t (heights s.top n s.depth s.next) j passing (last g t s k) b (simp length-set) (past_more g f t.cursors k.fit.cursors a p la low none) only (last_on g t s k d)
          (inr (x, lx, q, λ u i o. collapsed_high t.cuts s.cuts k.rises n (at t.index b) c.below u (omega (arith, i, z))))
    ]

    to_new : filled t.index b ≡ false → Walked g (tables passing (slice_set t.index b s.top) t.labels (slice_set t.nodes s.top b) (slice_set t.cuts s.cuts s.top) (slice_set t.path s.depth s.top)) (pushed s)
    to_new sb =
        let nx : at (slice_set t.nodes s.top b) (last g t s k) ≡ a = get_or-set_other t.nodes s.top (last g t s k) b 0 (λ z. omega (arith, last_on g t s k d, z)) in
        let lt : s.top < length t.nodes = omega (arith, room g t s k b holder_job sb, k.fit.nodes) in
        let up = walked_pushes g t s k b holder_job sb (λ e q. subst (λ (v : ℕ). Along g.jobs (edge g) (at t.nodes (at t.path v)) b) (omega arith) leads) in
        walked_follows g (tables t.cursors (slice_set t.index b s.top) t.labels (slice_set t.nodes s.top b) (slice_set t.cuts s.cuts s.top) (slice_set t.path s.depth s.top)) (pushed s) up
        passing (last g t s k) b (simp length-set) (past_more g f t.cursors k.fit.cursors a p la low none)
        (λ x y o. elim (only x y o) [ inl i ↦ inl i | inr (q, z) ↦ inr (q ∙ sym nx, z) ]) (omega (arith, last_on g t s k d))
        (inr (s.top, omega arith, get_or-set_same t.nodes s.top b 0 lt, λ z u v. absurd (omega (arith, last_on g t s k d))))

    pub walked_step : (t' : Tables) (s' : Heights) → Followed past s b t' s' → Walked g t' s'
    walked_step t' s' w = elim (cases (filled t.index b)) [
      | inr e ↦ let o = w.fresh e in retabled g o.tables o.heights (to_new e)
      | inl e ↦ elim (cases (filled t.labels b)) [
        | inl y ↦ retabled g (w.same e) (w.done e y) (to_done y)
        | inr y ↦ let (n, c, q) = w.joins e y in retabled g (w.same e) q (to_open n e y c)
      ]
    ]

    -- what was seen stays so
    pub seen_stays : (t' : Tables) (s' : Heights) → Followed past s b t' s' → (x : ℕ) → filled t.index x ≡ true → filled t'.index x ≡ true
    seen_stays t' s' w x h = elim (cases (filled t.index b)) [
      | inr e ↦
          ap (λ (v : Tables). filled v.index x) (w.fresh e).tables
          ∙ (ap (λ (A : ℕ → Bool). A x) (filled_set t.index b s.top (omega (arith, holder_job, k.fit.index)) (λ z. omega (arith, room g t s k b holder_job e, f.few))) ∙ with_has (filled t.index) b x h)
      | inl e ↦ ap (λ (v : Tables). filled v.index x) (w.same e) ∙ h
    ]

    cursors_stay : (t' : Tables) (s' : Heights) → Followed past s b t' s' → t'.cursors ≡ passing
    cursors_stay t' s' w = elim (cases (filled t.index b)) [ inr e ↦ ap (λ (v : Tables). v.cursors) (w.fresh e).tables | inl e ↦ ap (λ (v : Tables). v.cursors) (w.same e) ]

    pub depth_stays : (t' : Tables) (s' : Heights) → Followed past s b t' s' → s'.depth ≤ s.depth + 1
    depth_stays t' s' w = elim (cases (filled t.index b)) [
      | inr e ↦ omega (arith, ap (λ (h : Heights). h.depth) (w.fresh e).heights)
      | inl e ↦ elim (cases (filled t.labels b)) [
        | inl y ↦ omega (arith, ap (λ (h : Heights). h.depth) (w.done e y))
        | inr y ↦ let (n, c, q) = w.joins e y in omega (arith, ap (λ (h : Heights). h.depth) q)
      ]
    ]

    pub advanced_step : (t' : Tables) (s' : Heights) → Followed past s b t' s' → Advanced g t s t' s'
    advanced_step t' s' w = record {
      walked = walked_step t' s' w;
      seen = seen_stays t' s' w;
      less = omega (
        arith,
        depth_stays t' s' w,
        ap (λ (l : List ℕ). effort g.jobs l s'.depth) (cursors_stay t' s' w),
        effort_falls g f t.cursors k.fit.cursors a p la low none s.depth lp,
      );
    }

-- the same of a job that is the last of the path
module _ (g : Setting) (f : FullMatching g) (t : Tables) (s : Heights) (k : Walked g t s) (d : 0 < s.depth) (a : ℕ) (is : at t.nodes (last g t s k) ≡ a) (p : ℕ) where
  abbrev None_before : ℕ → Type 0
  None_before y = (q : ℕ) → at t.cursors y ≤ q → q < p → g.holds y q ≡ false

  abbrev past_of : ℕ → Tables
  past_of y = tables (slice_set t.cursors y (p + 1)) t.index t.labels t.nodes t.cuts t.path

  pub past_at : at t.cursors a ≤ p → None_before a → p < g.width → at g.holders p ≡ 65535 → Advanced g t s (past_of a) s
  past_at = subst (λ (y : ℕ). at t.cursors y ≤ p → None_before y → p < g.width → at g.holders p ≡ 65535 → Advanced g t s (past_of y) s) is (advanced_past g f t s k d p)

  pub step_at : at t.cursors a ≤ p → None_before a → (b : ℕ) → p < g.width → g.holds a p ≡ true → at g.holders p ≡ b → b ≢ 65535 → (t' : Tables) (s' : Heights) → Followed (past_of a) s b t' s' → Advanced g t s t' s'
  step_at =
      subst (λ (y : ℕ). at t.cursors y ≤ p → None_before y → (b : ℕ) → p < g.width → g.holds y p ≡ true → at g.holders p ≡ b → b ≢ 65535 → (t' : Tables) (s' : Heights) → Followed (past_of y) s b t' s' → Advanced g t s t' s') is
      (advanced_step g f t s k d p)
