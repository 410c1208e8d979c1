-- A segment becomes a component, in tables.
use Rattle.std.proofs.Common.{◌≡◌, ℕ, suc, ◌+◌, ◌-◌, ◌<◌, ◌≤◌, Bool, true, false, ◌&&◌, ◌==◌, ◌≢◌, ◌⊎◌, List, length, IsTrue, ◌↔◌, sym, refl, ap, ◌∙◌, subst, subst₂, inl, inr, arith, eq-eqb, eqb-true}
use mathlib.Core.Path.{fun_ext}
use native.Mathlib.Decide.{ℕ_discrete, dec_lt}
use Rattle.theory.specs.Counts.{bit, count}
use Rattle.theory.specs.Reach.{Reach, Along}
use Rattle.theory.specs.Trail.{Trail, Spent, LooseBy, Loosened}
use Rattle.theory.specs.TrailTheorems.{Passed}
use Rattle.theory.proofs.Sums.{clash, and_left, and_right, both, or_left, or_right, or_cases}
use Rattle.theory.proofs.Trails.{trail_closes, together, loosened_more}
use Rattle.matching.specs.Tables.{at, filled}
use Rattle.matching.proofs.Tables.{filled_some, some_filled}
use Rattle.components.specs.Walks.{Heights, Setting, FullMatching, Tables, tables, edge, passed, cut, Free, loose, TrailOf, Walked}
use Rattle.components.specs.Steps.{Labelled, HasOutlet, SomeOutlet, Closed}
use Rattle.components.proofs.Cuts.{cut_has, popped_low, popped_high}
use Rattle.components.proofs.Follows.{retabled}
use Rattle.components.proofs.Walks.{heights, last, last_on, cuts_some, tops}

-- ---- outlets

module _ (g : Setting) (f : FullMatching g) (index labels : List ℕ) where
  abbrev Loose : ℕ → Type 0
  Loose = LooseBy (Along g.jobs (edge g)) (Free g) g.jobs (filled labels) (loose index)

  pub outlet_loose : (a : ℕ) → a < g.jobs → HasOutlet g index labels a → Loose a
  outlet_loose a la (p, lp, h, o) = elim (ℕ_discrete (at g.holders p) 65535) [
    | yes e ↦ inl (p, lp, h, e)
    | no ne ↦ by ne (or_cases (at g.holders p == 65535) _ o)
  ]
    where
      by : at g.holders p ≢ 65535 → ((at g.holders p == 65535) ≡ true) ⊎ ((filled labels (at g.holders p) && loose index (at g.holders p)) ≡ true) → Loose a
      by ne (inl e) = absurd (ne (eqb-true (at g.holders p) 65535 e))
      by ne (inr e) =
          let (lb, fb, back) = f.matched.back p lp ne in
          inr (at g.holders p, lb, (la, lb, ap (g.holds a) back ∙ h), and_left (filled labels (at g.holders p)) _ e, and_right (filled labels (at g.holders p)) _ e)

  pub loose_outlet : (a : ℕ) → Loose a → HasOutlet g index labels a
  loose_outlet a (inl (p, lp, h, e)) = (p, lp, h, or_left _ (eq-eqb (at g.holders p) 65535 e))
  loose_outlet a (inr (b, lb, (la, l, h), d, o)) =
      let e : at g.holders (at g.places b) ≡ b = f.matched.taken b lb (f.every b lb) in (
        at g.places b,
        f.matched.valid.within b lb (f.every b lb),
        h,
        or_right (at g.holders (at g.places b) == 65535) (subst (λ (x : ℕ). (filled labels x && loose index x) ≡ true) (sym e) (both d o)),
      )

-- ---- the component

bit_loose : (flag : Bool) → (bit flag == 1) ≡ flag
bit_loose true = refl
bit_loose false = refl

bit_small : (flag : Bool) → bit flag ≢ 65535
bit_small true e = omega arith
bit_small false e = omega arith

module _ (g : Setting) (f : FullMatching g) (t : Tables) (s : Heights) (k : Walked g t s) (p : 0 < s.depth) where
  abbrev m : ℕ
  m = g.jobs

  abbrev R : ℕ → ℕ → Type 0
  R = Along g.jobs (edge g)

  abbrev past : ℕ → ℕ → Type 0
  past = Passed (passed g t.cursors)

  abbrev from : ℕ
  from = last g t s k

  -- a stands in the topmost segment
  abbrev Member : ℕ → Type 0
  Member a = (x : ℕ) × (from ≤ x) × (x < s.top) × (at t.nodes x ≡ a)

  abbrev Outside : ℕ → Type 0
  Outside a = (x : ℕ) → from ≤ x → x < s.top → at t.nodes x ≢ a

  position : (a x : ℕ) → x < s.top → at t.nodes x ≡ a → at t.index a ≡ x
  position a x l e = sym (ap (at t.index) e) ∙ k.trail.on_pos x l

  member? : (a : ℕ) → Member a ⊎ Outside a
  member? a = elim (ℕ_discrete (at t.nodes (at t.index a)) a) [
    | no ne ↦ inr (λ x low l e. ne (ap (at t.nodes) (position a x l e) ∙ e))
    | yes e ↦ elim (dec_lt (at t.index a) from) [
      | yes lt ↦ inr (λ x low l q. omega (arith, position a x l q))
      | no nlt ↦ elim (dec_lt (at t.index a) s.top) [
        | yes b ↦ inl (at t.index a, omega arith, b, e)
        | no nb ↦ inr (λ x low l q. omega (arith, position a x l q))
      ]
    ]
  ]

  below_outside : (x : ℕ) → x < from → Outside (at t.nodes x)
  below_outside x l y low h e = omega (arith, position (at t.nodes x) y h e, k.trail.on_pos x (omega (arith, last_on g t s k p)))

  done_outside : (a : ℕ) → filled t.labels a ≡ true → Outside a
  done_outside a d x low l e = clash d (ap (filled t.labels) (sym e) ∙ k.trail.on_open x l)

  linked : (a b : ℕ) → Member a → Member b → Reach R a b
  linked a b (x, lx, hx, ex) (y, ly, hy, ey) =
      subst₂ (λ (c d : ℕ). Reach R c d) ex ey
      (together R m past (filled t.index) (filled t.labels) (at t.labels) s.next (at t.index) (at t.nodes) s.top (cut t.cuts s.cuts) (at t.path) s.depth k.trail (s.depth - 1) x y (omega arith) lx hx ly hy)

  module _ (index' labels' : List ℕ) (flag : Bool) (new : Labelled t.nodes from s.top s.next t.labels labels')
      (mark : Labelled t.nodes from s.top (bit flag) t.index index') where
    abbrev after : Tables
    after = tables t.cursors index' labels' t.nodes t.cuts t.path

    marked : (a : ℕ) → Member a → at index' a ≡ bit flag
    marked a (x, low, l, e) = ap (at index') (sym e) ∙ mark.new x low l

    numbered : (a : ℕ) → Member a → at labels' a ≡ s.next
    numbered a (x, low, l, e) = ap (at labels') (sym e) ∙ new.new x low l

    next_small : s.next ≢ 65535
    next_small z = omega (arith, tops g t s k, k.few, last_on g t s k p)

    member_done : (a : ℕ) → Member a → filled labels' a ≡ true
    member_done a i = some_filled labels' a (λ z. next_small (sym (numbered a i) ∙ z))

    done_kept : (a : ℕ) → filled t.labels a ≡ true → filled labels' a ≡ true
    done_kept a d = some_filled labels' a (λ z. filled_some t.labels a d (sym (new.kept a (done_outside a d)) ∙ z))

    done_is : (a : ℕ) → filled labels' a ≡ true → (filled t.labels a ≡ true) ⊎ Member a
    done_is a d = elim (member? a) [
      | inl i ↦ inr i
      | inr o ↦ inl (some_filled t.labels a (λ z. filled_some labels' a d (new.kept a o ∙ z)))
    ]

    seen_same : filled t.index ≡ filled index'
    seen_same = fun_ext (λ a. elim (member? a) [
      | inl (x, low, l, e) ↦ sym (ap (filled t.index) e) ∙ k.trail.on_seen x l ∙ sym (some_filled index' a (λ z. bit_small flag (sym (marked a (x, low, l, e)) ∙ z)))
      | inr o ↦ ap (λ (v : ℕ). mathlib.Core.Bool.not (v == 65535)) (sym (mark.kept a o))
    ])

    loose_kept : (a : ℕ) → a < m → filled t.labels a ≡ true → loose index' a ≡ loose t.index a
    loose_kept a l d = ap (λ (v : ℕ). v == 1) (mark.kept a (done_outside a d))

    loose_new : (a : ℕ) → a < m → Member a → loose index' a ≡ flag
    loose_new a l i = ap (λ (v : ℕ). v == 1) (marked a i) ∙ bit_loose flag

    module _ (spent : Spent R past (at t.nodes from)) (q : at t.cuts (s.cuts - 1) ≡ from) (some : 0 < s.cuts) where
      closed_trail : TrailOf g after (heights from (s.cuts - 1) (s.depth - 1) (suc s.next))
      closed_trail =
          subst (λ (sn : ℕ → Bool). Trail R past m sn (filled labels') (at labels') (suc s.next) (at index') (at t.nodes) from (cut t.cuts (s.cuts - 1)) (at t.path) (s.depth - 1)) seen_same
          (trail_closes R m past (filled t.index) (filled t.labels) (at t.labels) s.next (at t.index) (at t.nodes) s.top (cut t.cuts s.cuts) (at t.path) s.depth k.trail
          (filled labels') (at labels') (at index') (cut t.cuts (s.cuts - 1)) (s.depth - 1) (omega arith) spent (cut_has t.cuts s.cuts (s.cuts - 1) from (omega arith) q)
          (λ a l d. (done_kept a d, new.kept a (done_outside a d)))
          (λ x low l. (member_done (at t.nodes x) (x, low, l, refl), new.new x low l))
          (λ a l d. done_is a d)
          (λ z l. popped_low t.cuts s.cuts k.rises (s.cuts - 1) (omega arith) z (omega (arith, q)))
          (λ z l. popped_high t.cuts s.cuts k.rises (s.cuts - 1) (omega arith) z (omega (arith, q)))
          (λ x l. mark.kept (at t.nodes x) (below_outside x l)))

      closed_loosened : (IsTrue flag ↔ SomeOutlet g t.index t.labels t.nodes from s.top) → Loosened R (Free g) m (filled labels') (loose index')
      closed_loosened (yes', back) =
          loosened_more R (Free g) m (filled t.labels) (filled labels') (loose t.index) (loose index') Member flag k.loosened
          (λ a b la lb d r. (k.trail.closed a b la lb d r).0) (λ a b la lb d r. (closed_trail.closed a b la lb d r).0) (λ a l d. done_is a d) linked loose_kept loose_new
          (λ e. found (yes' e))
          (λ a l (x, low, h, z) o. back (x, low, h, subst (HasOutlet g t.index t.labels) (sym z) (loose_outlet g f t.index t.labels a o)))
        where
          found : SomeOutlet g t.index t.labels t.nodes from s.top → (a : ℕ) × Member a × LooseBy R (Free g) m (filled t.labels) (loose t.index) a
          found (x, low, l, o) = (at t.nodes x, (x, low, l, refl), outlet_loose g f t.index t.labels (at t.nodes x) (k.trail.on_job x l) o)

  -- the last of the path is spent, and the first of its segment
  pub walked_closes : (t' : Tables) (s' : Heights) → Spent R past (at t.nodes from) → at t.cuts (s.cuts - 1) ≡ from → Closed g t s from t' s' → Walked g t' s'
  walked_closes t' s' spent q c =
      let (flag, decides, mark) = c.marked in
      let some : 0 < s.cuts = cuts_some g t s k (omega (arith, last_on g t s k p)) in
      let fi : m ≤ length t'.index = omega (arith, k.fit.index, mark.len) in
      let fl : m ≤ length t'.labels = omega (arith, k.fit.labels, c.numbered.len) in
      let e : suc s.next ≡ s.next + 1 = omega arith in
      retabled g c.tables c.heights
      (subst (λ (n : ℕ). Walked g (tables t.cursors t'.index t'.labels t.nodes t.cuts t.path) (heights from (s.cuts - 1) (s.depth - 1) n)) e
      (record {
        trail = closed_trail t'.index t'.labels flag c.numbered mark spent q some;
        loosened = closed_loosened t'.index t'.labels flag c.numbered mark spent q some decides;
        rises = λ i j l h. k.rises i j l (omega arith);
        tally = omega (arith, k.tally, last_on g t s k p, ap (λ (A : ℕ → Bool). count A m) (seen_same t'.index t'.labels flag c.numbered mark));
        few = k.few;
        fit = record { cursors = k.fit.cursors; index = fi; labels = fl; nodes = k.fit.nodes; cuts = k.fit.cuts; path = k.fit.path };
      }))

  -- what was seen stays so
  pub seen_closed : (t' : Tables) (s' : Heights) → Closed g t s from t' s' → (a : ℕ) → filled t.index a ≡ true → filled t'.index a ≡ true
  seen_closed t' s' c a h =
      let (flag, decides, mark) = c.marked in
      sym (ap (λ (A : ℕ → Bool). A a) (seen_same t'.index t'.labels flag c.numbered mark)) ∙ h

  -- the same at a position that is the last of the path
  pub closes_at : (x : ℕ) → from ≡ x → (t' : Tables) (s' : Heights) → Spent R past (at t.nodes x) → at t.cuts (s.cuts - 1) ≡ x → Closed g t s x t' s'
      → Walked g t' s' × ((a : ℕ) → filled t.index a ≡ true → filled t'.index a ≡ true)
  closes_at x e t' s' =
      subst (λ (y : ℕ). Spent R past (at t.nodes y) → at t.cuts (s.cuts - 1) ≡ y → Closed g t s y t' s' → Walked g t' s' × ((a : ℕ) → filled t.index a ≡ true → filled t'.index a ≡ true)) e
      (λ spent q c. (walked_closes t' s' spent q c, seen_closed t' s' c))
