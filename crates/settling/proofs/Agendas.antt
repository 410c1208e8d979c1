-- A line of wake-ups beside a row of marks.
use Rattle.std.proofs.Common.{◌≡◌, ℕ, ◌+◌, ◌<◌, ◌≤◌, Bool, true, false, ◌||◌, ◌==◌, if◌then◌else◌, List, [], ◌∷◌, ◌++◌, length, get_or, set, replicate, sym, refl, ap, ◌∙◌, subst, ⊎_elim, arith, length-set, get_or-set_other, get_or-set_same}
use Rattle.std.specs.List.{AllByRecursion}
use Rattle.std.proofs.ByRecursion.{All-push, All-weaker}
use Rattle.std.proofs.lemmas.Bool.{cases_eq, cond-true, cond-false, eq-eqb, ne_eqb}
use Rattle.std.proofs.lemmas.List.{get_or-replicate}
use Rattle.theory.specs.Counts.{bit, sum, count}
use Rattle.theory.proofs.Sums.{sum_zero, sum_add, sum_at, sum_eq, bit_one, count_most, count_lt}
use Rattle.settling.specs.declared.agenda.WakeUp.{WakeUp}
use Rattle.settling.specs.Agenda.{Lined, Rightful, times, waits, Agreed, joined, TakenOne}

bit_at : (r : ℕ) → bit (r == r) ≡ 1
bit_at r = ap bit (eq-eqb r r refl)

bit_off : (r i : ℕ) → (r ≡ i → ⊥) → bit (r == i) ≡ 0
bit_off r i ne = ap bit (ne_eqb r i ne)

-- the rules of a line, counted rule by rule
sum_times : (n : ℕ) (ws : List WakeUp) → AllByRecursion (λ w. w.rule < n) ws → sum (λ i. times i ws) n ≡ length ws
sum_times n [] a = sum_zero (λ i. 0) n (λ k l. refl)
sum_times n (w ∷ ws) a =
    let here : sum (λ i. bit (w.rule == i)) n ≡ 1 =
    sum_at (λ i. bit (w.rule == i)) n w.rule a.0 (λ k l ne. bit_off w.rule k (λ e. ne (sym e))) ∙ bit_at w.rule in
    sum_add (λ i. bit (w.rule == i)) (λ i. times i ws) n ∙ omega (arith, here, sum_times n ws a.1)

-- Each rule below n stands in the line once if it is marked, and not at all otherwise.
module _ (n : ℕ) (marks : ℕ → Bool) (ws : List WakeUp) (known : AllByRecursion (λ w. w.rule < n) ws) (once : (i : ℕ) → i < n → times i ws ≡ bit (marks i)) where
  length_line : length ws ≡ count marks n
  length_line = sym (sum_times n ws known) ∙ sum_eq (λ i. times i ws) (λ i. bit (marks i)) n once

  marks_le : length ws ≤ n
  marks_le = omega (arith, length_line, count_most marks n)

  marks_room : (r : ℕ) → r < n → marks r ≡ false → length ws < n
  marks_room r l off = omega (arith, length_line, count_lt marks (λ i. true) n r (λ k h e. refl) l off refl, count_most (λ i. true) n)

times_push : (i : ℕ) (ws : List WakeUp) (w : WakeUp) → times i (ws ++ w ∷ []) ≡ times i ws + bit (w.rule == i)
times_push i [] w = omega arith
times_push i (v ∷ ws) w = omega (arith, times_push i ws w)

-- a mark set or taken away
pub mark_set : (marks : List Bool) (r : ℕ) (b : Bool) → r < length marks → (i : ℕ) → get_or (set marks r b) i false ≡ (if i == r then b else get_or marks i false)
mark_set marks r b l i =
    ⊎_elim
    (λ (e : i ≡ r). subst (λ k. get_or (set marks r b) k false ≡ (if k == r then b else get_or marks k false)) (sym e) (get_or-set_same marks r b false l ∙ sym (cond-true (r == r) b _ (eq-eqb r r refl))))
    (λ (ne : i ≡ r → ⊥). get_or-set_other marks r i b false ne ∙ sym (cond-false (i == r) b _ (ne_eqb i r ne)))
    (cases_eq i r)

once_push : (n : ℕ) (marks after : ℕ → Bool) (ws : List WakeUp) (w : WakeUp) → marks w.rule ≡ false → ((i : ℕ) → after i ≡ (if i == w.rule then true else marks i)) → ((i : ℕ) → i < n → times i ws ≡ bit (marks i)) → (i : ℕ) → i < n → times i (ws ++ w ∷ []) ≡ bit (after i)
once_push n marks after ws w off step once i l =
    ⊎_elim
    (λ (e : i ≡ w.rule).
    let none : times i ws ≡ 0 = once i l ∙ ap bit (ap marks e ∙ off) in
    let on : bit (after i) ≡ 1 = ap bit (step i ∙ cond-true _ true _ (eq-eqb i w.rule e)) in
    let one : bit (w.rule == i) ≡ 1 = ap bit (eq-eqb w.rule i (sym e)) in
    omega (arith, times_push i ws w, none, one, on))
    (λ (ne : i ≡ w.rule → ⊥).
    let kept : bit (after i) ≡ bit (marks i) = ap bit (step i ∙ cond-false _ true _ (ne_eqb i w.rule ne)) in
    omega (arith, times_push i ws w, once i l, bit_off w.rule i (λ e. ne (sym e)), kept))
    (cases_eq i w.rule)

-- ---- whether a rule stands in the line

waits_times : (i : ℕ) (ws : List WakeUp) (b : Bool) → times i ws ≡ bit b → waits ws i ≡ b
waits_times i [] true e = absurd (omega (arith, e))
waits_times i [] false e = refl
waits_times i (w ∷ ws) b e =
    (elim (w.rule == i) as (λ t. bit t + times i ws ≡ bit b → (t || waits ws i) ≡ b)
    [ true ↦ λ h. on b h | false ↦ λ h. waits_times i ws b (omega (arith, h)) ]) e
  where
    on : (b : Bool) → 1 + times i ws ≡ bit b → true ≡ b
    on true h = refl
    on false h = absurd (omega (arith, h))

-- ---- an agenda's fields

-- what may wait in an agenda may wait in what it is seen as
pub rightful_in : {R : Type 0} {scope : R → List ℕ} {a b : Lined R} {w : WakeUp} → a ≡ b → Rightful scope b.rules w → Rightful scope a.rules w
rightful_in {scope = scope} {w = w} same right = subst (λ v. Rightful scope v.rules w) (sym same) right

pub agreed_new : {R : Type 0} (scope : R → List ℕ) (rules : List R) (capacity : ℕ) (line : List WakeUp) → length rules ≤ 64 → length rules ≤ capacity → line ≡ [] → Agreed scope rules capacity line (replicate 64 false)
agreed_new scope rules capacity line few room empty = record {
  room = room;
  few = few;
  flags = refl;
  rightful = subst (AllByRecursion (Rightful scope rules)) (sym empty) tt;
  once = λ i l. ap (times i) empty ∙ sym (ap bit (get_or-replicate 64 i false false (omega arith)));
}

module _ {R : Type 0} {scope : R → List ℕ} {rules : List R} {capacity : ℕ} {line : List WakeUp} {marks : List Bool} (ag : Agreed scope rules capacity line marks) where
  known : AllByRecursion (λ w. w.rule < length rules) line
  known = All-weaker (Rightful scope rules) (λ w. w.rule < length rules) (λ w right. right.is.0) line ag.rightful

  -- a rule stands in the line if it is marked
  waits_marked : (i : ℕ) → i < length rules → waits line i ≡ get_or marks i false
  waits_marked i l = waits_times i line (get_or marks i false) (ag.once i l)

  pub agreed_within : length line ≤ length rules
  agreed_within = marks_le (length rules) (λ i. get_or marks i false) line known ag.once

  -- one rule more
  module _ (w : WakeUp) (right : Rightful scope rules w) (off : get_or marks w.rule false ≡ false) where
    pub agreed_room : length line < capacity
    agreed_room = omega (arith, ag.room, marks_room (length rules) (λ i. get_or marks i false) line known ag.once w.rule right.is.0 off)

    pub agreed_wake : (size : ℕ) (longer : List WakeUp) → size ≡ capacity → longer ≡ line ++ w ∷ [] → Agreed scope rules size longer (set marks w.rule true)
    agreed_wake size longer same holds = record {
      room = omega (arith, ag.room, same);
      few = ag.few;
      flags = length-set marks w.rule true ∙ ag.flags;
      rightful = subst (AllByRecursion (Rightful scope rules)) (sym holds) (All-push (Rightful scope rules) line w ag.rightful right);
      once = λ i l.
          ap (times i) holds
          ∙ once_push (length rules) (λ k. get_or marks k false) (λ k. get_or (set marks w.rule true) k false) line w off (mark_set marks w.rule true (omega (arith, ag.few, ag.flags, right.is.0))) ag.once i l;
    }

    pub appended : (longer : List WakeUp) → longer ≡ line ++ w ∷ [] → longer ≡ joined line w
    appended longer holds = holds ∙ sym (cond-false (waits line w.rule) line (line ++ w ∷ []) (waits_marked w.rule right.is.0 ∙ off))

  -- a rule that is marked stands in the line already
  pub standing : (w : WakeUp) → Rightful scope rules w → get_or marks w.rule false ≡ true → line ≡ joined line w
  standing w right on = sym (cond-true (waits line w.rule) line (line ++ w ∷ []) (waits_marked w.rule right.is.0 ∙ on))

  -- the oldest wake-up is taken
  module _ (w : WakeUp) (rest : List WakeUp) (holds : line ≡ w ∷ rest) where
    all_rightful : AllByRecursion (Rightful scope rules) (w ∷ rest)
    all_rightful = subst (AllByRecursion (Rightful scope rules)) holds ag.rightful

    taken_rightful : Rightful scope rules w
    taken_rightful = all_rightful.0

    pub taken_one : TakenOne line rest w
    taken_one = record {
      rest = holds;
      cleared = λ i.
          ⊎_elim
          (λ (e : i ≡ w.rule).
          let one : bit (w.rule == i) ≡ 1 = ap bit (eq-eqb w.rule i (sym e)) in
          let all : times i (w ∷ rest) ≡ bit (get_or marks i false) = ap (times i) (sym holds) ∙ ag.once i (omega (arith, taken_rightful.is.0)) in
          waits_times i rest false (omega (arith, one, all, bit_one (get_or marks i false))) ∙ sym (cond-true _ false (waits line i) (eq-eqb i w.rule e)))
          (λ (ne : i ≡ w.rule → ⊥).
          sym (ap (λ vs. waits vs i) holds ∙ ap (λ t. t || waits rest i) (ne_eqb w.rule i (λ e. ne (sym e)))) ∙ sym (cond-false _ false (waits line i) (ne_eqb i w.rule ne)))
          (cases_eq i w.rule);
    }
