-- Trials: a fix in one slot of the log, and what settling says with it.
use Rattle.std.proofs.Common.{◌≡◌, ℕ, ◌+◌, ◌<◌, Bool, true, false, List, [], ◌∷◌, ◌++◌, length, get_or, take, set, Some, None, Decides, Option, is_some, not, sym, refl, ap, ◌∙◌, subst, arith}
use Rattle.std.proofs.lemmas.List.{set-set, set-get_or, take_more_set, take-set, take-take}
use Rattle.std.proofs.lemmas.Bool.{false≢true}
use Rattle.refusals.specs.Codes.{then_check, fails_if}
use Rattle.places.specs.Families.{Family, family, fixed}
use Rattle.cuts.specs.Current.{current, carried}
use Rattle.cuts.specs.declared.cut.Action.TheVariants.{Fix}
use Rattle.cuts.specs.declared.cut.Cut.{Cut}
use Rattle.settling.specs.Consistency.{Complete}
use Rattle.board.specs.Book.{Held, short_tables, held_refusal, room_refusal, trial_refusal, wide_list, unlawful_rule, outside_cut}
use Rattle.board.specs.declared.lengths.Lengths.{Lengths}
use Rattle.board.specs.Moments.{Reached}

-- a slot that is written and then given its old entry back
pub put_back : {X : Type 0} (xs : List X) (i : ℕ) (x d : X) → set (set xs i x) i (get_or xs i d) ≡ xs
put_back xs i x d = set-set xs i x (get_or xs i d) ∙ set-get_or xs i d

-- the counted cuts are before the fix
pub counted_cuts : (log ks : List Cut) (c : ℕ) (x : Cut) → ks ≡ take c (set log c x) → take c ks ≡ take c log
counted_cuts log ks c x e = ap (take c) e ∙ take-take c c (set log c x) (omega arith) ∙ take-set log c x

pub current_push : (f : Family) (ks : List Cut) (x : Cut) → current f (ks ++ x ∷ []) ≡ carried x (current f ks)
current_push f [] x = refl
current_push f (k ∷ ks) x = current_push (carried k f) ks x

module _ {L R : Type 0} (has : L → ℕ → Bool) (limit : ℕ) (lawful : R → ℕ → Bool) (b : Held) (opened : List L) (rules : List R) (log ks : List Cut) (l : Lengths) (job place : ℕ) where
  -- only the counted cuts are looked at
  held_same : take b.cuts ks ≡ take b.cuts log → held_refusal has limit lawful b opened rules ks ≡ held_refusal has limit lawful b opened rules log
  held_same same = ap (λ cs. then_check (wide_list has limit b.width (take b.jobs opened)) (then_check (unlawful_rule lawful b.jobs (take b.rules rules)) (outside_cut b.jobs b.width cs))) same

  -- all passes
  pub passes : short_tables limit b l ≡ false → take b.cuts ks ≡ take b.cuts log → None ≡ held_refusal has limit lawful b opened rules ks
      → room_refusal b l.log job place ≡ None → trial_refusal has limit lawful b opened rules log l job place ≡ None
  passes roomy same e room =
      ap (λ t. then_check (fails_if t 10) (then_check (held_refusal has limit lawful b opened rules log) (room_refusal b l.log job place))) roomy
      ∙ ap (λ o. then_check o (room_refusal b l.log job place)) (sym (e ∙ held_same same)) ∙ room

module _ {L R : Type 0} (has : L → ℕ → Bool) (scope : R → List ℕ) (admits : R → List ℕ → Bool) where
  -- settling with the fix, in the subject's words
  pub with_trial : (n c job place : ℕ) (opened : List L) (rules : List R) (log ks : List Cut) (after : List L) (answer : Option ℕ)
      → c < length log → ks ≡ take (c + 1) (set log c (record { action = Fix; job = job; place = place }))
      → Reached has scope admits rules n (current (family has (take n opened)) ks) after answer
      → Reached has scope admits rules n (fixed job place (current (family has (take n opened)) (take c log))) after answer
  with_trial n c job place opened rules log ks after answer room e r =
      let fix : Cut = record { action = Fix; job = job; place = place } in
      let f = family has (take n opened) in
      subst (λ g. Reached has scope admits rules n g after answer) (ap (current f) (e ∙ take_more_set log c fix room) ∙ current_push f (take c log) fix) r

  -- whether every job is left a place
  pub decided : (rules : List R) (n : ℕ) (f : Family) (after : List L) (answer : Option ℕ) (yes : Bool) → is_some answer ≡ not yes
      → Reached has scope admits rules n f after answer → Decides yes (Complete scope admits rules n f)
  decided rules n f after None true e r = (λ _. r.lowest, λ _. refl)
  decided rules n f after None false e r = absurd (false≢true e)
  decided rules n f after (Some j) true e r = absurd (false≢true (sym e))
  decided rules n f after (Some j) false e r = (λ t. absurd (false≢true t), λ whole. absurd (r.lowest.emptied (whole j r.lowest.below)))
