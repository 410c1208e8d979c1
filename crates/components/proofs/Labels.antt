-- Jobs on the end of a stack.
use Rattle.std.proofs.Common.{◌≡◌, ℕ, ◌+◌, ◌-◌, ◌<◌, ◌≤◌, ◌≢◌, List, length, sym, ap, ◌∙◌, arith}
use Rattle.matching.specs.Tables.{at}
use Rattle.components.specs.Steps.{Labelled}

-- the jobs stand in a list of their own
pub labelled_tail : (nodes members : List ℕ) (from top v : ℕ) (before after : List ℕ) → length members ≡ top - from
    → ((x : ℕ) → x < length members → at members x ≡ at nodes (from + x)) → ((x : ℕ) → x < length members → at after (at members x) ≡ v) → length after ≡ length before
    → ((a : ℕ) → ((x : ℕ) → x < length members → at members x ≢ a) → at after a ≡ at before a) → Labelled nodes from top v before after
labelled_tail nodes members from top v before after len numbers new same kept = record {
  new = λ x low h. ap (at after) (moved x low h) ∙ new (x - from) (omega arith);
  len = same;
  kept = λ a h. kept a (λ x b e. h (from + x) (omega arith) (omega arith) (sym (numbers x b) ∙ e));
}
  where
    moved : (x : ℕ) → from ≤ x → x < top → at nodes x ≡ at members (x - from)
    moved x low h = let e : x ≡ from + (x - from) = omega arith in ap (at nodes) e ∙ sym (numbers (x - from) (omega arith))
