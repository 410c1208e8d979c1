-- One entry more, and one less, of a ring.
use Rattle.std.proofs.Common.{◌≡◌, ℕ, zero, suc, ◌+◌, ◌-◌, ◌<◌, ◌≤◌, ◌⊎◌, List, [], ◌∷◌, ◌++◌, length, slice_index_or, take, drop, slice_set, sym, ap, ◌∙◌, subst, ⊎_elim, not-suc-le-zero, arith, length-append, length-drop, length-take}
use lib.Seq.{take-set-lt}
use Rattle.std.proofs.lemmas.List.{take_more_set, drop-set-add, take-set-le, drop-set-lt, set-append_left, set-append_right, take-append-le, take-take, drop_all, drop_more, take_more, append_assoc, append-nil, length-take-le}
use Rattle.queue.specs.declared.ring.RingQueue.{RingQueue}
use Rattle.queue.specs.Ring.{ring, contents, entries, Ready}

-- where the next entry goes: behind the last, or round the end of the slice
abbrev pub Behind : ℕ → ℕ → ℕ → ℕ → Type 0
Behind size h n at = ((n < size - h) × (at ≡ h + n)) ⊎ ((size - h ≤ n) × (at ≡ n - (size - h)))

-- where the head goes
abbrev pub After : ℕ → ℕ → ℕ → Type 0
After size h next = ((h + 1 ≡ size) × (next ≡ 0)) ⊎ ((h + 1 ≡ size → ⊥) × (next ≡ h + 1))

module _ {T : Type 0} where
  length_ring : (h : ℕ) (xs : List T) → h ≤ length xs → length (ring h xs) ≡ length xs
  length_ring h xs l = simp (length-append, length-drop, length-take) (omega arith)

  -- a write at place n of the ring, before the end of the slice and past it
  ring_set_front : (h n : ℕ) (xs : List T) (v : T) → h ≤ length xs → n < length xs - h → ring h (slice_set xs (h + n) v) ≡ slice_set (ring h xs) n v
  ring_set_front h n xs v l m =
      let within : n < length (drop h xs) = simp length-drop m in
      ap (λ r. r ++ take h (slice_set xs (h + n) v)) (drop-set-add h xs n v)
      ∙ ap (λ r. slice_set (drop h xs) n v ++ r) (take-set-le h xs (h + n) v (omega arith))
      ∙ sym (set-append_left (drop h xs) (take h xs) n v within)

  ring_set_back : (h n : ℕ) (xs : List T) (v : T) → h ≤ length xs → length xs - h ≤ n → n < length xs → ring h (slice_set xs (n - (length xs - h)) v) ≡ slice_set (ring h xs) n v
  ring_set_back h n xs v l m low =
      let at : ℕ = n - (length xs - h) in
      ap (λ r. r ++ take h (slice_set xs at v)) (drop-set-lt h xs at v (omega arith))
      ∙ ap (λ r. drop h xs ++ r) (take-set-lt h xs at v (omega arith))
      ∙ sym (set-append_right (drop h xs) (take h xs) (length xs - h) n v (length-drop h xs) m)

  pushed : (h n : ℕ) (xs : List T) (v : T) (ys : List T) → h ≤ length xs → n < length xs → ring h ys ≡ slice_set (ring h xs) n v → contents h (n + 1) ys ≡ contents h n xs ++ v ∷ []
  pushed h n xs v ys l m e =
      let within : n < length (ring h xs) = rw (length_ring h xs l) m in
      ap (take (n + 1)) e ∙ take_more_set (ring h xs) n v within

  pushed_front : (h n : ℕ) (xs : List T) (v : T) → h ≤ length xs → n < length xs - h → contents h (n + 1) (slice_set xs (h + n) v) ≡ contents h n xs ++ v ∷ []
  pushed_front h n xs v l m = pushed h n xs v _ l (omega arith) (ring_set_front h n xs v l m)

  pushed_back : (h n : ℕ) (xs : List T) (v : T) → h ≤ length xs → length xs - h ≤ n → n < length xs → contents h (n + 1) (slice_set xs (n - (length xs - h)) v) ≡ contents h n xs ++ v ∷ []
  pushed_back h n xs v l m low = pushed h n xs v _ l low (ring_set_back h n xs v l m low)

  -- the head entry, and the rest
  split : (h n : ℕ) (xs : List T) (d : T) → h < length xs → contents h (suc n) xs ≡ slice_index_or xs h d ∷ take n (drop (h + 1) xs ++ take h xs)
  split h n xs d l = ap (λ r. take (suc n) (r ++ take h xs)) (drop_more xs h d l)

  popped_front : (h n : ℕ) (xs : List T) (d : T) → h + 1 < length xs → suc n ≤ length xs → contents h (suc n) xs ≡ slice_index_or xs h d ∷ contents (h + 1) n xs
  popped_front h n xs d l m =
      let front : List T = drop (h + 1) xs ++ take h xs in
      let many : n ≤ length front = simp (length-append, length-drop, length-take) (omega arith) in
      let whole : ring (h + 1) xs ≡ front ++ (slice_index_or xs h d ∷ []) =
      ap (λ r. drop (h + 1) xs ++ r) (take_more xs h d (omega arith)) ∙ sym (append_assoc (drop (h + 1) xs) (take h xs) (slice_index_or xs h d ∷ [])) in
      split h n xs d (omega arith) ∙ ap (λ r. slice_index_or xs h d ∷ r) (sym (ap (take n) whole ∙ take-append-le n front (slice_index_or xs h d ∷ []) many))

  popped_back : (h n : ℕ) (xs : List T) (d : T) → h + 1 ≡ length xs → suc n ≤ length xs → contents h (suc n) xs ≡ slice_index_or xs h d ∷ contents 0 n xs
  popped_back h n xs d e m =
      let none : drop (h + 1) xs ≡ [] = drop_all (h + 1) xs (omega arith) in
      split h n xs d (omega arith)
      ∙ ap (λ r. slice_index_or xs h d ∷ take n (r ++ take h xs)) none
      ∙ ap (λ r. slice_index_or xs h d ∷ r) (take-take n h xs (omega arith) ∙ ap (take n) (sym (append-nil xs)))

  pub push : (h n at : ℕ) (xs : List T) (v : T) → h ≤ length xs → n < length xs → Behind (length xs) h n at → contents h (n + 1) (slice_set xs at v) ≡ contents h n xs ++ v ∷ []
  push h n at xs v l m =
      ⊎_elim
      (λ w. subst (λ i. contents h (n + 1) (slice_set xs i v) ≡ contents h n xs ++ v ∷ []) (sym w.1) (pushed_front h n xs v l w.0))
      (λ w. subst (λ i. contents h (n + 1) (slice_set xs i v) ≡ contents h n xs ++ v ∷ []) (sym w.1) (pushed_back h n xs v l w.0 m))

  pop_suc : (h n next : ℕ) (xs : List T) (d : T) → n < length xs → h < length xs → After (length xs) h next → contents h (suc n) xs ≡ slice_index_or xs h d ∷ contents next n xs
  pop_suc h n next xs d m l =
      ⊎_elim
      (λ (w : (h + 1 ≡ length xs) × (next ≡ 0)). popped_back h n xs d w.0 m ∙ ap (λ i. slice_index_or xs h d ∷ contents i n xs) (sym w.1))
      (λ (w : (h + 1 ≡ length xs → ⊥) × (next ≡ h + 1)). let low : h + 1 < length xs = omega (arith, w.0) in popped_front h n xs d low m ∙ ap (λ i. slice_index_or xs h d ∷ contents i n xs) (sym w.1))

  pub pop : (h n next : ℕ) (xs : List T) (d : T) → 0 < n → n ≤ length xs → h < length xs → After (length xs) h next → contents h n xs ≡ slice_index_or xs h d ∷ contents next (n - 1) xs
  pop h zero next xs d z m l a = absurd (not-suc-le-zero z)
  pop h (suc n) next xs d z m l a = let back : suc n - 1 ≡ n = omega arith in pop_suc h n next xs d m l a ∙ ap (λ k. slice_index_or xs h d ∷ contents next k xs) (sym back)

  -- a queue holds as many entries as it says
  pub length_entries : (q : RingQueue) (xs : List T) → Ready q (length xs) → length (entries q xs) ≡ q.len
  length_entries q xs r = length-take-le q.len (ring q.head xs) (rw (length_ring q.head xs r.head_within) r.len_within)
