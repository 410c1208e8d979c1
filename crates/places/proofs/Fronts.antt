-- Rising lists of places, and the eight numbers that store one.
use Rattle.std.specs.Prelude.{◌≡◌, ℕ, zero, suc, ◌+◌, ◌-◌, ◌<◌, ◌≤◌, Bool, true, false, ◌&&◌, ◌||◌, List, [], ◌∷◌, ◌++◌, length, set, replicate, Some, None, filter, find, Option, ◌==◌, nat_eq, nat_le, nat_lt, slice_set, refl}
use Rattle.std.specs.Prelude.{map}
use Rattle.std.specs.List.{enumerate_from}
use Rattle.std.specs.Iterator.{AlwaysYields}
use Rattle.std.proofs.lemmas.Iterator.{YieldsList}
use Rattle.std.proofs.Common.{⊎_elim, sym, ap, ◌∙◌, arith}
use Rattle.std.proofs.Math.Dec.{eqb-suc-suc, eqb-zero-suc}
use Rattle.std.proofs.lemmas.List.{set_at, append_assoc, length_push}
use Rattle.std.proofs.lemmas.Bool.{and_parts, and_from, and_right, or_from, or_left, or_right, leb-true, leb-false, le-leb, eqb-true, eq-eqb, ne_eqb, false≢true, cond_both, cond-true, cond-false, cases_Bool}
use Rattle.theory.specs.Counts.{count}
use Rattle.theory.specs.Lists.{member}
use Rattle.theory.proofs.Sums.{count_none, count_insert}
use Rattle.places.specs.Sets.{First}
use Rattle.places.specs.Needles.{passes, rises, front_part, needles_have, padded}
use Rattle.places.specs.Fronts.{passes_parts, member_within}

-- ---- the members of a rising list

pub member_below : (low : ℕ) (ys : List ℕ) (q : ℕ) → rises low ys ≡ true → q < low → member ys q ≡ false
member_below low ys q r h =
    ⊎_elim (λ e. absurd (omega (arith, (member_within low ys q r e).0))) (λ e. e) (cases_Bool (member ys q))

pub count_member : (low : ℕ) (ys : List ℕ) → rises low ys ≡ true → count (member ys) 2048 ≡ length ys
count_member low [] r = count_none (member []) 2048 (λ q l. refl)
count_member low (x ∷ ys) r =
    let p = and_parts (passes low x) (rises (x + 1) ys) r in
    let more = count_insert (member ys) x 2048 (passes_parts low x p.0).1 (member_below (x + 1) ys x p.1 (omega arith)) in
    omega (arith, more, count_member (x + 1) ys p.1)

-- the front part is no longer than the row, and as long just where the row rises
pub front_shorter : (low : ℕ) (xs : List ℕ) → length (front_part low xs) ≤ length xs
front_shorter low [] = omega arith
front_shorter low (x ∷ xs) =
    cond_both (passes low x) (x ∷ front_part (x + 1) xs) [] (λ ys. length ys ≤ length (x ∷ xs))
    (λ e. omega (arith, front_shorter (x + 1) xs))
    (λ e. omega arith)

pub front_whole : (low : ℕ) (xs : List ℕ) → nat_eq (length (front_part low xs)) (length xs) ≡ rises low xs
front_whole low [] = refl
front_whole low (x ∷ xs) =
    cond_both (passes low x) (x ∷ front_part (x + 1) xs) [] (λ ys. nat_eq (length ys) (length (x ∷ xs)) ≡ (passes low x && rises (x + 1) xs))
    (λ e. eqb-suc-suc (length (front_part (x + 1) xs)) (length xs) ∙ front_whole (x + 1) xs ∙ sym (ap (λ b. b && rises (x + 1) xs) e))
    (λ e. eqb-zero-suc (length xs) ∙ sym (ap (λ b. b && rises (x + 1) xs) e))

first_cons : (x p : ℕ) (s : ℕ → Bool) (o : Option ℕ) → x < p → First s p o → First (λ q. (q == x) || s q) p o
first_cons x p s None h f = λ q k. or_from (q == x) (s q) (ne_eqb q x (λ e. omega arith)) (f q k)
first_cons x p s (Some v) h f =
    (f.0, or_right (v == x) (s v) f.1, λ q k l. or_from (q == x) (s q) (ne_eqb q x (λ e. omega arith)) (f.2 q k l))

pub next_first : (low p : ℕ) (ys : List ℕ) → rises low ys ≡ true → First (member ys) p (find (nat_le p) ys)
next_first low p [] r = λ q h. refl
next_first low p (x ∷ ys) r =
    let up = (and_parts (passes low x) (rises (x + 1) ys) r).1 in
    cond_both (nat_le p x) (Some x) (find (nat_le p) ys) (λ o. First (member (x ∷ ys)) p o)
    (λ e. (
      leb-true p x e,
      or_left (x == x) (member ys x) (eq-eqb x x refl),
      λ q k l. or_from (q == x) (member ys q) (ne_eqb q x (λ d. omega arith)) (member_below (x + 1) ys q up (omega arith)),
    ))
    (λ e. first_cons x p (member ys) (find (nat_le p) ys) (leb-false p x e) (next_first (x + 1) p ys up))

-- ---- a part of a rising list

pub rises_lower : (low high : ℕ) (ys : List ℕ) → low ≤ high → rises high ys ≡ true → rises low ys ≡ true
rises_lower low high [] h r = refl
rises_lower low high (x ∷ ys) h r =
    let p = and_parts (passes high x) (rises (x + 1) ys) r in
    let q = and_parts (nat_le high x) (nat_lt x 2048) p.0 in
    let lower : low ≤ x = omega (arith, leb-true high x q.0) in
    and_from (passes low x) (rises (x + 1) ys) (and_from (nat_le low x) (nat_lt x 2048) (le-leb low x lower) q.1) p.1

pub filtered_rises : (f : ℕ → Bool) (low : ℕ) (ys : List ℕ) → rises low ys ≡ true → rises low (filter f ys) ≡ true
filtered_rises f low [] r = refl
filtered_rises f low (x ∷ ys) r =
    let a = and_parts (passes low x) (rises (x + 1) ys) r in
    let rest = filtered_rises f (x + 1) ys a.1 in
    cond_both (f x) (x ∷ filter f ys) (filter f ys) (λ zs. rises low zs ≡ true)
    (λ e. and_from (passes low x) (rises (x + 1) (filter f ys)) a.0 rest)
    (λ e. rises_lower low (x + 1) (filter f ys) (omega (arith, (passes_parts low x a.0).0)) rest)

put_in : (e n d : Bool) → (e ≡ true → d ≡ true) → (e || (n && d)) ≡ ((e || n) && d)
put_in false n d h = refl
put_in true n true h = refl
put_in true n false h = absurd (false≢true (h refl))

left_out : (e n d : Bool) → (e ≡ true → d ≡ false) → (n && d) ≡ ((e || n) && d)
left_out false n d h = refl
left_out true n true h = absurd (false≢true (sym (h refl)))
left_out true n false h = and_right n false refl

-- what a filtered list has
pub member_filtered : (f : ℕ → Bool) (ys : List ℕ) (q : ℕ) → member (filter f ys) q ≡ (member ys q && f q)
member_filtered f [] q = refl
member_filtered f (x ∷ ys) q =
    cond_both (f x) (x ∷ filter f ys) (filter f ys) (λ zs. member zs q ≡ (member (x ∷ ys) q && f q))
    (λ e. ap (λ b. (q == x) || b) (member_filtered f ys q) ∙ put_in (q == x) (member ys q) (f q) (λ d. ap f (eqb-true q x d) ∙ e))
    (λ e. member_filtered f ys q ∙ left_out (q == x) (member ys q) (f q) (λ d. ap f (eqb-true q x d) ∙ e))

-- ---- the eight numbers that store a rising list

pub padded_push : (ys : List ℕ) (n x : ℕ) → length ys ≡ n → n < 8 → slice_set (padded ys) n x ≡ padded (ys ++ x ∷ [])
padded_push ys n x e h =
    let one : 8 - length ys ≡ suc (7 - length ys) = omega arith in
    let less : 7 - length ys ≡ 8 - length (ys ++ x ∷ []) = omega (arith, length_push ys x) in
    ap (λ k. set (ys ++ replicate k 65535) n x) one
    ∙ set_at ys 65535 (replicate (7 - length ys) 65535) x n e
    ∙ sym (append_assoc ys (x ∷ []) (replicate (7 - length ys) 65535))
    ∙ ap (λ k. (ys ++ x ∷ []) ++ replicate k 65535) less

pub front_padded : (low : ℕ) (ys : List ℕ) (n : ℕ) → rises low ys ≡ true → front_part low (ys ++ replicate n 65535) ≡ ys
front_padded low [] zero r = refl
front_padded low [] (suc n) r = cond-false (passes low 65535) _ [] (and_right (nat_le low 65535) false refl)
front_padded low (x ∷ ys) n r =
    let p = and_parts (passes low x) (rises (x + 1) ys) r in
    cond-true (passes low x) (x ∷ front_part (x + 1) (ys ++ replicate n 65535)) [] p.0 ∙ ap (λ zs. x ∷ zs) (front_padded (x + 1) ys n p.1)

-- the items of a row that is numbered as it comes
seconds_of : (zs : List (ℕ × ℕ)) → map (λ (p : ℕ × ℕ). p.1) (map (λ (p : ℕ × ℕ). (p.0, p.1)) zs) ≡ map (λ p. p.1) zs
seconds_of [] = refl
seconds_of (z ∷ zs) = ap (λ ys. z.1 ∷ ys) (seconds_of zs)

numbered : (n : ℕ) (xs : List ℕ) → map (λ (p : ℕ × ℕ). p.1) (enumerate_from n xs) ≡ xs
numbered n [] = refl
numbered n (x ∷ xs) = ap (λ ys. x ∷ ys) (numbered (n + 1) xs)

pub items_of : (zs : List (ℕ × ℕ)) (xs : List ℕ) → map (λ (p : ℕ × ℕ). (p.0, p.1)) zs ≡ enumerate_from 0 xs → map (λ p. p.1) zs ≡ xs
items_of zs xs e = sym (seconds_of zs) ∙ ap (map (λ p. p.1)) e ∙ numbered 0 xs

-- the set of the numbers that store what comes, where that rises
pub stored_set : {S : Type 0} {steps : S → Option ℕ → S → Type 0} {s : S} (ns ys : List ℕ) → ((xs : List ℕ) → AlwaysYields steps (λ x. x) s xs → ns ≡ padded xs) →
    YieldsList steps (λ x. x) s ys → rises 0 ys ≡ true → (q : ℕ) → needles_have ns q ≡ member ys q
stored_set ns ys stores comes r q = ap (λ zs. member (front_part 0 zs) q) (stores ys comes.runs) ∙ ap (λ zs. member zs q) (front_padded 0 ys (8 - length ys) r)
