-- Rules offered one after the other.
use Rattle.std.proofs.Common.{◌≡◌, ℕ, zero, suc, ◌+◌, ◌<◌, ◌≤◌, min, Bool, true, false, ◌||◌, nat_lt, nat_le, List, [], ◌∷◌, ◌++◌, map, length, get_or, take, drop, set, Some, None, Ok, Err, Option, Result, sym, refl, ap, ◌∙◌, subst, arith, MatchResult}
use Rattle.std.proofs.lemmas.List.{length-set, length-take-le, map-set, get_or-map, set-get_or, take_more_set}
use Rattle.std.proofs.lemmas.Bool.{cond-true, cond-false}
use Rattle.std.proofs.lemmas.Bool.Decides.{nat_tests}
use Rattle.refusals.specs.Codes.{Code, then_check, fails_if, refusal_of}
use Rattle.refusals.specs.declared.Refusal.{Refusal}
use Rattle.board.specs.Book.{Held, held_by, unlawful_rule, add_refusal}
use Rattle.board.specs.Outcomes.{Same}
use Rattle.board.specs.declared.numbers.Numbers.{Numbers}
use Rattle.history.specs.declared.event.Answer.{Answer}
use Rattle.history.specs.declared.event.Answer.TheVariants.{Done, Refused}
use Rattle.history.specs.declared.offer.Offer.{Offer}
use Rattle.history.specs.Calls.{said, succeeds, outcome}
use Rattle.history.specs.Filling.{filling, accepted_after, table_after, accepted_from, table_from, accepted_of, rules_of, lent_of, OfferSays, OffersSay, Offered}
use Rattle.history.proofs.Steps.{front_back, front_set}

last_check : (a b : Option Code) (t : Bool) (k : ℕ) → then_check a (then_check b (fails_if t k)) ≡ None → t ≡ false
last_check None None true k e = cc
last_check None None false k e = refl
last_check None (Some c) t k e = cc
last_check (Some c) b t k e = cc

-- a rule that is accepted has room in the table
add_room : {R : Type 0} (lawful : R → ℕ → Bool) (b : Held) (rules : List R) (rule : R) → add_refusal lawful b rules rule ≡ None → b.rules < length rules
add_room lawful b rules rule e =
    let p : (nat_le (length rules) b.rules || nat_le 64 b.rules) ≡ false =
    last_check (fails_if (nat_lt (length rules) b.rules) 10) (unlawful_rule lawful b.jobs (take b.rules rules ++ rule ∷ [])) (nat_le (length rules) b.rules || nat_le 64 b.rules) 16 e in
    grind (arith, nat_tests)

-- an answer made of an outcome says it
pub answer_of : (r : Result (Unit {0}) Refusal) (x : Answer) → MatchResult r (λ _. x ≡ Done) (λ e. x ≡ Refused e) → said x ≡ outcome (refusal_of r)
answer_of (Ok v) x e = ap said e
answer_of (Err v) x e = ap said e

module _ {R : Type 0} (lawful : R → ℕ → Bool) (a b : Numbers) (f : ℕ) (before : Offer R) (table front table' : List R) (x : Answer)
    (pf : f ≡ min before.lent (length table)) (held : a.rules ≤ length table) (whole : table' ≡ front ++ drop f table) where
  abbrev after : Offer R
  after = record { rule = before.rule; lent = before.lent; answer = x }

  abbrev rs : List R
  rs = take a.rules table

  -- the answer, by the rules that the board holds
  answered : (r : Result (Unit {0}) Refusal) → refusal_of r ≡ add_refusal lawful (held_by a) (take f table) before.rule → said x ≡ outcome (refusal_of r)
      → OfferSays lawful a.n a.w rs table after
  answered r e s =
      s ∙ ap outcome
      (e ∙ ap (λ k. add_refusal lawful (record { jobs = a.n; width = a.w; rules = k; cuts = 0 }) (take f table) before.rule) (sym (length-take-le a.rules table held))
      ∙ ap (λ k. add_refusal lawful (filling a.n a.w rs) (take k table) before.rule) pf)

  pub offer_made : (r : Result (Unit {0}) Refusal) → refusal_of r ≡ add_refusal lawful (held_by a) (take f table) before.rule → said x ≡ outcome (refusal_of r)
      → MatchResult r (λ _. Same a (a.rules + 1) a.cuts b × (front ≡ set (take f table) a.rules before.rule)) (λ _. Same a a.rules a.cuts b × (front ≡ take f table))
      → Offered lawful a.n a.w rs table before after b.rules table'
  offer_made (Ok v) e s (same, written) =
      let le : f ≤ length table = omega arith in
      let lt : a.rules < f = rw (length-take-le f table le) at (add_room lawful (held_by a) (take f table) before.rule (sym e)) in
      let done : table' ≡ set table a.rules before.rule = front_set f a.rules before.rule table front table' lt le written whole in
      let count = same.held in
      let taken : succeeds (said x) ≡ true = ap succeeds s in
      let lt' : a.rules < length table = omega arith in
      let more : take b.rules table' ≡ rs ++ before.rule ∷ [] = rw (count, done) (take_more_set table a.rules before.rule lt') in
      let room : b.rules ≤ length table' = rw (count, done, length-set) (omega arith) in
      record {
        rule = refl;
        lent = refl;
        answer = answered (Ok v) e s;
        stored = done ∙ ap (λ k. set table k before.rule) (sym (length-take-le a.rules table held)) ∙ sym (cond-true _ _ _ taken);
        front = more ∙ sym (cond-true _ _ _ taken);
        room = room;
      }
  offer_made (Err v) e s (same, kept) =
      let done : table' ≡ table = front_back f table front table' kept whole in
      let count = same.held in
      let taken : succeeds (said x) ≡ false = ap succeeds s in
      let more : take b.rules table' ≡ rs = rw (count, done) in
      let room : b.rules ≤ length table' = rw (count, done) held in
      record {
        rule = refl;
        lent = refl;
        answer = answered (Err v) e s;
        stored = done ∙ sym (cond-false _ _ _ taken);
        front = more ∙ sym (cond-false _ _ _ taken);
        room = room;
      }

-- ---- one offer more at the end

module _ {R : Type 0} where
  accepted_push : (rs : List R) (os : List (Offer R)) (o : Offer R) → accepted_from rs (os ++ o ∷ []) ≡ accepted_after (accepted_from rs os) o
  accepted_push held [] o = refl
  accepted_push held (x ∷ os) o = accepted_push (accepted_after held x) os o

  table_push : (rs table : List R) (os : List (Offer R)) (o : Offer R) → table_from rs table (os ++ o ∷ []) ≡ table_after (accepted_from rs os) (table_from rs table os) o
  table_push held table [] o = refl
  table_push held table (x ∷ os) o = table_push (accepted_after held x) (table_after held table x) os o

  same_part : {X : Type 0} (part : Offer R → X) (os : List (Offer R)) (i : ℕ) (o d : Offer R) → part o ≡ part (get_or os i d) → i < length os → map part (set os i o) ≡ map part os
  same_part part os i o d p lt =
      map-set part os i o ∙ ap (λ v. set (map part os) i v) (p ∙ sym (get_or-map part os i d (part d) lt)) ∙ set-get_or (map part os) i (part d)

module _ {R : Type 0} (lawful : R → ℕ → Bool) (n w : ℕ) where
  more_say : (rs table : List R) (o : Offer R) (os : List (Offer R)) → OfferSays lawful n w rs table o
      → OffersSay lawful n w (accepted_after rs o) (table_after rs table o) os → OffersSay lawful n w rs table (o ∷ os)
  more_say rs table o os a m zero d lt = a
  more_say rs table o os a m (suc i) d lt = m i d (omega arith)

  say_push : (rs table : List R) (os : List (Offer R)) (o : Offer R) → OffersSay lawful n w rs table os
      → OfferSays lawful n w (accepted_from rs os) (table_from rs table os) o → OffersSay lawful n w rs table (os ++ o ∷ [])
  say_push rs table [] o m a = more_say rs table o [] a (λ i d lt. absurd (omega arith))
  say_push rs table (x ∷ os) o m a =
      more_say rs table x (os ++ o ∷ []) (m zero x (omega arith)) (say_push (accepted_after rs x) (table_after rs table x) os o (λ i d lt. m (suc i) d (omega arith)) a)

-- a board after its first i offers
pub record InFilling {R : Type 0} (lawful : R → ℕ → Bool) (n w : ℕ) (offered os : List (Offer R)) (i held : ℕ) (table₀ table : List R) : Type 0 where
  pub rules : rules_of os ≡ rules_of offered
  pub lent : lent_of os ≡ lent_of offered
  pub answers : OffersSay lawful n w [] table₀ (take i os)
  pub stored : table ≡ table_from [] table₀ (take i os)
  pub front : take held table ≡ accepted_of (take i os)
  pub room : held ≤ length table

module _ {R : Type 0} (lawful : R → ℕ → Bool) (n w : ℕ) (offered os : List (Offer R)) where
  pub filling_more : (n' w' i held held' : ℕ) (table₀ table table' : List R) (o d : Offer R) → InFilling lawful n w offered os i held table₀ table → i < length os
      → n' ≡ n → w' ≡ w → Offered lawful n' w' (take held table) table (get_or os i d) o held' table'
      → InFilling lawful n w offered (set os i o) (i + 1) held' table₀ table'
  filling_more n' w' i held held' table₀ table table' o d r lt en ew given =
      let h : List (Offer R) = take i os in
      let one : Offered lawful n w (take held table) table (get_or os i d) o held' table' =
      subst (λ v. Offered lawful v w (take held table) table (get_or os i d) o held' table') en
      (subst (λ v. Offered lawful n' v (take held table) table (get_or os i d) o held' table') ew given) in
      let there : Offered lawful n w (accepted_of h) table (get_or os i d) o held' table' = subst (λ v. Offered lawful n w v table (get_or os i d) o held' table') r.front one in
      let now : Offered lawful n w (accepted_of h) (table_from [] table₀ h) (get_or os i d) o held' table' = subst (λ v. Offered lawful n w (accepted_of h) v (get_or os i d) o held' table') r.stored there in
      let t : take (i + 1) (set os i o) ≡ h ++ o ∷ [] = take_more_set os i o lt in
      record {
        rules = same_part (λ (o : Offer R). o.rule) os i o d now.rule lt ∙ r.rules;
        lent = same_part (λ (o : Offer R). o.lent) os i o d now.lent lt ∙ r.lent;
        answers = subst (OffersSay lawful n w [] table₀) (sym t) (say_push lawful n w [] table₀ h o r.answers now.answer);
        stored = now.stored ∙ sym (table_push [] table₀ h o) ∙ ap (table_from [] table₀) (sym t);
        front = now.front ∙ sym (accepted_push [] h o) ∙ ap accepted_of (sym t);
        room = now.room;
      }
