-- Wake-ups rule by rule and job by job.
use Rattle.std.proofs.Common.{◌≡◌, ℕ, zero, suc, ◌+◌, ◌<◌, ◌≤◌, Bool, true, false, not, ◌||◌, ◌⊎◌, List, [], ◌∷◌, ◌++◌, length, get_or, drop, set, sym, refl, ap, ◌∙◌, subst, inl, inr, ⊎_elim, suc-le-suc, arith, get_or-set_other, get_or-set_same}
use Rattle.std.specs.List.{AllByRecursion}
use Rattle.std.proofs.lemmas.List.{get_or_default, append_assoc}
use Rattle.std.proofs.ByRecursion.{All-get_or, All-append, All-weaker}
use Rattle.std.proofs.lemmas.Bool.{cases_eq, cond-false, ne_eqb, or_right, or_left, both_ways, cases_Bool, cases_lt}
use Rattle.theory.specs.Counts.{count}
use Rattle.theory.specs.Lists.{member}
use Rattle.theory.proofs.Sums.{count_le, count_tight, or_cases}
use Rattle.places.specs.Families.{Family, Inside, family}
use Rattle.places.proofs.Families.{family_all, family_past}
use Rattle.settling.specs.declared.agenda.WakeUp.{WakeUp}
use Rattle.rules.specs.Narrowing.{Narrowed}
use Rattle.settling.specs.Agenda.{IsRule, Rightful, waits, TakenOne}
use Rattle.settling.specs.Consistency.{Consistent, AllConsistent, Settled}
use Rattle.settling.specs.Waking.{Called, Woken, first_wake_ups, Noted, Changed, ChangedBelow, ByJob, ByChange, Roused}
use Rattle.settling.proofs.Counting.{total, total_le, total_same, measure, falls_lists, falls_line}
use Rattle.settling.proofs.Consistency.{settled, consistent_kept, narrowed_consistent, consistent_elsewhere}

-- a rule has one name
pub same_rule : {R : Type 0} (rules : List R) (i : ℕ) (r x : R) → IsRule rules i r → IsRule rules i x → r ≡ x
same_rule rules i r x p q = p.1 ∙ get_or_default rules i r x p.0 ∙ sym q.1

pub rule_from_all : {X : Type 0} (P : X → Type 0) (xs : List X) (i : ℕ) (x : X) → IsRule xs i x → AllByRecursion P xs → P x
rule_from_all P xs i x p all = subst P (sym p.1) (All-get_or P xs i x p.0 all)

pub all_from_rules : {X : Type 0} (P : X → Type 0) (xs : List X) → ((i : ℕ) (x : X) → IsRule xs i x → P x) → AllByRecursion P xs
all_from_rules P [] h = tt
all_from_rules P (x ∷ xs) h = (h zero x (omega arith, refl), all_from_rules P xs (λ i y p. h (suc i) y (suc-le-suc p.0, p.1)))

-- ---- the line

module _ {R : Type 0} {scope : R → List ℕ} {rules : List R} where
  called_more : {P Q S : WakeUp → Type 0} {old mid new : List WakeUp} → Called scope rules P old mid → ((w : WakeUp) → P w → S w) → Called scope rules Q mid new → ((w : WakeUp) → Rightful scope rules w → Q w → S w) → Called scope rules S old new
  called_more {P} {Q} {S} {old} c before d after = record {
    added = c.added ++ d.added;
    split = d.split ∙ ap (λ ws. ws ++ d.added) c.split ∙ append_assoc old c.added d.added;
    each = All-append (λ v. S v × Rightful scope rules v) c.added d.added
        (All-weaker (λ v. P v × Rightful scope rules v) (λ v. S v × Rightful scope rules v) (λ v h. (before v h.0, h.1)) c.added c.each)
        (All-weaker (λ v. Q v × Rightful scope rules v) (λ v. S v × Rightful scope rules v) (λ v h. (after v h.1 h.0, h.1)) d.added d.each);
  }

  called_weaker : {P S : WakeUp → Type 0} {old new : List WakeUp} → Called scope rules P old new → ((w : WakeUp) → P w → S w) → Called scope rules S old new
  called_weaker {P} {S} c into = record {
    added = c.added;
    split = c.split;
    each = All-weaker (λ v. P v × Rightful scope rules v) (λ v. S v × Rightful scope rules v) (λ v h. (into v h.0, h.1)) c.added c.each;
  }

-- ---- one job: the rules below i are dealt with, and the others are as they were

pub record JobDone {R : Type 0} (scope : R → List ℕ) (rules : List R) (j i : ℕ) (a b : List WakeUp) : Type 0 where
  pub woken : (k : ℕ) (r : R) → k < i → IsRule rules k r → waits b k ≡ (waits a k || member (scope r) j)
  pub past : (k : ℕ) → i ≤ k → waits b k ≡ waits a k
  pub called : Called scope rules (ByJob a j) a b

-- ---- at the start: each of the first i rules waits by the first job of its scope

pub record AllDone {R : Type 0} (scope : R → List ℕ) (rules : List R) (i : ℕ) (a : List WakeUp) : Type 0 where
  pub wait : (k : ℕ) → k < i → waits a k ≡ true
  pub past : (k : ℕ) → i ≤ k → waits a k ≡ false
  pub so_far : a ++ first_wake_ups scope i (drop i rules) ≡ first_wake_ups scope 0 rules

-- ---- all jobs: the lists of the first n have been compared with what was noted

-- the counts noted are those of the first n lists, and past them what was noted before
pub record Renoted (limit : ℕ) (f : Family) (old : List ℕ) (n : ℕ) (noted : List ℕ) : Type 0 where
  pub now : Noted n limit f noted
  pub past : (k : ℕ) → n ≤ k → get_or noted k 0 ≡ get_or old k 0

pub record ChangesDone {R : Type 0} (scope : R → List ℕ) (rules : List R) (limit : ℕ) (f : Family) (old : List ℕ) (n : ℕ) (a b : List WakeUp) (noted : List ℕ) : Type 0 where
  pub roused : Roused scope rules (Changed limit f old) n a b
  pub called : Called scope rules (ByChange scope rules (Changed limit f old) n a) a b
  pub counts : Renoted limit f old n noted

pub renoted_more : (limit : ℕ) (f : Family) (old : List ℕ) (n : ℕ) (noted : List ℕ) (c : ℕ) → n < length noted → c ≡ count (f n) limit → Renoted limit f old n noted → Renoted limit f old (n + 1) (set noted n c)
renoted_more limit f old n noted c l e r = record {
  now = λ k h.
      ⊎_elim
      (λ (same : k ≡ n). subst (λ m. get_or (set noted n c) m 0 ≡ count (f m) limit) (sym same) (get_or-set_same noted n c 0 l ∙ e))
      (λ (ne : k ≡ n → ⊥). get_or-set_other noted n k c 0 ne ∙ r.now k (omega arith))
      (cases_eq k n);
  past = λ k h. get_or-set_other noted n k c 0 (λ same. omega arith) ∙ r.past k (omega arith);
}

module _ {R : Type 0} {scope : R → List ℕ} {rules : List R} where
  module _ {changed : ℕ → Type 0} {n : ℕ} {a b : List WakeUp} (so_far : Roused scope rules changed n a b) where
    roused_more : (c : List WakeUp) → changed n → Woken scope rules n b c → Roused scope rules changed (n + 1) a c
    roused_more c new w = record {
      kept = λ i r ir h. w i r ir ∙ or_left _ _ (so_far.kept i r ir h);
      woken = λ i r j ir l ch nm.
          ⊎_elim
          (λ (e : j ≡ n). w i r ir ∙ or_right (waits b i) _ (subst (λ m. member (scope r) m ≡ true) e nm))
          (λ (ne : j ≡ n → ⊥). w i r ir ∙ or_left _ _ (so_far.woken i r j ir (omega arith) ch nm))
          (cases_eq j n);
      only = λ i r ir h.
          ⊎_elim
          (λ old. ⊎_elim inl (λ (m : (j : ℕ) × (ChangedBelow n changed j × (member (scope r) j ≡ true))). inr (m.0, ((omega (arith, m.1.0.0), m.1.0.1), m.1.1))) (so_far.only i r ir old))
          (λ in_scope. inr (n, ((omega arith, new), in_scope)))
          (or_cases (waits b i) (member (scope r) n) (sym (w i r ir) ∙ h));
      quiet = λ none. absurd (none n (omega arith) new);
    }

    roused_past : (changed n → ⊥) → Roused scope rules changed (n + 1) a b
    roused_past not = record {
      kept = so_far.kept;
      woken = λ i r j ir l ch nm.
          ⊎_elim
          (λ (e : j ≡ n). absurd (not (subst changed e ch)))
          (λ (ne : j ≡ n → ⊥). so_far.woken i r j ir (omega arith) ch nm)
          (cases_eq j n);
      only = λ i r ir h. ⊎_elim inl (λ (m : (j : ℕ) × (ChangedBelow n changed j × (member (scope r) j ≡ true))). inr (m.0, ((omega (arith, m.1.0.0), m.1.0.1), m.1.1))) (so_far.only i r ir h);
      quiet = λ none. so_far.quiet (λ j l. none j (omega arith));
    }

  module _ {limit : ℕ} {f : Family} {old : List ℕ} {n : ℕ} {a b : List WakeUp} {noted : List ℕ} (d : ChangesDone scope rules limit f old n a b noted) where
    wider : (w : WakeUp) → ByChange scope rules (Changed limit f old) n a w → ByChange scope rules (Changed limit f old) (n + 1) a w
    wider w h = record { changed_job = (omega (arith, h.changed_job.0), h.changed_job.1); fresh = h.fresh; lowest = h.lowest }

    -- a rule that did not wait until now has no lower job that has changed
    by_last : Changed limit f old n → (w : WakeUp) → Rightful scope rules w → ByJob b n w → ByChange scope rules (Changed limit f old) (n + 1) a w
    by_last new w right h =
        let quiet-before : (t : Bool) → (t ≡ true → waits b w.rule ≡ true) → t ≡ false = λ t up. ⊎_elim (λ (on : t ≡ true). absurd (both_ways _ h.1 (up on))) (λ (off : t ≡ false). off) (cases_Bool t) in
        record {
          changed_job = subst (ChangedBelow (n + 1) (Changed limit f old)) (sym h.0) (omega arith, new);
          fresh = quiet-before (waits a w.rule) (d.roused.kept w.rule right.named right.is);
          lowest = λ j l ch r is. quiet-before (member (scope r) j) (d.roused.woken w.rule r j is (omega (arith, h.0)) ch);
        }

    -- list n has another count than noted, and the rules of its job were woken
    pub changes_woken : (m : ℕ) (c : List WakeUp) → n < length noted → m ≡ count (f n) limit → (m ≡ get_or noted n 0 → ⊥) → Woken scope rules n b c → Called scope rules (ByJob b n) b c → ChangesDone scope rules limit f old (n + 1) a c (set noted n m)
    changes_woken m c l e differs w called =
        let new : Changed limit f old n = λ same. differs (e ∙ same ∙ sym (d.counts.past n (omega arith))) in
        record {
          roused = roused_more d.roused c new w;
          called = called_more d.called wider called (by_last new);
          counts = renoted_more limit f old n noted m l e d.counts;
        }

    -- list n has the count noted
    pub changes_past : (m : ℕ) → n < length noted → m ≡ count (f n) limit → m ≡ get_or noted n 0 → ChangesDone scope rules limit f old (n + 1) a b (set noted n m)
    changes_past m l e same = record {
      roused = roused_past d.roused (λ new. new (sym e ∙ same ∙ d.counts.past n (omega arith)));
      called = called_weaker d.called wider;
      counts = renoted_more limit f old n noted m l e d.counts;
    }

-- the lists were narrowed by rule k
pub record NarrowedBy {R : Type 0} (scope : R → List ℕ) (admits : R → List ℕ → Bool) (rules : List R) (k : ℕ) (before after : Family) : Type 0 where
  pub named : R
  pub is : IsRule rules k named
  pub narrowed : Narrowed (scope named) (admits named) before after

-- settling so far: no consistent family has lost a place, and the lists are consistent for every rule that does not wait
pub record Progress {R : Type 0} (scope : R → List ℕ) (admits : R → List ℕ → Bool) (rules : List R) (start here : Family) (a : List WakeUp) : Type 0 where
  pub inside : Inside here start
  pub keeps : (g : Family) → AllConsistent scope admits rules g → Inside g start → Inside g here
  pub quiet : (i : ℕ) (r : R) → IsRule rules i r → waits a i ≡ false → Consistent (scope r) (admits r) here

-- ---- one step: xs are the lists before it, ys after

module _ {L R : Type 0} (has : L → ℕ → Bool) (limit : ℕ) (law : (x : L) (p : ℕ) → has x p ≡ true → p < limit) (scope : R → List ℕ) (rules : List R)
    (xs ys : List L) (noted : List ℕ) (a b : List WakeUp)
    (size : length ys ≡ length xs) (inside : Inside (family has ys) (family has xs))
    (note : Noted (length xs) limit (family has xs) noted)
    (roused : Roused scope rules (Changed limit (family has ys) noted) (length ys) a b) where
  step_kept : (i : ℕ) (r : R) → IsRule rules i r → waits b i ≡ false → waits a i ≡ false
  step_kept i r ir off = ⊎_elim (λ (t : waits a i ≡ true). absurd (both_ways _ off (roused.kept i r ir t))) (λ f. f) (cases_Bool (waits a i))

  unchanged : (j : ℕ) → j < length ys → count (family has ys j) limit ≡ get_or noted j 0 → (p : ℕ) → family has ys j p ≡ family has xs j p
  unchanged j l e p =
      let many : count (family has xs j) limit ≤ count (family has ys j) limit = omega (arith, e, note j (omega arith)) in
      same_bool _ _ (inside j p)
      (λ t. count_tight (family has ys j) (family has xs j) limit (λ q h. inside j q) many p (family_all has (λ q. q < limit) law xs j p t) t)
    where
      same_bool : (s t : Bool) → (s ≡ true → t ≡ true) → (t ≡ true → s ≡ true) → s ≡ t
      same_bool true t f g = sym (f refl)
      same_bool false true f g = g refl
      same_bool false false f g = refl

  step_same : (i : ℕ) (r : R) → IsRule rules i r → waits b i ≡ false → (j : ℕ) → member (scope r) j ≡ true → (p : ℕ) → family has ys j p ≡ family has xs j p
  step_same i r ir off j nm p =
      ⊎_elim
      (λ (l : j < length ys).
      ⊎_elim
      (λ e. unchanged j l e p)
      (λ (ne : Changed limit (family has ys) noted j). absurd (both_ways _ off (roused.woken i r j ir l ne nm)))
      (cases_eq (count (family has ys j) limit) (get_or noted j 0)))
      (λ (l : length ys ≤ j). family_past has ys j p l ∙ sym (family_past has xs j p (omega arith)))
      (cases_lt j (length ys))

  -- places are gone, or all is as it was
  step_falls : (total has limit ys < total has limit xs) ⊎ ((total has limit ys ≡ total has limit xs) × (b ≡ a))
  step_falls =
      let low : total has limit ys ≤ total has limit xs = total_le has limit ys xs size inside in
      ⊎_elim
      (λ (e : total has limit ys ≡ total has limit xs).
      let whole = total_same has limit ys xs law size inside e in
      inr (e, roused.quiet (λ j l ne. ne (same_count j whole ∙ sym (note j (omega arith))))))
      (λ (ne : total has limit ys ≡ total has limit xs → ⊥). inl (omega arith))
      (cases_eq (total has limit ys) (total has limit xs))
    where
      same_count : (j : ℕ) → Inside (family has xs) (family has ys) → count (family has ys j) limit ≡ count (family has xs j) limit
      same_count j whole = omega (arith, count_le (family has ys j) (family has xs j) limit (λ q h. inside j q), count_le (family has xs j) (family has ys j) limit (λ q h. whole j q))

  -- the measure falls
  pub step_less : (old : List WakeUp) (w : WakeUp) → TakenOne old a w → length old ≤ length rules → measure (total has limit ys) (length rules) (length b) < measure (total has limit xs) (length rules) (length old)
  step_less old w taken within =
      ⊎_elim
      (λ (less : total has limit ys < total has limit xs). falls_lists _ _ (length rules) _ _ less)
      (λ (same : (total has limit ys ≡ total has limit xs) × (b ≡ a)). falls_line _ _ (length rules) _ _ same.0 within (ap (λ ws. length ws + 1) same.1 ∙ sym (ap length taken.rest ∙ omega arith)))
      step_falls

  module _ (admits : R → List ℕ → Bool) (start : Family) (old : List WakeUp) (w : WakeUp)
      (so_far : Progress scope admits rules start (family has xs) old) (taken : TakenOne old a w)
      (by : NarrowedBy scope admits rules w.rule (family has xs) (family has ys)) where
    pub progress_step : Progress scope admits rules start (family has ys) b
    progress_step = record {
      inside = λ j p h. so_far.inside j p (inside j p h);
      keeps = λ g con ins. consistent_kept by.narrowed (rule_from_all (λ r. Consistent (scope r) (admits r) g) rules w.rule by.named by.is con) (so_far.keeps g con ins);
      quiet = λ i r is off.
          ⊎_elim
          (λ (e : i ≡ w.rule).
          let same : by.named ≡ r = same_rule rules w.rule by.named r by.is (subst (λ m. IsRule rules m r) e is) in
          subst (λ x. Consistent (scope x) (admits x) (family has ys)) same (narrowed_consistent by.narrowed))
          (λ (ne : i ≡ w.rule → ⊥).
          let still : waits old i ≡ false = sym (taken.cleared i ∙ cond-false _ false _ (ne_eqb i w.rule ne)) ∙ step_kept i r is off in
          consistent_elsewhere (so_far.quiet i r is still) (step_same i r is off))
          (cases_eq i w.rule);
    }

-- where no rule waits, the greatest consistent family is left
pub progress_done : {R : Type 0} {scope : R → List ℕ} {admits : R → List ℕ → Bool} {rules : List R} {start here : Family} {a : List WakeUp} → Progress scope admits rules start here a → a ≡ [] → Settled scope admits rules start here
progress_done {scope = scope} {admits} {rules} {start} {here} p empty =
    settled p.inside (all_from_rules (λ r. Consistent (scope r) (admits r) here) rules (λ i r is. p.quiet i r is (ap (λ ws. waits ws i) empty))) p.keeps

pub progress_start : {R : Type 0} {scope : R → List ℕ} {admits : R → List ℕ → Bool} {rules : List R} {start : Family} {a : List WakeUp} → ((i : ℕ) → i < length rules → waits a i ≡ true) → Progress scope admits rules start start a
progress_start {a = a} all = record {
  inside = λ j p h. h;
  keeps = λ g con ins. ins;
  quiet = λ i r is off. absurd (both_ways (waits a i) off (all i is.0));
}
