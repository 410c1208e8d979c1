-- One call, from what the board's own calls say.
use Rattle.std.proofs.Common.{◌≡◌, ℕ, Bool, true, false, if◌then◌else◌, List, take, Some, None, Ok, Err, Result, MatchResult, sym, refl, ap, ◌∙◌, subst}
use Rattle.std.proofs.lemmas.List.{length-take-le}
use Rattle.std.proofs.lemmas.Bool.{false≢true}
use Rattle.refusals.specs.Codes.{says}
use Rattle.refusals.specs.declared.Refusal.{Refusal}
use Rattle.places.specs.Families.{fixed}
use Rattle.cuts.specs.declared.cut.Cut.{Cut}
use Rattle.distinct.specs.declared.group.Deficiency.{Deficiency}
use Rattle.board.specs.Book.{Held, trial_refusal, group_refusal, settle_refusal, named_at}
use Rattle.board.specs.Moments.{current_lists, TrialSays, GroupSays, SettleSays, Stands}
use Rattle.board.specs.Outcomes.{refusal_back}
use Rattle.board.specs.declared.board.Board.{Board}
use Rattle.board.specs.declared.board.Rejected.{Rejected}
use Rattle.board.specs.declared.lengths.Lengths.{Lengths}
use Rattle.board.specs.declared.stage.Closed.{Closed}
use Rattle.board.specs.declared.stage.Closed.TheVariants.{Settled as IsSettled}
use Rattle.board.specs.declared.stage.Settled.{Settled}
use Rattle.history.specs.declared.event.Answer.{Answer}
use Rattle.history.specs.declared.event.Answer.TheVariants.{Done, Yes, No, Group as GroupOf, Refused}
use Rattle.history.specs.declared.event.Ask.TheVariants.{Trial, Group, Settle}
use Rattle.history.specs.Calls.{Kinds, Asked, said}

module _ {L R : Type 0} (K : Kinds L R) (b : Held) (opened : List L) (rules : List R) (l : Lengths) (log log' : List Cut) (st : Closed) (standing standing' : List L) (group group' : List ℕ) where
  pub tried : (free : Result Bool Refusal) (x : Answer) (job place : ℕ)
      → MatchResult free (λ yes. x ≡ (if yes then Yes else No)) (λ e. x ≡ Refused e)
      → TrialSays K.scope K.admits (take b.rules rules) b.jobs (fixed job place (current_lists K.has b opened log)) (trial_refusal K.has K.limit K.lawful b opened rules log l job place) free
      → log' ≡ log → Asked K b opened rules l (Trial job place) (said x) b.cuts log log' st st standing standing group group
  tried (Ok true) x job place e t kept =
      subst (λ y. Asked K b opened rules l (Trial job place) (said y) b.cuts log log' st st standing standing group group) (sym e)
      (record { answer = (t.0, t.1.0 refl); count = refl; logged = kept; staged = refl; stood = refl; grouping = refl })
  tried (Ok false) x job place e t kept =
      subst (λ y. Asked K b opened rules l (Trial job place) (said y) b.cuts log log' st st standing standing group group) (sym e)
      (record { answer = (t.0, λ whole. false≢true (t.1.1 whole)); count = refl; logged = kept; staged = refl; stood = refl; grouping = refl })
  tried (Err r) x job place e t kept =
      subst (λ y. Asked K b opened rules l (Trial job place) (said y) b.cuts log log' st st standing standing group group) (sym e)
      (record { answer = t; count = refl; logged = kept; staged = refl; stood = refl; grouping = refl })

  pub asked_group : (found : Result Deficiency Refusal) (x : Answer) (rule : ℕ)
      → MatchResult found (λ d. x ≡ GroupOf d) (λ e. x ≡ Refused e)
      → GroupSays K.limit (current_lists K.has b opened log) (named_at K.names (take b.rules rules) rule) (group_refusal K.has K.limit K.lawful K.names b opened rules log l rule) group group' found
      → Asked K b opened rules l (Group rule) (said x) b.cuts log log st st standing standing group group'
  asked_group (Ok d) x rule e t =
      let told = t.1.2 in
      subst (λ y. Asked K b opened rules l (Group rule) (said y) b.cuts log log st st standing standing group group') (sym e)
      (record {
        answer = (t.0, (t.1.0, t.1.1, (take d.count group', length-take-le d.count group' told.within, told.group)));
        count = refl;
        logged = refl;
        staged = refl;
        stood = refl;
        grouping = (t.1.0, t.1.1, told.group, told.within, told.rest);
      })
  asked_group (Err r) x rule e t =
      subst (λ y. Asked K b opened rules l (Group rule) (said y) b.cuts log log st st standing standing group group') (sym e)
      (record { answer = t.0; count = refl; logged = refl; staged = refl; stood = refl; grouping = t.1 })

  pub settled_by : (settled : Result (Board Settled) (Rejected (Board Closed))) (before after : Board Closed) (x : Answer) → b.cuts ≡ before.numbers.cuts → st ≡ before.stage
      → SettleSays K.scope K.admits (take b.rules rules) b.jobs (current_lists K.has b opened log) (settle_refusal K.has K.limit K.lawful b opened rules log l) (refusal_back settled)
      → MatchResult settled (λ n. n.numbers ≡ before.numbers) (λ e. e.board ≡ before)
      → MatchResult settled (λ _. Stands K.has K.scope K.admits (take b.rules rules) b.jobs (current_lists K.has b opened log) standing standing') (λ _. standing' ≡ standing)
      → MatchResult settled (λ n. (after.numbers ≡ n.numbers) × (after.stage ≡ IsSettled) × (x ≡ Done)) (λ e. (after ≡ e.board) × (x ≡ Refused e.refusal))
      → Asked K b opened rules l Settle (said x) after.numbers.cuts log log st after.stage standing standing' group group
  settled_by (Ok n) before after x cuts stage t same stood m =
      subst (λ y. Asked K b opened rules l Settle (said y) after.numbers.cuts log log st after.stage standing standing' group group) (sym m.2)
      (record { answer = (None, refl, t); count = ap (λ v. v.cuts) (m.0 ∙ same) ∙ sym cuts; logged = refl; staged = m.1; stood = stood; grouping = refl })
  settled_by (Err e) before after x cuts stage t same kept m =
      subst (λ y. Asked K b opened rules l Settle (said y) after.numbers.cuts log log st after.stage standing standing' group group) (sym m.1)
      (record {
        answer = (Some (says e.refusal), refl, t);
        count = ap (λ v. v.numbers.cuts) (m.0 ∙ same) ∙ sym cuts;
        logged = refl;
        staged = ap (λ v. v.stage) (m.0 ∙ same) ∙ sym stage;
        stood = kept;
        grouping = refl;
      })
