-- By the plan that was chosen the event is made or closed, or refused where no number is left; no other answer is a refusal.
use Prim.Native.Nat.{ℕ, ◌<◌, ◌≤◌}
use mathlib.Core.Path.{◌≡◌, refl, ap, sym, subst⁻¹, ◌∙◌}
use mathlib.Core.Bool.{true, false}
use Rattle.std.specs.Prelude.{Option, None, Some}
use mathlib.Core.List.{List}
use borrow.Author.Tests.{lt-ltb, le-ltb}
use Rattle.lists.specs.Places.{Placed}
use Rattle.lists.proofs.OptionLaws.{some_equal, none-some}
use Rattle.belief.specs.declared.Beliefs.{Beliefs}
use Rattle.belief.specs.Beliefs.{view}
use Rattle.library.specs.Layout.{library_of}
use Rattle.situation.specs.declared.Selected.{Selected}
use Rattle.situation.specs.Applicable.{Chosen, choose}
use Rattle.situation.specs.Selected.{selected}
use Rattle.model.specs.declared.Answer.TheVariants.{Refused}
use Rattle.model.specs.declared.Event.{Event}
use Rattle.model.specs.declared.Origin.{Origin}
use Rattle.model.specs.declared.Origin.TheVariants.{External, Goal}
use Rattle.model.specs.State.{most_number, AgentState}
use Rattle.model.specs.Event.{make, close, take_up}
use Rattle.model.specs.Cycle.{choice_for}
use Rattle.model.specs.Calls.{is_refusal}
use Rattle.state.specs.declared.State.{State}
use Rattle.state.specs.View.{view_state, counts_fit}
use Rattle.steps.specs.declared.Acted.{Acted}
use Rattle.steps.specs.View.{plainly}
use Rattle.steps.specs.Gives.{Replies, Gives}
use Rattle.steps.proofs.GivesLaws.{gives_as, gives_same, gives_answer}

-- ---- Neither way is a refusal

close-answers : (s : AgentState) (event : Placed Event) (origin : Origin) → is_refusal (close s event origin).result.answer ≡ false
unfolding close
close-answers s event (External n) = refl
close-answers s event (Goal i state branch) = refl

make-answers : (s : AgentState) (chosen : Chosen) (origin : Origin) → is_refusal (make s chosen origin).result.answer ≡ false
unfolding make
make-answers s chosen (External n) = refl
make-answers s chosen (Goal i state branch) = refl

-- ---- By the plan chosen

-- the choice that an answer of the code states
stated-none : (answer : Selected) (o : Option Chosen) → answer ≡ selected o → answer.choice ≡ None → o ≡ None
stated-none answer None e p = refl
stated-none answer (Some chosen) e p = none-some (sym p ∙ ap (λ (x : Selected). x.choice) e)

stated : (answer : Selected) (o : Option Chosen) (plan : ℕ) → answer ≡ selected o → answer.choice ≡ Some plan → o ≡ Some (record { plan = plan; env = answer.env })
stated answer None plan e p = none-some (sym (ap (λ (x : Selected). x.choice) e) ∙ p)
stated answer (Some chosen) plan e p =
    let number = some_equal (sym (ap (λ (x : Selected). x.choice) e) ∙ p) in
    let env = ap (λ (x : Selected). x.env) (sym e) in
    λ i. Some (record { plan = number i; env = env i })

module _ (s : State) (place : ℕ) (bytes : List ℕ) (event : Event) (choice : Selected) (r : Acted) (beliefs : Beliefs) (same : s.beliefs ≡ beliefs)
    (given : choice ≡ selected (choose (view beliefs) event.kind event.literal event.failed (library_of bytes).plans)) where
  chose : choice ≡ selected (choose (view s.beliefs) event.kind event.literal event.failed (library_of bytes).plans)
  chose =
      subst⁻¹ (λ (b : Beliefs). choice ≡ selected (choose (view b) event.kind event.literal event.failed (library_of bytes).plans)) same given

  -- the event is taken up
  abbrev TakenUp : Type 0
  TakenUp = Gives s (take_up (view_state s) (record { place = place; it = event }) (choice_for (library_of bytes) (view_state s) event)) r

  -- the model's choice
  abbrev choice_is : Option Chosen → Type 0
  choice_is o = choose (view s.beliefs) event.kind event.literal event.failed (library_of bytes).plans ≡ o

  taken : (o : Option Chosen) → choice_is o → Gives s (take_up (view_state s) (record { place = place; it = event }) o) r → TakenUp
  unfolding choice_for
  taken o e = gives_as (ap (take_up (view_state s) (record { place = place; it = event })) (sym e))

  pub closed : choice.choice ≡ None → Replies (close (view_state s) (record { place = place; it = event }) event.origin) r → TakenUp
  unfolding take_up
  closed e h =
      taken None (stated-none choice _ chose e)
      (gives_answer s _ r (close-answers (view_state s) (record { place = place; it = event }) event.origin) h)

  module _ (plan : ℕ) (e : choice.choice ≡ Some plan) where
    chosen : Chosen
    chosen = record { plan = plan; env = choice.env }

    chosen_is : choice_is (Some chosen)
    unfolding chosen
    chosen_is = stated choice _ plan chose e

    pub refused : most_number ≤ s.made → counts_fit s ≡ true → r ≡ plainly s (Refused 9) → TakenUp
    unfolding take_up
    refused full fit p = taken (Some chosen) chosen_is (rw (le-ltb s.made most_number full) (gives_same s (Refused 9) r p fit))

    pub made : s.made < most_number → Replies (make (view_state s) (record { plan = plan; env = choice.env }) event.origin) r → TakenUp
    unfolding take_up chosen
    made low h =
        taken (Some chosen) chosen_is (rw (lt-ltb s.made most_number low) (gives_answer s _ r (make-answers (view_state s) chosen event.origin) h))
