-- What the code of an outcome answers, in the model's terms.
use Prim.Native.Nat.{ℕ, ◌<◌, ◌≤◌}
use native.Mathlib.Omega.{arith}
use mathlib.Core.Path.{◌≡◌, refl, ap, sym, subst, ◌∙◌}
use mathlib.Core.Bool.{Bool, true, false}
use Rattle.std.specs.Prelude.{Some, None}
use mathlib.Core.List.{[]}
use lib.ListN.{length, get_or, set}
use Rattle.lists.specs.Search.{position}
use Rattle.lists.proofs.PlaceLaws.{first_at, first-none}
use Rattle.belief.specs.declared.Beliefs.{Beliefs}
use Rattle.belief.specs.Beliefs.{replay}
use Rattle.library.specs.Plan.{Library}
use Rattle.model.specs.declared.Answer.{Answer}
use Rattle.model.specs.declared.Answer.TheVariants.{Refused}
use Rattle.model.specs.declared.Instance.{Instance}
use Rattle.model.specs.State.{Intention, reply, restacked}
use Rattle.model.specs.Instance.{awake, past_branch}
use Rattle.model.specs.Outcome.{is_awaiting, in_turn, outcome_by, told}
use Rattle.state.specs.declared.Stack.{Stack}
use Rattle.state.specs.declared.State.{State}
use Rattle.state.specs.View.{no_stack, view_stack, stacked_of, view_stacks, view_state, counts_fit}
use Rattle.state.specs.Stacks.{replace_top}
use Rattle.state.proofs.CountParts.{counts-parts}
use Rattle.state.proofs.ViewLaws.{length-stacks, stack_at_lem}
use Rattle.state.proofs.StateLaws.{put-state}
use Rattle.steps.specs.declared.Acted.{Acted}
use Rattle.steps.specs.View.{Sized, plainly, stack_at}
use Rattle.steps.specs.Gives.{Replies, Gives}
use Rattle.steps.specs.Step.{applied}
use Rattle.steps.specs.Outcome.{topped_step, stepped_on, missed_on, told_step, Awaits}
use Rattle.trials.proofs.AlteredLaws.{untouched_within}
use Rattle.steps.proofs.GivesLaws.{gives_as, gives_same, gives_answer}
use Rattle.steps.proofs.CountLaws.{counts-put, counts_depth}
use Rattle.steps.proofs.StepLaws.{step_replies}

module _ (library : Library) (s : State) (id place : ℕ) (e : place ≡ position (is_awaiting id) (view_stacks s)) (len : length s.stacks ≡ 8) where
  pub told-nobody : (worked : Bool) → stacked_of s ≤ place → told library (view_state s) id worked ≡ outcome_by library (view_state s) worked None
  unfolding told
  told-nobody worked h = ap (outcome_by library (view_state s) worked) (first-none (is_awaiting id) (view_stacks s) place e (omega (arith, length-stacks s len)))

  module _ (there : place < stacked_of s) (d : Stack) where
    told_there : (worked : Bool) → told library (view_state s) id worked
        ≡ outcome_by library (view_state s) worked (Some (record { place = place; it = view_stack (get_or s.stacks place d) }))
    unfolding told
    told_there worked =
        ap (outcome_by library (view_state s) worked)
        (first_at (is_awaiting id) (view_stacks s) place (view_stack d) e (omega (arith, length-stacks s len))
        ∙ ap (λ (k : Intention). Some (record { place = place; it = k })) (stack_at_lem s place d there))

-- ---- The step

-- another top on the stack, turn order as it was
topped_replies : (s : State) (place : ℕ) → Sized s → counts_fit s ≡ true → place < stacked_of s → (x : Instance) (answer : Answer)
    → Replies (reply answer [] (in_turn (view_state s) (record { place = place; it = view_stack (stack_at s place) }) x))
    (applied s (topped_step s.beliefs place (stack_at s place) x answer))
unfolding replay
topped_replies s place sized fit there x answer =
    let next = replace_top (stack_at s place) x in
    step_replies s (topped_step s.beliefs place (stack_at s place) x answer) (restacked (view_state s) (set (view_stacks s) place (view_stack next)))
    (put-state s place next sized.stacks)
    (counts-put s fit sized.stacks place next (counts_depth s fit place no_stack sized.stacks there))
    (untouched_within s.beliefs (counts-parts s fit).beliefs)

-- the same from the parts that the step was decided from
module _ (library : Library) (s : State) (beliefs : Beliefs) (id place : ℕ) (stack : Stack) (h : Awaits s beliefs id place stack) where
  from_parts : (worked : Bool) (step : Beliefs → Stack → Acted) → Gives s (told library (view_state s) id worked) (step s.beliefs (stack_at s place))
      → Gives s (told library (view_state s) id worked) (step beliefs stack)
  from_parts worked step g =
      let b = h.beliefs_are in
      let k = h.stack_is in
      subst (λ (r : Acted). Gives s (told library (view_state s) id worked) r) (λ i. step (b i) (k i)) g

  told-worked : Gives s (told library (view_state s) id true) (applied s (stepped_on library beliefs place stack))
  unfolding outcome_by
  told-worked =
      from_parts true (λ b k. applied s (stepped_on library b place k))
      (gives_as (sym (told_there library s id place h.found h.sized.stacks h.there no_stack true))
      (gives_answer s _ _ refl (topped_replies s place h.sized h.fit h.there (past_branch library (stack_at s place).top) _)))

  told-failed : Gives s (told library (view_state s) id false) (applied s (missed_on beliefs place stack))
  unfolding outcome_by
  told-failed =
      from_parts false (λ b k. applied s (missed_on b place k))
      (gives_as (sym (told_there library s id place h.found h.sized.stacks h.there no_stack false))
      (gives_answer s _ _ refl (topped_replies s place h.sized h.fit h.there (awake (stack_at s place).top) _)))

  -- the step of an outcome gives what the model says of it
  pub told_gives : (worked : Bool) → Gives s (told library (view_state s) id worked) (applied s (told_step library beliefs place stack worked))
  told_gives true = told-worked
  told_gives false = told-failed

-- nobody waits
pub told-refused : (library : Library) (s : State) (id : ℕ) (worked : Bool) (place : ℕ) → place ≡ position (is_awaiting id) (view_stacks s) → Sized s
    → counts_fit s ≡ true → stacked_of s ≤ place → (r : Acted) → r ≡ plainly s (Refused 8) → Gives s (told library (view_state s) id worked) r
unfolding outcome_by
told-refused library s id worked place e sized fit h r p =
    gives_as (sym (told-nobody library s id place e sized.stacks worked h)) (gives_same s (Refused 8) r p fit)
