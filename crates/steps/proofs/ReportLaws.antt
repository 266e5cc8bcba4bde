-- What the code of a report answers, in the model's terms.
use Prim.Native.Nat.{ℕ, suc, ◌+◌, ◌<◌}
use native.Mathlib.Omega.{arith}
use mathlib.Core.Path.{◌≡◌, refl, ap, sym, subst⁻¹, ◌∙◌}
use mathlib.Core.List.{List, [], ◌∷◌, ◌++◌}
use mathlib.Core.Bool.{true, false}
use lib.Dec.{ltb, leb, eqb}
use borrow.Author.Tests.{leb-false, eq-eqb, ne_eqb, eqb-true, eqb-false}
use Rattle.belief.specs.declared.Beliefs.{Beliefs}
use Rattle.belief.specs.declared.Change.{Change}
use Rattle.belief.specs.Beliefs.{view}
use Rattle.literal.specs.declared.Literal.{Literal}
use Rattle.model.specs.declared.Event.{Event}
use Rattle.model.specs.declared.Answer.TheVariants.{Taken, Refused}
use Rattle.model.specs.State.{most_number, AgentState, Reply, reply, refuse, requeued}
use Rattle.model.specs.Changes.{change_of, effective}
use Rattle.model.specs.Report.{told_kind, is_reportable, report_refusal, report_changes}
use Rattle.model.specs.Report.{new_event, take_in, report_by, reported}
use Rattle.lists.proofs.BoolLaws.{by_cases}
use Rattle.state.specs.declared.State.{State}
use Rattle.state.specs.View.{view_queue, view_stacks, view_state}
use Rattle.state.proofs.StateLaws.{enqueue-state}
use Rattle.state.proofs.CountParts.{counts-parts}
use Rattle.steps.specs.declared.step.Step.{Step}
use Rattle.trials.specs.declared.changes.Altered.{Altered}
use Rattle.trials.specs.Altered.{untouched, Alters}
use Rattle.steps.specs.Gives.{Gives}
use Rattle.steps.specs.Step.{applied}
use Rattle.steps.specs.Report.{heard, taken_step, TakesIn, Reports, HasNumber, Hears}
use Rattle.trials.proofs.AlteredLaws.{altered_within}
use Rattle.trials.proofs.TrialLaws.{untouched_alters}
use Rattle.steps.proofs.GivesLaws.{replies_as, gives_as, gives_same, gives_answer}
use Rattle.steps.proofs.CountLaws.{counts-enqueue}
use Rattle.steps.proofs.StepLaws.{step_replies}

-- ---- What a report does to the beliefs

module _ (b : Beliefs) (kind : ℕ) (l : Literal) (a : Altered) where
  pub change_alters : ltb kind told_kind ≡ true → Alters b (effective (view b) (change_of kind l)) a → Alters b (report_changes (view b) kind l) a
  unfolding report_changes
  change_alters p h = rw p h

  pub told_alters : ltb kind told_kind ≡ false → a ≡ untouched b → Alters b (report_changes (view b) kind l) a
  unfolding report_changes
  told_alters p e = rw p (untouched_alters b a e)

-- ---- Taking the report in

-- on the state whose beliefs and number it was decided from
module _ (s : State) (kind : ℕ) (l : Literal) (p : HasNumber s) (altered : Altered)
    (a : Alters s.beliefs (report_changes (view s.beliefs) kind l) altered) where
  abbrev arrived : List Change → List Literal → Reply
  arrived changes beliefs =
      let number = s.taken + 1 in
      reply (Taken number) changes
      (record { beliefs = beliefs; queue = view_queue s ++ (new_event number kind l ∷ []); stacks = view_stacks s; taken = number; made = s.made })

  step_taken : Gives s (take_in (view_state s) kind l (report_changes (view s.beliefs) kind l)) (applied s (taken_step s.taken kind l altered))
  unfolding take_in
  step_taken =
      let cs = report_changes (view s.beliefs) kind l in
      let t = taken_step s.taken kind l altered in
      let event = new_event (s.taken + 1) kind l in
      let changes = a.noted in
      let table = a.table in
      gives_answer s (take_in (view_state s) kind l cs) (applied s t) refl
      (replies_as (λ i. arrived (changes i) (table i))
      (step_replies s t (requeued (view_state s) (view_queue s ++ (event ∷ []))) (enqueue-state s event p.sized.queue p.room)
      (counts-enqueue s p.fit event) (altered_within a (counts-parts s p.fit).beliefs)))

taken_in : (s : State) (kind : ℕ) (l : Literal) (t : Step) → HasNumber s → TakesIn s.beliefs s.taken kind l t
    → Gives s (take_in (view_state s) kind l (report_changes (view s.beliefs) kind l)) (applied s t)
taken_in s kind l t p h =
    subst⁻¹ (λ (u : Step). Gives s (take_in (view_state s) kind l (report_changes (view s.beliefs) kind l)) (applied s u)) h.step
    (step_taken s kind l p t.altered h.altered)

-- ---- The report

-- a report that is not refused has a number left
spent : (s : AgentState) (kind : ℕ) (l : Literal) → report_refusal s kind l ≡ 0 → s.taken < most_number
unfolding report_refusal
spent s kind l e = by_cases (is_reportable kind l)
    (λ a. by_cases (leb most_number s.taken) (λ b. never (rw (a, b) at e)) (λ b. leb-false most_number s.taken b))
    (λ a. never (rw a at e))
  where
    never : {P : Type 0} {n : ℕ} → suc n ≡ 0 → P
    never z = absurd (omega arith)

-- what the step of a report gives: a report asks only for the beliefs, the queue and the number taken
module _ (s : State) (kind : ℕ) (l : Literal) (p : Hears s kind l) (t : Step)
    (h : Reports s.beliefs (view_queue s) s.taken kind l t) where
  abbrev refusal : ℕ
  refusal = report_refusal (heard s.beliefs (view_queue s) s.taken) kind l

  same_refusal : refusal ≡ report_refusal (view_state s) kind l
  unfolding report_refusal
  same_refusal = refl

  by_number : reported (view_state s) kind l ≡ report_by (view_state s) kind l refusal
  unfolding reported
  by_number = ap (report_by (view_state s) kind l) (sym same_refusal)

  refused : (refusal ≡ 0 → ⊥) → Gives s (reported (view_state s) kind l) (applied s t)
  unfolding report_by
  refused not-zero =
      let means : refuse refusal (view_state s) ≡ reported (view_state s) kind l = sym (by_number ∙ rw (ne_eqb refusal 0 not-zero)) in
      gives_as means (gives_same s (Refused refusal) (applied s t) (ap (applied s) (h.refused not-zero)) p.fit)

  taken : refusal ≡ 0 → Gives s (reported (view_state s) kind l) (applied s t)
  unfolding report_by
  taken zero =
      let none = sym same_refusal ∙ zero in
      let number : HasNumber s = record { sized = p.sized; fit = p.fit; number = spent (view_state s) kind l none; room = p.room none } in
      gives_as (sym (by_number ∙ rw (eq-eqb refusal 0 zero))) (taken_in s kind l t number (h.taken_in zero))

  pub report_gives : Gives s (reported (view_state s) kind l) (applied s t)
  report_gives = by_cases (eqb refusal 0) (λ e. taken (eqb-true refusal 0 e)) (λ e. refused (eqb-false refusal 0 e))

-- a report that is not refused has a number left
pub number_left : (beliefs : Beliefs) (queue : List Event) (taken kind : ℕ) (l : Literal) → 0 ≡ report_refusal (heard beliefs queue taken) kind l
    → taken < most_number
number_left beliefs queue taken kind l e = spent (heard beliefs queue taken) kind l (sym e)
