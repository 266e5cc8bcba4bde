-- A loaded state is well formed, and every call on a well-formed state keeps its promises: it is one step, and every step keeps the facts.
use Prim.Native.Nat.{ℕ}
use mathlib.Core.Path.{◌≡◌, refl, sym, ap, subst}
use mathlib.Core.List.{List}
use mathlib.Core.Bool.{true}
use native.Mathlib.Omega.{arith}
use Rattle.library.specs.Plan.{Library}
use Rattle.model.specs.declared.Event.{Event}
use Rattle.model.specs.declared.Answer.{Answer}
use Rattle.model.specs.State.{Intention, AgentState, Call, Reply}
use Rattle.model.specs.Live.{live}
use Rattle.model.specs.WellFormed.{is_well_formed}
use Rattle.model.specs.Formed.{Acceptable, Formed, WellFormed}
use Rattle.model.specs.Calls.{act, call_by, call, loaded, refusal_in, is_refusal_for}
use Rattle.model.specs.History.{History, note}
use Rattle.model.specs.Promises.{Promises}
use Rattle.model.proofs.FormedLaws.{reform, like_live}
use Rattle.model.proofs.FormedKept.{retable, step_formed}
use Rattle.model.proofs.Step.{Step}
use Rattle.model.proofs.EventWalk.{Moved}
use Rattle.model.proofs.TurnWalk.{act-moved}
use Rattle.model.proofs.Invariant.{Invariant, reorder}
use Rattle.model.proofs.InvariantKept.{step_kept}
use Rattle.model.proofs.WellFormedTest.{formed_test, test_formed}

-- ---- A loaded state

pub loaded_formed : (library : Library) → Acceptable library → WellFormed library (loaded library)
unfolding live
loaded_formed library r = record {
  table = r.beliefs;
  local = record { ids = refl; numbers = refl; few = omega arith; kinds = refl; grounds = refl; sounds = refl; failures = refl };
  linked = record { id_once = λ k. omega arith; event_once = λ o. omega arith; served_once = λ o. omega arith; served = refl; goals = λ o. refl; posters = refl };
  few = omega arith;
  stacked = refl;
  taken_small = omega arith;
  made_small = omega arith;
}

pub loaded_well_formed : (library : Library) → Acceptable library → is_well_formed library (loaded library) ≡ true
loaded_well_formed library r = formed_test library (loaded library) (loaded_formed library r)

-- ---- What a step answers

step-refusal : {library : Library} {n m n' m' : ℕ} {c : Call} {q q' : List Event} {ks ks' : List Intention} {a : Answer}
    → Step library n m c q ks a n' m' q' ks' → is_refusal_for c (refusal_in a) ≡ true
unfolding is_refusal_for refusal_in
step-refusal (Step.refused number e) = e
step-refusal step = refl

-- ---- A call

module _ (library : Library) (r : Acceptable library) (s : AgentState) (w : WellFormed library s) (c : Call) where
  moved : Moved library s c (act library s c)
  moved = act-moved library r s w c

  act_formed : WellFormed library (act library s c).state
  act_formed =
      let m = moved in
      subst (λ b. Formed library b (act library s c).state.queue (act library s c).state.stacks (act library s c).state.taken (act library s c).state.made) (sym m.beliefs)
      (retable m.table (reform m.to_queue m.to_stacks (step_formed r m.step (reform m.from_queue m.from_stacks w))))

  -- 10 is not answered
  pub call_acts : call library s c ≡ act library s c
  unfolding call call_by
  call_acts = ap (λ b. call_by b library s c) (formed_test library s w)

  pub call_formed : WellFormed library (call library s c).state
  call_formed = subst (λ (x : Reply). WellFormed library x.state) (sym call_acts) act_formed

  pub call_promises : Promises library s c (call library s c)
  call_promises = subst (Promises library s c) (sym call_acts) (record {
    formed = formed_test library (act library s c).state act_formed;
    table = moved.beliefs;
    effective = moved.effect;
    few = moved.few;
    refusal = step-refusal moved.step;
  })

  pub call_kept : (h : History) → Invariant h s.queue (live s.stacks) s.taken s.made
      → Invariant (note h c (call library s c).result.answer) (call library s c).state.queue (live (call library s c).state.stacks) (call library s c).state.taken (call library s c).state.made
  call_kept h i =
      let m = moved in
      subst (λ (x : Reply). Invariant (note h c x.result.answer) x.state.queue (live x.state.stacks) x.state.taken x.state.made) (sym call_acts)
      (reorder m.to_queue (like_live m.to_stacks) (step_kept r m.step (reform m.from_queue m.from_stacks w) (reorder m.from_queue (like_live m.from_stacks) i)))

-- every call on a well-formed state keeps its promises
pub promises : (library : Library) → Acceptable library → (s : AgentState) → is_well_formed library s ≡ true → (c : Call)
    → Promises library s c (call library s c)
promises library r s e c = call_promises library r s (test_formed library s e) c
