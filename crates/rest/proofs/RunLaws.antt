-- It comes to rest: from any well-formed state, the work of cycles and outcomes is at most the queued external events times W(1).
use Prim.Native.Nat.{ℕ}
use mathlib.Core.Path.{◌≡◌, sym, subst}
use mathlib.Core.List.{List, [], ◌∷◌, map}
use mathlib.Core.Bool.{true, false, not}
use native.Mathlib.Omega.{arith}
use borrow.Author.Tests.{not-true}
use Rattle.lists.specs.Counts.{bit, Every}
use Rattle.lists.proofs.CountLaws.{bit_every}
use Rattle.library.specs.Plan.{Library}
use Rattle.model.specs.State.{AgentState, Call, Reply}
use Rattle.model.specs.WellFormed.{is_well_formed}
use Rattle.model.specs.Formed.{Acceptable, WellFormed}
use Rattle.model.specs.Calls.{act, call}
use Rattle.model.specs.Run.{Entry, run, final_of, IsChain}
use Rattle.rest.specs.Rest.{is_report, is_work, work_in, RestsWithin}
use Rattle.model.proofs.FormedLaws.{reform}
use Rattle.model.proofs.TurnWalk.{act-moved}
use Rattle.model.proofs.WellFormedTest.{test_formed}
use Rattle.model.proofs.CallLaws.{call_acts, call_formed}
use Rattle.model.proofs.Demand3Proof.{chain_run}
use Rattle.rest.proofs.Costs.{Small}
use Rattle.rest.proofs.Potential.{tiers, Fall}
use Rattle.rest.proofs.Bounds.{covered, bounded}
use Rattle.rest.proofs.Steps.{refall, step_falls}

module _ (library : Library) (a : Acceptable library) (r : Small library) where
  abbrev Falls : ℕ → AgentState → AgentState → Type 0
  Falls n s s' = Fall library r n s.queue (tiers s.stacks) s'.queue (tiers s'.stacks)

  call_falls : (s : AgentState) → WellFormed library s → (c : Call) → is_report c ≡ false
      → Falls (bit (is_work c (call library s c).result.answer)) s (call library s c).state
  call_falls s w c o = subst (λ (x : Reply). Falls (bit (is_work c x.result.answer)) s x.state) (sym (call_acts library a s w c)) (
      let m = act-moved library a s w c in
      refall library r (bit (is_work c (act library s c).result.answer)) m.from_queue m.from_stacks m.to_queue m.to_stacks
      (step_falls library r a m.step o (reform m.from_queue m.from_stacks w)))

  -- the potential after a list of calls, and that the state is well formed
  run_falls : (s : AgentState) → WellFormed library s → (calls : List Call) → Every (λ c. not (is_report c)) calls
      → Falls (work_in (run library s calls)) s (final_of s (run library s calls)) × WellFormed library (final_of s (run library s calls))
  unfolding run final_of
  run_falls s w [] z = (omega arith, w)
  run_falls s w (c ∷ calls) z =
      let here = call_falls s w c (not-true (is_report c) (bit_every (not (is_report c)) (omega arith))) in
      let rest = run_falls (call library s c).state (call_formed library a s w c) calls (omega arith) in
      (omega (arith, here, rest.0), rest.1)

  pub rests : (s : AgentState) → is_well_formed library s ≡ true → (calls : List Call) → Every (λ c. not (is_report c)) calls
      → RestsWithin library s (run library s calls)
  rests s e calls z =
      let w = test_formed library s e in
      let falls = run_falls s w calls z in
      omega (arith, falls.0, bounded library r s w, covered library r (final_of s (run library s calls)) falls.1)

  -- the same of a chain of entries
  pub chain_rests : (s : AgentState) → is_well_formed library s ≡ true → (entries : List Entry) → IsChain library s entries
      → Every (λ c. not (is_report c)) (map (λ e. e.call) entries) → RestsWithin library s entries
  chain_rests s e entries c z = subst (RestsWithin library s) (chain_run library s entries c) (rests s e (map (λ x. x.call) entries) z)
