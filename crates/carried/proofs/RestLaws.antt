-- It comes to rest (document 02, request 6), across shifts: a save and a restore give the agent no further work.
use Prim.Native.Nat.{◌≤◌}
use mathlib.Core.Path.{◌≡◌}
use mathlib.Core.Bool.{true, not}
use mathlib.Core.List.{List, ◌++◌}
use lib.ListN.{length}
use Rattle.lists.specs.Counts.{Every}
use Rattle.library.specs.Layout.{library_of}
use Rattle.model.specs.Run.{IsChain}
use Rattle.state.specs.View.{view_state}
use Rattle.load.specs.declared.Agent.{Agent}
use Rattle.load.specs.Load.{bytes_of, is_well_formed_agent}
use Rattle.agent.specs.Chain.{Link, entries_of, calls_of}
use Rattle.rest.specs.Rest.{is_report, is_cycle, work_in, bound_of, RestsWithin, AtRest}
use Rattle.rest.proofs.ChainLaws.{Modelled, modelled_rests, modelled_spent, modelled_cycles, model_chain}
use Rattle.carried.specs.Shifts.{Shifts}
use Rattle.carried.proofs.ShiftLaws.{across_shifts}

module _ (a : Agent) (formed : is_well_formed_agent a ≡ true) where
  modelled : {b : Agent} {links : List Link} → Shifts a links b → Modelled a formed links
  modelled =
      across_shifts (λ entries state. IsChain (library_of (bytes_of a)) (view_state a.state) entries)
      (λ end unbroken c. model_chain a formed c)

  -- cycles and outcomes of any number of shifts, without a report: at most so many are accepted and not idle
  pub comes_to_rest : {b : Agent} {links : List Link} → Shifts a links b → Every (λ c. not (is_report c)) (calls_of links)
      → RestsWithin (library_of (bytes_of a)) (view_state a.state) (entries_of links)
  comes_to_rest {links = links} s = modelled_rests a formed links (modelled s)

  module _ {b : Agent} (links more : List Link) (s : Shifts a (links ++ more) b) where
    -- once so many have counted, every further cycle is idle or refused and every further outcome refused, until a report comes
    pub at_rest_once_spent : Every (λ x. not (is_report x)) (calls_of (links ++ more))
        → bound_of (library_of (bytes_of a)) (view_state a.state) ≤ work_in (entries_of links) → AtRest (entries_of more)
    at_rest_once_spent = modelled_spent a formed links more (modelled s)

    -- after so many cycles in a row every further cycle is idle or refused
    pub at_rest-after_cycles : Every is_cycle (calls_of (links ++ more))
        → bound_of (library_of (bytes_of a)) (view_state a.state) ≤ length links → AtRest (entries_of more)
    at_rest-after_cycles = modelled_cycles a formed links more (modelled s)
