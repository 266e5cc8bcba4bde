-- It comes to rest, over chains of contracts: from every well-formed agent, whatever the devices answer.
use Prim.Native.Nat.{ℕ, ◌≤◌}
use mathlib.Core.Path.{◌≡◌, sym, subst, subst⁻¹}
use mathlib.Core.Bool.{true, not}
use mathlib.Core.List.{List, ◌++◌, map, map-map, map-append}
use lib.ListN.{length, length-map}
use Rattle.lists.specs.Counts.{Every}
use Rattle.library.specs.Layout.{library_of}
use Rattle.model.specs.Run.{Entry, IsChain}
use Rattle.rest.specs.Rest.{is_report, is_cycle, work_in, bound_of, RestsWithin, AtRest}
use Rattle.rest.proofs.RestLaws.{cycles_quiet, spent_at_rest, cycles_at_rest}
use Rattle.rest.proofs.LibraryLaws.{chain_rests}
use Rattle.state.specs.View.{view_state}
use Rattle.formed.proofs.WellFormedLaws.{test_parts}
use Rattle.load.specs.declared.Agent.{Agent}
use Rattle.load.specs.Load.{bytes_of, is_well_formed_agent}
use Rattle.agent.specs.Chain.{Link, Chain, entry_of, entries_of, calls_of}
use Rattle.agent.proofs.ChainLaws.{own_held, chain_is}

module _ (a : Agent) (formed : is_well_formed_agent a ≡ true) where
  -- ---- Calls and answers that are the model's, from what the agent's state means

  abbrev pub Modelled : List Link → Type 0
  Modelled links = IsChain (library_of (bytes_of a)) (view_state a.state) (entries_of links)

  calls_are : (links : List Link) → calls_of links ≡ map (λ (e : Entry). e.call) (entries_of links)
  calls_are links = sym (map-map (λ (e : Entry). e.call) entry_of links)

  pub modelled_rests : (links : List Link) → Modelled links → Every (λ c. not (is_report c)) (calls_of links)
      → RestsWithin (library_of (bytes_of a)) (view_state a.state) (entries_of links)
  modelled_rests links m quiet =
      let w = test_parts a.library a.length a.state formed in
      chain_rests (bytes_of a) w.accepted (view_state a.state) w.formed (entries_of links) m
      (subst (Every (λ x. not (is_report x))) (calls_are links) quiet)

  module _ (links more : List Link) (m : Modelled (links ++ more)) where
    parts : entries_of (links ++ more) ≡ entries_of links ++ entries_of more
    parts = map-append entry_of links more

    pub modelled_spent : Every (λ x. not (is_report x)) (calls_of (links ++ more))
        → bound_of (library_of (bytes_of a)) (view_state a.state) ≤ work_in (entries_of links) → AtRest (entries_of more)
    modelled_spent quiet spent =
        spent_at_rest (library_of (bytes_of a)) (view_state a.state) (entries_of links) (entries_of more)
        (subst (RestsWithin (library_of (bytes_of a)) (view_state a.state)) parts (modelled_rests (links ++ more) m quiet)) spent

    pub modelled_cycles : Every is_cycle (calls_of (links ++ more))
        → bound_of (library_of (bytes_of a)) (view_state a.state) ≤ length links → AtRest (entries_of more)
    modelled_cycles cycles enough =
        let library = library_of (bytes_of a) in
        let s = view_state a.state in
        let calls : Every is_cycle (map (λ (e : Entry). e.call) (entries_of links ++ entries_of more)) =
        subst (λ (es : List Entry). Every is_cycle (map (λ (e : Entry). e.call) es)) parts (subst (Every is_cycle) (calls_are (links ++ more)) cycles) in
        cycles_at_rest library s (entries_of links) (entries_of more)
        (subst (RestsWithin library s) parts (modelled_rests (links ++ more) m (cycles_quiet (calls_of (links ++ more)) cycles)))
        (subst (IsChain library s) parts m) calls
        (subst⁻¹ (λ (n : ℕ). bound_of library s ≤ n) (length-map links entry_of) enough)

  -- ---- Chains of contracts

  pub model_chain : {b : Agent} {links : List Link} → Chain a links b → Modelled links
  model_chain c = chain_is (bytes_of a) (test_parts a.library a.length a.state formed).accepted (own_held a formed) c

  -- a chain of cycles and outcomes has at most so many that are accepted and not idle
  pub comes_to_rest : {b : Agent} {links : List Link} → Chain a links b → Every (λ c. not (is_report c)) (calls_of links)
      → RestsWithin (library_of (bytes_of a)) (view_state a.state) (entries_of links)
  comes_to_rest {links = links} c = modelled_rests links (model_chain c)

  module _ {b : Agent} (links more : List Link) (c : Chain a (links ++ more) b) where
    -- once so many have counted, every further cycle is idle or refused and every further outcome refused, until a report comes
    pub at_rest_once_spent : Every (λ x. not (is_report x)) (calls_of (links ++ more))
        → bound_of (library_of (bytes_of a)) (view_state a.state) ≤ work_in (entries_of links) → AtRest (entries_of more)
    at_rest_once_spent = modelled_spent links more (model_chain c)

    -- after so many cycles in a row every further cycle is idle or refused
    pub at_rest-after_cycles : Every is_cycle (calls_of (links ++ more))
        → bound_of (library_of (bytes_of a)) (view_state a.state) ≤ length links → AtRest (entries_of more)
    at_rest-after_cycles = modelled_cycles links more (model_chain c)
