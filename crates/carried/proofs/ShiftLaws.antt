-- Carrying a shift over (document 02, request 3): saves and restores among the calls change no result and no state.
-- So what holds of every chain of calls holds across shifts: demand 3, and that 10 is never answered.
use Prim.Native.Nat.{ℕ}
use mathlib.Core.Path.{◌≡◌, refl, ap, sym, subst₂, ◌∙◌}
use mathlib.Core.Bool.{true}
use mathlib.Core.List.{List, [], ◌∷◌, map, map-map}
use Rattle.std.specs.Prelude.{Ok}
use Rattle.lists.specs.Counts.{Every}
use Rattle.library.specs.Layout.{beliefs_of}
use Rattle.model.specs.State.{AgentState, Call}
use Rattle.model.specs.Promises.{is_not_ten}
use Rattle.model.specs.Run.{Entry}
use Rattle.model.specs.Demand3.{Demand3}
use Rattle.state.specs.View.{view_state}
use Rattle.load.specs.declared.Agent.{Agent}
use Rattle.load.specs.Load.{Loads, is_well_formed_agent}
use Rattle.image.specs.Saves.{image_of_agent}
use Rattle.agent.specs.Chain.{Link, Chain, entry_of, entries_of, calls_of}
use Rattle.agent.proofs.ChainLaws.{held_formed, loaded_held}
use Rattle.agent.proofs.ChainLaws as ChainLaws
use Rattle.carried.specs.Alike.{Alike}
use Rattle.carried.specs.Shifts.{CarriedOver, Shifts, start, then, carried, Unbroken}
use Rattle.carried.proofs.AlikeLaws.{alike_itself, alike_back, alike_then, same_reply, alike-after, mirrored, same_entry, SameEnd, chains_alike}
use Rattle.carried.proofs.CarriedLaws.{alike-image, carried-alike}

-- ---- Every save and restore left out

unbroken_of : {a b c : Agent} {links : List Link} → Alike a b → Shifts b links c → Unbroken a links c
unbroken_of {a} same start = record { unbroken = []; last = a; chain = Chain.start; entries = refl; alike = same }
unbroken_of {a} same (then link k rest) =
    let m = mirrored same link.call link.given k in
    let u = unbroken_of {a = m.given.agent} (alike-after same link.call m.calls k) rest in
    let first = same_entry link.call link.call m.given link.given refl (same_reply same link.call m.calls k) in
    let more = u.entries in
    record {
      unbroken = record { call = link.call; given = m.given } ∷ u.unbroken;
      last = u.last;
      chain = Chain.then (record { call = link.call; given = m.given }) m.calls u.chain;
      entries = λ i. first i ∷ more i;
      alike = u.alike;
    }
unbroken_of {a} same (carried restored over rest) = unbroken_of {a = a} (alike_then same (carried-alike over)) rest

-- from every agent, whatever was saved and restored among the calls: there is a chain of the same calls with the same results and states,
-- and an agent at its end that no call tells from the one at the end of the shifts
pub unbroken_chain : {a b : Agent} {links : List Link} → Shifts a links b → Unbroken a links b
unbroken_chain {a} s = unbroken_of (alike_itself a) s

-- so what holds of the results and states of every chain of calls from an agent holds across shifts
pub across_shifts : {a : Agent} (P : List Entry → AgentState → Type 0)
    → ((b : Agent) (links : List Link) → Chain a links b → P (entries_of links) (view_state b.state))
    → {b : Agent} {links : List Link} → Shifts a links b → P (entries_of links) (view_state b.state)
across_shifts P holds s = let u = unbroken_chain s in subst₂ P u.entries u.alike.state (holds u.last u.unbroken u.chain)

-- a chain is such calls, with nothing saved among them
pub chain_shifts : {a b : Agent} {links : List Link} → Chain a links b → Shifts a links b
chain_shifts Chain.start = start
chain_shifts (Chain.then link h rest) = then link h (chain_shifts rest)

calls_of_lem : (links others : List Link) → entries_of links ≡ entries_of others → calls_of links ≡ calls_of others
calls_of_lem links others e =
    let call-in : Entry → Call = λ x. x.call in
    sym (map-map call-in entry_of links) ∙ ap (map call-in) e ∙ map-map call-in entry_of others

-- from agents that are alike, the same calls give the same results and states, and agents that are alike,
-- wherever and however often either is saved and restored
pub shifts_alike : {a b c d : Agent} {links others : List Link} → Alike a b → Shifts a links c → Shifts b others d
    → calls_of links ≡ calls_of others → SameEnd links others c d
shifts_alike {links = links} {others = others} same p q calls =
    let u = unbroken_chain p in
    let v = unbroken_chain q in
    let e = chains_alike same u.chain v.chain
    (calls_of_lem u.unbroken links u.entries ∙ calls ∙ sym (calls_of_lem v.unbroken others v.entries)) in
    record {
      entries = sym u.entries ∙ e.entries ∙ v.entries;
      alike = alike_then (alike_back u.alike) (alike_then e.alike v.alike);
    }

-- ---- The restored agent carries on as the saved one would

module _ {a b c restored : Agent} {links others : List Link} (over : CarriedOver a restored)
    (p : Shifts a links b) (q : Shifts restored others c) (calls : calls_of links ≡ calls_of others) where
  -- for every list of calls: result for result, state for state
  pub carries_on : entries_of links ≡ entries_of others
  carries_on = (shifts_alike (carried-alike over) p q calls).entries

  -- to the same state
  pub carries_to : view_state b.state ≡ view_state c.state
  carries_to = (shifts_alike (carried-alike over) p q calls).alike.state

  -- and the same image
  pub carries_image : image_of_agent b ≡ image_of_agent c
  carries_image = alike-image (shifts_alike (carried-alike over) p q calls).alike

-- ---- From an agent that load gives

module _ (bytes : List ℕ) where
  module _ (l : Agent) (loads : Loads bytes (Ok l)) {b : Agent} {links : List Link} (s : Shifts l links b) where
    -- demand 3, of every list of calls with saves and restores anywhere among them
    pub demand_3 : Demand3 (beliefs_of bytes) (entries_of links) (view_state b.state)
    demand_3 = across_shifts (Demand3 (beliefs_of bytes)) (λ end unbroken c. ChainLaws.demand_3 bytes l loads c) s

    -- 10 is never answered
    pub never_ten : Every is_not_ten (entries_of links)
    never_ten = across_shifts (λ entries state. Every is_not_ten entries) (λ end unbroken c. ChainLaws.never_ten bytes l loads c) s

  loaded_formed : (l : Agent) → Loads bytes (Ok l) → is_well_formed_agent l ≡ true
  loaded_formed l x = held_formed bytes x.accepted l (loaded_held bytes l x)

  loaded-alike : (l m : Agent) → Loads bytes (Ok l) → Loads bytes (Ok m) → Alike l m
  loaded-alike l m x y = record {
    test = loaded_formed l x ∙ sym (loaded_formed m y);
    library = x.copy ∙ sym y.copy;
    state = x.state ∙ sym y.state;
  }

  -- results and states depend on the library and the calls alone, and not on what was saved and restored, where, or how often
  pub same_entries : (l m : Agent) → Loads bytes (Ok l) → Loads bytes (Ok m)
      → {a b : Agent} {links others : List Link} → Shifts l links a → Shifts m others b
      → calls_of links ≡ calls_of others → entries_of links ≡ entries_of others
  same_entries l m x y p q calls = (shifts_alike (loaded-alike l m x y) p q calls).entries
