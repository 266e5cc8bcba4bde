-- Demand 3 over chains of contracts: every chain from a loaded agent is a run of the model.
use Prim.Native.Nat.{ℕ, ◌≤◌}
use mathlib.Core.Path.{◌≡◌, refl, ap, sym, subst, subst⁻¹, ◌∙◌}
use mathlib.Core.Bool.{Bool, true}
use mathlib.Core.List.{List, map-map}
use lib.ListN.{length, take}
use Rattle.lists.specs.Counts.{Every}
use Rattle.lists.proofs.BoolLaws.{by_cases}
use Rattle.std.specs.Prelude.{Ok}
use Rattle.library.specs.Layout.{library_of, beliefs_of}
use Rattle.accepted.specs.Refusal.{refusal_of}
use Rattle.model.specs.State.{AgentState, Call, Reply}
use Rattle.model.specs.Calls.{is_refusal, call_by, call, loaded}
use Rattle.model.specs.WellFormed.{is_well_formed}
use Rattle.model.specs.Promises.{is_not_ten}
use Rattle.model.specs.Run.{Entry, entry, run, final_of, IsChain}
use Rattle.model.specs.Demand3.{Demand3}
use Rattle.model.proofs.CallLaws.{promises}
use Rattle.model.proofs.Demand3Proof.{chain_run, chain_demand_3, chain_never_ten}
use Rattle.model.proofs.AcceptedLibrary.{acceptable, loaded_well_formed}
use Rattle.state.specs.View.{view_state, counts_fit}
use Rattle.formed.specs.Formed.{WellFormedState}
use Rattle.formed.proofs.WellFormedLaws.{test_within, test_parts, test_passes}
use Rattle.load.specs.declared.Agent.{Agent}
use Rattle.load.specs.Load.{bytes_of, Loads, is_well_formed_agent}
use Rattle.agent.specs.Calls.{view_replied, Calls}
use Rattle.agent.specs.declared.Replied.{Replied}
use Rattle.agent.specs.Chain.{Link, Chain, start, then, entry_of, entries_of, calls_of}

-- an agent that holds this library, accepted, in a well-formed state
pub record Held (bytes : List ℕ) (a : Agent) : Type 0 where
  pub size : a.length ≤ length a.library
  pub bytes_are : bytes_of a ≡ bytes
  pub fit : counts_fit a.state ≡ true
  pub formed : is_well_formed (library_of bytes) (view_state a.state) ≡ true

-- a well-formed agent holds its own library
pub own_held : (a : Agent) → is_well_formed_agent a ≡ true → Held (bytes_of a) a
own_held a e =
    let w = test_parts a.library a.length a.state e in
    record { size = test_within a.library a.length a.state e; bytes_are = refl; fit = w.fit; formed = w.formed }

-- the library after a call is the one before it
pub call_library : {a : Agent} {c : Call} {r : Replied} → Calls a c r → bytes_of r.agent ≡ bytes_of a
call_library {a} {r = r} c = ap (λ (n : ℕ). take n r.agent.library) c.length ∙ ap (take a.length) c.library

module _ (bytes : List ℕ) (accepted : refusal_of bytes ≡ 0) where
  pub held_formed : (a : Agent) → Held bytes a → is_well_formed_agent a ≡ true
  held_formed a h =
      test_passes a.library a.length a.state h.size
      (subst⁻¹ (λ (b : List ℕ). WellFormedState b a.state) h.bytes_are (record { accepted = accepted; fit = h.fit; formed = h.formed }))

  -- a call's contract is the model's call
  pub held_call : (a : Agent) → Held bytes a → (link : Link) → Calls a link.call link.given
      → view_replied link.given ≡ call (library_of bytes) (view_state a.state) link.call
  unfolding call
  held_call a h link c =
      c.means ∙ ap (λ (b : Bool). call_by b (library_of (bytes_of a)) (view_state a.state) link.call) (held_formed a h ∙ sym h.formed)
      ∙ ap (λ (b : List ℕ). call_by (is_well_formed (library_of bytes) (view_state a.state)) (library_of b) (view_state a.state) link.call) h.bytes_are

  -- and the agent after it is such an agent again
  pub held_next : (a : Agent) → Held bytes a → (link : Link) → Calls a link.call link.given → Held bytes link.given.agent
  held_next a h link c =
      let next = link.given.agent in
      let same = held_call a h link c in
      let size : next.length ≤ length next.library = subst⁻¹ (λ (n : ℕ). n ≤ length next.library) c.length (subst⁻¹ (λ (l : List ℕ). a.length ≤ length l) c.library h.size) in
      record {
        size = size;
        bytes_are = call_library c ∙ h.bytes_are;
        fit = c.fit (held_formed a h);
        formed = subst⁻¹ (λ (r : Reply). is_well_formed (library_of bytes) r.state ≡ true) same (promises (library_of bytes) (acceptable bytes accepted) (view_state a.state) h.formed link.call).formed;
      }

  -- a chain of contracts is one of the model's
  pub chain_is : {a b : Agent} {links : List Link} → Held bytes a → Chain a links b → IsChain (library_of bytes) (view_state a.state) (entries_of links)
  chain_is h start = tt
  chain_is {a = a} h (then link c rest) = (ap (entry link.call) (held_call a h link c), chain_is (held_next a h link c) rest)

  chain-end : {a b : Agent} {links : List Link} → Chain a links b → final_of (view_state a.state) (entries_of links) ≡ view_state b.state
  unfolding final_of
  chain-end start = refl
  chain-end (then link c rest) = chain-end rest

-- ---- From an agent that load gives

module _ (bytes : List ℕ) (l : Agent) (loads : Loads bytes (Ok l)) where
  -- it holds the library, in the loaded state
  pub loaded_held : Held bytes l
  loaded_held = record {
    size = subst⁻¹ (λ (n : ℕ). l.length ≤ n) loads.places loads.within;
    bytes_are = loads.copy;
    fit = loads.fit;
    formed = subst⁻¹ (λ (s : AgentState). is_well_formed (library_of bytes) s ≡ true) loads.state (loaded_well_formed bytes loads.accepted);
  }

  module _ {b : Agent} {links : List Link} (c : Chain l links b) where
    from_loaded_lem : IsChain (library_of bytes) (loaded (library_of bytes)) (entries_of links)
    from_loaded_lem = subst (λ (s : AgentState). IsChain (library_of bytes) s (entries_of links)) loads.state (chain_is bytes loads.accepted loaded_held c)

    at_end_lem : final_of (loaded (library_of bytes)) (entries_of links) ≡ view_state b.state
    at_end_lem = ap (λ (s : AgentState). final_of s (entries_of links)) (sym loads.state) ∙ chain-end bytes loads.accepted c

    -- demand 3, of every chain of calls and answers, whatever the library and the answers of the devices
    pub demand_3 : Demand3 (beliefs_of bytes) (entries_of links) (view_state b.state)
    unfolding library_of
    demand_3 =
        subst (Demand3 (beliefs_of bytes) (entries_of links)) at_end_lem
        (chain_demand_3 (library_of bytes) (acceptable bytes loads.accepted) (entries_of links) from_loaded_lem)

    -- 10 is never answered
    pub never_ten : Every is_not_ten (entries_of links)
    never_ten = chain_never_ten (library_of bytes) (acceptable bytes loads.accepted) (entries_of links) from_loaded_lem

    -- the entries are the model's run of the calls
    entries-run : run (library_of bytes) (loaded (library_of bytes)) (calls_of links) ≡ entries_of links
    entries-run =
        ap (run (library_of bytes) (loaded (library_of bytes))) (sym (map-map (λ (e : Entry). e.call) entry_of links))
        ∙ chain_run (library_of bytes) (loaded (library_of bytes)) (entries_of links) from_loaded_lem

-- results and states are the same whatever the places past the counts hold: they depend on the library and the calls alone
pub same_entries : (bytes : List ℕ) (l m : Agent) → Loads bytes (Ok l) → Loads bytes (Ok m)
    → {a b : Agent} {links others : List Link} → Chain l links a → Chain m others b
    → calls_of links ≡ calls_of others → entries_of links ≡ entries_of others
same_entries bytes l m x y c d e =
    sym (entries-run bytes l x c) ∙ ap (run (library_of bytes) (loaded (library_of bytes))) e ∙ entries-run bytes m y d

-- ---- The test of an agent

-- a call keeps an agent well formed, and one that is not as it is
pub call_test : (a : Agent) (link : Link) → Calls a link.call link.given → is_well_formed_agent link.given.agent ≡ is_well_formed_agent a
unfolding call_by
call_test a link c = by_cases (is_well_formed_agent a)
    (λ e. let w = test_parts a.library a.length a.state e in
    held_formed (bytes_of a) w.accepted link.given.agent (held_next (bytes_of a) w.accepted a (own_held a e) link c) ∙ sym e)
    (λ e. ap is_well_formed_agent (c.refused (ap (λ (y : Reply). is_refusal y.result.answer)
    (c.means ∙ ap (λ (b : Bool). call_by b (library_of (bytes_of a)) (view_state a.state) link.call) e))))
