-- Agents that are alike give the same results and stay alike, by a call and by a chain of calls;
-- and what one answers, the other may answer too.
use Prim.Native.Nat.{ℕ}
use native.Mathlib.Omega.{arith}
use mathlib.Core.Path.{◌≡◌, refl, ap, sym, subst⁻¹, ◌∙◌}
use mathlib.Core.Bool.{Bool, true, false}
use mathlib.Core.List.{List, ◌∷◌}
use lib.ListN.{length}
use Rattle.lists.proofs.BoolLaws.{by_cases, both_ways}
use Rattle.library.specs.Layout.{library_of}
use Rattle.model.specs.State.{AgentState, Call, Reply, view_result}
use Rattle.model.specs.Calls.{is_refusal, call_by}
use Rattle.model.specs.Run.{entry}
use Rattle.state.specs.View.{view_state}
use Rattle.formed.proofs.WellFormedLaws.{test_parts}
use Rattle.load.specs.declared.Agent.{Agent}
use Rattle.load.specs.Load.{bytes_of, is_well_formed_agent}
use Rattle.agent.specs.declared.Replied.{Replied}
use Rattle.agent.specs.Calls.{view_replied, Calls}
use Rattle.agent.specs.Chain.{Link, Chain, entry_of, entries_of, calls_of}
use Rattle.agent.specs.Feed.{in_state}
use Rattle.agent.proofs.ChainLaws.{call_library, call_test}
use Rattle.carried.specs.Alike.{Alike}

pub alike_itself : (a : Agent) → Alike a a
alike_itself a = record { test = refl; library = refl; state = refl }

pub alike_back : {a b : Agent} → Alike a b → Alike b a
alike_back s = record { test = sym s.test; library = sym s.library; state = sym s.state }

pub alike_then : {a b c : Agent} → Alike a b → Alike b c → Alike a c
alike_then s t = record { test = s.test ∙ t.test; library = s.library ∙ t.library; state = s.state ∙ t.state }

-- ---- A call

-- an answer that the contract of a call allows
pub record Allowed (a : Agent) (c : Call) : Type 0 where
  pub given : Replied
  pub calls : Calls a c given

module _ {a b : Agent} (same : Alike a b) (c : Call) where
  reply : call_by (is_well_formed_agent a) (library_of (bytes_of a)) (view_state a.state) c
      ≡ call_by (is_well_formed_agent b) (library_of (bytes_of b)) (view_state b.state) c
  reply =
      ap (λ (t : Bool). call_by t (library_of (bytes_of a)) (view_state a.state) c) same.test
      ∙ ap (λ (l : List ℕ). call_by (is_well_formed_agent b) (library_of l) (view_state a.state) c) same.library
      ∙ ap (λ (s : AgentState). call_by (is_well_formed_agent b) (library_of (bytes_of b)) s c) same.state

  module _ {r q : Replied} (h : Calls a c r) (k : Calls b c q) where
    -- the same result and the same state
    pub same_reply : view_replied r ≡ view_replied q
    same_reply = h.means ∙ reply ∙ sym k.means

    -- and the agents after it are alike
    pub alike-after : Alike r.agent q.agent
    alike-after = record {
      test = call_test a (record { call = c; given = r }) h ∙ same.test ∙ sym (call_test b (record { call = c; given = q }) k);
      library = call_library h ∙ same.library ∙ sym (call_library k);
      state = ap (λ (y : Reply). y.state) same_reply;
    }

  module _ (r : Replied) (k : Calls b c r) where
    -- a refusal leaves the agent as it was
    mirrored_refusal : is_refusal r.result.answer ≡ true → Allowed a c
    mirrored_refusal e =
        let told : AgentState → Reply = λ s. record { result = view_result r.result; state = s } in
        let unchanged = same.state ∙ ap (λ (x : Agent). view_state x.state) (sym (k.refused e)) in
        record {
          given = record { agent = a; result = r.result };
          calls = record {
            means = ap told unchanged ∙ k.means ∙ sym reply;
            library = refl;
            length = refl;
            refused = λ x. refl;
            fit = λ w. (test_parts a.library a.length a.state w).fit;
            count = k.count;
          };
        }

    mirrored_change : is_refusal r.result.answer ≡ false → Allowed a c
    mirrored_change e = record {
      given = record { agent = in_state a r.agent.state; result = r.result };
      calls = record {
        means = k.means ∙ sym reply;
        library = refl;
        length = refl;
        refused = λ x. both_ways x e;
        fit = λ w. k.fit (sym same.test ∙ w);
        count = k.count;
      };
    }

    -- what one answers, the other may answer too, in its own arrays
    pub mirrored : Allowed a c
    mirrored = by_cases (is_refusal r.result.answer) mirrored_refusal mirrored_change

-- ---- A chain of calls

-- two chains with the same calls: the results and states are the same, and the agents after them are alike
pub record SameEnd (links others : List Link) (c d : Agent) : Type 0 where
  pub entries : entries_of links ≡ entries_of others
  pub alike : Alike c d

pub same_entry : (c d : Call) (r q : Replied) → c ≡ d → view_replied r ≡ view_replied q
    → entry_of (record { call = c; given = r }) ≡ entry_of (record { call = d; given = q })
same_entry c d r q e f = λ i. entry (e i) (f i)

pub chains_alike : {a b c d : Agent} {links others : List Link} → Alike a b → Chain a links c → Chain b others d
    → calls_of links ≡ calls_of others → SameEnd links others c d
chains_alike same Chain.start Chain.start e = record { entries = refl; alike = same }
chains_alike {a} {b} same (Chain.then {links = links} l h rest) (Chain.then {links = others} m k more) e =
    let here : l.call ≡ m.call = cc in
    let behind : calls_of links ≡ calls_of others = cc in
    let other : Calls b l.call m.given = subst⁻¹ (λ (c : Call). Calls b c m.given) here k in
    let end = chains_alike (alike-after same l.call h other) rest more behind in
    let entries = end.entries in
    let first = same_entry l.call m.call l.given m.given here (same_reply same l.call h other) in
    record { entries = λ i. first i ∷ entries i; alike = end.alike }
chains_alike same c d e = let sizes = ap length e in absurd (omega (arith, sizes))
