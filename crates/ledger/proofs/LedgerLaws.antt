-- The change call, applied to the changes that the results of a chain of calls report, gives the agent's belief table:
-- what a result reports takes effect, so the change call passes over none of it and does what the agent did.
use Prim.Native.Nat.{ℕ}
use native.Mathlib.Omega.{arith}
use mathlib.Core.Path.{◌≡◌, refl, ap, sym, subst, subst⁻¹, ◌∙◌}
use mathlib.Core.Bool.{Bool, true, false, ◌&&◌}
use mathlib.Core.List.{List, [], ◌∷◌}
use Rattle.std.specs.Prelude.{Result, Ok}
use Rattle.refusals.specs.declared.Refusal.{Refusal}
use Rattle.lists.specs.Counts.{Every}
use Rattle.lists.proofs.BoolLaws.{by_cases, and_parts}
use Rattle.literal.specs.declared.Literal.{Literal}
use Rattle.literal.specs.Literal.{is_ground}
use Rattle.belief.specs.declared.Beliefs.{Beliefs}
use Rattle.belief.specs.declared.Change.{Change}
use Rattle.belief.specs.Beliefs.{view, are_beliefs, change, replay}
use Rattle.belief.specs.Table.{add, remove}
use Rattle.belief.proofs.BeliefLaws.{table-both, replay_join}
use Rattle.library.specs.Layout.{library_of, beliefs_of}
use Rattle.model.specs.State.{AgentState, Call, Reply, view_result}
use Rattle.model.specs.Changes.{alters, effective, are_effective}
use Rattle.model.specs.Calls.{call_by, call}
use Rattle.model.proofs.ChangeLaws.{effective_join, effective_alone}
use Rattle.model.proofs.CallLaws.{promises}
use Rattle.model.proofs.AcceptedLibrary.{acceptable}
use Rattle.state.specs.View.{view_state}
use Rattle.load.specs.declared.Agent.{Agent}
use Rattle.agent.specs.declared.Replied.{Replied}
use Rattle.load.specs.Load.{bytes_of, Holds, Loads, is_well_formed_agent}
use Rattle.agent.specs.Calls.{view_replied, Calls}
use Rattle.agent.specs.Chain.{Link, Chain}
use Rattle.formed.proofs.WellFormedLaws.{test_parts}
use Rattle.trials.proofs.AlteredLaws.{change-removes, change-adds}
use Rattle.change.specs.Changes.{step, steps, changed}
use Rattle.change.proofs.ChangeLaws.{passed_open, Sound, step_sound, steps_sound, changed_sound}
use Rattle.ledger.specs.Ledger.{changes_of, reported, after, Copied, is_accepted, Agrees}
use Rattle.ledger.specs.Ledger as Ledger

-- ---- What the agent's results report

-- the changes take effect one after the other, and make of one agent's beliefs the other's
record Tracks (a : Agent) (changes : List Change) (b : Agent) : Type 0 where
  effect : are_effective (view a.state.beliefs) changes ≡ true
  table : view b.state.beliefs ≡ replay (view a.state.beliefs) changes

module _ (a : Agent) (c : Call) (r : Replied) (h : Calls a c r) where
  -- a call on a well-formed agent is the model's
  call_formed : is_well_formed_agent a ≡ true → Tracks a (view_result r.result).changes r.agent
  unfolding call
  call_formed e =
      let library = library_of (bytes_of a) in
      let s = view_state a.state in
      let w = test_parts a.library a.length a.state e in
      let same : view_replied r ≡ call library s c = h.means ∙ ap (λ (b : Bool). call_by b library s c) (e ∙ sym w.formed) in
      let kept = promises library (acceptable (bytes_of a) w.accepted) s w.formed c in
      record {
        effect = subst⁻¹ (λ (x : Reply). are_effective s.beliefs x.result.changes ≡ true) same kept.effective;
        table = subst⁻¹ (λ (x : Reply). x.state.beliefs ≡ replay s.beliefs x.result.changes) same kept.table;
      }

  -- one that is not well formed is refused, with no changes
  call-broken : is_well_formed_agent a ≡ false → Tracks a (view_result r.result).changes r.agent
  unfolding call_by are_effective replay
  call-broken e =
      let s = view_state a.state in
      let same : view_replied r ≡ call_by false (library_of (bytes_of a)) s c = h.means ∙ ap (λ (b : Bool). call_by b (library_of (bytes_of a)) s c) e in
      record {
        effect = subst⁻¹ (λ (x : Reply). are_effective s.beliefs x.result.changes ≡ true) same refl;
        table = subst⁻¹ (λ (x : Reply). x.state.beliefs ≡ replay s.beliefs x.result.changes) same refl;
      }

  call_tracks : Tracks a (view_result r.result).changes r.agent
  call_tracks = by_cases (is_well_formed_agent a) call_formed call-broken

chain_tracks : {a b : Agent} {links : List Link} → Chain a links b → Tracks a (reported links) b
unfolding are_effective replay
chain_tracks Chain.start = record { effect = refl; table = refl }
chain_tracks {a = a} (Chain.then {links = links} link c rest) =
    let one = call_tracks a link.call link.given c in
    let more = chain_tracks rest in
    let beliefs = view a.state.beliefs in
    record {
      effect = effective_join beliefs (changes_of link) (reported links) one.effect
          (subst (λ (bs : List Literal). are_effective bs (reported links) ≡ true) one.table more.effect);
      table = more.table ∙ ap (λ (bs : List Literal). replay bs (reported links)) one.table ∙ sym (replay_join beliefs (changes_of link) (reported links));
    }

-- ---- What the change call makes of them

module _ (table : Beliefs) (h : Sound table) (c : Change) where
  step-removes : is_ground c.literal ≡ true → c.removes ≡ true → step table c ≡ (remove table c.literal).table
  unfolding step
  step-removes g r = rw (g, r)

  step-adds : is_ground c.literal ≡ true → c.removes ≡ false → step table c ≡ (add table c.literal).table
  unfolding step
  step-adds g r = rw (g, r)

  -- the beliefs after a change are those with the change where it takes effect, and the same ones where it does not
  pub step-view : view (step table c) ≡ replay (view table) (effective (view table) c)
  unfolding effective replay
  step-view = by_cases (is_ground c.literal)
      (λ g. by_cases c.removes
      (λ r. ap view (step-removes g r) ∙ (change-removes table c h.places g r).table)
      (λ r. ap view (step-adds g r) ∙ (change-adds table c h.places g r).table))
      (λ g. ap view (passed_open table c g) ∙ rw g)

  -- so one that takes effect is applied
  step_effect : (is_ground c.literal && alters (view table) c) ≡ true → view (step table c) ≡ change (view table) c
  unfolding replay
  step_effect e = step-view ∙ ap (replay (view table)) (effective_alone (view table) c e)

steps_effect : (table : Beliefs) → Sound table → (changes : List Change) → are_effective (view table) changes ≡ true → view (steps table changes) ≡ replay (view table) changes
unfolding are_effective steps replay
steps_effect table h [] e = refl
steps_effect table h (c ∷ changes) e =
    let parts = and_parts (is_ground c.literal && alters (view table) c) (are_effective (change (view table) c) changes) e in
    let now = step_effect table h c parts.0 in
    steps_effect (step table c) (step_sound table h c) changes (subst⁻¹ (λ (bs : List Literal). are_effective bs changes ≡ true) now parts.1)
    ∙ ap (λ (bs : List Literal). replay bs changes) now

-- ---- The copy and the agent

-- the call was accepted, its table keeps the rules and has the agent's beliefs
record Follows (answer : Result Beliefs Refusal) (b : Agent) : Type 0 where
  table : Beliefs
  accepted : answer ≡ Ok table
  sound : Sound table
  agrees : Agrees table b

follows : (table : Beliefs) → Sound table → (a b : Agent) → Agrees table a → (changes : List Change) → Tracks a changes b
    → (answer : Result Beliefs Refusal) → answer ≡ changed table changes → Follows answer b
follows table h a b same changes t answer e =
    let effect = subst⁻¹ (λ (bs : List Literal). are_effective bs changes ≡ true) same t.effect in
    record {
      table = steps table changes;
      accepted = e ∙ changed_sound table h changes;
      sound = steps_sound table h changes;
      agrees = steps_effect table h changes effect ∙ ap (λ (bs : List Literal). replay bs changes) same ∙ sym t.table;
    }

module _ {a b : Agent} {links : List Link} (c : Chain a links b) (table : Beliefs) (h : Sound table) (same : Agrees table a) where
  -- from any agent, and any table with its beliefs: all reported changes in one call
  pub reported-agrees : (answer : Result Beliefs Refusal) → answer ≡ changed table (reported links)
      → (last : Beliefs) × (answer ≡ Ok last) × Agrees last b
  reported-agrees answer e =
      let all = follows table h a b same (reported links) (chain_tracks c) answer e in (all.table, all.accepted, all.agrees)

-- and call by call
pub copied-agrees : {a b : Agent} {links : List Link} {answers : List (Result Beliefs Refusal)} {table last : Beliefs} → Chain a links b
    → Copied table links answers last → Sound table → Agrees table a → Every is_accepted answers × Agrees last b
copied-agrees Chain.start Ledger.start h same = (refl, same)
copied-agrees {a = a} {table = table} (Chain.then link c rest) (Ledger.then _ answer e copied) h same =
    let one = follows table h a link.given.agent same (changes_of link) (call_tracks a link.call link.given c) answer e in
    let kept : after table answer ≡ one.table = ap (after table) one.accepted in
    let more = copied-agrees rest copied (subst⁻¹ Sound kept one.sound)
    (subst⁻¹ (λ (t : Beliefs). Agrees t link.given.agent) kept one.agrees) in
    (rw one.accepted (omega (arith, more.0)), more.1)

-- ---- From a loaded agent: the ledger begins with the loaded beliefs

module _ (bytes : List ℕ) (l : Agent) (loads : Loads bytes (Ok l)) {b : Agent} {links : List Link} (c : Chain l links b) where
  module _ (table : Beliefs) (begins : Holds (beliefs_of bytes) table) where
    begins_sound : Sound table
    unfolding library_of
    begins_sound = record {
      places = begins.places;
      rules = table-both table begins.few
          (subst⁻¹ (λ (bs : List Literal). are_beliefs bs ≡ true) begins.means (acceptable bytes loads.accepted).beliefs);
    }

    begins_same : Agrees table l
    unfolding library_of
    begins_same = begins.means ∙ ap (λ (s : AgentState). s.beliefs) (sym loads.state)

    -- the change call on all the changes that the results report is accepted, and gives the agent's belief table
    pub ledger_agrees : (answer : Result Beliefs Refusal) → answer ≡ changed table (reported links)
        → (last : Beliefs) × (answer ≡ Ok last) × Agrees last b
    ledger_agrees = reported-agrees c table begins_sound begins_same

    -- the change call on the changes of each result, one call after the other, is always accepted, and keeps the agent's belief table
    pub copy_agrees : {answers : List (Result Beliefs Refusal)} {last : Beliefs} → Copied table links answers last → Every is_accepted answers × Agrees last b
    copy_agrees copied = copied-agrees c copied begins_sound begins_same

  -- so does a ledger that begins with the table of the agent that load gave
  pub loaded_copy_agrees : {answers : List (Result Beliefs Refusal)} {last : Beliefs} → Copied l.state.beliefs links answers last
      → Every is_accepted answers × Agrees last b
  loaded_copy_agrees = copy_agrees l.state.beliefs loads.table
