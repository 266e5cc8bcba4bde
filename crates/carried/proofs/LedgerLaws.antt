-- A ledger's own copy of the belief table agrees with the agent's (document 01, the paragraph on demand 3), across shifts:
-- the ledger keeps its table and need not know that the agent was saved and restored.
use Prim.Native.Nat.{ℕ}
use native.Mathlib.Omega.{arith}
use mathlib.Core.Path.{◌≡◌, refl, ap, sym, ◌∙◌}
use mathlib.Core.List.{List, [], ◌∷◌, ◌++◌}
use lib.ListN.{length}
use Rattle.std.specs.Prelude.{Result, Ok}
use Rattle.refusals.specs.declared.Refusal.{Refusal}
use Rattle.lists.specs.Counts.{each, Every}
use Rattle.belief.specs.declared.Beliefs.{Beliefs}
use Rattle.belief.specs.declared.Change.{Change}
use Rattle.library.specs.Layout.{beliefs_of}
use Rattle.model.specs.State.{AgentState}
use Rattle.model.specs.Run.{Entry}
use Rattle.load.specs.declared.Agent.{Agent}
use Rattle.load.specs.Load.{Holds, Loads}
use Rattle.agent.specs.Chain.{Link, entry_of, entries_of}
use Rattle.change.specs.Changes.{changed}
use Rattle.ledger.specs.Ledger.{changes_of, reported, Copied, is_accepted, Agrees}
use Rattle.ledger.specs.Ledger as Ledger
use Rattle.ledger.proofs.LedgerLaws as LedgerLaws
use Rattle.carried.specs.Alike.{Alike}
use Rattle.carried.specs.Shifts.{Shifts, Unbroken}
use Rattle.carried.proofs.ShiftLaws.{unbroken_chain}

-- ---- Links with the same entries report the same changes

reported-entries : (links : List Link) → reported links ≡ each (λ (e : Entry). e.result.changes) (entries_of links)
reported-entries [] = refl
reported-entries (link ∷ links) = ap (λ (changes : List Change). changes_of link ++ changes) (reported-entries links)

copied_by : {table end : Beliefs} {answers : List (Result Beliefs Refusal)} (links others : List Link) → entries_of links ≡ entries_of others
    → Copied table links answers end → Copied table others answers end
copied_by [] [] e Ledger.start = Ledger.start
copied_by {table} (link ∷ links) (other ∷ others) e (Ledger.then _ answer h copied) =
    let here : entry_of link ≡ entry_of other = cc in
    let behind : entries_of links ≡ entries_of others = cc in
    Ledger.then other answer (h ∙ ap (λ (x : Entry). changed table x.result.changes) here) (copied_by links others behind copied)
copied_by links others e copied = let sizes = ap length e in absurd (omega (arith, sizes))

agrees-alike : (table : Beliefs) {a b : Agent} → Alike a b → Agrees table a → Agrees table b
agrees-alike table same agrees = agrees ∙ ap (λ (s : AgentState). s.beliefs) same.state

-- ---- From a loaded agent: the ledger begins with the loaded beliefs

module _ (bytes : List ℕ) (l : Agent) (loads : Loads bytes (Ok l)) {b : Agent} {links : List Link} (s : Shifts l links b) where
  u : Unbroken l links b
  u = unbroken_chain s

  same : reported u.unbroken ≡ reported links
  same = reported-entries u.unbroken ∙ ap (each (λ (e : Entry). e.result.changes)) u.entries ∙ sym (reported-entries links)

  module _ (table : Beliefs) (begins : Holds (beliefs_of bytes) table) where
    -- the change call on all the changes that the results report is accepted, and gives the agent's belief table
    pub ledger_agrees : (answer : Result Beliefs Refusal) → answer ≡ changed table (reported links)
        → (last : Beliefs) × (answer ≡ Ok last) × Agrees last b
    ledger_agrees answer e =
        let all = LedgerLaws.ledger_agrees bytes l loads u.chain table begins answer
        (e ∙ ap (changed table) (sym same)) in
        (all.0, all.1, agrees-alike all.0 u.alike all.2)

    -- the change call on the changes of each result, one call after the other, is always accepted, and keeps the agent's belief table
    pub copy_agrees : {answers : List (Result Beliefs Refusal)} {end : Beliefs} → Copied table links answers end → Every is_accepted answers × Agrees end b
    copy_agrees {end = end} copied =
        let own = copied_by links u.unbroken (sym u.entries) copied in
        let all = LedgerLaws.copy_agrees bytes l loads u.chain table begins own in
        (all.0, agrees-alike end u.alike all.1)

  -- so does a ledger that begins with the table of the agent that load gave
  pub loaded_copy_agrees : {answers : List (Result Beliefs Refusal)} {end : Beliefs} → Copied l.state.beliefs links answers end
      → Every is_accepted answers × Agrees end b
  loaded_copy_agrees = copy_agrees l.state.beliefs loads.table
