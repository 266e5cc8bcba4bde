-- The test for well-formed states on arrays and a library's bytes (document 01, "State", "Well formed means").
use Rattle.std.specs.Prelude.{ℕ, ◌≡◌, Bool, true, ◌&&◌, List, length, take, eqb, leb}
use Rattle.library.specs.Layout.{library_of}
use Rattle.accepted.specs.Refusal.{refusal_of}
use Rattle.model.specs.WellFormed.{is_well_formed}
use Rattle.state.specs.declared.State.{State}
use Rattle.state.specs.View.{view_state, counts_fit}

-- every count is within its array, and the state that the arrays mean keeps every rule
unfoldable pub is_state_formed : List ℕ → State → Bool
is_state_formed bytes s = counts_fit s && is_well_formed (library_of bytes) (view_state s)

-- the library is accepted, and the state is formed
unfoldable pub is_formed : List ℕ → State → Bool
is_formed bytes s = eqb (refusal_of bytes) 0 && is_state_formed bytes s

-- a library in the first bytes of an array is accepted, its length and every count are within their arrays,
-- and the state keeps every rule
unfoldable pub is_well_formed_with : List ℕ → ℕ → State → Bool
is_well_formed_with library size s = leb size (length library) && is_formed (take size library) s

-- what the test shows: the library is accepted, the counts fit and the state keeps every rule
pub record WellFormedState (bytes : List ℕ) (s : State) : Type 0 where
  pub accepted : refusal_of bytes ≡ 0
  pub fit : counts_fit s ≡ true
  pub formed : is_well_formed (library_of bytes) (view_state s) ≡ true
