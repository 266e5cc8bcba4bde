-- Two agents that no call tells apart (document 02, request 3: a restored agent "carries on as the saved one would").
-- What stands in an array past its count is no part of the state (document 01, "State"), and may differ.
use Rattle.std.specs.Prelude.{◌≡◌}
use Rattle.state.specs.View.{view_state}
use Rattle.load.specs.declared.Agent.{Agent}
use Rattle.load.specs.Load.{bytes_of, is_well_formed_agent}

-- the same library, the same state, and both well formed or neither
pub record Alike (a b : Agent) : Type 0 where
  pub test : is_well_formed_agent a ≡ is_well_formed_agent b
  pub library : bytes_of a ≡ bytes_of b
  pub state : view_state a.state ≡ view_state b.state
