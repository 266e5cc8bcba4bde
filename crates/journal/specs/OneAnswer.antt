-- What is the same in two answers of `feed`: all that a caller can see of them.
use Rattle.std.specs.Prelude.{ℕ, ◌≡◌, List}
use Rattle.state.specs.View.{view_state}
use Rattle.stream.specs.Carried.{begun}
use Rattle.agent.specs.declared.feed.Fed.{Fed}

-- how much was read and written, every byte of the output, the line so far, and the agent by its library and what its state means
pub record Same (after other : List ℕ) (r q : Fed) : Type 0 where
  pub read : r.read ≡ q.read
  pub wrote : r.wrote ≡ q.wrote
  pub bytes : after ≡ other
  pub so_far : begun r.carry ≡ begun q.carry
  pub library : r.agent.library ≡ q.agent.library
  pub length : r.agent.length ≡ q.agent.length
  pub state : view_state r.agent.state ≡ view_state q.agent.state
