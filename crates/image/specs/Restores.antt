-- What restore gives: 12 where the bytes are no image, then 10 where the library is refused or the state not well formed
-- (docs/IMAGE-FORMAT.md, "Restoring: 12, then 10"; document 02, request 3).
use Rattle.std.specs.Prelude.{ℕ, ◌≤◌, ◌≡◌, true, List, length, Result, MatchResult}
use Rattle.refusals.specs.declared.Refusal.{Refusal}
use Rattle.refusals.specs.Numbers.{number_of}
use Rattle.accepted.specs.Refusal.{most_bytes}
use Rattle.state.specs.View.{view_state, counts_fit}
use Rattle.load.specs.declared.Agent.{Agent}
use Rattle.load.specs.Load.{bytes_of, Holds}
use Rattle.image.specs.Image.{library_in, state_in, image_refusal}

-- an agent with the library and the state of the image
pub record Restored (image : List ℕ) (a : Agent) : Type 0 where
  pub accepted : image_refusal image ≡ 0
  pub copy : bytes_of a ≡ library_in image
  pub state : view_state a.state ≡ state_in image
  pub table : Holds (state_in image).beliefs a.state.beliefs
  -- every count is within its array, and the library's array has its length
  pub fit : counts_fit a.state ≡ true
  pub within : a.length ≤ most_bytes
  pub places : length a.library ≡ most_bytes

-- the agent, or the refusal of bytes that are no image of a well-formed agent; then there is no agent
abbrev pub Restores : List ℕ → Result Agent Refusal → Type 0
Restores image r = MatchResult r (Restored image) (λ e. number_of e ≡ image_refusal image)
