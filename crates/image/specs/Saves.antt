-- What save does: 10 where the agent is not well formed, then 13 where the buffer is shorter than the image
-- (docs/IMAGE-FORMAT.md, "Saving: 10, then 13"; document 02, request 3).
use Rattle.std.specs.Prelude.{ℕ, ◌≡◌, List, ◌++◌, leb, length, drop, Result, MatchResult}
use Rattle.refusals.specs.declared.Refusal.{Refusal}
use Rattle.refusals.specs.Numbers.{number_of}
use Rattle.accepted.specs.Refusal.{stage}
use Rattle.state.specs.View.{view_state}
use Rattle.load.specs.declared.Agent.{Agent}
use Rattle.load.specs.Load.{bytes_of, is_well_formed_agent}
use Rattle.image.specs.Image.{image_of}

-- the image of an agent
abbrev pub image_of_agent : Agent → List ℕ
image_of_agent a = image_of (bytes_of a) (view_state a.state)

-- the refusal of an agent, for a buffer of so many bytes
abbrev pub save_refusal : Agent → ℕ → ℕ
save_refusal a room = stage 10 (is_well_formed_agent a) (stage 13 (leb (length (image_of_agent a)) room) 0)

-- how many bytes were written, and every byte of the buffer: the image stands in front, and every byte past it is as it was
pub record Saved (a : Agent) (before after : List ℕ) (n : ℕ) : Type 0 where
  pub accepted : save_refusal a (length before) ≡ 0
  pub image : after ≡ image_of_agent a ++ drop (length (image_of_agent a)) before
  pub size : n ≡ length (image_of_agent a)

-- a refusal writes nothing: every byte is as it was
pub record Unsaved (a : Agent) (before after : List ℕ) (e : Refusal) : Type 0 where
  pub number : number_of e ≡ save_refusal a (length before)
  pub unwritten : after ≡ before

abbrev pub Saves : Agent → List ℕ → List ℕ → Result ℕ Refusal → Type 0
Saves a before after r = MatchResult r (Saved a before after) (Unsaved a before after)
