-- What printing the board does (document 02, request 9): 10 where the agent is not well formed, then 14 where the buffer is too short.
use Rattle.std.specs.Prelude.{ℕ, ◌≡◌, List, leb, length, Result, MatchResult}
use Rattle.refusals.specs.declared.Refusal.{Refusal}
use Rattle.refusals.specs.Numbers.{number_of}
use Rattle.accepted.specs.Refusal.{stage}
use Rattle.writing.specs.Writing.{Wrote}
use Rattle.state.specs.View.{view_stacks}
use Rattle.load.specs.declared.Agent.{Agent}
use Rattle.load.specs.Load.{is_well_formed_agent}
use Rattle.board.specs.Page.{Row, rows_of, page_of}

-- what the lines of an agent's board show
abbrev pub rows_of_agent : Agent → List Row
rows_of_agent a = rows_of (view_stacks a.state)

-- an agent's board
abbrev pub board_of : Agent → List ℕ
board_of a = page_of (view_stacks a.state)

-- the longest board: a line for each of eight instances of eight stacks
abbrev pub most_board : ℕ
most_board = 4672

-- the refusal's number for a buffer with this room, 0 where there is none
unfoldable pub board_refusal : Agent → ℕ → ℕ
board_refusal a room = stage 10 (is_well_formed_agent a) (stage 14 (leb (length (board_of a)) room) 0)

-- the board stands in the first n bytes, and every other byte is as it was
pub record Shown (a : Agent) (before after : List ℕ) (n : ℕ) : Type 0 where
  pub accepted : board_refusal a (length before) ≡ 0
  pub page : Wrote (length before) before after 0 n (board_of a)

-- a refusal writes nothing: every byte is as it was
pub record Unshown (a : Agent) (before after : List ℕ) (e : Refusal) : Type 0 where
  pub number : number_of e ≡ board_refusal a (length before)
  pub unwritten : after ≡ before

-- how many bytes were written, or the refusal
abbrev pub Boards : Agent → List ℕ → List ℕ → Result ℕ Refusal → Type 0
Boards a before after r = MatchResult r (Shown a before after) (Unshown a before after)
