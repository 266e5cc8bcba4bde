-- What the bytes tell a ledger's keeper (the demands, 3: "by the letters below"): the history that demand 3 counts, and the belief changes.
use Rattle.std.specs.Prelude.{ℕ, ◌≡◌, List, get_or}
use Rattle.literal.specs.declared.Literal.{Literal}
use Rattle.model.specs.declared.Origin.{Origin}
use Rattle.model.specs.declared.Origin.TheVariants.{External, Goal}
use Rattle.model.specs.State.{Call}
use Rattle.model.specs.Lines.{Letter, T, I, N, U, M, S, B, D, G, E, F, X, Field, number, e, g, literal}
use Rattle.model.specs.Run.{Entry}
use Rattle.model.specs.History.{Spot, spot, making, History, nothing_yet, event_of, last_goal, note_made, note_succeeded, note_failed, note_taken, note_posted, note_closed, note_tried, history, replay_all}

-- ---- One line, by its letter and values

-- the value at a place; 0 where no number stands there
abbrev pub number_in : Field → ℕ
number_in (number n) = n
number_in e = 0
number_in g = 0
number_in (literal l) = 0

abbrev pub value_at : List Field → ℕ → ℕ
value_at values place = number_in (get_or values place e)

-- the branch that the first three values name
abbrev pub spot_in : List Field → Spot
spot_in values = spot (value_at values 0) (value_at values 1) (value_at values 2)

-- the event of an M, by the word before its number: e and an external number, or g and a poster
abbrev pub event_by : History → Field → ℕ → Origin
event_by h (number m) n = External n
event_by h e n = External n
event_by h g n = last_goal n h.posted
event_by h (literal l) n = External n

-- what a line adds to the history, beside the call that it answers
unfoldable pub note_line : History → Call → Letter → List Field → History
note_line h c T values = note_taken h (value_at values 0)
note_line h c I values = h
note_line h c N values = note_closed h (External (value_at values 0))
note_line h c U values = note_closed h (Goal (value_at values 0) (value_at values 1) (value_at values 2))
note_line h c M values = note_made h (making (value_at values 0) (value_at values 1) (event_by h (get_or values 2 e) (value_at values 3)))
note_line h c S values = note_tried h c (spot_in values)
note_line h c B values = note_tried h c (spot_in values)
note_line h c D values = note_tried h c (spot_in values)
note_line h c G values = note_posted (note_tried h c (spot_in values)) (spot_in values)
note_line h c E values = note_succeeded (note_closed h (event_of (value_at values 0) h.made)) (value_at values 0)
note_line h c F values = note_failed h (value_at values 0)
note_line h c X values = h

-- ---- All lines

-- two lists of calls with their results give one account
pub record SameAccount (entries others : List Entry) : Type 0 where
  -- of the instances made, succeeded and failed, the events taken, posted and closed, and the branches tried
  pub history_is : history nothing_yet entries ≡ history nothing_yet others
  -- and of the belief table, from whatever beliefs it began
  pub table_is : (beliefs : List Literal) → replay_all beliefs entries ≡ replay_all beliefs others
