-- What the calls of an agent give (document 01, "The three calls", "Who may cause which refusal").
use Rattle.std.specs.Prelude.{◌≤◌, ◌≡◌, true}
use Rattle.library.specs.Layout.{library_of}
use Rattle.model.specs.State.{most_changes, Call, report, cycle, outcome, Reply, view_result}
use Rattle.model.specs.Calls.{call_by, is_refusal}
use Rattle.state.specs.View.{view_state, counts_fit}
use Rattle.reading.specs.declared.Spoken.{Spoken}
use Rattle.reading.specs.declared.Spoken.TheVariants.{Report, Cycle, Outcome}
use Rattle.load.specs.declared.Agent.{Agent}
use Rattle.load.specs.Load.{bytes_of, is_well_formed_agent}
use Rattle.agent.specs.declared.Replied.{Replied}

-- the model's reply that an answer means
abbrev pub view_replied : Replied → Reply
view_replied r = record { result = view_result r.result; state = view_state r.agent.state }

-- the agent after a call, and its result: the model's, and 10 first where the agent is not well formed
pub record Calls (a : Agent) (c : Call) (r : Replied) : Type 0 where
  pub means : view_replied r ≡ call_by (is_well_formed_agent a) (library_of (bytes_of a)) (view_state a.state) c
  -- the library is the one it was
  pub library : r.agent.library ≡ a.library
  pub length : r.agent.length ≡ a.length
  -- a refusal leaves every place of the agent as it was
  pub refused : is_refusal r.result.answer ≡ true → r.agent ≡ a
  -- every count stays within its array, and so does that of the changes
  pub fit : is_well_formed_agent a ≡ true → counts_fit r.agent.state ≡ true
  pub count : r.result.count ≤ most_changes

-- the call that is told
abbrev pub call_of : Spoken → Call
call_of (Report kind literal) = report kind literal
call_of Cycle = cycle
call_of (Outcome id worked) = outcome id worked
