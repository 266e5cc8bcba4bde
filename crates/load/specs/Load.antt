-- What load gives (document 01, "The agent holds its own copy of the library", "Who may cause which refusal";
-- dMARS 8.1, InitdMARSAgentState).
use Rattle.std.specs.Prelude.{ℕ, ◌≤◌, ◌≡◌, Bool, true, List, length, take, replicate, Result, MatchResult}
use Rattle.refusals.specs.declared.Refusal.{Refusal}
use Rattle.refusals.specs.Numbers.{number_of}
use Rattle.literal.specs.declared.Literal.{Literal}
use Rattle.literal.specs.Environment.{empty_env}
use Rattle.belief.specs.declared.Beliefs.{Beliefs}
use Rattle.belief.specs.Beliefs.{most_beliefs, view}
use Rattle.library.specs.Layout.{beliefs_of, library_of}
use Rattle.accepted.specs.Refusal.{most_bytes, refusal_of}
use Rattle.model.specs.declared.Instance.{Instance}
use Rattle.model.specs.declared.Status.TheVariants.{Active}
use Rattle.model.specs.State.{most_stacks, most_queued, no_event}
use Rattle.model.specs.Calls.{loaded}
use Rattle.state.specs.declared.Stack.{Stack}
use Rattle.state.specs.declared.State.{State}
use Rattle.state.specs.View.{most_below, view_state, counts_fit}
use Rattle.formed.specs.Formed.{is_well_formed_with}
use Rattle.load.specs.declared.Agent.{Agent}

-- the agent's library: the bytes of its copy that are in use
abbrev pub bytes_of : Agent → List ℕ
bytes_of a = take a.length a.library

-- its library is accepted, its length and every count are within their arrays, and its state keeps every rule
abbrev pub is_well_formed_agent : Agent → Bool
is_well_formed_agent a = is_well_formed_with a.library a.length a.state

-- a table that holds these beliefs
pub record Holds (beliefs : List Literal) (table : Beliefs) : Type 0 where
  pub places : length table.items ≡ most_beliefs
  pub few : table.count ≤ most_beliefs
  pub means : view table ≡ beliefs

-- ---- A state with nothing in it

-- what stands in the places of instances and of stacks
abbrev pub nobody : Instance
nobody = record { id = 0; plan = 0; env = empty_env; state = 0; tried = 0; status = Active }

abbrev pub empty_stack : Stack
empty_stack = record { top = nobody; below = replicate most_below nobody; depth = 0; external = 0 }

-- the state with these beliefs, and nothing else
abbrev pub starts_with : Beliefs → State
starts_with beliefs =
    record {
      beliefs = beliefs;
      queue = replicate most_queued no_event;
      queued = 0;
      stacks = replicate most_stacks empty_stack;
      stacked = 0;
      taken = 0;
      made = 0;
    }

-- ---- Load

-- the agent of an accepted library has its own copy of it, and the initial beliefs alone
pub record Loaded (bytes : List ℕ) (a : Agent) : Type 0 where
  pub accepted : refusal_of bytes ≡ 0
  pub copy : bytes_of a ≡ bytes
  pub state : view_state a.state ≡ loaded (library_of bytes)
  pub table : Holds (beliefs_of bytes) a.state.beliefs
  -- every count is within its array, and the library's array has its length
  pub fit : counts_fit a.state ≡ true
  pub within : a.length ≤ most_bytes
  pub places : length a.library ≡ most_bytes

-- the agent, or the refusal of a library that is not accepted; then there is no agent
abbrev pub Loads : List ℕ → Result Agent Refusal → Type 0
Loads bytes r = MatchResult r (Loaded bytes) (λ e. number_of e ≡ refusal_of bytes)
