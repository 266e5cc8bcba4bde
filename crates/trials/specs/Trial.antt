-- What the code's trial of a branch means: the model's Try (document 01, "Cycle", step 4).
use Rattle.std.specs.Prelude.{ℕ, ◌≡◌, List, []}
use Rattle.literal.specs.declared.Env.{Env}
use Rattle.literal.specs.declared.Literal.{Literal}
use Rattle.literal.specs.Environment.{instantiate}
use Rattle.belief.specs.declared.Beliefs.{Beliefs}
use Rattle.belief.specs.declared.Change.{Change}
use Rattle.model.specs.Try.{Try, missed, stepped, done, posted, answer_to, is_barred, pursue}
use Rattle.trials.specs.declared.tries.Outcome.{Outcome}
use Rattle.trials.specs.declared.tries.Outcome.TheVariants.{Missed, Stepped, Done, Posted}
use Rattle.trials.specs.declared.tries.Trial.{Trial}
use Rattle.trials.specs.Altered.{changes_of, Alters}

abbrev pub view_outcome : Outcome → Env → List Change → Try
view_outcome Missed env changes = missed
view_outcome Stepped env changes = stepped env changes
view_outcome (Done literal) env changes = done literal
view_outcome (Posted goal) env changes = posted goal

abbrev pub view_trial : Trial → Try
view_trial t = view_outcome t.outcome t.env (changes_of t.altered)

-- the belief changes of a try: only a step has any
abbrev pub changes_by : Try → List Change
changes_by missed = []
changes_by (stepped env changes) = changes
changes_by (done literal) = []
changes_by (posted goal) = []

-- the trial of a branch, and the table after it
pub record Tries (beliefs : Beliefs) (try : Try) (t : Trial) : Type 0 where
  pub shown : view_trial t ≡ try
  pub altered : Alters beliefs (changes_by try) t.altered

-- an achieve or a query, by its kind: answered by the beliefs, else its goal is pursued
abbrev pub asked : ℕ → List Literal → ℕ → Env → Literal → Try
asked kind beliefs height env literal =
    let goal = instantiate env literal in pursue (answer_to kind beliefs env literal) (is_barred kind beliefs height goal) goal
