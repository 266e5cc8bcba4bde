-- The live instances as one flat array (document 01, "State"; dMARS 7.1, Intention), in turn order of the stacks, each from the top down.
use Rattle.std.specs.Prelude.{ℕ, ◌-◌, min, List, ◌++◌, map, length, take, replicate}
use Rattle.literal.specs.Environment.{empty_env}
use Rattle.model.specs.declared.Origin.TheVariants.{External}
use Rattle.model.specs.declared.Status.TheVariants.{Active}
use Rattle.model.specs.Live.{Job}
use Rattle.jobs.specs.declared.Job.{Job as Stored}
use Rattle.jobs.specs.declared.Jobs.{Jobs}

-- eight stacks of eight instances
abbrev pub most_jobs : ℕ
most_jobs = 64

-- ---- One instance with the event that it serves

abbrev pub store : Job → Stored
store job = record { instance = job.instance; origin = job.event }

abbrev pub job_of : Stored → Job
job_of stored = record { instance = stored.instance; event = stored.origin }

-- what stands past the count
abbrev pub no_job : Stored
no_job = record { instance = record { id = 0; plan = 0; env = empty_env; state = 0; tried = 0; status = Active }; origin = External 0 }

-- ---- The array

-- every place of the array that holds these
unfoldable pub flat : List Job → Jobs
flat jobs = record { items = map store jobs ++ replicate (most_jobs - length jobs) no_job; count = length jobs }

abbrev pub view_jobs : Jobs → List Job
view_jobs jobs = map job_of (take (min jobs.count most_jobs) jobs.items)
