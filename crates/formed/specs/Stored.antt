-- The rules on the live instances as they are stored, in the order of the code, which tests the cheap ones first.
-- Private vocabulary: no public contract rests on this file.
use Rattle.std.specs.Prelude.{Bool, ◌&&◌, List, map, take, leb}
use Rattle.std.specs.List.{list_any, list_all}
use Rattle.lists.specs.Search.{distinct}
use Rattle.belief.specs.Table.{is_table}
use Rattle.library.specs.Plan.{Library}
use Rattle.model.specs.WellFormed.{are_events, is_instance, same_id, same_served, is_stack, is_served, has_goal, has_poster}
use Rattle.state.specs.declared.Stack.{Stack}
use Rattle.state.specs.declared.State.{State}
use Rattle.state.specs.View.{most_below, view_stack, view_queue, stacked_of}
use Rattle.jobs.specs.declared.Job.{Job}
use Rattle.jobs.specs.Jobs.{job_of}

-- the count of a stack is within its array, and it keeps its rules
abbrev pub is_fit : Stack → Bool
is_fit stack = leb stack.depth most_below && is_stack (view_stack stack)

-- two have one id
abbrev pub same_stored_id : Job → Job → Bool
same_stored_id one two = same_id (job_of one) (job_of two)

-- two serve one event
abbrev pub same_stored_event : Job → Job → Bool
same_stored_event one two = same_served (job_of one) (job_of two)

unfoldable pub keeps_rules : Library → State → List Job → Bool
keeps_rules library s jobs =
    is_table s.beliefs && (list_all is_fit (take (stacked_of s) s.stacks) && (are_events library s.taken (view_queue s)
    && ((list_all (λ job. is_instance library s.made (job_of job)) jobs
    && (distinct same_stored_id jobs && distinct same_stored_event jobs))
    && (list_all (λ job. list_any (is_served library (job_of job)) (view_queue s)) jobs
    && (list_all (λ job. has_goal library (view_queue s) (job_of job)) jobs
    && list_all (has_poster (map job_of jobs)) (view_queue s))))))
