-- Every row of the table of small cases is seen as it is wanted: by computing.
use mathlib.Core.Path.{◌≡◌, refl}
use mathlib.Core.List.{map}
use lib.Count.{ones}
use Rattle.lists.specs.Search.{distinct, position}
use Rattle.lists.specs.Places.{first, change_at}
use Rattle.literal.specs.Literal.{is_ground, same, opposite}
use Rattle.literal.specs.Environment.{value, instantiate, bind, are_entries, is_env}
use Rattle.literal.specs.Match.{match_term, match_literal}
use Rattle.literal.specs.Divide.{can_divide, divide}
use Rattle.belief.specs.Beliefs.{holds, are_beliefs, plus, minus, fits, replay}
use Rattle.library.specs.Bytes
use Rattle.library.specs.Layout
use Rattle.accepted.specs.Refusal
use Rattle.accepted.specs.Refusal.{contents_fit, packed_from, is_packed, plans_fit}
use Rattle.accepted.specs.Rules.{beliefs_ok}
use Rattle.accepted.specs.Cases.{journal_library}
use Rattle.situation.specs.FailedSet.{has, insert, size_of}
use Rattle.situation.specs.Solutions.{over_beliefs, solve, solutions, first_of, ask}
use Rattle.situation.specs.Search.{rank_of, is_before, consider, best_of}
use Rattle.situation.specs.Applicable.{triggered, plan_solutions, plan_start, applicable_from, choose}
use Rattle.model.specs.Instance.{plan_of, branches_of, branch_of, past_branch}
use Rattle.model.specs.Live.{same_origin, jobs_on, live, is_pending, is_ready}
use Rattle.model.specs.Changes.{takes_effect, clearing, effective, effects}
use Rattle.model.specs.Report.{is_reportable, is_overfull, report_refusal, report_changes, take_in, report_by, reported}
use Rattle.model.specs.Event.{make, close, take_up}
use Rattle.model.specs.Try.{is_possible, try_change, try_action, try_divide, answer_to, is_barred, pursue, attempt, tried}
use Rattle.model.specs.End.{close_event, mark_event, popped, end_top, succeed, fail}
use Rattle.model.specs.Turn.{move_by, next_move, turn_by, turn}
use Rattle.model.specs.Outcome.{outcome_by, told}
use Rattle.model.specs.Cycle.{next_event, next_stack, choice_for, cycle_by, cycled}
use Rattle.model.specs.WellFormed.{is_event_sound, are_events, is_status, is_sound, is_instance, are_instances, is_stack, is_served, is_goal_for, has_goal, has_poster, are_served, is_well_formed}
use Rattle.model.specs.Calls.{act, call_by, call}
use Rattle.model.specs.Run.{run}
use Rattle.model.specs.Lines.{letter_of, fields_of}
use Rattle.model.specs.Cases.{seen, table}
use Rattle.model.specs.Scenarios.{results_of, scenarios, refusal_of, reports}

pub small_cases : map (λ row. seen row.case) table ≡ map (λ row. row.wanted) table
unfolding ones distinct position is_ground same opposite value instantiate bind are_entries is_env match_term match_literal holds are_beliefs plus minus fits replay Bytes.u16_at Bytes.items Bytes.rows Bytes.rows_end Layout.situation_at Layout.situation_end Layout.actions_at Layout.actions_end Layout.states_at Layout.states_end Layout.maintenance_off Layout.success_off Layout.failure_off Layout.states_off Layout.plan_end Layout.plan_at Layout.plan_count Layout.belief_count Layout.plans_off Layout.beliefs_of Layout.library_of contents_fit packed_from is_packed beliefs_ok plans_fit Refusal.refusal_of journal_library has insert size_of over_beliefs solve solutions first_of ask rank_of is_before consider best_of triggered plan_solutions plan_start applicable_from choose first change_at plan_of branches_of branch_of past_branch same_origin jobs_on live is_pending is_ready takes_effect clearing effective effects is_reportable is_overfull report_refusal report_changes take_in report_by reported make close take_up is_possible try_change try_action try_divide answer_to is_barred pursue attempt tried close_event mark_event popped end_top succeed fail move_by next_move turn_by turn outcome_by told next_event next_stack choice_for cycle_by cycled is_event_sound are_events is_status is_sound is_instance are_instances is_stack is_served is_goal_for has_goal has_poster are_served is_well_formed act call_by call run letter_of fields_of seen
small_cases = refl

-- and so is every longer run
pub longer_runs : map results_of scenarios ≡ map (λ s. s.wanted) scenarios
unfolding ones distinct position is_ground same opposite value instantiate bind can_divide divide are_entries is_env match_term match_literal holds are_beliefs plus minus fits replay has insert size_of over_beliefs solve solutions first_of ask rank_of is_before consider best_of triggered plan_solutions plan_start applicable_from choose first change_at plan_of branches_of branch_of past_branch same_origin jobs_on live is_pending is_ready takes_effect clearing effective effects is_reportable is_overfull report_refusal report_changes take_in report_by reported make close take_up is_possible try_change try_action try_divide answer_to is_barred pursue attempt tried close_event mark_event popped end_top succeed fail move_by next_move turn_by turn outcome_by told next_event next_stack choice_for cycle_by cycled is_event_sound are_events is_status is_sound is_instance are_instances is_stack is_served is_goal_for has_goal has_poster are_served is_well_formed act call_by call run results_of
longer_runs = refl

-- and every report is refused with the number that comes first
pub first_refusals : map refusal_of reports ≡ map (λ row. row.wanted) reports
unfolding same opposite is_ground holds fits is_reportable is_overfull report_refusal refusal_of
first_refusals = refl
