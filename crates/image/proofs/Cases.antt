-- The page's example and the refusals of images, by evaluation.
use Prim.Native.Nat.{ℕ}
use mathlib.Core.Path.{◌≡◌, refl}
use mathlib.Core.Bool.{true}
use lib.ListN.{length}
use lib.Count.{ones}
use Rattle.std.specs.List.{list_all}
use Rattle.lists.specs.Search.{distinct, position}
use Rattle.lists.specs.Places.{first, change_at}
use Rattle.literal.specs.Literal.{is_ground, same, opposite}
use Rattle.literal.specs.Environment.{value, instantiate, bind, are_entries, is_env}
use Rattle.literal.specs.Match.{match_term, match_literal}
use Rattle.belief.specs.Beliefs.{holds, are_beliefs, plus, minus, fits, replay}
use Rattle.library.specs.Bytes
use Rattle.library.specs.Layout
use Rattle.accepted.specs.Refusal.{contents_fit, packed_from, is_packed, plan_fits_at, plans_fit, refusal_of}
use Rattle.accepted.specs.Rules.{situation_ok, actions_ok, branch_ok, state_ok, states_from, entries_in, entries, is_tree, states_ok, plan_ok, beliefs_ok}
use Rattle.accepted.specs.Cases.{journal_library}
use Rattle.situation.specs.FailedSet.{has, insert, size_of}
use Rattle.situation.specs.Solutions.{over_beliefs, solve, solutions, first_of, ask}
use Rattle.situation.specs.Search.{rank_of, is_before, consider, best_of}
use Rattle.situation.specs.Applicable.{triggered, plan_solutions, plan_start, applicable_from, choose}
use Rattle.model.specs.Instance.{plan_of, branches_of, branch_of, past_branch}
use Rattle.model.specs.Live.{same_origin, jobs_on, live, is_pending, is_ready}
use Rattle.model.specs.Changes.{takes_effect, clearing, effective, effects}
use Rattle.model.specs.Report.{is_reportable, is_overfull, report_refusal, report_changes, take_in, report_by, reported}
use Rattle.model.specs.Event.{make, close, take_up}
use Rattle.model.specs.Try.{is_possible, try_change, try_action, try_divide, answer_to, is_barred, pursue, attempt, tried}
use Rattle.model.specs.End.{close_event, mark_event, popped, end_top, succeed, fail}
use Rattle.model.specs.Turn.{move_by, next_move, turn_by, turn}
use Rattle.model.specs.Cycle.{next_event, next_stack, choice_for, cycle_by, cycled}
use Rattle.model.specs.WellFormed.{is_event_sound, are_events, is_status, is_sound, is_instance, are_instances, is_stack, is_served, is_goal_for, has_goal, has_poster, are_served, is_well_formed}
use Rattle.model.specs.Calls.{act, call_by, call}
use Rattle.model.specs.Run.{run, final_of}
use Rattle.image.specs.declared.form.Form.TheVariants.{Narrow}
use Rattle.image.specs.Words.{number_bytes, number_at}
use Rattle.image.specs.Rows.{row, row_end}
use Rattle.image.specs.BeliefImage.{beliefs_bytes, beliefs_at}
use Rattle.image.specs.EventImage.{event_bytes, event_at, events_bytes, events_at}
use Rattle.image.specs.StackImage.{entries_at, env_at, instance_bytes, instance_at, upward, stack_bytes, depth_at, stack_at, stack_size_at, stacks_bytes, stacks_at}
use Rattle.image.specs.Image.{image_as, image_of, most_image, form_in, library_as, state_as, is_image, is_formed_in, image_refusal}
use Rattle.image.specs.Cases.{page_state, page_image, older_image, image_cases, is_refused_so}

-- the image of the page's agent is the page's, byte for byte
pub page_image_lem : image_of journal_library page_state ≡ page_image
unfolding page_state page_image ones distinct position is_ground same opposite value instantiate bind are_entries is_env match_term match_literal holds are_beliefs plus minus fits replay Bytes.u16_at Bytes.items Bytes.rows Bytes.rows_end Layout.situation_at Layout.situation_end Layout.actions_at Layout.actions_end Layout.states_at Layout.states_end Layout.maintenance_off Layout.success_off Layout.failure_off Layout.states_off Layout.plan_end Layout.plan_at Layout.plan_count Layout.belief_count Layout.plans_off Layout.beliefs_of Layout.library_of journal_library has insert size_of over_beliefs solve solutions first_of ask rank_of is_before consider best_of triggered plan_solutions plan_start applicable_from choose first change_at plan_of branches_of branch_of past_branch same_origin jobs_on live is_pending is_ready takes_effect clearing effective effects is_reportable is_overfull report_refusal report_changes take_in report_by reported make close take_up is_possible try_change try_action try_divide answer_to is_barred pursue attempt tried close_event mark_event popped end_top succeed fail move_by next_move turn_by turn next_event next_stack choice_for cycle_by cycled is_event_sound are_events is_status is_sound is_instance are_instances is_stack is_served is_goal_for has_goal has_poster are_served is_well_formed act call_by call run final_of beliefs_bytes event_bytes events_bytes instance_bytes upward stack_bytes stacks_bytes number_bytes image_as
page_image_lem = refl

-- and its image of the older form
pub older_image_lem : image_as Narrow journal_library page_state ≡ older_image
unfolding page_state older_image ones distinct position is_ground same opposite value instantiate bind are_entries is_env match_term match_literal holds are_beliefs plus minus fits replay Bytes.u16_at Bytes.items Bytes.rows Bytes.rows_end Layout.situation_at Layout.situation_end Layout.actions_at Layout.actions_end Layout.states_at Layout.states_end Layout.maintenance_off Layout.success_off Layout.failure_off Layout.states_off Layout.plan_end Layout.plan_at Layout.plan_count Layout.belief_count Layout.plans_off Layout.beliefs_of Layout.library_of journal_library has insert size_of over_beliefs solve solutions first_of ask rank_of is_before consider best_of triggered plan_solutions plan_start applicable_from choose first change_at plan_of branches_of branch_of past_branch same_origin jobs_on live is_pending is_ready takes_effect clearing effective effects is_reportable is_overfull report_refusal report_changes take_in report_by reported make close take_up is_possible try_change try_action try_divide answer_to is_barred pursue attempt tried close_event mark_event popped end_top succeed fail move_by next_move turn_by turn next_event next_stack choice_for cycle_by cycled is_event_sound are_events is_status is_sound is_instance are_instances is_stack is_served is_goal_for has_goal has_poster are_served is_well_formed act call_by call run final_of beliefs_bytes event_bytes events_bytes instance_bytes upward stack_bytes stacks_bytes number_bytes image_as
older_image_lem = refl

pub page_length : length page_image ≡ 164
unfolding page_image journal_library
page_length = refl

-- the largest image
pub largest-image : ◌≡◌ {A = ℕ} most_image 23836
largest-image = refl

pub image_cases_lem : list_all is_refused_so image_cases ≡ true
unfolding image_cases is_refused_so page_image older_image journal_library distinct is_ground same opposite value instantiate are_entries is_env are_beliefs Bytes.u16_at Bytes.items Bytes.rows Bytes.rows_end Layout.situation_at Layout.situation_end Layout.actions_at Layout.actions_end Layout.states_at Layout.states_end Layout.maintenance_off Layout.success_off Layout.failure_off Layout.states_off Layout.plan_end Layout.plan_at Layout.plan_count Layout.belief_count Layout.plans_off Layout.beliefs_of Layout.library_of contents_fit packed_from is_packed situation_ok actions_ok branch_ok state_ok states_from entries_in entries is_tree states_ok plan_ok beliefs_ok plan_fits_at plans_fit refusal_of has plan_of branches_of branch_of same_origin jobs_on live is_event_sound are_events is_status is_sound is_instance are_instances is_stack is_served is_goal_for has_goal has_poster are_served is_well_formed row row_end beliefs_bytes beliefs_at event_bytes event_at events_bytes events_at entries_at env_at instance_bytes instance_at upward stack_bytes depth_at stack_at stack_size_at stacks_bytes stacks_at number_bytes number_at image_as form_in library_as state_as is_image is_formed_in image_refusal
image_cases_lem = refl
