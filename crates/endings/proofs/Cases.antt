-- Every row of the tables of cases is as it is wanted: by computing.
use mathlib.Core.Path.{◌≡◌, refl}
use mathlib.Core.List.{map}
use Rattle.lists.specs.Search.{distinct}
use Rattle.literal.specs.Literal.{is_ground, same}
use Rattle.library.specs.Bytes.{u16_at, items, rows, rows_end}
use Rattle.library.specs.Layout.{situation_at, situation_end, actions_at, actions_end, states_at, states_end, maintenance_off, success_off, failure_off, states_off, plan_end, plan_at, plan_count, belief_count, plans_off, beliefs_of}
use Rattle.accepted.specs.Rules.{situation_ok, actions_ok, branch_ok, state_ok, states_from, entries_in, entries, is_tree, states_ok, plan_ok, beliefs_ok}
use Rattle.accepted.specs.Refusal.{contents_fit, packed_from, is_packed, plan_fits_at, plans_fit, refusal_of, part_refusal_of}
use Rattle.accepted.specs.Cases.{journal_library}
use Rattle.model.specs.Turn.{move_by}
use Rattle.endings.specs.Answers.{after, answers, ways}
use Rattle.endings.specs.Endings.{endings_refusal, endings_of}
use Rattle.endings.specs.Sums.{summed, ends_of}
use Rattle.endings.specs.Cases.{body, counted, table, answered, calls}

pub counts : map (λ r. counted (body r.states) 0 r.wanted) table ≡ map (λ r. r.wanted) table
unfolding move_by after answers ways counted table
counts = refl

-- all that is wanted of a body: as many successes as ends, as many failures as states with branches
pub sums : map (λ r. summed r.wanted) table ≡ map (λ r. ends_of r.states) table
unfolding table
sums = refl

pub call-cases : map answered calls ≡ map (λ a. a.wanted) calls
unfolding calls journal_library refusal_of contents_fit packed_from is_packed beliefs_ok plan_fits_at plans_fit plan_count belief_count plans_off beliefs_of u16_at items rows rows_end distinct is_ground same situation_at situation_end actions_at actions_end states_at states_end maintenance_off success_off failure_off states_off plan_end plan_at situation_ok actions_ok branch_ok state_ok states_from entries_in entries is_tree states_ok plan_ok part_refusal_of move_by after answers ways endings_refusal endings_of
call-cases = refl
