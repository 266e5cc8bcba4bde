-- Small case 8 of document 01, a library for each refusal, and what the library of 58 bytes holds, by evaluation.
use mathlib.Core.Path.{◌≡◌, refl}
use mathlib.Core.Bool.{Bool, true}
use mathlib.Core.List.{[], ◌∷◌}
use lib.ListN.{length, drop}
use lib.Dec.{eqb}
use Rattle.std.specs.List.{list_all}
use Rattle.lists.specs.Search.{distinct}
use Rattle.literal.specs.Literal.{is_ground, same, opposite}
use Rattle.library.specs.Bytes.{u16_at, items, rows, rows_end}
use Rattle.library.specs.Layout.{situation_at, situation_end, actions_at, actions_end, states_at, states_end, maintenance_off, success_off, failure_off, states_off, plan_end, plan_at, plan_count, belief_count, plans_off, beliefs_of, library_of}
use Rattle.accepted.specs.Rules.{situation_ok, actions_ok, branch_ok, state_ok, states_from, entries_in, entries, is_tree, states_ok, plan_ok, beliefs_ok}
use Rattle.accepted.specs.Refusal.{contents_fit, packed_from, is_packed, plan_fits_at, plans_fit, refusal_of, Accepted, part_refusal_of, part_of}
use Rattle.accepted.specs.Parser.{many, number, number_up_to, up_to_four, literal, situation, action, actions, branch, leads_up, form_tree, state, states, trigger, plan}
use Rattle.accepted.specs.Parser.Parsed.{parsed}
use Rattle.accepted.specs.Cases.{journal_library, journal_plan, journal_plan_by, acts_outside, divides, divide_library, marked_library, RefusalCase, refusal_cases}

-- ---- Refusals

abbrev agrees : RefusalCase → Bool
agrees c = eqb (refusal_of c.bytes) c.refused

pub refusal_cases_lem : list_all agrees refusal_cases ≡ true
unfolding refusal_cases journal_library refusal_of contents_fit packed_from is_packed beliefs_ok plan_fits_at plans_fit plan_count belief_count plans_off beliefs_of u16_at items rows rows_end distinct is_ground same opposite situation_at situation_end actions_at actions_end states_at states_end maintenance_off success_off failure_off states_off plan_end plan_at situation_ok actions_ok branch_ok state_ok states_from entries_in entries is_tree states_ok plan_ok
refusal_cases_lem = refl

pub case_8 : (refusal_of (0 ∷ 0 ∷ 0 ∷ 0 ∷ []) ≡ 0) × (refusal_of (0 ∷ 0 ∷ 0 ∷ []) ≡ 1) × (refusal_of (0 ∷ 0 ∷ 0 ∷ 0 ∷ 0 ∷ []) ≡ 2)
unfolding refusal_of contents_fit packed_from is_packed beliefs_ok plans_fit plan_count belief_count plans_off beliefs_of u16_at items distinct
case_8 = (refl, refl, refl)

-- ---- The library of 58 bytes

pub journal-bytes : length journal_library ≡ 58
unfolding journal_library
journal-bytes = refl

pub journal-accepted : Accepted journal_library
unfolding journal_library refusal_of contents_fit packed_from is_packed beliefs_ok plan_fits_at plans_fit plan_count belief_count plans_off beliefs_of u16_at items rows rows_end distinct is_ground same situation_at situation_end actions_at actions_end states_at states_end maintenance_off success_off failure_off states_off plan_end plan_at situation_ok actions_ok branch_ok state_ok states_from entries_in entries is_tree states_ok plan_ok
journal-accepted = refl

pub journal_library_lem : library_of journal_library ≡ record { beliefs = []; plans = journal_plan ∷ [] }
unfolding journal_library library_of plan_count belief_count plans_off beliefs_of u16_at items rows rows_end situation_at situation_end actions_at actions_end states_at states_end maintenance_off success_off failure_off states_off plan_end plan_at
journal_library_lem = refl

-- the page's list gives the same plan
pub journal_parses : plan (drop 8 journal_library) ≡ parsed journal_plan []
unfolding journal_library many number number_up_to up_to_four literal situation action actions branch leads_up form_tree state states trigger plan items is_tree entries_in entries
journal_parses = refl

-- with the mark: the kind without it, and V7 chooses
pub marked_library_lem : library_of marked_library ≡ record { beliefs = []; plans = journal_plan_by 4 8 acts_outside ∷ [] }
unfolding marked_library journal_library library_of plan_count belief_count plans_off beliefs_of u16_at items rows rows_end situation_at situation_end actions_at actions_end states_at states_end maintenance_off success_off failure_off states_off plan_end plan_at
marked_library_lem = refl

pub marked_parses : plan (drop 8 marked_library) ≡ parsed (journal_plan_by 4 8 acts_outside) []
unfolding marked_library journal_library many number number_up_to up_to_four literal situation action actions branch leads_up form_tree state states trigger plan items is_tree entries_in entries
marked_parses = refl

-- with a divide in place of the action
pub divide_library_lem : library_of divide_library ≡ record { beliefs = []; plans = journal_plan_by 0 0 divides ∷ [] }
unfolding divide_library journal_library library_of plan_count belief_count plans_off beliefs_of u16_at items rows rows_end situation_at situation_end actions_at actions_end states_at states_end maintenance_off success_off failure_off states_off plan_end plan_at
divide_library_lem = refl

pub divide_parses : plan (drop 8 divide_library) ≡ parsed (journal_plan_by 0 0 divides) []
unfolding divide_library journal_library many number number_up_to up_to_four literal situation action actions branch leads_up form_tree state states trigger plan items is_tree entries_in entries
divide_parses = refl

pub journal-part : part_of journal_library 0 ≡ drop 8 journal_library
unfolding part_of part_refusal_of journal_library refusal_of contents_fit packed_from is_packed beliefs_ok plan_fits_at plans_fit plan_count belief_count plans_off beliefs_of u16_at items rows rows_end distinct is_ground same situation_at situation_end actions_at actions_end states_at states_end maintenance_off success_off failure_off states_off plan_end plan_at situation_ok actions_ok branch_ok state_ok states_from entries_in entries is_tree states_ok plan_ok
journal-part = refl

pub journal-no_plan : part_refusal_of journal_library 1 ≡ 11
unfolding part_refusal_of journal_library refusal_of contents_fit packed_from is_packed beliefs_ok plan_fits_at plans_fit plan_count belief_count plans_off beliefs_of u16_at items rows rows_end distinct is_ground same situation_at situation_end actions_at actions_end states_at states_end maintenance_off success_off failure_off states_off plan_end plan_at situation_ok actions_ok branch_ok state_ok states_from entries_in entries is_tree states_ok plan_ok
journal-no_plan = refl

pub journal_no_part : part_of journal_library 1 ≡ []
unfolding part_of part_refusal_of journal_library refusal_of contents_fit packed_from is_packed beliefs_ok plan_fits_at plans_fit plan_count belief_count plans_off beliefs_of u16_at items rows rows_end distinct is_ground same situation_at situation_end actions_at actions_end states_at states_end maintenance_off success_off failure_off states_off plan_end plan_at situation_ok actions_ok branch_ok state_ok states_from entries_in entries is_tree states_ok plan_ok
journal_no_part = refl
