-- Which calls of document 01's journal count, and W at a few places: by computing.
use mathlib.Core.Path.{◌≡◌, refl}
use mathlib.Core.List.{map}
use lib.ListN.{length}
use Rattle.library.specs.Bytes
use Rattle.library.specs.Layout
use Rattle.library.specs.Layout.{library_of}
use Rattle.accepted.specs.Cases.{journal_library}
use Rattle.rest.specs.Rest.{is_work, work_over, W}
use Rattle.rest.specs.Cases.{Row, table}

-- made, done, stepped by an outcome and succeeded count; idle cycles and refused calls do not
pub counted : map (λ (r : Row). is_work r.call r.answer) table ≡ map (λ (r : Row). r.counts) table
unfolding is_work
counted = refl

-- with no plans each event is dropped at once
pub no_plans : W 0 1 ≡ 1
unfolding W work_over
no_plans = refl

-- one plan on a full stack: the event, and its instance with 15 branches, each missed or stepped and none a goal
pub full-stack : W 1 8 ≡ 33
unfolding W work_over
full-stack = refl

-- an event of document 01's library of 58 bytes: its one plan, on stacks of up to 8
pub journal_library_lem : W (length (library_of journal_library).plans) 1 ≡ 6041099328
unfolding W work_over journal_library Bytes.u16_at Bytes.items Bytes.rows Bytes.rows_end Layout.plan_count Layout.library_of
journal_library_lem = refl

-- 32 plans
pub most_plans_lem : W 32 1 ≡ 6030013035445177453025
unfolding W work_over
most_plans_lem = refl
