-- `library::plan::Part::branch` meets its contract: below both numbers it stands where the definition reads it.
use Prim.Native.Nat.{ℕ, ◌+◌, ◌*◌}
use mathlib.Core.Path.{◌≡◌, sym, ap, ◌∙◌}
use lib.ListN.{get_or}
use Rattle.library.specs.Bytes.{u16_at, branch_at}
use Rattle.library.specs.Plan.{no_branch}
use Rattle.library.proofs.PartLaws.{state-past, state_off, branch-past, branch_is}
use Rattle.library.proofs.plan.Part.branch.Goals as goal

pub returns-then-count-state : goal.returns-then-count-state
returns-then-count-state c =
    let state = state-past c.args.self.now.bytes.now c.args.self.now.at c.args.state (rw c.count.ensures at c.if-count-state.true) in
    c.no_branch.ensures ∙ sym (ap (λ row. get_or row c.args.place no_branch) state)

pub returns-then-count-place : goal.returns-then-count-place
returns-then-count-place c =
    let bytes = c.args.self.now.bytes.now in
    let count : c.u16_at-count.result ≡ u16_at bytes (state_off bytes c.args.self.now.at c.args.state) = c.u16_at-count.ensures ∙ ap (u16_at bytes) c.rows_end-row.ensures.value in
    c.no_branch-then-count-place.ensures ∙ sym (branch-past bytes c.args.self.now.at c.args.state c.args.place (rw c.count.ensures at c.if-count-state.false) (rw count at c.if-count-place.true))

pub returns : goal.returns
returns c =
    let bytes = c.args.self.now.bytes.now in
    let count : c.u16_at-count.result ≡ u16_at bytes (state_off bytes c.args.self.now.at c.args.state) = c.u16_at-count.ensures ∙ ap (u16_at bytes) c.rows_end-row.ensures.value in
    c.branch_at.ensures
    ∙ ap (λ (row : ℕ). branch_at bytes (row + 2 + 12 * c.args.place)) c.rows_end-row.ensures.value
    ∙ sym (branch_is bytes c.args.self.now.at c.args.state c.args.place (rw c.count.ensures at c.if-count-state.false) (rw count at c.if-count-place.false))
