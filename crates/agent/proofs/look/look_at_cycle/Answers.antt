-- `agent::look::look_at_cycle` meets its contract: an event may be taken up, a stack runs, or nothing is to be done.
use mathlib.Core.Path.{refl, sym, ◌∙◌}
use Rattle.model.specs.Turn.{is_running}
use Rattle.agent.specs.Look.{idle}
use Rattle.agent.proofs.LookLaws.{stack_found, stack_missing}
use Rattle.agent.proofs.look.look_at_cycle.Goals as goal

pub returns-in-Some : goal.returns-in-Some
returns-in-Some c =
    let found = stack_found c.args.s.now c.requires c.standing.result.now c.standing.ensures.value c.standing.ensures.len is_running c.next_stack.result c.next_stack.ensures c.in-Some.place c.in-Some.is in
    (refl, refl, sym c.may_take_up.ensures ∙ c.if-may_take_up.false, found.0, found.1)

pub returns-in-None : goal.returns-in-None
returns-in-None c =
    idle refl (sym c.may_take_up.ensures ∙ c.if-may_take_up.false)
    (stack_missing c.args.s.now c.requires c.standing.result.now c.standing.ensures.value c.standing.ensures.len is_running c.next_stack.result c.next_stack.ensures c.in-None.is)
