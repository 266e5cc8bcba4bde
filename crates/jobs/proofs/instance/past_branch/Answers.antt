-- `jobs::instance::past_branch` meets its contract: the branch is the instance's, whatever its plan.
use mathlib.Core.Path.{ap, ◌∙◌}
use Rattle.library.specs.declared.Branch.{Branch}
use Rattle.model.specs.Instance.{step_to, past_branch}
use Rattle.jobs.proofs.instance.past_branch.Goals as goal

pub returns : goal.returns
unfolding past_branch
returns c = let x = c.args.x in c.stepped_to.ensures ∙ ap (λ (b : Branch). step_to b.next x.env x) c.branch-branch.ensures
