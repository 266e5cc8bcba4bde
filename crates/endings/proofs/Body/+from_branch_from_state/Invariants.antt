-- Sixteen minus the state number falls, then the branches left: a state stands above its branches, and a branch above its next state,
-- whose number is higher.
use Rattle.std.proofs.Common.{◌+◌, ◌-◌, ◌*◌, [], length, get_or}
use Rattle.library.specs.Layout.{described}
use Rattle.endings.proofs.Body.+from_branch_from_state.Given as goal

abbrev pub decreases-from_branch : goal.decreases-from_branch
decreases-from_branch l = (16 - l.state) * 65536 + (length (get_or (described l.self.now.plan).states l.state []) - l.at)

abbrev pub decreases-from_state : goal.decreases-from_state
decreases-from_state l = (16 - l.state) * 65536 + 65536
