-- `state::queue::external_count` meets its contract: the number of those that pass, as std counts them.
use borrow.Author.Rules.{rules}
use mathlib.Core.Path.{◌≡◌, ◌∙◌}
use Rattle.std.specs.List.{count_by}
use Rattle.lists.proofs.CountLaws.{count_by_is}
use Rattle.model.specs.Live.{is_external}
use Rattle.state.proofs.queue.external_count.Goals as goal

pub returns : goal.returns
returns c =
    let found : c.count.result ≡ count_by is_external c.args.events.now = search rules in
    found ∙ count_by_is is_external c.args.events.now
