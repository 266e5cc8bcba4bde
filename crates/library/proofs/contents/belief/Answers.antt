-- `library::contents::belief` meets its contract: below the number it stands where the definition reads it.
use Prim.Native.Nat.{ℕ, ◌+◌, ◌*◌}
use mathlib.Core.Path.{sym, ap, ◌∙◌}
use Rattle.library.specs.Bytes.{literal_at}
use Rattle.library.proofs.PartLaws.{belief-past, belief_is}
use Rattle.library.proofs.contents.belief.Goals as goal

pub returns-then-count-place : goal.returns-then-count-place
returns-then-count-place c = c.no_literal.ensures ∙ sym (belief-past c.args.library.now c.args.place (rw c.belief_count-count.ensures at c.if-count-place.true))

pub returns : goal.returns
returns c =
    let bytes = c.args.library.now in
    let place = c.args.place in
    c.literal_at.ensures
    ∙ ap (λ (n : ℕ). literal_at bytes (4 + 4 * n + 8 * place)) c.plan_count-plans.ensures
    ∙ sym (belief_is bytes place (rw c.belief_count-count.ensures at c.if-count-place.false))
