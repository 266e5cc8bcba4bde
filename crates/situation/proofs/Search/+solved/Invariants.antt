-- The literals that remain fall with each call. The loop's invariant: what is left of the pass, folded from what is kept now, is the
-- whole pass folded from the start.
use Rattle.std.proofs.Common.{◌≡◌, ◌+◌, ◌-◌, drop}
use mathlib.Core.List.{foldl}
use Rattle.library.specs.Bytes.{literal_at, items}
use Rattle.situation.specs.Solutions.{over_beliefs, solve}
use Rattle.situation.specs.Search.{consider}
use Rattle.situation.proofs.Search.+solved.Given as goal

abbrev pub decreases-solved : goal.decreases-solved
decreases-solved l = l.remaining

abbrev pub invariant-loop-belief : goal.invariant-loop-belief
invariant-loop-belief l =
    let beliefs = l.self.beliefs.now in
    let next = solve beliefs (items (literal_at l.self.bytes.now) 8 (l.remaining - 1) (l.at + 8)) in
    foldl (consider l.self.rule) l.next (over_beliefs l.l l.env next (drop l.belief-index beliefs)) ≡ foldl (consider l.self.rule) l.initial.next (over_beliefs l.l l.env next beliefs)
