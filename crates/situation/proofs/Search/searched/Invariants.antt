-- The loop's invariant: the alternatives left, folded from what is kept now, are all of them folded from none; what is left lies within 64 bits.
use Prim.Native.Nat.{◌+◌, ◌-◌, ◌*◌, ◌<◌, ◌^◌}
use mathlib.Core.Path.{◌≡◌}
use mathlib.Core.List.{foldl}
use Rattle.library.specs.Bytes.{literal_at, rows}
use Rattle.library.specs.Layout.{situation_at}
use Rattle.situation.specs.Solutions.{solutions}
use Rattle.situation.specs.Search.{consider, best_of}
use Rattle.situation.proofs.Search.searched.Given as goal

abbrev pub invariant-loop-i : goal.invariant-loop-i
invariant-loop-i l =
    let bytes = l.self.bytes.now in
    let left = l._i-end - l._i in
    (l.p + 524282 * left < 2 ^ 64) × (
    foldl (consider l.self.rule) l.best (solutions l.self.beliefs.now (rows (literal_at bytes) bytes 8 left l.p) l.env)
    ≡ best_of l.self.rule (solutions l.self.beliefs.now (situation_at bytes l.at) l.env))
