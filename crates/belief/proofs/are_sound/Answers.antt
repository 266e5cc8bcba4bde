-- `belief::are_sound` meets its contract: a literal that breaks a rule decides, else those left decide.
use Prim.Native.Nat.{◌+◌, ◌-◌}
use mathlib.Core.Path.{◌≡◌, sym, ◌∙◌}
use native.Mathlib.Omega.{arith}
use lib.ListN.{length, take, drop, length-drop}
use lib.Seq.{take_all}
use Rattle.belief.proofs.TableSteps.{sound_stop, sound_next}
use Rattle.belief.proofs.are_sound.Goals as goal

pub returns-then-not-agrees : goal.returns-then-not-agrees
returns-then-not-agrees c =
    let xs = c.args.beliefs.now in
    let i = c.loop-i.i in
    let later : take (length xs - (i + 1)) (drop (i + 1) xs) ≡ drop (i + 1) xs = take_all (length xs - (i + 1)) (drop (i + 1) xs) (omega (arith, length-drop (i + 1) xs)) in
    sound_stop xs i _ (omega arith) c.loop-i.invariant (sym (rw later at c.agrees.ensures) ∙ c.if-not-agrees.true)

pub loop-i-preserved : goal.loop-i-preserved
loop-i-preserved c =
    let xs = c.args.beliefs.now in
    let i = c.loop-i.i in
    let later : take (length xs - (i + 1)) (drop (i + 1) xs) ≡ drop (i + 1) xs = take_all (length xs - (i + 1)) (drop (i + 1) xs) (omega (arith, length-drop (i + 1) xs)) in
    sound_next xs i _ (omega arith) c.loop-i.invariant (sym (rw later at c.agrees.ensures) ∙ c.if-not-agrees.false)
