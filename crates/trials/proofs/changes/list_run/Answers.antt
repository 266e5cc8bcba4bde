-- `trials::changes::list_run` meets its contract. The loop's invariant: the changes noted and the effects of the actions left are those of all that run.
use native.Mathlib.Omega.{arith}
use Prim.Native.Nat.{◌<◌, ◌≤◌}
use mathlib.Core.Path.{◌≡◌, refl, ap, sym, ◌∙◌}
use mathlib.Core.List.{List, ◌++◌, append-nil}
use lib.ListN.{length, get_or, length-take}
use lib.Seq.{get_or-take}
use Rattle.belief.specs.declared.Change.{Change}
use Rattle.belief.specs.Beliefs.{view, replay}
use Rattle.library.specs.Layout.{described}
use Rattle.library.specs.Plan.{no_action}
use Rattle.model.specs.Changes.{effective, as_change, effects}
use Rattle.trials.specs.declared.changes.Altered.{Altered}
use Rattle.trials.specs.Altered.{changes_of, untouched, Extends, list_of}
use Rattle.trials.proofs.AlteredLaws.{effects-step, effects-kept, effects_done}
use Rattle.trials.proofs.changes.list_run.Invariants.{run}
use Rattle.trials.proofs.changes.list_run.Goals as goal

pub loop-i-init : goal.loop-i-init
unfolding replay
loop-i-init c = rw c.untouched-altered.ensures (record { count = omega arith; few = λ few. few; noted = refl; table = refl })

pub make-requires : goal.make-requires
make-requires c = omega (arith, c.loop-i.invariant.count)

pub loop-i-preserved : goal.loop-i-preserved
loop-i-preserved c =
    let a = c.args in
    let l = c.loop-i in
    let whole = list_of a.ending (described a.plan.now) in
    let actions = run a.plan.now a.ending in
    let low : l.i < length actions = omega (arith, c.count.ensures, length-take 4 whole) in
    let same : get_or whole l.i no_action ≡ get_or actions l.i no_action = sym (get_or-take 4 whole l.i no_action (omega (arith, c.count.ensures))) in
    let e : Extends l.altered (effective (view l.altered.table) (as_change a.env (get_or actions l.i no_action))) c.make.new.self
    = rw (c.change_of.ensures, c.instantiated-ground.ensures, c.action-action.ensures, same) at c.make.ensures.made in
    record {
      count = omega (arith, e.count, l.invariant.count);
      few = λ few. e.few (l.invariant.few few);
      noted = effects-step l.altered c.make.new.self a.env actions l.i low e ∙ l.invariant.noted;
      table = effects-kept l.altered c.make.new.self a.env actions l.i low e _ l.invariant.table;
    }

pub returns : goal.returns
returns c =
    let a = c.args in
    let l = c.loop-i in
    let actions = run a.plan.now a.ending in
    let start : c.untouched-altered.result ≡ untouched a.b = c.untouched-altered.ensures in
    let past : length actions ≤ l.i = omega (arith, c.count.ensures, length-take 4 (list_of a.ending (described a.plan.now))) in
    let all : changes_of l.altered ≡ effects (view a.b) a.env actions
    = sym (append-nil (changes_of l.altered)) ∙ ap (λ (cs : List Change). changes_of l.altered ++ cs) (sym (effects_done (view l.altered.table) a.env actions l.i past))
    ∙ l.invariant.noted ∙ ap (λ (t : Altered). effects (view t.table) a.env actions) start in
    record {
      noted = all;
      table = l.invariant.table ∙ ap (λ (t : Altered). replay (view t.table) (changes_of l.altered)) start ∙ ap (replay (view a.b)) all;
      few = λ few. l.invariant.few (rw start few);
      count = omega (arith, l.invariant.count);
    }
