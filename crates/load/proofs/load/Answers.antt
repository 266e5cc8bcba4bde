-- `load::load` meets its contract: the library's refusal, or its copy with its beliefs alone.
use mathlib.Core.Path.{refl, sym}
use Rattle.accepted.proofs.Size.{library_most}
use Rattle.accepted.proofs.Accepted.{few-beliefs}
use Rattle.load.proofs.LoadLaws.{loads-accepted}
use Rattle.load.proofs.load.Goals as goal

pub copied-copy-requires : goal.copied-copy-requires
copied-copy-requires c = library_most c.args.library.now (sym c.in_ok-refusal.ensures)

pub initial_beliefs-beliefs-requires : goal.initial_beliefs-beliefs-requires
initial_beliefs-beliefs-requires c = few-beliefs c.args.library.now (sym c.in_ok-refusal.ensures)

pub returns : goal.returns
returns c =
    loads-accepted c.args.library.now c.initial_beliefs-beliefs.result c.first_state-state.result _ c.initial_beliefs-beliefs.ensures
    c.first_state-state.ensures (sym c.in_ok-refusal.ensures) refl c.copied-copy.ensures refl
