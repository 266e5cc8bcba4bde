-- `image::form::Form::write_image` meets its contract: the bodies one after the other, then the contents before them.
use native.Mathlib.Omega.{arith}
use Prim.Native.Nat.{◌≤◌}
use Rattle.writing.proofs.WritingLaws.{then}
use Rattle.model.specs.State.{most_queued}
use Rattle.state.specs.View.{queued_of}
use Rattle.image.proofs.WholeLaws.{written_image}
use Rattle.image.proofs.form.Form.write_image.Goals as goal

pub returns : goal.returns
returns c =
    let a = c.args in
    let start = c.contents_size-start in
    let wa = c.put_bytes-a.ensures in
    let wb = c.put_beliefs-b.ensures in
    let wc = rw (c.events.ensures.len, c.events.ensures.value) at c.put_events-c.ensures in
    let wd = rw c.standing.ensures.value at c.put_stacks-d.ensures in
    let we = then c.put_number-taken.ensures c.put_number-e.ensures in
    let wf = c.put_width-f.ensures in
    let few : queued_of a.s.now ≤ most_queued = omega arith in
    written_image a.self a.library.now a.s.now start.result _ _ _ _ _ _ start.ensures.value start.ensures.small wa.past wb.past wc.past wd.past
    we.past wf.past (omega (arith, c.requires.0, c.requires.1, few, start.ensures.small)) (omega (arith, c.requires.1, few, start.ensures.small))
    (then wa (then wb (then wc (then wd (then we wf))))) c.put_words.ensures
