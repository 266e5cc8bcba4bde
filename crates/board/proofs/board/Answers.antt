-- `board::board` meets its contract: 10, then 14, else the page.
use native.Mathlib.Omega.{arith}
use mathlib.Core.Path.{refl, sym, ◌∙◌}
use Rattle.board.proofs.BoardLaws.{lines-few, lines-counted, page_room, short, enough}
use Rattle.board.proofs.board.Goals as goal

pub overflow_mul-lines : goal.overflow_mul-lines
overflow_mul-lines c =
    let counted = lines-counted c.args.a.state c.standing.ensures.value c.live_count-lines.ensures in
    omega (arith, counted, lines-few c.args.a.state)

pub returns-then-out-lines : goal.returns-then-out-lines
returns-then-out-lines c =
    let counted = lines-counted c.args.a.state c.standing.ensures.value c.live_count-lines.ensures in
    record {
      number =
          short c.args.a (sym c.is_well_formed.ensures ∙ c.if-not-is_well_formed.false) c.live_count-lines.result
          counted c.args.out.now c.if-out-lines.true;
      unwritten = refl;
    }

pub put_page-size-requires : goal.put_page-size-requires
put_page-size-requires c =
    let counted = lines-counted c.args.a.state c.standing.ensures.value c.live_count-lines.ensures in
    page_room c.args.a.state c.live_count-lines.result _ counted c.if-out-lines.false

pub returns : goal.returns
returns c =
    let counted = lines-counted c.args.a.state c.standing.ensures.value c.live_count-lines.ensures in
    record {
      accepted =
          enough c.args.a (sym c.is_well_formed.ensures ∙ c.if-not-is_well_formed.false) c.live_count-lines.result
          counted c.args.out.now c.if-out-lines.false;
      page = c.put_page-size.ensures;
    }
