-- `agent::feed::feed` meets its contract: the lines run on the agent's state are a journal of the agent.
use borrow.Author.Rules.{rules}
use native.Mathlib.Omega.{arith}
use Prim.Native.Nat.{◌+◌, ◌≤◌}
use mathlib.Core.Path.{subst, refl, ap, sym, ◌∙◌}
use mathlib.Core.Logic.{inl, inr}
use lib.ListN.{length}
use Rattle.lists.proofs.ArrayLaws.{length-mapped}
use Rattle.formed.proofs.WellFormedLaws.{test_parts}
use Rattle.state.proofs.CountParts.{counts-parts}
use Rattle.printing.specs.LineText.{most_line}
use Rattle.stream.specs.Calls.{shown}
use Rattle.stream.proofs.ChunkLaws.{line_moves}
use Rattle.reading.specs.Spoken.{meaning}
use Rattle.agent.specs.Feed.{Responds}
use Rattle.agent.specs.Look.{Looks}
use Rattle.agent.proofs.LookLaws.{answers-respond}
use Rattle.agent.proofs.FeedLaws.{trusted_next}
use Rattle.agent.proofs.ProgressLaws.{written_within, progress_start, progress-line, progress_used, feeds_by}
use Rattle.agent.proofs.feed.feed.Goals as goal
use Rattle.agent.proofs.feed.feed.Goals.{then-loop-read-test+else-out-wrote-ge-MOST_LINE, else-loop-read-test}

pub loop-read-init : goal.loop-read-init
loop-read-init c = let a = c.args.a in record {
  within = omega arith;
  room = omega arith;
  long = refl;
  trusted = rw c.bytes-library.ensures (λ e. test_parts a.library a.length a.state (sym c.is_well_formed-formed.ensures ∙ e));
  progress = progress_start _ _ _ _ _ _;
  between = inl (refl, refl);
  sized = record { queue = search (rules, length-mapped); stacks = search (rules, length-mapped) };
}

pub overflow_sub-out : goal.overflow_sub-out
overflow_sub-out c = c.loop-read.invariant.room

pub returns-in_default : goal.returns-in_default
returns-in_default c =
    let i = c.loop-read.invariant in
    let told = sym (ap shown c.in_default.is) ∙ c.next_line.ensures in
    feeds_by _ c.bytes-library.ensures c.is_well_formed-formed.ensures
    (progress_used _ _ _ _ _ _ i.progress told c.carried.result c.carried.ensures) refl (omega arith) i.room
    (λ h. absurd (omega arith)) (λ h. absurd (omega arith))

pub returns : goal.returns
returns c =
    let i = c.loop-read.invariant in
    feeds_by _ c.bytes-library.ensures c.is_well_formed-formed.ensures i.progress refl i.within i.room
    (λ h. elim c.loop-read-test.branch [
      | then-loop-read-test+else-out-wrote-ge-MOST_LINE w ↦ omega (arith, w.if-out-wrote-ge-MOST_LINE.false, i.room)
      | else-loop-read-test w ↦ absurd (omega (arith, w.loop-read-test.false))
    ]) (λ h. i.between)

pub look_at-look-requires : goal.look_at-look-requires
look_at-look-requires c = λ e. (counts-parts c.loop-read.state (c.loop-read.invariant.trusted e).fit).stacked

pub moved-result-requires : goal.moved-result-requires
moved-result-requires c = let i = c.loop-read.invariant in (i.trusted, (c.look_at-look.ensures, i.sized))

pub loop-read-smaller : goal.loop-read-smaller
loop-read-smaller c =
    let l = c.loop-read in
    let moves = line_moves _ l.read l.held c.in-Some.line (sym (ap shown c.in-Some.is) ∙ c.next_line.ensures) in
    omega (arith, moves.0, moves.1)

pub loop-read-smaller-in-Answered : goal.loop-read-smaller-in-Answered
loop-read-smaller-in-Answered c =
    let l = c.loop-read in
    let moves = line_moves _ l.read l.held c.in-Some.line (sym (ap shown c.in-Some.is) ∙ c.next_line.ensures) in
    omega (arith, moves.0, moves.1)

pub loop-read-preserved : goal.loop-read-preserved
loop-read-preserved c =
    let l = c.loop-read in
    let i = l.invariant in
    let told = sym (ap shown c.in-Some.is) ∙ c.next_line.ensures in
    let responds = c.moved-result.ensures.responds in
    let room : l.wrote + most_line ≤ length l.out = omega (arith, c.if-out-wrote-ge-MOST_LINE.true, i.room) in
    let printed = c.print_result-wrote-in-loop-read.ensures in
    let kept = c.print_result-wrote-in-loop-read.auto.out in record {
      within = (line_moves _ l.read l.held c.in-Some.line told).1;
      room = written_within l.wrote (printed.line room).within room kept;
      long = kept ∙ i.long;
      trusted = trusted_next _ _ _ i.trusted _ _ responds;
      progress = progress-line _ _ _ _ _ _ i.progress (omega (arith, room, i.long)) c.in-Some.line told _ responds (printed.fit room) (printed.line room)
          c.no_line-held.result c.no_line-held.ensures;
      between = inr c.no_line-held.ensures;
      sized = c.moved-result.ensures.sized;
    }

pub loop-read-preserved-in-Answered : goal.loop-read-preserved-in-Answered
loop-read-preserved-in-Answered c =
    let l = c.loop-read in
    let i = l.invariant in
    let told = sym (ap shown c.in-Some.is) ∙ c.next_line.ensures in
    let lib = c.bytes-library.result.now in
    let formed = c.is_well_formed-formed.result in
    let answered = subst (Looks formed l.state (meaning c.in-Some.line.call)) c.in-Answered.is c.look_at-look.ensures in
    let responds : Responds lib formed l.state (meaning c.in-Some.line.call) (record { state = l.state; result = c.plain_result.result })
    = rw c.plain_result.ensures (answers-respond lib l.state i.sized formed i.trusted answered) in
    let room : l.wrote + most_line ≤ length l.out = omega (arith, c.if-out-wrote-ge-MOST_LINE.true, i.room) in
    let printed = c.print_result-wrote.ensures in
    let kept = c.print_result-wrote.auto.out in record {
      within = (line_moves _ l.read l.held c.in-Some.line told).1;
      room = written_within l.wrote (printed.line room).within room kept;
      long = kept ∙ i.long;
      trusted = trusted_next _ _ _ i.trusted _ _ responds;
      progress = progress-line _ _ _ _ _ _ i.progress (omega (arith, room, i.long)) c.in-Some.line told _ responds (printed.fit room) (printed.line room)
          c.no_line-held.result c.no_line-held.ensures;
      between = inr c.no_line-held.ensures;
      sized = i.sized;
    }
