-- `library::bytes::literal_at` meets its contract: byte by byte, or number by number where some are past the end.
use borrow.Author.Rules.{rules}
use mathlib.Core.Path.{◌≡◌, sym, ◌∙◌}
use Prim.Native.Nat.{◌+◌}
use Rattle.library.specs.Bytes.{u16_at}
use Rattle.library.proofs.PastEnd.{literal_past}
use Rattle.library.proofs.bytes.literal_at.Goals as goal

pub returns-then-bytes-at : goal.returns-then-bytes-at
returns-then-bytes-at c = c.no_literal.ensures ∙ sym (literal_past c.args.bytes.now c.args.at c.if-bytes-at.true)

pub returns : goal.returns
unfolding u16_at
returns c =
    let bytes = c.args.bytes.now in
    let at = c.args.at in
    let head : c.from_le_bytes.result ≡ u16_at bytes at = search rules in
    let first : c.from_le_bytes-2.result ≡ u16_at bytes (at + 2) = search rules in
    let second : c.from_le_bytes-3.result ≡ u16_at bytes (at + 4) = search rules in
    let third : c.from_le_bytes-4.result ≡ u16_at bytes (at + 6) = search rules in
    λ i. record { head = head i; first = first i; second = second i; third = third i }
