-- Past the end of the bytes everything reads as 0.
use Prim.Native.Nat.{ℕ, ◌+◌, ◌≤◌}
use mathlib.Core.Path.{◌≡◌}
use mathlib.Core.List.{List}
use native.Mathlib.Omega.{arith}
use lib.ListN.{length, get_or, get_or-eq_default}
use Rattle.library.specs.Plan.{no_literal, no_action, no_branch}
use Rattle.library.specs.Bytes.{u16_at, literal_at, action_at, branch_at}

module _ (bytes : List ℕ) where
  pub byte_past : (at : ℕ) → length bytes ≤ at → get_or bytes at 0 ≡ 0
  byte_past at past = get_or-eq_default bytes 0 past

  pub u16_past : (at : ℕ) → length bytes ≤ at → u16_at bytes at ≡ 0
  unfolding u16_at
  u16_past at past = rw (byte_past at past, byte_past (at + 1) (omega arith))

  pub literal_past : (at : ℕ) → length bytes ≤ at → literal_at bytes at ≡ no_literal
  literal_past at past =
      let head = u16_past at past in
      let first = u16_past (at + 2) (omega arith) in
      let second = u16_past (at + 4) (omega arith) in
      let third = u16_past (at + 6) (omega arith) in
      λ i. record { head = head i; first = first i; second = second i; third = third i }

  pub action_past : (at : ℕ) → length bytes ≤ at → action_at bytes at ≡ no_action
  action_past at past =
      let kind = u16_past at past in
      let literal = literal_past (at + 2) (omega arith) in
      λ i. record { kind = kind i; literal = literal i }

  pub branch_past : (at : ℕ) → length bytes ≤ at → branch_at bytes at ≡ no_branch
  branch_past at past =
      let kind = u16_past at past in
      let literal = literal_past (at + 2) (omega arith) in
      let next = u16_past (at + 10) (omega arith) in
      λ i. record { kind = kind i; literal = literal i; next = next i }
