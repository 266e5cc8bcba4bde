-- The test of a plan's parts: each begins where the one before it ends.
use Prim.Native.Nat.{ℕ, ◌+◌}
use mathlib.Core.Path.{◌≡◌, refl}
use mathlib.Core.Bool.{Bool, true, false, ◌&&◌}
use mathlib.Core.List.{List}
use lib.Dec.{eqb}
use Rattle.std.specs.Prelude.{Option, None, Some}
use Rattle.std.specs.Bool.{then_some}
use Rattle.std.specs.Option.{option_and_then, option_eq}
use Rattle.library.specs.Layout.{situation_at, situation_end, actions_at, actions_end, states_at, states_end, plan_at}
use Rattle.library.specs.Layout.{context_off, maintenance_off, success_off, failure_off, states_off, plan_end}
use Rattle.lists.proofs.BoolLaws.{by_cases}
use Rattle.accepted.specs.Rules.{situation_ok, actions_ok, states_ok, trigger_ok, parts_ok, plan_ok}
use Rattle.accepted.specs.Refusal.{plan_fits_at}

-- the end of a part at an offset
abbrev pub past_situation : List ℕ → ℕ → Option ℕ
past_situation bytes at = then_some (situation_ok (situation_at bytes at)) (situation_end bytes at)

abbrev pub past_actions : List ℕ → ℕ → Option ℕ
past_actions bytes at = then_some (actions_ok (actions_at bytes at)) (actions_end bytes at)

abbrev pub past_states : List ℕ → ℕ → Option ℕ
past_states bytes at = then_some (states_ok (states_at bytes at)) (states_end bytes at)

-- past the parts behind a plan's trigger
abbrev pub past_parts : List ℕ → ℕ → Option ℕ
past_parts bytes off =
    option_and_then (λ maintenance.
    option_and_then (λ success.
    option_and_then (λ failure.
    option_and_then (past_states bytes) (past_actions bytes failure))
    (past_actions bytes success))
    (past_situation bytes maintenance))
    (past_situation bytes (context_off off))

-- a part that breaks its rules, and one that keeps them
pub goes_no_further : (next : ℕ → Option ℕ) (part : Option ℕ) → part ≡ None → None ≡ option_and_then next part
goes_no_further next part e = rw e refl

pub goes_on : (next : ℕ → Option ℕ) (part : Option ℕ) (end : ℕ) → part ≡ Some end → next end ≡ option_and_then next part
goes_on next part end e = rw e refl

module _ (bytes : List ℕ) (off : ℕ) where
  pub parts_end : past_parts bytes off ≡ then_some (parts_ok (plan_at bytes off)) (plan_end bytes off)
  unfolding plan_at plan_end states_off failure_off success_off maintenance_off
  parts_end =
      by_cases (situation_ok (situation_at bytes (context_off off)))
      (λ context. rw context (by_cases (situation_ok (situation_at bytes (maintenance_off bytes off)))
      (λ maintenance. rw maintenance (by_cases (actions_ok (actions_at bytes (success_off bytes off)))
      (λ success. rw success (by_cases (actions_ok (actions_at bytes (failure_off bytes off)))
      (λ failure. rw failure refl) (λ failure. rw failure refl)))
      (λ success. rw success refl)))
      (λ maintenance. rw maintenance refl)))
      (λ context. rw context refl)

  -- ---- A plan, whose trigger decides first

  ends_at : (ok : Bool) (end place : ℕ) → option_eq eqb (then_some ok end) (Some place) ≡ (ok && eqb end place)
  ends_at true end place = refl
  ends_at false end place = refl

  pub parts_decide : (size : ℕ) → trigger_ok (plan_at bytes off).kind (plan_at bytes off).least ≡ true
      → option_eq eqb (then_some (parts_ok (plan_at bytes off)) (plan_end bytes off)) (Some (off + size)) ≡ plan_fits_at bytes off size
  unfolding plan_fits_at plan_ok
  parts_decide size h = rw h (ends_at (parts_ok (plan_at bytes off)) (plan_end bytes off) (off + size))

  pub trigger_fails : (size : ℕ) → trigger_ok (plan_at bytes off).kind (plan_at bytes off).least ≡ false → false ≡ plan_fits_at bytes off size
  unfolding plan_fits_at plan_ok
  trigger_fails size h = rw h refl
