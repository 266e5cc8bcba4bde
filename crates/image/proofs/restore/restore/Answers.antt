-- `image::restore::restore` meets its contract: 12, then 10, else the agent.
use Prim.Native.Nat.{ℕ}
use mathlib.Core.Path.{sym, ◌∙◌}
use lib.ListN.{replicate, length-replicate}
use Rattle.accepted.specs.Refusal.{most_bytes}
use Rattle.image.proofs.RestoreLaws.{refused-image, refused_formed, restored}
use Rattle.image.proofs.restore.restore.Goals as goal

pub returns-then-not-is_image_of : goal.returns-then-not-is_image_of
returns-then-not-is_image_of c =
    refused-image _ _ c.form_in-form.ensures _ c.state-state.ensures (sym c.is_image_of.ensures ∙ c.if-not-is_image_of.true)

pub returns-then-not-is_formed : goal.returns-then-not-is_formed
returns-then-not-is_formed c =
    refused_formed _ _ c.form_in-form.ensures _ c.state-state.ensures c.library-own.ensures.value
    (sym c.is_image_of.ensures ∙ c.if-not-is_image_of.false) (sym c.is_formed.ensures ∙ c.if-not-is_formed.true)

pub returns : goal.returns
returns c =
    restored _ _ c.form_in-form.ensures _ c.state-state.ensures c.library-own.ensures.value (sym c.is_image_of.ensures ∙ c.if-not-is_image_of.false)
    (sym c.is_formed.ensures ∙ c.if-not-is_formed.false) _ (replicate most_bytes 0) c.copy_from_slice.ensures.after
    (length-replicate {A = ℕ} most_bytes 0) c.library-own.ensures.few
