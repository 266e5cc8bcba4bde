use Rattle.std.proofs.Common.{◌≡◌, ℕ, ◌≤◌, Bool, true, false, List, length, ap, refl, sym, ◌∙◌, length-take-le}
use Rattle.agent.specs.declared.feed.Fed.{Fed}
use Rattle.dialogue.specs.declared.Dialogue.{Dialogue}
use Rattle.dialogue.specs.Dialogue.{after_by, TurnsBy}
use Rattle.canarystand.proofs.host.Host.answer_all.Goals as goal

wrote_by : (end : Bool) (d : Dialogue) (piece : List ℕ) (fed : Fed) → (after_by end d piece fed).wrote ≡ fed.wrote
unfolding after_by
wrote_by true d piece fed = refl
wrote_by false d piece fed = refl

-- what a turn wrote is within the buffer
within : {end : Bool} {d r : Dialogue} {piece before after : List ℕ} → TurnsBy end d piece before after r → r.wrote ≤ length after
within {end} {d} {r} {piece} t = rw (ap (λ (x : Dialogue). x.wrote) t.gives ∙ wrote_by end d piece t.fed) t.feeds.room

pub slice_bounds-print-end : goal.slice_bounds-print-end
slice_bounds-print-end g c = within c.answer.ensures

pub slice_bounds-print-end-in-Answer : goal.slice_bounds-print-end-in-Answer
slice_bounds-print-end-in-Answer g c = sym (length-take-le c.answer.new.self.wrote c.answer.new.out (within c.answer.ensures))
