-- From the code's answer to what it gives for a reply of the model.
use native.Mathlib.Omega.{arith}
use mathlib.Core.Path.{◌≡◌, refl, ap, subst⁻¹, ◌∙◌}
use mathlib.Core.Bool.{true, false}
use mathlib.Core.List.{[]}
use Rattle.lists.proofs.BoolLaws.{both_ways}
use Rattle.model.specs.declared.Answer.{Answer}
use Rattle.model.specs.State.{Reply, reply}
use Rattle.model.specs.Calls.{is_refusal}
use Rattle.state.specs.declared.State.{State}
use Rattle.state.specs.View.{view_state, counts_fit}
use Rattle.steps.specs.declared.Acted.{Acted}
use Rattle.steps.specs.View.{plainly}
use Rattle.steps.specs.Gives.{Replies, Gives}

-- ---- The same reply, otherwise written

pub replies_as : {p q : Reply} {r : Acted} → p ≡ q → Replies p r → Replies q r
replies_as e h = record { means = h.means ∙ e; fit = h.fit; count = h.count }

pub gives_as : {s : State} {p q : Reply} {r : Acted} → p ≡ q → Gives s p r → Gives s q r
gives_as e h = record { means = h.means ∙ e; fit = h.fit; count = h.count; refused = h.refused }

-- ---- An answer with no changes

-- the state is the one it was: a refusal, or idle
pub gives_same : (s : State) (answer : Answer) (r : Acted) → r ≡ plainly s answer → counts_fit s ≡ true → Gives s (reply answer [] (view_state s)) r
gives_same s answer r e fits =
    subst⁻¹ (Gives s (reply answer [] (view_state s))) e (record { means = refl; fit = fits; count = omega arith; refused = λ x. refl })

-- ---- A reply that is no refusal

pub gives_answer : (s : State) (expected : Reply) (r : Acted) → is_refusal expected.result.answer ≡ false → Replies expected r → Gives s expected r
gives_answer s expected r e h = record {
  means = h.means;
  fit = h.fit;
  count = h.count;
  refused = λ q. both_ways q (ap (λ (a : Reply). is_refusal a.result.answer) h.means ∙ e);
}
