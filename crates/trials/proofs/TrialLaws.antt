-- What each way through the code of a trial answers.
use native.Mathlib.Omega.{arith}
use mathlib.Core.Path.{◌≡◌, refl, ap}
use mathlib.Core.Bool.{Bool, true, false, cond, not, ◌&&◌, ◌||◌}
use mathlib.Core.List.{List, [], ◌∷◌, ◌++◌}
use Rattle.lists.proofs.BoolLaws.{both_ways}
use Rattle.literal.specs.Literal.{is_ground}
use Rattle.literal.specs.declared.Literal.{Literal}
use Rattle.literal.specs.declared.Env.{Env}
use Rattle.belief.specs.declared.Beliefs.{Beliefs}
use Rattle.belief.specs.declared.Change.{Change}
use Rattle.belief.specs.Beliefs.{view, holds, fits, replay}
use Rattle.model.specs.Changes.{takes_effect, clearing, effective}
use Rattle.model.specs.Try.{stepped, is_possible, try_change}
use Rattle.trials.specs.declared.changes.Altered.{Altered}
use Rattle.trials.specs.declared.tries.Outcome.{Outcome}
use Rattle.trials.specs.declared.tries.Outcome.TheVariants.{Missed, Stepped, Done, Posted}
use Rattle.trials.specs.Altered.{changes_of, untouched, Alters}
use Rattle.trials.specs.Trial.{view_outcome, changes_by, Tries}

-- ---- No belief changes

pub untouched_alters : (b : Beliefs) (a : Altered) → a ≡ untouched b → Alters b [] a
unfolding replay
untouched_alters b a e =
    let table = ap (λ (x : Altered). x.table) e in
    let count = ap (λ (x : Altered). x.count) e in
    record { noted = ap changes_of e; table = ap view table; few = λ few. rw table few; count = omega (arith, count) }

pub plain_tries : (b : Beliefs) (env : Env) (outcome : Outcome) (a : Altered) → a ≡ untouched b
    → Tries b (view_outcome outcome env []) (record { outcome = outcome; env = env; altered = a })
plain_tries b env outcome a e =
    record {
      shown = ap (view_outcome outcome env) (ap changes_of e);
      altered = rw (quiet outcome) (untouched_alters b a e);
    }
  where
    quiet : (o : Outcome) → changes_by (view_outcome o env []) ≡ []
    quiet Missed = refl
    quiet Stepped = refl
    quiet (Done l) = refl
    quiet (Posted goal) = refl

-- a step with changes
pub step_tries : (b : Beliefs) (env : Env) (changes : List Change) (a : Altered) → Alters b changes a
    → Tries b (stepped env changes) (record { outcome = Stepped; env = env; altered = a })
step_tries b env changes a h = record { shown = ap (stepped env) h.noted; altered = h }

-- ---- An add or a removal

-- what is not possible has no effect
impossible_none : (beliefs : List Literal) (c : Change) → is_possible beliefs c ≡ false → effective beliefs c ≡ []
unfolding is_possible effective takes_effect
impossible_none beliefs c p = go (is_ground c.literal) c.removes (holds beliefs c.literal) (fits beliefs c.literal) p
  where
    go : (ground removes held room : Bool) → (ground && (removes || room)) ≡ false
        → cond (ground && cond removes held (not held && room)) (clearing beliefs c ++ (c ∷ [])) [] ≡ []
    go false removes held room e = refl
    go true true held room e = both_ways refl e
    go true false held true e = both_ways refl e
    go true false true false e = refl
    go true false false false e = refl

module _ (b : Beliefs) (env : Env) (c : Change) (a : Altered) (h : Alters b (effective (view b) c) a) where
  pub possible_tries : is_possible (view b) c ≡ true → Tries b (try_change (view b) env c) (record { outcome = Stepped; env = env; altered = a })
  unfolding try_change
  possible_tries p = rw p (step_tries b env (effective (view b) c) a h)

  pub impossible_tries : is_possible (view b) c ≡ false → Tries b (try_change (view b) env c) (record { outcome = Missed; env = env; altered = a })
  unfolding try_change
  impossible_tries p = rw p (record { shown = refl; altered = rw (impossible_none (view b) c p) at h })
