-- Which belief changes take effect (document 01, "The three calls": effective changes, action lists; dMARS 8.4.2, performintaction).
-- Departs from dMARS: an action that is not ground or finds 64 beliefs is skipped.
use Rattle.std.specs.Prelude.{ℕ, Bool, true, false, cond, not, ◌&&◌, List, [], ◌∷◌, ◌++◌, ltb, eqb, length}
use Rattle.literal.specs.declared.Literal.{Literal}
use Rattle.literal.specs.declared.Env.{Env}
use Rattle.literal.specs.Literal.{is_ground, opposite}
use Rattle.literal.specs.Environment.{instantiate}
use Rattle.belief.specs.declared.Change.{Change}
use Rattle.belief.specs.Beliefs.{most_beliefs, holds, fits, change, replay}
use Rattle.library.specs.declared.Action.{Action}

-- kind 0 adds, 1 removes: in reports, branches and lists
abbrev pub change_of : ℕ → Literal → Change
change_of kind literal = record { removes = eqb kind 1; literal = literal }

abbrev pub when : {A : Type 0} → Bool → A → List A
when true x = x ∷ []
when false x = []

-- a removal of a held literal, or an add of a new one that fits
unfoldable pub takes_effect : List Literal → Change → Bool
takes_effect beliefs c = cond c.removes (holds beliefs c.literal) (not (holds beliefs c.literal) && fits beliefs c.literal)

-- what an add takes out first: its opposite, where that is held
unfoldable pub clearing : List Literal → Change → List Change
clearing beliefs c =
    when (not c.removes && holds beliefs (opposite c.literal)) (record { removes = true; literal = opposite c.literal })

-- the change itself where it takes effect, behind what it takes out; else none
unfoldable pub effective : List Literal → Change → List Change
effective beliefs c = cond (is_ground c.literal && takes_effect beliefs c) (clearing beliefs c ++ (c ∷ [])) []

-- an action under an environment
abbrev pub as_change : Env → Action → Change
as_change env action = change_of action.kind (instantiate env action.literal)

-- the changes that take effect when a list of actions runs in order, on the changing table
unfoldable pub effects : List Literal → Env → List Action → List Change
effects beliefs env [] = []
effects beliefs env (action ∷ actions) =
    let now = effective beliefs (as_change env action) in now ++ effects (replay beliefs now) env actions

-- ---- What a result may report (document 01: "a result may not report a change [..] that the definition lacks")

-- a removal of a held literal, or an add of a new one whose opposite is absent and that finds room
unfoldable pub alters : List Literal → Change → Bool
alters beliefs c =
    cond c.removes (holds beliefs c.literal)
    (not (holds beliefs c.literal) && (not (holds beliefs (opposite c.literal)) && ltb (length beliefs) most_beliefs))

-- every change of the list takes effect, one after the other
unfoldable pub are_effective : List Literal → List Change → Bool
are_effective beliefs [] = true
are_effective beliefs (c ∷ changes) = (is_ground c.literal && alters beliefs c) && are_effective (change beliefs c) changes
