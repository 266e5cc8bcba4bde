-- What an instance does at its turn, by what the library's readers give.
use Prim.Native.Nat.{ℕ, ◌<◌, ◌≤◌}
use native.Mathlib.Omega.{arith}
use mathlib.Core.Path.{◌≡◌, ap, sym, ◌∙◌}
use mathlib.Core.Bool.{Bool, true, false}
use mathlib.Core.List.{List, []}
use lib.ListN.{length, get_or}
use borrow.Author.Tests.{le-leb, lt-leb, eq-eqb, ne_eqb}
use Rattle.literal.specs.declared.Literal.{Literal}
use Rattle.library.specs.declared.Branch.{Branch}
use Rattle.library.specs.declared.plan.PlanRef.{PlanRef}
use Rattle.library.specs.Plan.{Plan, Library, no_plan, no_branch}
use Rattle.library.specs.Layout.{situation_at, maintenance_off, plan_at, entry_off, described}
use Rattle.situation.specs.Solutions.{solutions, first_of, holds_from}
use Rattle.model.specs.declared.Instance.{Instance}
use Rattle.model.specs.Instance.{plan_of, branches_of}
use Rattle.model.specs.Turn.{fails, succeeds, tries, move_by, next_move}

module _ (library : Library) (x : Instance) (beliefs : List Literal) where
  move_of : (plan : Plan) → plan_of library x ≡ plan
      → next_move library beliefs x ≡ move_by (holds_from beliefs plan.maintenance x.env) (get_or plan.states x.state []) x.tried
  unfolding next_move branches_of
  move_of plan e = ap (λ (p : Plan). move_by (holds_from beliefs p.maintenance x.env) (get_or p.states x.state []) x.tried) e

  -- of a plan that does not exist no maintenance holds
  pub move_none : plan_of library x ≡ no_plan → fails ≡ next_move library beliefs x
  unfolding move_by solutions first_of
  move_none e = sym (move_of no_plan e)

  module _ (plan : PlanRef) (e : plan_of library x ≡ described plan) where
    abbrev branches : List Branch
    branches = get_or (described plan).states x.state []

    module _ (at : ℕ) (kept : Bool) (o : at ≡ maintenance_off plan.library.now (entry_off plan.library.now plan.number))
        (h : kept ≡ holds_from beliefs (situation_at plan.library.now at) x.env) where
      tested : (b : Bool) → kept ≡ b → next_move library beliefs x ≡ move_by b branches x.tried
      unfolding plan_at
      tested b p =
          move_of (described plan) e
          ∙ ap (λ (n : ℕ). move_by (holds_from beliefs (situation_at plan.library.now n) x.env) branches x.tried) (sym o)
          ∙ ap (λ (b : Bool). move_by b branches x.tried) (sym h ∙ p)

      pub move_unkept : kept ≡ false → fails ≡ next_move library beliefs x
      unfolding move_by
      move_unkept p = sym (tested false p)

      module _ (p : kept ≡ true) (count : ℕ) (n : count ≡ length branches) where
        pub move_end : count ≡ 0 → succeeds ≡ next_move library beliefs x
        unfolding move_by
        move_end q = sym (tested true p ∙ rw (eq-eqb (length branches) 0 (sym n ∙ q)))

        pub move_spent : (count ≡ 0 → ⊥) → count ≤ x.tried → fails ≡ next_move library beliefs x
        unfolding move_by
        move_spent q low = sym (tested true p ∙ rw (ne_eqb (length branches) 0 (λ z. q (n ∙ z)), le-leb (length branches) x.tried (omega arith)))

        pub move_tries : x.tried < count → tries (get_or branches x.tried no_branch) ≡ next_move library beliefs x
        unfolding move_by
        move_tries low =
            sym (tested true p ∙ rw (ne_eqb (length branches) 0 (λ z. absurd (omega arith)), lt-leb (length branches) x.tried (omega arith)))
