-- What the call for a plan's endings gives (document 02, request 10).
use Rattle.std.specs.Prelude.{ℕ, cond, List, eqb, leb, Result, Ok, Err}
use Rattle.library.specs.Layout.{plan_of}
use Rattle.accepted.specs.Refusal.{stage, part_refusal_of}
use Rattle.endings.specs.declared.Counts.{Counts}
use Rattle.endings.specs.Answers.{most_answers, endings}

-- as for the plan part; then 15 where n is over 15
unfoldable pub endings_refusal : List ℕ → ℕ → ℕ → ℕ
endings_refusal bytes plan n = cond (eqb (part_refusal_of bytes plan) 0) (stage 15 (leb n most_answers) 0) (part_refusal_of bytes plan)

-- the counts of the plan's body from its state 0, or the refusal's number
unfoldable pub endings_of : List ℕ → ℕ → ℕ → Result Counts ℕ
endings_of bytes plan n =
    cond (eqb (endings_refusal bytes plan n) 0) (Ok (endings (plan_of bytes plan).states 0 0 n)) (Err (endings_refusal bytes plan n))
