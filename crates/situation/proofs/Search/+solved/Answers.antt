-- `situation::Search::solved` meets its contract: each turn folds in what a belief gives, and where no later one counts the rest changes nothing.
use native.Mathlib.Omega.{arith}
use Prim.Native.Nat.{ℕ, ◌+◌, ◌-◌}
use mathlib.Core.Path.{◌≡◌, sym, ◌∙◌}
use mathlib.Core.List.{List, foldl}
use lib.ListN.{drop}
use Rattle.std.specs.Prelude.{Option}
use Rattle.literal.specs.declared.Literal.{Literal}
use Rattle.literal.specs.declared.Env.{Env}
use Rattle.library.specs.Bytes.{literal_at, items}
use Rattle.situation.specs.declared.Rule.{Rule}
use Rattle.situation.specs.Solutions.{over_beliefs, solve}
use Rattle.situation.specs.Search.{consider}
use Rattle.situation.proofs.KeepLaws.{settled_stays}
use Rattle.situation.proofs.PassLaws.{solve-none, solve_more, turn_hit, turn-miss, turn_end}
use Rattle.situation.proofs.Search.+solved.Goals as goal
use Rattle.situation.proofs.Search.+solved.Goals.{in-Some, in_default}

-- the solutions that are still to come
abbrev rest : List ℕ → ℕ → ℕ → Env → List Literal → Literal → ℕ → List Env
rest bytes at remaining env beliefs l i = over_beliefs l env (solve beliefs (items (literal_at bytes) 8 (remaining - 1) (at + 8))) (drop i beliefs)

-- where the rest changes nothing, what is kept is the answer
finish : (bytes : List ℕ) (at remaining : ℕ) (env : Env) (rule : Rule) (beliefs : List Literal) (l : Literal) (i : ℕ) (next best : Option Env)
    → (remaining ≡ 0 → ⊥) → l ≡ literal_at bytes at
    → foldl (consider rule) next (rest bytes at remaining env beliefs l i) ≡ foldl (consider rule) best (over_beliefs l env (solve beliefs (items (literal_at bytes) 8 (remaining - 1) (at + 8))) beliefs)
    → foldl (consider rule) next (rest bytes at remaining env beliefs l i) ≡ next
    → next ≡ foldl (consider rule) best (solve beliefs (items (literal_at bytes) 8 remaining at) env)
finish bytes at remaining env rule beliefs l i next best some first inv p =
    rw (solve_more beliefs bytes at remaining env some, ← first, ← inv) (sym p)

pub returns-then-remaining-eq0 : goal.returns-then-remaining-eq0
returns-then-remaining-eq0 t c =
    let a = c.args in
    let s = a.self.now in
    rw (solve-none s.beliefs.now s.bytes.now a.at a.remaining a.env c.if-remaining-eq0.true) c.considered.ensures

pub returns-then-is_settled : goal.returns-then-is_settled
returns-then-is_settled t c =
    let a = c.args in
    let s = a.self.now in
    let l = c.loop-belief in
    finish s.bytes.now a.at a.remaining a.env s.rule s.beliefs.now c.literal_at-l.result l.belief-index l.next a.best c.if-remaining-eq0.false c.literal_at-l.ensures l.invariant
    (settled_stays s.rule l.next (rest s.bytes.now a.at a.remaining a.env s.beliefs.now c.literal_at-l.result l.belief-index) (sym c.is_settled.ensures ∙ c.if-is_settled.true))

pub loop-belief-preserved : goal.loop-belief-preserved
loop-belief-preserved t c =
    let a = c.args in
    let s = a.self.now in
    let l = c.loop-belief in
    elim c.match-match_literal.branch [
      | in-Some w ↦ turn_hit (consider s.rule) _ a.env _ s.beliefs.now _ l.belief-index l.next (omega arith) _ _ w.in-Some.ensures (w.next-is ∙ w.solved-next.ensures) ∙ l.invariant
      | in_default w ↦ rw w.next-is (turn-miss (consider s.rule) _ a.env _ s.beliefs.now _ l.belief-index l.next (omega arith) w.in_default.ensures) ∙ l.invariant
    ]

pub returns : goal.returns
returns t c =
    let a = c.args in
    let s = a.self.now in
    let l = c.loop-belief in
    finish s.bytes.now a.at a.remaining a.env s.rule s.beliefs.now c.literal_at-l.result l.belief-index l.next a.best c.if-remaining-eq0.false c.literal_at-l.ensures l.invariant
    (turn_end (consider s.rule) _ a.env _ s.beliefs.now l.belief-index _ (omega arith))
