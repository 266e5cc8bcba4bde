-- Two results with one text are one result: the letter and the fields of a line tell the answer.
use Prim.Native.Nat.{ℕ, ◌+◌, ◌≤◌}
use mathlib.Core.Path.{◌≡◌, refl, sym, ap, ap₂, ◌∙◌}
use mathlib.Core.Bool.{true}
use mathlib.Core.List.{List}
use lib.ListN.{get_or, length}
use Rattle.literal.specs.declared.Literal.{Literal}
use Rattle.library.specs.Plan.{no_literal}
use Rattle.model.specs.declared.Answer.{Answer}
use Rattle.model.specs.declared.Answer.TheVariants.{Taken, Idle, Dropped, Unmet, MadeExternal, MadeGoal, Stepped, Missed, Done, Posted, Succeeded, Failed, Refused}
use Rattle.model.specs.State.{Result}
use Rattle.model.specs.Lines.{Letter, T, I, N, U, M, S, B, D, G, E, F, X, Field, number, e, g, literal, letter_of, fields_of, line_of}
use Rattle.printing.specs.LineText.{result_text, most_line, fits}
use Rattle.printing.specs.Prints.{Prints}
use Rattle.printing.proofs.LineInjective.{line_injective}

number_in : Field → ℕ
number_in (number n) = n
number_in e = 0
number_in g = 0
number_in (literal l) = 0

literal_in : Field → Literal
literal_in (number n) = no_literal
literal_in e = no_literal
literal_in g = no_literal
literal_in (literal l) = l

-- by the word before the last number
made_by : Field → ℕ → ℕ → ℕ → Answer
made_by (number n) i plan k = MadeGoal i plan k
made_by e i plan k = MadeExternal i plan k
made_by g i plan k = MadeGoal i plan k
made_by (literal l) i plan k = MadeGoal i plan k

-- the number at a place among the fields
number_at : List Field → ℕ → ℕ
number_at fields i = number_in (get_or fields i e)

-- the answer of a letter and its fields
answer_of : Letter → List Field → Answer
answer_of T fields = Taken (number_at fields 0)
answer_of I fields = Idle
answer_of N fields = Dropped (number_at fields 0) (number_at fields 1)
answer_of U fields = Unmet (number_at fields 0) (number_at fields 1) (number_at fields 2) (number_at fields 3)
answer_of M fields = made_by (get_or fields 2 e) (number_at fields 0) (number_at fields 1) (number_at fields 3)
answer_of S fields = Stepped (number_at fields 0) (number_at fields 1) (number_at fields 2) (number_at fields 3)
answer_of B fields = Missed (number_at fields 0) (number_at fields 1) (number_at fields 2)
answer_of D fields = Done (number_at fields 0) (number_at fields 1) (number_at fields 2) (literal_in (get_or fields 3 e))
answer_of G fields = Posted (number_at fields 0) (number_at fields 1) (number_at fields 2)
answer_of E fields = Succeeded (number_at fields 0)
answer_of F fields = Failed (number_at fields 0)
answer_of X fields = Refused (number_at fields 0)

answer_of_lem : (answer : Answer) → answer_of (letter_of answer) (fields_of answer) ≡ answer
unfolding letter_of fields_of answer_of number_at number_in literal_in made_by
answer_of_lem (Taken n) = refl
answer_of_lem Idle = refl
answer_of_lem (Dropped n failures) = refl
answer_of_lem (Unmet i s b failures) = refl
answer_of_lem (MadeExternal i plan n) = refl
answer_of_lem (MadeGoal i plan poster) = refl
answer_of_lem (Stepped i s b next) = refl
answer_of_lem (Missed i s b) = refl
answer_of_lem (Done i s b l) = refl
answer_of_lem (Posted i s b) = refl
answer_of_lem (Succeeded i) = refl
answer_of_lem (Failed i) = refl
answer_of_lem (Refused n) = refl

-- two results with one line are one result
pub line_of_injective : (r q : Result) → line_of r ≡ line_of q → r ≡ q
line_of_injective r q same =
    let answers : r.answer ≡ q.answer
    = sym (answer_of_lem r.answer) ∙ ap₂ answer_of (ap (λ line. line.letter) same) (ap (λ line. line.fields) same) ∙ answer_of_lem q.answer in
    let changes : r.changes ≡ q.changes = ap (λ line. line.changes) same in
    λ i. record { answer = answers i; changes = changes i }

-- two results with one text are one result
pub result_injective : (r q : Result) → fits r ≡ true → fits q ≡ true → result_text r ≡ result_text q → r ≡ q
result_injective r q p s same = line_of_injective r q (line_injective (line_of r) (line_of q) p s same)

-- two calls that printed one text printed one result
pub printed_injective : {before after before' after' : List ℕ} {at next at' next' : ℕ} {r q : Result}
    → Prints before after at next r → Prints before' after' at' next' q → at + most_line ≤ length before → at' + most_line ≤ length before'
    → result_text r ≡ result_text q → r ≡ q
printed_injective {r = r} {q = q} p s room room' same = result_injective r q (p.fit room) (s.fit room') same
