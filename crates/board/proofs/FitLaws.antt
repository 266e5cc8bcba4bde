-- Every field of every line fits its columns, in a state that is well formed over an accepted library.
use Prim.Native.Nat.{ℕ, suc, ◌+◌, ◌^◌, ◌<◌, ◌≤◌}
use native.Mathlib.Omega.{arith}
use mathlib.Core.Path.{◌≡◌, refl}
use mathlib.Core.Bool.{Bool, true, false, ◌&&◌}
use mathlib.Core.List.{List, [], ◌∷◌, ◌++◌, map}
use lib.Dec.{ltb, leb}
use lib.ListN.{length, get_or}
use borrow.Author.Tests.{ltb-true, leb-true, le-leb}
use Rattle.std.specs.List.{list_all}
use Rattle.lists.specs.Counts.{each}
use Rattle.lists.proofs.BoolLaws.{by_cases, and_parts, and_both}
use Rattle.lists.proofs.TestLaws.{all-joined}
use Rattle.literal.specs.Literal.{is_constant}
use Rattle.literal.specs.Environment.{is_env}
use Rattle.library.specs.Layout.{library_of, plan_count}
use Rattle.library.specs.Layout.{plan_of as planNumbered}
use Rattle.library.proofs.PartLaws.{length_plans}
use Rattle.accepted.specs.Refusal.{Accepted}
use Rattle.accepted.proofs.Accepted.{few_plans, keeps}
use Rattle.accepted.proofs.RuleFacts.{few-states, state-branches}
use Rattle.model.specs.declared.Instance.{Instance}
use Rattle.model.specs.State.{most_number, most_height, Intention}
use Rattle.model.specs.Instance.{is_suspended, plan_of, branches_of}
use Rattle.model.specs.Turn.{height_of}
use Rattle.model.specs.Live.{Job, jobs_on, jobs_of, live}
use Rattle.model.specs.WellFormed.{is_within, is_sound, is_instance, is_stack}
use Rattle.jobs.proofs.PlaceLaws.{plan_there}
use Rattle.printing.proofs.DecimalLaws.{length-decimal}
use Rattle.board.specs.Page.{number, entry, fits, Row, fields_of, rows_on, rows_from}

-- ---- A field

number_fits : (k n : ℕ) → n < 10 ^ suc k → fits (number (suc k) n) ≡ true
number_fits k n low = le-leb _ _ (length-decimal k n low)

pub entry-fits : (term : ℕ) → fits (entry term) ≡ true
entry-fits term =
    by_cases (is_constant term)
    (λ (e : is_constant term ≡ true). rw e (number_fits 4 term (omega (arith, ltb-true term 65528 e))))
    (λ (e : is_constant term ≡ false). rw e refl)

entries_fit : (terms : List ℕ) → list_all fits (map entry terms) ≡ true
entries_fit [] = refl
entries_fit (t ∷ terms) = and_both (fits (entry t)) (list_all fits (map entry terms)) (entry-fits t) (entries_fit terms)

-- ---- A row

-- every field fits, and every variable has an entry
abbrev pub is_fitting : Row → Bool
is_fitting row = list_all fits (fields_of row) && is_env row.instance.env

all-parts : {A : Type 0} (test : A → Bool) (xs ys : List A) → list_all test (xs ++ ys) ≡ true → (list_all test xs ≡ true) × (list_all test ys ≡ true)
all-parts test [] ys e = (refl, e)
all-parts test (x ∷ xs) ys e =
    let first = and_parts (test x) (list_all test (xs ++ ys)) e in
    let rest = all-parts test xs ys first.1 in
    (and_both (test x) (list_all test xs) first.0 rest.0, rest.1)

module _ (bytes : List ℕ) (accepted : Accepted bytes) (made : ℕ) (few : made ≤ most_number) where
  module _ (number height : ℕ) (x : Instance) (low : number < 10) (near : height < 10) (within : is_within made x.id ≡ true)
      (sound : is_sound (library_of bytes) x ≡ true) where
    row_fits : is_fitting (record { stack = number; height = height; instance = x }) ≡ true
    unfolding fields_of is_sound branches_of
    row_fits =
        let library = library_of bytes in
        let id = leb-true x.id made (and_parts (leb 1 x.id) (leb x.id made) within).1 in
        let p = and_parts (ltb x.plan (length library.plans)) _ sound in
        let s = and_parts (ltb x.state (length (plan_of library x).states)) _ p.1 in
        let t = and_parts (leb x.tried (length (branches_of library x))) _ s.1 in
        let env = (and_parts (is_env x.env) _ t.1).0 in
        let there = ltb-true x.plan (length library.plans) p.0 in
        let plan : x.plan < plan_count bytes = omega (arith, there, length_plans bytes) in
        let same = plan_there bytes x (plan_count bytes) refl plan in
        let own = (planNumbered bytes x.plan).states in
        let state : x.state < length own = rw same at (ltb-true x.state (length (plan_of library x).states) s.0) in
        let tried : x.tried ≤ length (get_or own x.state []) = rw same at (leb-true x.tried (length (branches_of library x)) t.0) in
        let rules = (keeps bytes accepted x.plan plan).states in
        let states = few-states own rules in
        let branches = state-branches own rules x.state state in
        and_both _ _
        (and_both _ _ (number_fits 0 number low)
        (and_both _ _ (number_fits 0 height near)
        (and_both _ _ (number_fits 9 x.id (omega (arith, id)))
        (and_both _ _ (number_fits 1 x.plan (omega (arith, plan, few_plans bytes accepted)))
        (and_both _ _ (number_fits 1 x.state (omega (arith, state, states)))
        (and_both _ _ (number_fits 0 x.tried (omega (arith, tried, branches)))
        (entries_fit x.env.terms)))))))
        env

  -- ---- A stack

  abbrev is_live : Job → Bool
  is_live = is_instance (library_of bytes) made

  rows_fit : (number external : ℕ) (xs : List Instance) → number < 10 → length xs < 10 → list_all is_live (jobs_on external xs) ≡ true
      → list_all is_fitting (rows_on number xs) ≡ true
  unfolding rows_on jobs_on is_instance
  rows_fit number external [] low near e = refl
  rows_fit number external (x ∷ below) low near e =
      let parts = and_parts _ (list_all is_live (jobs_on external below)) e in
      let this = and_parts (is_within made x.id) _ parts.0 in
      all-joined is_fitting (rows_on number below) _ (rows_fit number external below low (omega arith) parts.1)
      (and_both _ true (row_fits number (suc (length below)) x low near this.0 this.1) refl)

  -- ---- All stacks

  pub stacks_fit : (number : ℕ) (stacks : List Intention) → number + length stacks < 10 → list_all is_stack stacks ≡ true → list_all is_live (live stacks) ≡ true
      → list_all is_fitting (rows_from number stacks) ≡ true
  unfolding rows_from live is_stack
  stacks_fit number [] room formed e = refl
  stacks_fit number (stack ∷ stacks) room formed e =
      let jobs = all-parts is_live (jobs_of stack) (each jobs_of stacks) e in
      let first = and_parts (is_stack stack) (list_all is_stack stacks) formed in
      let rules = and_parts (list_all (λ x. is_suspended x.status) stack.below) _ first.0 in
      let height = leb-true (height_of stack) most_height (and_parts (leb (height_of stack) most_height) _ rules.1).0 in
      all-joined is_fitting (rows_on number (stack.top ∷ stack.below)) (rows_from (suc number) stacks)
      (rows_fit number stack.external (stack.top ∷ stack.below) (omega arith) (omega (arith, height)) jobs.0)
      (stacks_fit (suc number) stacks (omega arith) first.1 jobs.1)
