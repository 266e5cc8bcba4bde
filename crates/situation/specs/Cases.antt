-- The small cases 1 to 7 (document 01, "Small cases, held by proof"): each situation's whole list of solutions from the empty environment.
-- Cases of request 12: which of them is kept.
use Rattle.std.specs.Prelude.{ℕ, ◌+◌, List, [], ◌∷◌, Option, None, Some}
use Rattle.literal.specs.declared.Literal.{Literal}
use Rattle.literal.specs.declared.Env.{Env}
use Rattle.literal.specs.Literal.{first_variable, negative}
use Rattle.literal.specs.Environment.{empty_env}
use Rattle.library.specs.Plan.{Situation}

-- a literal of two terms; the third is unused
abbrev lit : ℕ → ℕ → ℕ → Literal
lit head first second = record { head = head; first = first; second = second; third = 0 }

-- the variables V0 and V1
abbrev v0 : ℕ
v0 = first_variable

abbrev v1 : ℕ
v1 = first_variable + 1

-- the values of V0 and V1; nothing else is bound
abbrev values_are : ℕ → ℕ → Env
values_are first second = record { terms = first ∷ second ∷ 65530 ∷ 65531 ∷ 65532 ∷ 65533 ∷ 65534 ∷ 65535 ∷ [] }

abbrev v0_is : ℕ → Env
v0_is constant = values_are constant v1

-- the beliefs +1 5 0 0, +1 6 0 0, +2 6 0 0
abbrev pub beliefs : List Literal
beliefs = lit 1 5 0 ∷ lit 1 6 0 ∷ lit 2 6 0 ∷ []

pub record Case : Type 0 where
  pub situation : Situation
  pub answer : List Env

abbrev pub cases : List Case
cases =
    -- (1) +1 V0: 5, 6
    record { situation = (lit 1 v0 0 ∷ []) ∷ []; answer = v0_is 5 ∷ v0_is 6 ∷ [] }
    -- (2) +1 V0 and +2 V0: 6
    ∷ record { situation = (lit 1 v0 0 ∷ lit 2 v0 0 ∷ []) ∷ []; answer = v0_is 6 ∷ [] }
    -- (3) +2 V0 or +1 V0: 6, 5, 6
    ∷ record { situation = (lit 2 v0 0 ∷ []) ∷ (lit 1 v0 0 ∷ []) ∷ []; answer = v0_is 6 ∷ v0_is 5 ∷ v0_is 6 ∷ [] }
    -- (4) no alternatives: none
    ∷ record { situation = []; answer = [] }
    -- (5) one empty: the environment itself
    ∷ record { situation = [] ∷ []; answer = empty_env ∷ [] }
    -- (6) -1 V0: none
    ∷ record { situation = (lit (1 + negative) v0 0 ∷ []) ∷ []; answer = [] }
    -- (7) +1 V0 V0: none
    ∷ record { situation = (lit 1 v0 v0 ∷ []) ∷ []; answer = [] }
    ∷ []

-- ---- Which solution is kept (request 12)

-- offcuts by length and rack: +3 7 1 0, +3 5 2 0, +3 5 3 0; a bolt of the greatest length: +4 65527 0 0
abbrev pub offcuts : List Literal
offcuts = lit 3 7 1 ∷ lit 3 5 2 ∷ lit 3 5 3 ∷ lit 4 65527 0 ∷ []

-- every offcut: V0 its length, V1 its rack
abbrev any_offcut : List Literal
any_offcut = lit 3 v0 v1 ∷ []

pub record LeastCase : Type 0 where
  -- 0, or v + 1 where the least value of Vv chooses
  pub least : ℕ
  pub situation : Situation
  pub kept : Option Env

abbrev pub least_cases : List LeastCase
least_cases =
    -- the first; by length the shortest, of equal ones the earlier; by rack the lowest
    record { least = 0; situation = any_offcut ∷ []; kept = Some (values_are 7 1) }
    ∷ record { least = 1; situation = any_offcut ∷ []; kept = Some (values_are 5 2) }
    ∷ record { least = 2; situation = any_offcut ∷ []; kept = Some (values_are 7 1) }
    -- V7, which nothing binds: the first
    ∷ record { least = 8; situation = any_offcut ∷ []; kept = Some (values_are 7 1) }
    -- an unbound length counts above all constants: from the rack of an offcut of 7, or the bolt
    ∷ record { least = 1; situation = (lit 3 7 v1 ∷ []) ∷ (lit 4 v0 0 ∷ []) ∷ []; kept = Some (values_are 65527 v1) }
    -- two unbound racks are equal, though the lengths differ
    ∷ record { least = 2; situation = (lit 3 v0 2 ∷ []) ∷ (lit 3 v0 1 ∷ []) ∷ []; kept = Some (v0_is 5) }
    -- no solution: none
    ∷ record { least = 1; situation = (lit 5 v0 0 ∷ []) ∷ []; kept = None }
    ∷ []
