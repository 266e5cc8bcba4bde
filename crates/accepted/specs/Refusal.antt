-- What a plan author's library is refused for, and the part of a plan (document 01, "Who may cause which refusal" and "Library").
use Rattle.std.specs.Prelude.{ℕ, zero, suc, ◌+◌, ◌≡◌, Bool, cond, ◌&&◌, List, [], length, take, drop, ltb, leb, eqb}
use Rattle.std.specs.List.{list_all}
use Rattle.library.specs.Layout.{plan_at, plan_end, plan_count, belief_count, plans_off, entry_off, entry_length, beliefs_of}
use Rattle.accepted.specs.Rules.{most_plans, most_beliefs, numbers, beliefs_ok, plan_ok}

-- ---- The four stages, each over the whole library

-- 1: the contents and the beliefs are there
unfoldable pub contents_fit : List ℕ → Bool
contents_fit bytes =
    leb 4 (length bytes)
    && (leb (plan_count bytes) most_plans && (leb (belief_count bytes) most_beliefs && leb (plans_off bytes) (length bytes)))

-- 2: n entries, from an entry on, name bytes that are packed from an offset to the last byte
unfoldable pub packed_from : List ℕ → ℕ → ℕ → ℕ → Bool
packed_from bytes zero entry at = eqb at (length bytes)
packed_from bytes (suc n) entry at = eqb (entry_off bytes entry) at && packed_from bytes n (entry + 1) (at + entry_length bytes entry)

unfoldable pub is_packed : List ℕ → Bool
is_packed bytes = packed_from bytes (plan_count bytes) 0 (plans_off bytes)

-- 3 is beliefs_ok of the initial beliefs

-- 4: a plan keeps the rules, and ends where its entry says
unfoldable pub plan_fits_at : List ℕ → ℕ → ℕ → Bool
plan_fits_at bytes off size = plan_ok (plan_at bytes off) && eqb (plan_end bytes off) (off + size)

abbrev pub plan_fits : List ℕ → ℕ → Bool
plan_fits bytes plan = plan_fits_at bytes (entry_off bytes plan) (entry_length bytes plan)

unfoldable pub plans_fit : List ℕ → Bool
plans_fit bytes = list_all (plan_fits bytes) (numbers (plan_count bytes) 0)

-- ---- Refusals

-- a stage's number where its test fails, else what the later stages say
abbrev pub stage : ℕ → Bool → ℕ → ℕ
stage number passed later = cond passed later number

-- 0 where the library is accepted
unfoldable pub refusal_of : List ℕ → ℕ
refusal_of bytes =
    stage 1 (contents_fit bytes) (stage 2 (is_packed bytes) (stage 3 (beliefs_ok (beliefs_of bytes)) (stage 4 (plans_fit bytes) 0)))

-- the length of the largest library that is accepted
abbrev pub most_bytes : ℕ
most_bytes = 19332

abbrev pub Accepted : List ℕ → Type 0
Accepted bytes = refusal_of bytes ≡ 0

-- ---- The plan-part call: the library's refusal, then 11 where there is no such plan

unfoldable pub part_refusal_of : List ℕ → ℕ → ℕ
part_refusal_of bytes plan = cond (eqb (refusal_of bytes) 0) (stage 11 (ltb plan (plan_count bytes)) 0) (refusal_of bytes)

-- the bytes that the plan's entry names; none where it is refused
unfoldable pub part_of : List ℕ → ℕ → List ℕ
part_of bytes plan = cond (eqb (part_refusal_of bytes plan) 0) (take (entry_length bytes plan) (drop (entry_off bytes plan) bytes)) []
