-- The numbers of refusals (document 01, "Who may cause which refusal"; document 02, requests 3, 9 and 10).
use Rattle.std.specs.Prelude.{ℕ, Result, Ok, Err}
use Rattle.refusals.specs.declared.Refusal.{Refusal}
use Rattle.refusals.specs.declared.Refusal.TheVariants as refusal

-- ---- A refusal's number

abbrev pub number_of : Refusal → ℕ
number_of refusal.Contents = 1
number_of refusal.Packing = 2
number_of refusal.Beliefs = 3
number_of refusal.Plans = 4
number_of refusal.Malformed = 5
number_of refusal.TableFull = 6
number_of refusal.QueueFull = 7
number_of refusal.NobodyWaits = 8
number_of refusal.NumbersSpent = 9
number_of refusal.NotFormed = 10
number_of refusal.NoSuchPlan = 11
number_of refusal.NoImage = 12
number_of refusal.ImageRoom = 13
number_of refusal.BoardRoom = 14
number_of refusal.LongLists = 15

-- the number of an answer's refusal, 0 where it is none
abbrev pub number_in : {T : Type 0} → Result T Refusal → ℕ
number_in (Ok x) = 0
number_in (Err e) = number_of e

-- the answer with the number in the refusal's place
abbrev pub numbered : {T : Type 0} → Result T Refusal → Result T ℕ
numbered (Ok x) = Ok x
numbered (Err e) = Err (number_of e)
