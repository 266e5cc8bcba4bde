-- What `array::from_fn` makes by a closure that stays as it is.
use Prim.Native.Nat.{ℕ, zero, suc, ◌+◌, ◌<◌}
use native.Mathlib.Nat.{add-zero}
use native.Mathlib.Omega.{arith}
use mathlib.Core.Path.{◌≡◌, subst, ◌∙◌}
use mathlib.Core.List.{List}
use lib.ListN.{get_or}
use denote.Param.Members.{Mut}
use Rattle.std.specs.Fn.{Called}
use Rattle.std.specs.Array.{IsFromFnResultFrom}

pub made_each : {F B : Type 0} (g : Mut F (ℕ × Unit {0}) B) (f : F) (ys : List B) (h : ℕ → B)
    → ((i : ℕ) (y : B) (q : F) → Called g f (i, tt) y q → (q ≡ f) × (y ≡ h i))
    → (n first : ℕ) → IsFromFnResultFrom g f ys first n → (k : ℕ) (d : B) → k < n → get_or ys (first + k) d ≡ h (first + k)
made_each g f ys h calls zero first made k d less = absurd (omega arith)
made_each g f ys h calls (suc n) first made zero d less = rw add-zero (made.2.1 d ∙ (calls first made.1 made.0 made.3).1)
made_each {F} g f ys h calls (suc n) first made (suc k) d less =
    let same = (calls first made.1 made.0 made.3).0 in
    let place : first + 1 + k ≡ first + suc k = omega arith in
    rw place at (made_each g f ys h calls n (first + 1) (subst (λ (p : F). IsFromFnResultFrom g p ys (first + 1) n) same made.4) k d (omega arith))
