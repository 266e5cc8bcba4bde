-- Laws of options: what is there is one thing, and is not missing.
use Prim.Native.Nat.{ℕ}
use mathlib.Core.Path.{◌≡◌}
use Rattle.std.specs.Prelude.{None, Some}
use native.Mathlib.Omega.{arith}

pub some_equal : {A : Type 0} {x y : A} → Some x ≡ Some y → x ≡ y
some_equal p = cc

pub none-some : {A P : Type 0} {y : A} → None ≡ Some y → P
none-some p = let z : ◌≡◌ {A = ℕ} 0 1 = cc in absurd (omega arith)
