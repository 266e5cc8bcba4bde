-- Every row of the table of cases has the environment that it states: by computing.
use mathlib.Core.Path.{◌≡◌, refl}
use mathlib.Core.List.{map}
use Rattle.literal.specs.Environment.{value, bind}
use Rattle.literal.specs.Divide.{can_divide, divide}
use Rattle.literal.specs.Cases.{divide_cases}

pub divide_cases_lem : map (λ c. divide c.literal c.before) divide_cases ≡ map (λ c. c.after) divide_cases
unfolding value bind can_divide divide
divide_cases_lem = refl
