-- Every row of the tables of cases has the solutions, and the one kept, that it states: by computing.
use mathlib.Core.Path.{◌≡◌, refl}
use mathlib.Core.List.{map}
use Rattle.literal.specs.Environment.{empty_env, value, bind}
use Rattle.literal.specs.Match.{match_term, match_literal}
use Rattle.situation.specs.Solutions.{over_beliefs, solve, solutions}
use Rattle.situation.specs.Search.{rank_of, is_before, consider, best_of}
use Rattle.situation.specs.Cases.{beliefs, cases, offcuts, least_cases}

pub small_cases : map (λ c. solutions beliefs c.situation empty_env) cases ≡ map (λ c. c.answer) cases
unfolding value bind match_term match_literal over_beliefs solve solutions
small_cases = refl

pub least_cases_lem : map (λ c. best_of (record { least = c.least }) (solutions offcuts c.situation empty_env)) least_cases
    ≡ map (λ c. c.kept) least_cases
unfolding value bind match_term match_literal over_beliefs solve solutions rank_of is_before consider best_of
least_cases_lem = refl
