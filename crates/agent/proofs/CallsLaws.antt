-- The calls: from what a line gives on an agent's state to the contract on the agent.
use mathlib.Core.Path.{◌≡◌, refl, subst}
use Rattle.std.specs.Prelude.{Option, Some}
use Rattle.model.specs.declared.Answered.{Answered}
use Rattle.model.specs.State.{Call}
use Rattle.reading.specs.declared.Spoken.{Spoken}
use Rattle.reading.specs.declared.Spoken.TheVariants.{Report, Cycle, Outcome}
use Rattle.reading.specs.Spoken.{meaning}
use Rattle.state.specs.declared.State.{State}
use Rattle.load.specs.declared.Agent.{Agent}
use Rattle.load.specs.Load.{bytes_of, is_well_formed_agent}
use Rattle.agent.specs.Calls.{call_of, Calls}
use Rattle.agent.specs.Feed.{respond_by, Responds, in_state}

told_is : (spoken : Spoken) → meaning (Some spoken) ≡ Some (call_of spoken)
told_is (Report kind literal) = refl
told_is Cycle = refl
told_is (Outcome id worked) = refl

-- from the state of an agent to the agent
pub calls_agent : (a : Agent) (spoken : Spoken) (s : State) (result : Answered)
    → Responds (bytes_of a) (is_well_formed_agent a) a.state (meaning (Some spoken)) (record { state = s; result = result })
    → Calls a (call_of spoken) (record { agent = in_state a s; result = result })
unfolding respond_by
calls_agent a spoken s result responds =
    let h = subst (λ (o : Option Call). Responds (bytes_of a) (is_well_formed_agent a) a.state o (record { state = s; result = result })) (told_is spoken) responds in
    record {
      means = h.means;
      library = refl;
      length = refl;
      refused = λ x. let same = h.refused x in λ i. in_state a (same i);
      fit = h.fit;
      count = h.count;
    }
