-- Longer runs, each as its library, its calls and the results that are wanted: turn order, goals, branches, lists and refusals
-- (document 01, "The three calls").
use Rattle.std.specs.Prelude.{ℕ, ◌+◌, ◌*◌, true, false, List, [], ◌∷◌, ◌++◌, map}
use Rattle.literal.specs.declared.Literal.{Literal}
use Rattle.belief.specs.declared.Change.{Change}
use Rattle.library.specs.declared.Action.{Action}
use Rattle.library.specs.declared.Branch.{Branch}
use Rattle.library.specs.Plan.{Situation, Plan, Library}
use Rattle.model.specs.declared.Event.{Event}
use Rattle.model.specs.declared.Answer.{Answer}
use Rattle.model.specs.declared.Answer.TheVariants.{Taken, Idle, Dropped, Unmet, MadeExternal, MadeGoal, Stepped, Missed, Done, Posted, Succeeded, Failed, Refused}
use Rattle.model.specs.State.{AgentState, Call, report, cycle, outcome, Result}
use Rattle.model.specs.Report.{new_event, report_refusal}
use Rattle.model.specs.Calls.{loaded}
use Rattle.model.specs.Run.{run}
use Rattle.model.specs.History.{down_from}

pub record Scenario : Type 0 where
  pub library : Library
  pub start : AgentState
  pub calls : List Call
  pub wanted : List Result

-- the results of the calls from the start
unfoldable pub results_of : Scenario → List Result
results_of s = map (λ entry. entry.result) (run s.library s.start s.calls)

-- from the loaded state
abbrev from_loaded : Library → List Call → List Result → Scenario
from_loaded library calls wanted = record { library = library; start = loaded library; calls = calls; wanted = wanted }

-- an answer without changes, with an add, and with a removal
abbrev plain : Answer → Result
plain answer = record { answer = answer; changes = [] }

abbrev adding : Answer → Literal → Result
adding answer literal = record { answer = answer; changes = record { removes = false; literal = literal } ∷ [] }

abbrev removing : Answer → Literal → Result
removing answer literal = record { answer = answer; changes = record { removes = true; literal = literal } ∷ [] }

-- ---- Parts

-- a positive literal of one term
abbrev lit : ℕ → ℕ → Literal
lit predicate term = record { head = predicate; first = term; second = 0; third = 0 }

abbrev V0 : ℕ
V0 = 65528

abbrev branch : ℕ → ℕ → ℕ → Branch
branch kind predicate next = record { kind = kind; literal = lit predicate V0; next = next }

abbrev action : ℕ → ℕ → Action
action kind predicate = record { kind = kind; literal = lit predicate V0 }

-- holds always
abbrev always : Situation
always = [] ∷ []

-- told +1 V0: a plan with its lists and states
abbrev when_told : List Action → List Action → List (List Branch) → Plan
when_told success failure states =
    record {
      kind = 2;
      least = 0;
      trigger = lit 1 V0;
      context = always;
      maintenance = always;
      success = success;
      failure = failure;
      states = states;
    }

-- ---- Two jobs side by side take turns

-- told +1 V0: add +7 V0, add +8 V0
abbrev two_adds : Plan
two_adds = when_told [] [] ((branch 0 7 1 ∷ []) ∷ (branch 0 8 2 ∷ []) ∷ [] ∷ [])

abbrev turns : Scenario
turns =
    from_loaded (record { beliefs = []; plans = two_adds ∷ [] })
    (report 2 (lit 1 5) ∷ report 2 (lit 1 6)
    ∷ cycle ∷ cycle ∷ cycle ∷ cycle ∷ cycle ∷ cycle ∷ cycle ∷ cycle ∷ cycle ∷ [])
    (plain (Taken 1) ∷ plain (Taken 2) ∷ plain (MadeExternal 1 0 1) ∷ plain (MadeExternal 2 0 2)
    ∷ adding (Stepped 1 0 0 1) (lit 7 5) ∷ adding (Stepped 2 0 0 1) (lit 7 6)
    ∷ adding (Stepped 1 1 0 2) (lit 8 5) ∷ adding (Stepped 2 1 0 2) (lit 8 6)
    ∷ plain (Succeeded 1) ∷ plain (Succeeded 2) ∷ plain Idle ∷ [])

-- ---- A goal is tried by one plan after the other, is unmet, and the poster goes on to its next branch

-- told +1 V0: achieve +2 V0 or query +3 V0
abbrev poster : Plan
poster = when_told (action 1 7 ∷ []) (action 0 8 ∷ []) ((branch 3 2 1 ∷ branch 4 3 2 ∷ []) ∷ [] ∷ [] ∷ [])

-- achieve +2 V0, where +4 V0 holds: act +9 V0
abbrev first_way : Plan
first_way =
    record {
      kind = 3;
      least = 0;
      trigger = lit 2 V0;
      context = (lit 4 V0 ∷ []) ∷ [];
      maintenance = always;
      success = [];
      failure = [];
      states = (branch 2 9 1 ∷ []) ∷ [] ∷ [];
    }

-- achieve +2 V0, with a maintenance that never holds
abbrev second_way : Plan
second_way =
    record {
      kind = 3;
      least = 0;
      trigger = lit 2 V0;
      context = always;
      maintenance = [];
      success = [];
      failure = action 0 6 ∷ [];
      states = [] ∷ [];
    }

abbrev shop : Library
shop = record { beliefs = lit 4 5 ∷ []; plans = poster ∷ first_way ∷ second_way ∷ [] }

abbrev unmet : Scenario
unmet =
    from_loaded shop
    (report 2 (lit 1 5) ∷ cycle ∷ cycle ∷ cycle ∷ cycle ∷ outcome 2 false
    ∷ cycle ∷ cycle ∷ cycle ∷ cycle ∷ cycle ∷ cycle ∷ cycle ∷ cycle ∷ cycle
    ∷ outcome 1 true ∷ report 0 (lit 1 V0) ∷ report 3 (lit 1 5) ∷ report 2 (lit 1 6) ∷ cycle ∷ cycle ∷ cycle ∷ [])
    (plain (Taken 1) ∷ plain (MadeExternal 1 0 1) ∷ plain (Posted 1 0 0) ∷ plain (MadeGoal 2 1 1)
    ∷ plain (Done 2 0 0 (lit 9 5)) ∷ plain (Missed 2 0 0) ∷ plain (Failed 2) ∷ plain (MadeGoal 3 2 1)
    ∷ adding (Failed 3) (lit 6 5) ∷ plain (Unmet 1 0 0 2) ∷ plain (Posted 1 0 1) ∷ plain (Unmet 1 0 1 0)
    ∷ adding (Failed 1) (lit 8 5) ∷ plain (Dropped 1 1) ∷ plain Idle
    ∷ plain (Refused 8) ∷ plain (Refused 5) ∷ plain (Refused 5) ∷ plain (Taken 2)
    ∷ plain (MadeExternal 4 0 2) ∷ plain (Posted 4 0 0) ∷ plain (MadeGoal 5 2 4) ∷ [])

-- ---- A goal is met: its poster steps past it and succeeds

abbrev met : Scenario
met =
    from_loaded shop
    (report 2 (lit 1 5) ∷ cycle ∷ cycle ∷ cycle ∷ cycle ∷ outcome 2 true ∷ cycle ∷ cycle ∷ cycle ∷ [])
    (plain (Taken 1) ∷ plain (MadeExternal 1 0 1) ∷ plain (Posted 1 0 0) ∷ plain (MadeGoal 2 1 1)
    ∷ plain (Done 2 0 0 (lit 9 5)) ∷ plain (Stepped 2 0 0 1) ∷ plain (Succeeded 2) ∷ plain (Succeeded 1) ∷ plain Idle ∷ [])

-- ---- Each kind of branch, missed and stepped; a query binds, and lists skip what is not ground

abbrev V1 : ℕ
V1 = 65529

abbrev V2 : ℕ
V2 = 65530

-- a branch and an action on another variable
abbrev branch_on : ℕ → ℕ → ℕ → ℕ → Branch
branch_on variable kind predicate next = record { kind = kind; literal = lit predicate variable; next = next }

abbrev add_on : ℕ → ℕ → Action
add_on variable predicate = record { kind = 0; literal = lit predicate variable }

-- the first three branches are not ground; a query binds V1; its opposite held, and not ground; held already; absent; done
abbrev kinds : Plan
kinds =
    when_told (add_on V2 20 ∷ add_on V1 21 ∷ []) []
    ((branch_on V1 2 9 1 ∷ branch_on V1 0 10 1 ∷ branch_on V1 1 11 1 ∷ branch_on V1 4 4 1 ∷ [])
    ∷ (branch 4 5 2 ∷ branch_on V2 3 2 2 ∷ branch 3 6 2 ∷ [])
    ∷ (branch_on V1 1 12 3 ∷ []) ∷ (branch_on V1 2 9 4 ∷ []) ∷ [] ∷ [])

-- +4 7, -5 5 and +6 5 are held
abbrev branches : Scenario
branches =
    from_loaded (record { beliefs = lit 4 7 ∷ lit 32773 5 ∷ lit 6 5 ∷ []; plans = kinds ∷ [] })
    (report 2 (lit 1 5) ∷ cycle ∷ cycle ∷ cycle ∷ cycle ∷ cycle ∷ cycle ∷ cycle ∷ cycle ∷ cycle ∷ cycle
    ∷ outcome 1 true ∷ cycle ∷ cycle ∷ [])
    (plain (Taken 1) ∷ plain (MadeExternal 1 0 1)
    ∷ plain (Missed 1 0 0) ∷ plain (Missed 1 0 1) ∷ plain (Missed 1 0 2) ∷ plain (Stepped 1 0 3 1)
    ∷ plain (Missed 1 1 0) ∷ plain (Missed 1 1 1) ∷ plain (Stepped 1 1 2 2)
    ∷ plain (Stepped 1 2 0 3) ∷ plain (Done 1 3 0 (lit 9 7)) ∷ plain (Stepped 1 3 0 4)
    ∷ adding (Succeeded 1) (lit 21 7) ∷ plain Idle ∷ [])

-- ---- An outcome leaves the turn order

-- told +1 V0: act +9 V0, add +7 V0
abbrev acts_first : Plan
acts_first = when_told [] [] ((branch 2 9 1 ∷ []) ∷ (branch 0 7 2 ∷ []) ∷ [] ∷ [])

abbrev outcomes : Scenario
outcomes =
    from_loaded (record { beliefs = []; plans = acts_first ∷ [] })
    (report 2 (lit 1 5) ∷ report 2 (lit 1 6) ∷ cycle ∷ cycle ∷ cycle ∷ cycle
    ∷ outcome 2 true ∷ outcome 1 true ∷ cycle ∷ cycle ∷ [])
    (plain (Taken 1) ∷ plain (Taken 2) ∷ plain (MadeExternal 1 0 1) ∷ plain (MadeExternal 2 0 2)
    ∷ plain (Done 1 0 0 (lit 9 5)) ∷ plain (Done 2 0 0 (lit 9 6)) ∷ plain (Stepped 2 0 0 1) ∷ plain (Stepped 1 0 0 1)
    ∷ adding (Stepped 1 1 0 2) (lit 7 5) ∷ adding (Stepped 2 1 0 2) (lit 7 6) ∷ [])

-- ---- Eight stacks: an external event is passed over, a goal is not; an event that failed keeps its place before it

-- achieves +2 V0, for which there is no plan
abbrev posts : Plan
posts = when_told [] [] ((branch 3 2 1 ∷ []) ∷ [] ∷ [])

abbrev nine_reports : List Call → List Call
nine_reports rest =
    report 2 (lit 1 1) ∷ report 2 (lit 1 2) ∷ report 2 (lit 1 3) ∷ report 2 (lit 1 4) ∷ report 2 (lit 1 5) ∷ report 2 (lit 1 6)
    ∷ report 2 (lit 1 7) ∷ report 2 (lit 1 8) ∷ report 2 (lit 1 9)
    ∷ cycle ∷ cycle ∷ cycle ∷ cycle ∷ cycle ∷ cycle ∷ cycle ∷ cycle ∷ rest

abbrev eight_made : List Result → List Result
eight_made rest =
    plain (Taken 1) ∷ plain (Taken 2) ∷ plain (Taken 3) ∷ plain (Taken 4) ∷ plain (Taken 5) ∷ plain (Taken 6)
    ∷ plain (Taken 7) ∷ plain (Taken 8) ∷ plain (Taken 9)
    ∷ plain (MadeExternal 1 0 1) ∷ plain (MadeExternal 2 0 2) ∷ plain (MadeExternal 3 0 3) ∷ plain (MadeExternal 4 0 4)
    ∷ plain (MadeExternal 5 0 5) ∷ plain (MadeExternal 6 0 6) ∷ plain (MadeExternal 7 0 7) ∷ plain (MadeExternal 8 0 8) ∷ rest

abbrev eight : Scenario
eight =
    from_loaded (record { beliefs = []; plans = posts ∷ [] }) (nine_reports (cycle ∷ cycle ∷ cycle ∷ []))
    (eight_made (plain (Posted 1 0 0) ∷ plain (Unmet 1 0 0 0) ∷ plain (Posted 2 0 0) ∷ []))

-- fails at its first turn
abbrev broken : Plan
broken =
    record { kind = 2; least = 0; trigger = lit 1 V0; context = always; maintenance = []; success = []; failure = []; states = [] ∷ [] }

abbrev in_place : Scenario
in_place =
    from_loaded (record { beliefs = []; plans = broken ∷ posts ∷ [] }) (nine_reports (cycle ∷ cycle ∷ []))
    (eight_made (plain (Failed 1) ∷ plain (MadeExternal 9 1 1) ∷ []))

-- ---- Reports with and without effect

abbrev effects : Scenario
effects =
    from_loaded (record { beliefs = lit 4 5 ∷ []; plans = [] })
    (report 0 (lit 4 5) ∷ report 1 (lit 4 6) ∷ report 1 (lit 4 5) ∷ report 0 (lit 4 6) ∷ report 2 (lit 4 7) ∷ [])
    (plain (Taken 1) ∷ plain (Taken 2) ∷ removing (Taken 3) (lit 4 5) ∷ adding (Taken 4) (lit 4 6) ∷ plain (Taken 5) ∷ [])

-- ---- Numbers are spent: 9 where a plan applies, and the event is dropped where none does

-- one event pending, all ids used
abbrev spent : AgentState
spent = record { beliefs = []; queue = new_event 1 2 (lit 1 5) ∷ []; stacks = []; taken = 1; made = 4294967295 }

abbrev applies : Scenario
applies =
    record {
      library = record { beliefs = []; plans = posts ∷ [] };
      start = spent;
      calls = cycle ∷ cycle ∷ [];
      wanted = plain (Refused 9) ∷ plain (Refused 9) ∷ [];
    }

abbrev drops : Scenario
drops =
    record {
      library = record { beliefs = []; plans = [] };
      start = spent;
      calls = cycle ∷ cycle ∷ [];
      wanted = plain (Dropped 1 0) ∷ plain Idle ∷ [];
    }

-- ---- 64 beliefs: an add of one that is held steps, of another is missed; a list skips it and goes on

-- beliefs of predicate 7, on n, n - 1, .. 1
abbrev beliefs_of : ℕ → List Literal
beliefs_of n = map (lit 7) (down_from n)

-- told +1 V0: add +7 V0, add +8 V0; on failure add +8 V0, remove +7 V0
abbrev overfills : Plan
overfills = when_told [] (action 0 8 ∷ action 1 7 ∷ []) ((branch 0 7 1 ∷ []) ∷ (branch 0 8 2 ∷ []) ∷ [] ∷ [])

abbrev full : Scenario
full =
    from_loaded (record { beliefs = beliefs_of 64; plans = overfills ∷ [] })
    (report 2 (lit 1 5) ∷ cycle ∷ cycle ∷ cycle ∷ cycle ∷ [])
    (plain (Taken 1) ∷ plain (MadeExternal 1 0 1) ∷ plain (Stepped 1 0 0 1) ∷ plain (Missed 1 1 0)
    ∷ removing (Failed 1) (lit 7 5) ∷ [])

-- ---- A state that is not well formed: 10 comes before every other refusal

-- an event is queued that was never taken
abbrev ill_formed : Scenario
ill_formed =
    record {
      library = record { beliefs = []; plans = posts ∷ [] };
      start = record { beliefs = []; queue = new_event 1 2 (lit 1 5) ∷ []; stacks = []; taken = 0; made = 0 };
      calls = cycle ∷ report 3 (lit 1 5) ∷ outcome 1 true ∷ [];
      wanted = plain (Refused 10) ∷ plain (Refused 10) ∷ plain (Refused 10) ∷ [];
    }

-- ---- An add takes out its opposite first, as a change of its own (document 02, request 1): in reports, branches and lists

-- the negative literal
abbrev neg : ℕ → ℕ → Literal
neg predicate term = lit (predicate + 32768) term

-- the changes of an add that takes out its opposite
abbrev turned : Literal → Literal → List Change
turned opposite literal = record { removes = true; literal = opposite } ∷ record { removes = false; literal = literal } ∷ []

abbrev turning : Answer → List Change → Result
turning answer changes = record { answer = answer; changes = changes }

-- told +1 V0: add -4 V0; succeeded: add -2 V0, +2 V0, -3 V0, +3 V0
abbrev turner : Plan
turner = when_told (action 0 32770 ∷ action 0 2 ∷ action 0 32771 ∷ action 0 3 ∷ []) [] ((branch 0 32772 1 ∷ []) ∷ [] ∷ [])

abbrev opposites : Scenario
opposites =
    from_loaded (record { beliefs = lit 2 5 ∷ lit 3 5 ∷ lit 4 5 ∷ []; plans = turner ∷ [] })
    (report 0 (neg 4 6) ∷ report 0 (lit 4 6) ∷ report 0 (lit 4 6) ∷ report 1 (neg 4 6) ∷ report 2 (lit 1 5)
    ∷ cycle ∷ cycle ∷ cycle ∷ cycle ∷ cycle ∷ cycle ∷ cycle ∷ cycle ∷ [])
    (adding (Taken 1) (neg 4 6) ∷ turning (Taken 2) (turned (neg 4 6) (lit 4 6))
    ∷ plain (Taken 3) ∷ plain (Taken 4) ∷ plain (Taken 5)
    ∷ plain (Dropped 1 0) ∷ plain (Dropped 2 0) ∷ plain (Dropped 3 0) ∷ plain (Dropped 4 0) ∷ plain (MadeExternal 1 0 5)
    ∷ turning (Stepped 1 0 0 1) (turned (lit 4 5) (neg 4 5))
    ∷ turning (Succeeded 1)
    (turned (lit 2 5) (neg 2 5) ++ (turned (neg 2 5) (lit 2 5) ++ (turned (lit 3 5) (neg 3 5) ++ turned (neg 3 5) (lit 3 5))))
    ∷ plain Idle ∷ [])

-- ---- The shortest offcut is used first (request 12)

-- told +1 V0, with the offcut +3 V1 of least length: remove +3 V1
abbrev uses_shortest : Plan
uses_shortest =
    record {
      kind = 2;
      least = 2;
      trigger = lit 1 V0;
      context = (lit 3 V1 ∷ []) ∷ [];
      maintenance = always;
      success = record { kind = 1; literal = lit 3 V1 } ∷ [];
      failure = [];
      states = [] ∷ [];
    }

abbrev shortest : Scenario
shortest =
    from_loaded (record { beliefs = lit 3 7 ∷ lit 3 5 ∷ lit 3 6 ∷ []; plans = uses_shortest ∷ [] })
    (report 2 (lit 1 1) ∷ cycle ∷ cycle ∷ report 2 (lit 1 2) ∷ cycle ∷ cycle ∷ [])
    (plain (Taken 1) ∷ plain (MadeExternal 1 0 1) ∷ removing (Succeeded 1) (lit 3 5)
    ∷ plain (Taken 2) ∷ plain (MadeExternal 2 0 2) ∷ removing (Succeeded 2) (lit 3 6) ∷ [])

-- ---- A length is divided into panels and an offcut (request 11)

-- a divide of V0 by 5 into Vq and Vr
abbrev by_five : ℕ → ℕ → ℕ → Branch
by_five q r next = record { kind = 5; literal = record { head = q + 8 * r; first = V0; second = 5; third = 0 }; next = next }

-- +8 V1 V2
abbrev panels_and_offcut : ℕ → ℕ → Literal
panels_and_offcut panels offcut = record { head = 8; first = panels; second = offcut; third = 0 }

-- told +1 V0: a divide into V0 itself, which is missed, or into V1 and V2; then add +8 V1 V2
abbrev divides_length : Plan
divides_length =
    when_told [] []
    ((by_five 0 1 1 ∷ by_five 1 2 2 ∷ []) ∷ []
    ∷ (record { kind = 0; literal = panels_and_offcut V1 V2; next = 3 } ∷ []) ∷ [] ∷ [])

abbrev divided : Scenario
divided =
    from_loaded (record { beliefs = []; plans = divides_length ∷ [] })
    (report 2 (lit 1 17) ∷ cycle ∷ cycle ∷ cycle ∷ cycle ∷ cycle ∷ [])
    (plain (Taken 1) ∷ plain (MadeExternal 1 0 1) ∷ plain (Missed 1 0 0) ∷ plain (Stepped 1 0 1 2)
    ∷ adding (Stepped 1 2 0 3) (panels_and_offcut 3 2) ∷ plain (Succeeded 1) ∷ [])

abbrev pub scenarios : List Scenario
scenarios =
    divided ∷ shortest
    ∷ opposites ∷ turns ∷ unmet ∷ met ∷ branches ∷ outcomes ∷ eight
    ∷ in_place ∷ effects ∷ applies ∷ drops ∷ full ∷ ill_formed ∷ []

-- ---- Which refusal of a report comes first

pub record ReportRow : Type 0 where
  pub state : AgentState
  pub kind : ℕ
  pub literal : Literal
  pub wanted : ℕ

-- external events told, numbered n, n - 1, .. 1
abbrev events_of : ℕ → List Event
events_of n = map (λ k. new_event k 2 (lit 1 5)) (down_from n)

-- with so many taken, external events queued and beliefs held
abbrev state_of : ℕ → ℕ → ℕ → AgentState
state_of taken externals beliefs =
    record { beliefs = beliefs_of beliefs; queue = events_of externals; stacks = []; taken = taken; made = 0 }

abbrev reporting : AgentState → ℕ → Literal → ℕ → ReportRow
reporting state kind literal wanted = record { state = state; kind = kind; literal = literal; wanted = wanted }

unfoldable pub refusal_of : ReportRow → ℕ
refusal_of row = report_refusal row.state row.kind row.literal

-- 5, 9, 7, 6 in this order; 6 needs kind 0, an absent literal and 64 beliefs
abbrev pub reports : List ReportRow
reports =
    reporting (state_of 4294967295 32 64) 3 (lit 1 5) 5
    ∷ reporting (state_of 4294967295 32 64) 0 (lit 1 V0) 5
    ∷ reporting (state_of 4294967295 32 64) 0 (lit 1 5) 9
    ∷ reporting (state_of 4294967294 32 64) 0 (lit 1 5) 7
    ∷ reporting (state_of 4294967294 31 64) 0 (lit 1 5) 6
    ∷ reporting (state_of 4294967294 31 63) 0 (lit 1 5) 0
    ∷ reporting (state_of 4294967294 31 64) 0 (lit 7 64) 0
    ∷ reporting (state_of 4294967294 31 64) 0 (neg 7 64) 0
    ∷ reporting (state_of 4294967294 31 64) 1 (lit 1 5) 0
    ∷ reporting (state_of 4294967294 31 64) 2 (lit 1 5) 0
    ∷ []
