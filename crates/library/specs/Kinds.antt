-- The numbers of kinds (document 01, "Library"; document 02, request 11; dMARS 5, Trigger and Branch).
use Rattle.std.specs.Prelude.{ℕ, ◌≡◌, ◌<◌, Result, MatchResult}
use Rattle.library.specs.declared.kinds.Trigger.{Trigger}
use Rattle.library.specs.declared.kinds.Trigger.TheVariants as trigger
use Rattle.library.specs.declared.kinds.Deed.{Deed}
use Rattle.library.specs.declared.kinds.Deed.TheVariants as deed
use Rattle.library.specs.declared.kinds.UnknownKind.{UnknownKind}

-- the kind of an event and of a plan's trigger
abbrev pub trigger_number : Trigger → ℕ
trigger_number trigger.Added = 0
trigger_number trigger.Removed = 1
trigger_number trigger.Told = 2
trigger_number trigger.Achieve = 3
trigger_number trigger.Query = 4

-- the kind of a branch; an action's is one of the first two
abbrev pub deed_number : Deed → ℕ
deed_number deed.Add = 0
deed_number deed.Remove = 1
deed_number deed.Act = 2
deed_number deed.Achieve = 3
deed_number deed.Query = 4
deed_number deed.Divide = 5

-- what a number names: past the last kind nothing
abbrev pub NamesTrigger : ℕ → Result Trigger UnknownKind → Type 0
NamesTrigger kind r = MatchResult r (λ named. trigger_number named ≡ kind) (λ e. (e.0 ≡ kind) × (4 < kind))

abbrev pub NamesDeed : ℕ → Result Deed UnknownKind → Type 0
NamesDeed kind r = MatchResult r (λ named. deed_number named ≡ kind) (λ e. (e.0 ≡ kind) × (5 < kind))
