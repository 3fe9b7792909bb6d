-- What finds the accesses of one object fast: from each access the latest earlier one of its object (nothing of the language).
use Rattle.std.specs.Prelude.{◌≡◌, ℕ, ◌+◌, ◌<◌, ◌≤◌, Bool, true, false, not, ◌&&◌, List, length, get_or, Option, Some, None, nat_eq}
use Rattle.v_design.specs.Accesses.{AccessAct, Reading, Writing, Awaiting, Ending, Holding, Settling}
use Rattle.std.specs.Option.{ForSome}
use Rattle.v_design.specs.Logs.{LoggedPhase, PhaseAccess, access_orders, conflict}
use Rattle.causal_monitor.specs.declared.group.Group.{Group}
use Rattle.causal_monitor.specs.declared.group.Group.TheVariants.{All, Changes, Looks}

-- whether an access writes or settles its object
abbrev pub is_change : AccessAct → Bool
is_change Reading = false
is_change (Writing old new) = true
is_change (Awaiting entry) = false
is_change (Ending entry) = false
is_change (Holding entry) = false
is_change Settling = true

-- whether an access is of a group
abbrev pub is_in_group : Group → AccessAct → Bool
is_in_group All act = true
is_in_group Changes act = is_change act
is_in_group Looks act = not (is_change act)

-- the group that has each access of an object with which an access may conflict
abbrev pub group_against : AccessAct → Group
group_against Reading = Changes
group_against (Writing old new) = All
group_against (Awaiting entry) = Changes
group_against (Ending entry) = Changes
group_against (Holding entry) = Changes
group_against Settling = Looks

-- what stands at no place
abbrev pub no_access : PhaseAccess
no_access = record { event = None; access = record { act = Settling; object = 0; process = 0; line = 0 } }

-- the access at a place
abbrev pub access_at : List PhaseAccess → ℕ → PhaseAccess
access_at accesses place = get_or accesses place no_access

-- the object of the access at a place
abbrev pub object_at : List PhaseAccess → ℕ → ℕ
object_at accesses place = (access_at accesses place).access.object

-- whether the access at a place is of an object and a group
abbrev pub stands_in : Group → List PhaseAccess → ℕ → ℕ → Bool
stands_in group accesses object place = nat_eq (object_at accesses place) object && is_in_group group (access_at accesses place).access.act

-- the latest place before another that passes a test, if there is one
abbrev pub IsLatest : (ℕ → Bool) → ℕ → Option ℕ → Type 0
IsLatest test end None = (place : ℕ) → place < end → test place ≡ false
IsLatest test end (Some latest) = (latest < end) × (test latest ≡ true) × ((place : ℕ) → latest < place → place < end → test place ≡ false)

-- from each access the latest earlier one of its object and a group
abbrev pub AreLinks : Group → List PhaseAccess → List (Option ℕ) → Type 0
AreLinks group accesses links = (place : ℕ) → place < length links → IsLatest (stands_in group accesses (object_at accesses place)) place (get_or links place None)

-- for each object the latest access of it and a group, before a place
abbrev pub AreLatest : Group → List PhaseAccess → ℕ → List (Option ℕ) → Type 0
AreLatest group accesses end table = (object : ℕ) → object < length table → IsLatest (stands_in group accesses object) end (get_or table object None)

-- the first place from one on, before another, that passes a test, if there is one
abbrev pub IsFirst : (ℕ → Bool) → ℕ → ℕ → Option ℕ → Type 0
IsFirst test low end None = (place : ℕ) → low ≤ place → place < end → test place ≡ false
IsFirst test low end (Some first) = (low ≤ first) × (first < end) × (test first ≡ true) × ((place : ℕ) → low ≤ place → place < first → test place ≡ false)

-- each earlier access of the object of the one at a place orders that one
abbrev pub IsChained : LoggedPhase → List PhaseAccess → ℕ → Type 0
IsChained log accesses place =
    (earlier : ℕ) → earlier < place → nat_eq (object_at accesses earlier) (object_at accesses place) ≡ true → access_orders log (access_at accesses earlier) (access_at accesses place) ≡ true

-- marks of accesses that each earlier one of their object orders
abbrev pub AreChained : LoggedPhase → List PhaseAccess → ℕ → List Bool → Type 0
AreChained log accesses end marks = (place : ℕ) → place < end → get_or marks place false ≡ true → IsChained log accesses place

-- from where on a search back along links has looked at all accesses
abbrev pub low_of : Option ℕ → ℕ
low_of None = 0
low_of (Some at) = at + 1

-- a search back from an access for the first one that conflicts with it stands at an access of the same object, or is at its end
pub record IsSearch (log : LoggedPhase) (accesses : List PhaseAccess) (number : ℕ) (at best : Option ℕ) : Type 0 where
  pub stands : ForSome at (λ place. (place < number) × (object_at accesses place ≡ object_at accesses number))
  pub first : IsFirst (λ place. conflict log (access_at accesses place) (access_at accesses number)) (low_of at) number best
