-- When an event of the faulty machine goes as it does in the good one, but for the values that are written and the accesses of suspect objects (accesses and causes by IEEE 1364-2001, clause 5).
use Rattle.std.specs.Prelude.{◌≡◌, ◌⊎◌, ℕ, Bool, true, false, List, [], ◌∷◌}
use Rattle.vf_base.specs.Lists.{AllHold}
use Rattle.v_design.specs.Trees.{Entry}
use Rattle.v_design.specs.Designs.{FlatDesign, StuckAt, good_machine, faulty_machine}
use Rattle.v_design.specs.States.{State, Event, after, entry_matches}
use Rattle.v_design.specs.Accesses.{AccessAct, Reading, Writing, Awaiting, Ending, Holding, Settling, ObjectAccess, accesses_of}
use Rattle.v_design.specs.Logs.{is_write, changes_of}
use Rattle.copy_laws.specs.Filter.{IsIn}
use Rattle.copy_laws.specs.QuietPhases.{ends_its_wait, stays_same, DoesAlike, AllDoAlike}

-- Marks

-- what is known beforehand of a phase: the objects any access of which may be the faulty machine's own; those that blocks of its own access only as the good machine does there; and the entries that
-- processes may wait on
pub record Marks : Type 0 where
  pub suspect : ℕ → Bool
  pub met : ℕ → Bool
  pub awaited : Entry → Bool

-- the same with more objects, and with fewer entries
pub record AreWider (marks wider : Marks) : Type 0 where
  pub suspect : (object : ℕ) → marks.suspect object ≡ true → wider.suspect object ≡ true
  pub met : (object : ℕ) → marks.met object ≡ true → wider.met object ≡ true
  pub awaited : (entry : Entry) → wider.awaited entry ≡ true → marks.awaited entry ≡ true

-- Like accesses

-- whether an access is a write that matches an entry
abbrev pub act_matches : ℕ → AccessAct → Entry → Bool
act_matches object Reading entry = false
act_matches object (Writing old new) entry = entry_matches object old new entry
act_matches object (Awaiting waited) entry = false
act_matches object (Ending waited) entry = false
act_matches object (Holding waited) entry = false
act_matches object Settling entry = false

-- two writes of an object, of other values maybe: what the faulty machine writes matches no awaited entry that the good machine's write doesn't
pub record WritesAlike (awaited : Entry → Bool) (object : ℕ) (good faulty : AccessAct) : Type 0 where
  pub good_writes : is_write good ≡ true
  pub faulty_writes : is_write faulty ≡ true
  pub matches : (entry : Entry) → awaited entry ≡ true → act_matches object faulty entry ≡ true → act_matches object good entry ≡ true

-- an access of the faulty machine is like one of the good machine: it does the same to the same object, but for the values of a write
pub record IsLike (awaited : Entry → Bool) (good faulty : ObjectAccess) : Type 0 where
  pub object : good.object ≡ faulty.object
  pub act : (good.act ≡ faulty.act) ⊎ WritesAlike awaited faulty.object good.act faulty.act

-- some of the good machine's accesses is like this one
abbrev pub HasLikeAmong : (Entry → Bool) → List ObjectAccess → ObjectAccess → Type 0
HasLikeAmong awaited ones access = (one : ObjectAccess) × IsIn one ones × IsLike awaited one access

-- an access of an event that both machines take: its object is suspect, or the good machine has its like
abbrev pub IsSuspectOrLike : Marks → List ObjectAccess → ObjectAccess → Type 0
IsSuspectOrLike marks ones access = (marks.suspect access.object ≡ true) ⊎ HasLikeAmong marks.awaited ones access

-- Events

-- an event that both machines take goes alike: it ends the waits of the same processes and changes the same objects, and each of the faulty machine's accesses is of a suspect object or has its like
pub record GoesAlike (design : FlatDesign) (fault : StuckAt) (marks : Marks) (good faulty : State) (event : Event) : Type 0 where
  pub waits : (process : ℕ) → ends_its_wait (good_machine design) good event process ≡ ends_its_wait (faulty_machine design fault) faulty event process
  pub changes : (object : ℕ) → stays_same (good_machine design) good event object ≡ stays_same (faulty_machine design fault) faulty event object
  pub changed : (writer line : ℕ) →
      changes_of design (accesses_of (good_machine design) writer line good event) ≡ changes_of design (accesses_of (faulty_machine design fault) writer line faulty event)
  pub accesses : (writer line : ℕ) →
      AllHold (IsSuspectOrLike marks (accesses_of (good_machine design) writer line good event)) (accesses_of (faulty_machine design fault) writer line faulty event)

-- the same of several events, each in the states that the ones before it lead to
abbrev pub AllGoAlike : FlatDesign → StuckAt → Marks → State → State → List Event → Type 0
AllGoAlike design fault marks good faulty [] = Unit {0}
AllGoAlike design fault marks good faulty (event ∷ events) =
    GoesAlike design fault marks good faulty event × AllGoAlike design fault marks (after (good_machine design) good event) (after (faulty_machine design fault) faulty event) events

-- what does alike, values and all, goes alike whatever is marked
abbrev pub AlikeEventsGoAlike : Type 0
AlikeEventsGoAlike =
    (design : FlatDesign) (fault : StuckAt) (marks : Marks) (good faulty : State) (event : Event) → DoesAlike design fault good faulty event → GoesAlike design fault marks good faulty event

-- and so do several events
abbrev pub AlikeStretchesGoAlike : Type 0
AlikeStretchesGoAlike =
    (design : FlatDesign) (fault : StuckAt) (marks : Marks) (good faulty : State) (events : List Event) → AllDoAlike design fault good faulty events →
    AllGoAlike design fault marks good faulty events
