-- What stands for a run that is followed, with what it has shown so far of what is asked (strobes by the plan; runs by IEEE 1364-2001, clause 5).
use Rattle.std.specs.Prelude.{◌≡◌, ℕ, ◌+◌, Bool, true, false, List, map, Option, Some, None, is_some}
use Rattle.four_value.specs.Values.{LogicValue}
use Rattle.vf_base.specs.Base.{watched_bit, ReportedPair}
use Rattle.vf_base.specs.declared.finding.Pair.{Pair}
use Rattle.v_design.specs.Designs.{Machine}
use Rattle.v_design.specs.Grades.{samples}
use Rattle.net_state.specs.States.{values_in}
use Rattle.kept_samples.specs.declared.kept.Sample.{Sample}
use Rattle.cert_laws.specs.Replays.{RunLine, Replay, begun, run_line}
use Rattle.cert_laws.specs.Valid.{is_left}
use Rattle.replay_laws.specs.Times.{TimesWithin}
use Rattle.cert_runs.specs.declared.asked.Asked.{Asked}
use Rattle.cert_runs.specs.declared.asked.Asked.TheVariants as asks
use Rattle.cert_runs.specs.declared.asked.Shown.{Shown}
use Rattle.cert_runs.specs.declared.asked.Shown.TheVariants as answers
use Rattle.cert_runs.specs.declared.asked_run.AskedRun.{AskedRun}
use Rattle.cert_runs.specs.declared.search.Search.{Search}
use Rattle.cert_runs.specs.Asking.{race_asked, bound_asked, IsAskedOf, IsNothing, Shows}
use Rattle.cert_runs.specs.Runs.{KeepsRun, race_of, bound_of, time_of}
use Rattle.cert_runs.specs.Samples.{KeepsBefore, SeenSoFar}
use Rattle.cert_runs.specs.Searches.{FoundSoFar, found_in}

-- what is asked
abbrev pub asked_of : AskedRun → Asked
asked_of r = r.search.asked

-- whether a race is claimed of the run, and the time to which it goes
abbrev pub asked_race : AskedRun → Bool
asked_race r = race_of r.run

abbrev pub asked_bound : AskedRun → ℕ
asked_bound r = bound_of r.run

-- the present time
abbrev pub asked_time : AskedRun → ℕ
asked_time r = time_of r.run

-- where a run stands; one that hasn't begun stands at its beginning
abbrev pub stands_at : Machine → Option Replay → Replay
stands_at machine None = begun machine
stands_at machine (Some replay) = replay

-- what is kept, or has been found, is what a run has shown so far of what is asked
abbrev pub IsShownSoFar : Asked → Machine → Option Replay → List Sample → Option ReportedPair → Type 0
IsShownSoFar (asks.Samples bound watched strobes) machine run kept found = SeenSoFar machine (map watched_bit watched.now) strobes.now bound run kept
IsShownSoFar (asks.Conflict time phase first second) machine run kept found = FoundSoFar machine time phase first.now second.now run found
IsShownSoFar asks.Nothing machine run kept found = Unit {0}

-- what is kept stands for a run that may have begun, and shows what it has shown so far
pub record KeepsAsked (machine : Machine) (run : Option Replay) (r : AskedRun) : Type 0 where
  pub keeps : KeepsRun machine run r.run
  pub race_is : race_of r.run ≡ race_asked (asked_of r)
  pub bound_is : bound_asked (asked_of r) ≡ Some (bound_of r.run)
  pub of_design : IsAskedOf machine.design (asked_of r)
  pub shown : IsShownSoFar (asked_of r) machine run r.samples.items (found_in r.search)

-- the same of some run
pub record IsAsked (r : AskedRun) : Type 0 where
  pub machine : Machine
  pub run : Option Replay
  pub keeps : KeepsAsked machine run r

-- the same of some run after at most so many turns
pub record IsAskedRun (turns : ℕ) (r : AskedRun) : Type 0 where
  pub machine : Machine
  pub run : Option Replay
  pub keeps : KeepsAsked machine run r
  pub times : TimesWithin turns (stands_at machine run).now

-- what is asked of a run stays
pub record SameAsked (old new : AskedRun) : Type 0 where
  pub asked : asked_of new ≡ asked_of old
  pub race : asked_race new ≡ asked_race old
  pub bound : asked_bound new ≡ asked_bound old

-- the run goes on as a definition says, where it does, else it fails there
abbrev pub AskedGoesOn : Machine → Option Replay → Bool → AskedRun → Type 0
AskedGoesOn machine found true new = (next : Replay) × (found ≡ Some next) × KeepsAsked machine (Some next) new
AskedGoesOn machine found false new = found ≡ None

-- a line is followed from each run for which what was kept stood, exactly where the definition follows it
pub record FollowsAsked (line : RunLine) (went : Bool) (old new : AskedRun) : Type 0 where
  pub same : SameAsked old new
  pub goes_on : (machine : Machine) (run : Option Replay) → KeepsAsked machine run old →
      AskedGoesOn machine (run_line (asked_race old) machine (asked_bound old) line run) went new

-- The strobes that are passed

-- the strobes before a time that weren't passed see some values
abbrev pub SeenBefore : Asked → ℕ → List LogicValue → (old new : List Sample) → Type 0
SeenBefore (asks.Samples bound watched strobes) time values old new = KeepsBefore time (samples (map watched_bit watched.now) values) strobes.now old new
SeenBefore (asks.Conflict at phase first second) time values old new = Unit {0}
SeenBefore asks.Nothing time values old new = Unit {0}

-- the same of those up to the bound
abbrev pub SeenLast : Asked → List LogicValue → (old new : List Sample) → Type 0
SeenLast (asks.Samples bound watched strobes) values old new = KeepsBefore (bound + 1) (samples (map watched_bit watched.now) values) strobes.now old new
SeenLast (asks.Conflict time phase first second) values old new = Unit {0}
SeenLast asks.Nothing values old new = Unit {0}

-- the values of the objects where a run stands
abbrev pub values_of : AskedRun → List LogicValue
values_of r = values_in r.run.replaying.nets

-- nothing but the samples changes
pub record SameButSamples (old new : AskedRun) : Type 0 where
  pub run : new.run ≡ old.run
  pub search : new.search ≡ old.search

pub record SeesBefore (time : ℕ) (old new : AskedRun) : Type 0 where
  pub same : SameButSamples old new
  pub seen : SeenBefore (asked_of old) time (values_of old) old.samples.items new.samples.items

pub record SeesLast (old new : AskedRun) : Type 0 where
  pub same : SameButSamples old new
  pub seen : SeenLast (asked_of old) (values_of old) old.samples.items new.samples.items

-- what was kept or found is what is shown
abbrev pub ShowsAsked : Asked → List Sample → Option Pair → Shown → Type 0
ShowsAsked (asks.Samples bound watched strobes) kept found (answers.Samples samples) = samples.items ≡ kept
ShowsAsked (asks.Samples bound watched strobes) kept found (answers.Conflict pair) = ⊥
ShowsAsked (asks.Samples bound watched strobes) kept found answers.Nothing = ⊥
ShowsAsked (asks.Conflict time phase first second) kept found (answers.Samples samples) = ⊥
ShowsAsked (asks.Conflict time phase first second) kept found (answers.Conflict pair) = pair ≡ found
ShowsAsked (asks.Conflict time phase first second) kept found answers.Nothing = ⊥
ShowsAsked asks.Nothing kept found shown = IsNothing shown

abbrev pub ShowsKept : Search → List Sample → Shown → Type 0
ShowsKept search kept shown = ShowsAsked search.asked kept search.found shown

-- what a run shows is told exactly where it may be left
abbrev pub TellsShown : Option Shown → AskedRun → Type 0
TellsShown shown old =
    (machine : Machine) (run : Option Replay) → KeepsAsked machine run old →
    (is_some shown ≡ is_left (race_asked (asked_of old)) machine (bound_asked (asked_of old)) run) × Shows (asked_of old) machine run shown
