-- What a run of a certificate has to show, and what it shows (strobes by the plan; runs and phases by IEEE 1364-2001, clause 5).
use Rattle.std.specs.Prelude.{◌≡◌, ℕ, ◌<◌, Bool, true, false, List, map, filter, Option, Some, None, nat_le}
use Rattle.vf_base.specs.Base.{WatchedBit, watched_bit, reported_pair}
use Rattle.vf_base.specs.Lists.{AllHold}
use Rattle.vf_base.specs.declared.finding.Pair.{Pair}
use Rattle.v_design.specs.Designs.{FlatDesign, Machine, width_in}
use Rattle.v_design.specs.WellFormed.{IsAscending}
use Rattle.v_design.specs.Runs.{Move}
use Rattle.v_design.specs.Grades.{samples_at}
use Rattle.v_design.specs.Laws.{run_samples, NamesConflict}
use Rattle.kept_samples.specs.Plain.{sample_of}
use Rattle.cert_laws.specs.Meaning.{IsPrinted}
use Rattle.cert_laws.specs.Replays.{Replay}
use Rattle.cert_laws.specs.Valid.{moves_of, shows}
use Rattle.cert_runs.specs.declared.asked.Asked.{Asked}
use Rattle.cert_runs.specs.declared.asked.Asked.TheVariants as asks
use Rattle.cert_runs.specs.declared.asked.Shown.{Shown}
use Rattle.cert_runs.specs.declared.asked.Shown.TheVariants as answers

-- What is asked

-- whether a race is claimed, and the bound of the run, if it has one
abbrev pub race_asked : Asked → Bool
race_asked (asks.Samples bound watched strobes) = false
race_asked (asks.Conflict time phase first second) = true
race_asked asks.Nothing = true

abbrev pub bound_asked : Asked → Option ℕ
bound_asked (asks.Samples bound watched strobes) = Some bound
bound_asked (asks.Conflict time phase first second) = Some time
bound_asked asks.Nothing = None

-- the watched bits are bits of objects of the design, and the strobes ascend
abbrev pub IsAskedOf : FlatDesign → Asked → Type 0
IsAskedOf design (asks.Samples bound watched strobes) =
    AllHold (λ (w : WatchedBit). w.bit < width_in design w.object) (map watched_bit watched.now) × IsAscending strobes.now
IsAskedOf design (asks.Conflict time phase first second) = Unit {0}
IsAskedOf design asks.Nothing = Unit {0}

-- What is shown

-- the samples at the strobes up to a bound are those of the run
abbrev pub AreSamples : Machine → List WatchedBit → List ℕ → ℕ → List Move → Shown → Type 0
AreSamples machine watched strobes bound moves (answers.Samples samples) =
    map sample_of samples.items ≡ samples_at (run_samples machine watched moves) (filter (λ strobe. nat_le strobe bound) strobes)
AreSamples machine watched strobes bound moves (answers.Conflict pair) = ⊥
AreSamples machine watched strobes bound moves answers.Nothing = ⊥

-- a pair prints so and names two conflicting accesses of that phase of a legal order; where there is none the run shows no such accesses
abbrev pub IsConflictAt : Machine → ℕ → ℕ → List ℕ → List ℕ → List Move → Option Pair → Type 0
IsConflictAt machine time phase first second moves None = shows machine time phase first second moves ≡ false
IsConflictAt machine time phase first second moves (Some pair) =
    (shows machine time phase first second moves ≡ true) × IsPrinted machine.design time phase first second (reported_pair pair) × NamesConflict machine (reported_pair pair)

abbrev pub TellsConflict : Machine → ℕ → ℕ → List ℕ → List ℕ → List Move → Shown → Type 0
TellsConflict machine time phase first second moves (answers.Samples samples) = ⊥
TellsConflict machine time phase first second moves (answers.Conflict pair) = IsConflictAt machine time phase first second moves pair
TellsConflict machine time phase first second moves answers.Nothing = ⊥

abbrev pub IsNothing : Shown → Type 0
IsNothing (answers.Samples samples) = ⊥
IsNothing (answers.Conflict pair) = ⊥
IsNothing answers.Nothing = Unit {0}

-- what the moves of a run show of what is asked
abbrev pub IsShownBy : Asked → Machine → List Move → Shown → Type 0
IsShownBy (asks.Samples bound watched strobes) machine moves shown = AreSamples machine (map watched_bit watched.now) strobes.now bound moves shown
IsShownBy (asks.Conflict time phase first second) machine moves shown = TellsConflict machine time phase first.now second.now moves shown
IsShownBy asks.Nothing machine moves shown = IsNothing shown

-- what is shown of a run that may be left, if it may
abbrev pub Shows : Asked → Machine → Option Replay → Option Shown → Type 0
Shows asked machine run None = Unit {0}
Shows asked machine run (Some shown) = IsShownBy asked machine (moves_of run) shown
