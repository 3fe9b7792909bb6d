-- The ends of a window's runs by process (phases by IEEE 1364-2001, clause 5; processes by clause 9).
use Rattle.std.specs.Prelude.{◌≡◌, ℕ, ◌+◌, ◌≤◌, List, length, get_or, map, Option, Some, slice_get}
use Rattle.std.specs.List.Sorted.{IsNonDecreasingBy}
use Rattle.vf_base.specs.Base.{process_number}
use Rattle.vf_base.specs.Lists.{AllHold}
use Rattle.v_design.specs.declared.plan.Due.{Due}
use Rattle.window_index.specs.Moments.{IsIndexOf}
use Rattle.process_code.specs.declared.state.RunEnd.{RunEnd}
use Rattle.window_runs.specs.declared.index.RunIndex.{RunIndex}
use Rattle.window_runs.specs.Placed.{own_of, at_moment, at_places, at_only}

-- the process and the phase of a run
abbrev pub run_process : RunEnd → ℕ
run_process run = process_number run.process

abbrev pub run_phase : RunEnd → ℕ
run_phase run = run.phase

-- the runs of a process, in order
abbrev pub runs_of_process : ℕ → List RunEnd → List RunEnd
runs_of_process process runs = own_of run_process process runs

-- a run whose phase is numbered on from so many before it
abbrev pub numbered_from : ℕ → RunEnd → RunEnd
numbered_from phases run = record run { phase = run.phase + phases }

-- a run that was found, where it is of a phase
abbrev pub only_at : ℕ → Option RunEnd → Option RunEnd
only_at phase found = at_only run_phase phase found

-- of each run a time by which all updates are due that its process appended up to it
pub record AreLatest (runs : List RunEnd) (latest : List ℕ) : Type 0 where
  pub count : length runs ≤ length latest
  pub bounds : (place earlier : ℕ) (run other : RunEnd) → earlier ≤ place → slice_get runs place ≡ Some run → slice_get runs earlier ≡ Some other → run_process other ≡ run_process run →
      AllHold (λ (due : Due). due.time ≤ get_or latest place 0) other.later

-- an index has of each process below a count the phases and the places of its runs, the phases of all runs ascend, and it has their latest times
pub record IsRunIndexOf (count : ℕ) (runs : List RunEnd) (index : RunIndex) : Type 0 where
  pub rise : IsNonDecreasingBy run_phase runs
  pub phases_are : IsIndexOf count (map (at_moment run_process run_phase) runs) index.phases
  pub places_are : IsIndexOf count (at_places run_process 0 runs) index.places
  pub latest_are : AreLatest runs index.latest.items
