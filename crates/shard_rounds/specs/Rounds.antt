-- How rounds follow each other (slots by IEEE 1364-2001, clause 5).
use Rattle.std.specs.Prelude.{◌≡◌, ℕ, ◌+◌, ◌^◌, true, List, length, sum}
use Rattle.v_design.specs.Designs.{FlatDesign, TestPlan}
use Rattle.copy_laws.specs.Windows.{IsWindow, good_slots}
use Rattle.shard_crew.specs.fault_grade.Results.{LoopsAt}
use Rattle.good_trace.specs.Traces.{WindowKept}
use Rattle.v_design.specs.OwnSteps.{good_steps}
use Rattle.own_gradings.specs.Numbers.{RisesOwn}
use Rattle.shard_crew.specs.graded_steps.Behind.{RisesWithin}
use Rattle.good_windows.specs.Next.{RunKept, GivesNext, steps_of_slots}
use Rattle.good_windows.specs.declared.next.NextWindow.{NextWindow}
use Rattle.verdict_words.specs.declared.board.Board.{Board}
use Rattle.fault_shards.specs.declared.shards.Shards.{Shards}
use Rattle.shard_crew.specs.shard_claims.Workers.{AreBackupsOf, faults_steps}
use Rattle.shard_crew.specs.shard_turns.declared.backups.Backups.{Backups}
use Rattle.shard_crew.specs.shard_turns.declared.backups.BackupSeat.{BackupSeat}
use Rattle.verdict_words.specs.Seats.{view}
use Rattle.shard_crew.specs.shard_findings.AllWorkers.{AreWorkersAt, crew_steps}
use Rattle.shard_crew.specs.Crews.{IsCrewSeat}
use Rattle.shard_crew.specs.shard_claims.declared.worker.Worker.{Worker}
use Rattle.shard_rounds.specs.declared.step.Rounds.{Rounds}
use Rattle.shard_rounds.specs.declared.step.Later.{Later}
use Rattle.shard_rounds.specs.declared.step.Later.TheVariants.{Round, Done, Loops}
use Rattle.shard_rounds.specs.declared.rounds.First.{First}
use Rattle.shard_rounds.specs.declared.rounds.First.TheVariants as first
use Rattle.shard_rounds.specs.declared.rounds.Through.{Through}
use Rattle.shard_rounds.specs.declared.rounds.Through.TheVariants as ends

-- a window of the good first run, and the run behind it
pub record IsWindowAhead (design : FlatDesign) (plan : TestPlan) (run : RunKept) (window : WindowKept) : Type 0 where
  pub window_is : IsWindow design plan window.before window.through window.ending
  pub run_at : run.gone ≡ window.through
  pub usable : run.usable ≡ true

-- some counters rose together by no more than one number is above another
pub record RoseWithin (from to : ℕ) (before after : List ℕ) : Type 0 where
  pub rises : RisesWithin from to (sum before) (sum after)

module _ {N : Type 0} where
  -- the run, of which so many slots stood in windows, goes on, and this comes next
  pub record RunsOn (design : FlatDesign) (plan : TestPlan) (gone : ℕ) (run : RunKept) (next : NextWindow N) : Type 0 where
    pub gives : GivesNext design plan gone next run.gone
    pub usable : run.usable ≡ true

  -- the first window is there, or the good machine loops before any
  abbrev pub IsFirst : FlatDesign → TestPlan → RunKept → First N → Type 0
  IsFirst design plan run (first.Window window) = IsWindowAhead design plan run window × (window.before ≡ 0)
  IsFirst design plan run (first.Loops time) = LoopsAt design plan time

  -- so many workers stand where a window of the good first run begins, behind which its run goes on
  pub record IsBeforeRound (design : FlatDesign) (plan : TestPlan) (representatives : List ℕ) (board : Board N) (count : ℕ) (run : RunKept) (rounds : Rounds N) : Type 0 where
    pub workers : AreWorkersAt representatives board rounds.window.before count rounds.workers.items
    pub ahead : IsWindowAhead design plan run rounds.window

  -- so many workers have gone through all slots, and the good machine doesn't loop before a race of its own
  pub record AreThrough (design : FlatDesign) (plan : TestPlan) (representatives : List ℕ) (board : Board N) (count : ℕ) (workers : List (Worker N)) : Type 0 where
    pub workers_are : AreWorkersAt representatives board (length (good_slots design plan)) count workers
    pub no_loop : (time : ℕ) → LoopsAt design plan time → ⊥

  -- behind a round in which all workers went through the slots up to some
  abbrev pub GoesOn : FlatDesign → TestPlan → List ℕ → Board N → ℕ → ℕ → RunKept → Later N → Type 0
  GoesOn design plan representatives board count through run (Round rounds) =
      IsBeforeRound design plan representatives board count run rounds × (rounds.window.before ≡ through)
  GoesOn design plan representatives board count through run (Done workers) = AreThrough design plan representatives board count workers.items
  GoesOn design plan representatives board count through run (Loops time) = LoopsAt design plan time

  -- a round has slots for all shards, and a seat with the whole share, off which those of so many workers are split
  pub record BackedUp (shards : Shards) (count : ℕ) (made : Backups N × BackupSeat N) : Type 0 where
    pub slots : AreBackupsOf shards made.0
    pub seat : IsCrewSeat made.0 count made.1
    pub whole : (view made.1.visits).share ≡ 2 ^ 62

  -- Up to behind so many slots of the good first run and not more the counters of the workers rose by no more than the own steps of their shards' faults, and once more those of all faults that
  -- stand for their classes, since copies of shards may be run beside them
  abbrev pub CrewTicks : FlatDesign → TestPlan → List ℕ → ℕ → ℕ → List (Worker N) → List (Worker N) → ℕ → ℕ → Type 0
  CrewTicks design plan representatives from to old new before after =
      RisesOwn design plan (λ tally. crew_steps tally old + faults_steps tally from representatives) (λ tally. crew_steps tally new + faults_steps tally to representatives) before after

  -- so they rose in a round; where the good machine loops the workers are gone
  abbrev pub RoundTicks : FlatDesign → TestPlan → List ℕ → ℕ → ℕ → List (Worker N) → ℕ → ℕ → Later N → Type 0
  RoundTicks design plan representatives from to workers before after (Round rounds) = CrewTicks design plan representatives from to workers rounds.workers.items before after
  RoundTicks design plan representatives from to workers before after (Done gone) =
      CrewTicks design plan representatives from (length (good_slots design plan)) workers gone.items before after
  RoundTicks design plan representatives from to workers before after (Loops time) = Unit {0}

  -- the counter of the good machine rose by no more than its process steps in between
  abbrev pub GoodTicks : FlatDesign → TestPlan → ℕ → ℕ → ℕ → ℕ → Later N → Type 0
  GoodTicks design plan ran now before after (Round rounds) = RisesWithin (steps_of_slots design plan ran) (steps_of_slots design plan now) before after
  GoodTicks design plan ran now before after (Done gone) = RisesWithin (steps_of_slots design plan ran) (good_steps design plan) before after
  GoodTicks design plan ran now before after (Loops time) = RisesWithin (steps_of_slots design plan ran) (good_steps design plan) before after

  -- the same behind all rounds
  abbrev pub AllTicks : FlatDesign → TestPlan → List ℕ → ℕ → List (Worker N) → ℕ → ℕ → Through N → Type 0
  AllTicks design plan representatives from workers before after (ends.All gone) =
      CrewTicks design plan representatives from (length (good_slots design plan)) workers gone.items before after
  AllTicks design plan representatives from workers before after (ends.Loops time) = Unit {0}

  -- behind all rounds
  abbrev pub AreDone : FlatDesign → TestPlan → List ℕ → Board N → ℕ → Through N → Type 0
  AreDone design plan representatives board count (ends.All workers) = AreThrough design plan representatives board count workers.items
  AreDone design plan representatives board count (ends.Loops time) = LoopsAt design plan time
