-- What a block tells of its accesses and of later causes (accesses and causes by IEEE 1364-2001, clause 5).
use Rattle.std.specs.Prelude.{◌≡◌, ◌||◌, ℕ, Bool, false, List, map}
use Rattle.vf_base.specs.Base.{process_number}
use Rattle.vf_base.specs.Lists.{has, AllHold}
use Rattle.v_design.specs.Designs.{FlatDesign, Machine, StuckAt, good_machine, faulty_machine}
use Rattle.v_design.specs.States.{State, Event, Step, LaneStep}
use Rattle.v_design.specs.Accesses.{AccessAct}
use Rattle.block_filter.specs.Blocks.{may_cause_later}
use Rattle.free_objects.specs.Stretches.{NonePasses}
use Rattle.block_told.specs.declared.told.BlockTold.{BlockTold}
use Rattle.block_told.specs.Tells.{Seen, noted_seen, is_lane, TellsBlock}
use Rattle.block_changes.specs.Changes.{ends_wait_of, steps_process, steps_lane}

-- a test of an object and an act that no told access passes, no access of the block passes
abbrev pub ToldPassesNone : Type 0
ToldPassesNone =
    (test : ℕ → AccessAct → Bool) (machine : Machine) (begins : State) (events : List Event) (told : BlockTold) → TellsBlock machine begins events told →
    AllHold (λ (seen : Seen). test seen.object seen.act ≡ false) (map noted_seen told.accesses.items) → NonePasses test machine begins events

-- the processes that a block tells to have stepped or to have been woken, and the lane, are those of the good machine's block
pub record ActAlike (design : FlatDesign) (good : State) (ones : List Event) (told : BlockTold) : Type 0 where
  pub processes : (process : ℕ) → (has (map process_number told.stepped.items) process || has (map process_number told.ended.items) process)
      ≡ (steps_process ones process || ends_wait_of (good_machine design) good ones process)
  pub lanes : (process : ℕ) → is_lane told.lane process ≡ steps_lane ones process

-- later steps may have their causes in one block just where they may in the other
pub record MayCauseAlike (design : FlatDesign) (fault : StuckAt) (good faulty : State) (ones others : List Event) : Type 0 where
  pub steps : (process : ℕ) → may_cause_later (good_machine design) good ones (Step process) ≡ may_cause_later (faulty_machine design fault) faulty others (Step process)
  pub lanes : (process : ℕ) → may_cause_later (good_machine design) good ones (LaneStep process) ≡ may_cause_later (faulty_machine design fault) faulty others (LaneStep process)

abbrev pub CausesAgree : Type 0
CausesAgree =
    (design : FlatDesign) (fault : StuckAt) (good faulty : State) (ones others : List Event) (told : BlockTold) → TellsBlock (faulty_machine design fault) faulty others told →
    ActAlike design good ones told → MayCauseAlike design fault good faulty ones others
