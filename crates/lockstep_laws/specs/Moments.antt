-- Both machines in lockstep at a moment of a slot of each, from its beginning to its end (slots and phases by IEEE 1364-2001, clause 5).
use Rattle.std.specs.Prelude.{◌≡◌, ◌+◌, ◌≤◌, false, List, Some, None, sum_by}
use Rattle.v_design.specs.Designs.{FlatDesign, StuckAt, good_machine, faulty_machine}
use Rattle.v_design.specs.States.{State, Event, TurnKind, turn_of, turned}
use Rattle.v_design.specs.Accesses.{held_accesses}
use Rattle.v_design.specs.Runs.{Turns, happened, turn_in_slot, most_steps}
use Rattle.v_design.specs.Laws.{BeginsPhase}
use Rattle.v_design.specs.WellFormed.{KeepsRules}
use Rattle.machine_laws.specs.SlotLoop.{Moment, ComesTo, EndsAt, NoNodeWorks, IsIdle, steps_of, first_moment, after_events, after_turn}
use Rattle.copy_laws.specs.Beside.{AreFirst}
use Rattle.copy_laws.specs.Moves.{Within, Parts, ChangesOnly, apart_within}
use Rattle.lockstep_laws.specs.Lockstep.{AreInLockstep}
use Rattle.lockstep_laws.specs.Turning.{turned_within}
use Rattle.lockstep_laws.specs.Passing.{AreFree, PassTogether}
use Rattle.lockstep_laws.specs.Blocks.{with_all_nodes, SetsAnewAtRest}
use Rattle.lockstep_laws.specs.Slots.{EndsInLockstep}

-- the first order of each machine comes to a moment of its slot, and there they are in lockstep
pub record InLockstepAt (design : FlatDesign) (fault : StuckAt) (d : Within) (good own : Moment) : Type 0 where
  pub good_comes : ComesTo (good_machine design) good
  pub own_comes : ComesTo (faulty_machine design fault) own
  pub lockstep : AreInLockstep d good.state own.state

-- both slots have steps left for some events
pub record HaveRoom (good own : Moment) (good_events own_events : List Event) : Type 0 where
  pub good_room : good.steps + sum_by steps_of good_events ≤ most_steps
  pub own_room : own.steps + sum_by steps_of own_events ≤ most_steps

pub record LockstepGoesOn : Type 0 where
  -- a slot begins
  pub begins : (design : FlatDesign) (fault : StuckAt) (d : Within) (good own : State) → BeginsPhase (good_machine design) good → BeginsPhase (faulty_machine design fault) own →
      AreInLockstep d good own → InLockstepAt design fault d (first_moment good) (first_moment own)
  -- the good machine takes events that touch no difference
  pub passes : (design : FlatDesign) (fault : StuckAt) (d : Within) (good own : Moment) (events : List Event) → KeepsRules design → InLockstepAt design fault d good own →
      AreFirst (good_machine design) good.state events → AreFree design fault (apart_within d) good.state events → HaveRoom good own events events →
      PassTogether design fault d good.state own.state events
      × InLockstepAt design fault d (after_events (good_machine design) events good) (after_events (faulty_machine design fault) events own)
  -- each machine takes its own events, behind which no node has work, and the differences are set anew in what changed
  pub blocks : (design : FlatDesign) (fault : StuckAt) (parts : Parts) (good own : Moment) (good_events own_events : List Event) (old new : Within) → KeepsRules design →
      InLockstepAt design fault old good own → AreFirst (good_machine design) good.state good_events → AreFirst (faulty_machine design fault) own.state own_events →
      HaveRoom good own good_events own_events →
      ChangesOnly (with_all_nodes parts) good.state (happened (good_machine design) good.state good_events) →
      ChangesOnly (with_all_nodes parts) own.state (happened (faulty_machine design fault) own.state own_events) →
      NoNodeWorks (happened (good_machine design) good.state good_events) → NoNodeWorks (happened (faulty_machine design fault) own.state own_events) →
      SetsAnewAtRest parts (happened (good_machine design) good.state good_events) (happened (faulty_machine design fault) own.state own_events) old new →
      InLockstepAt design fault new (after_events (good_machine design) good_events good) (after_events (faulty_machine design fault) own_events own)
  -- no event is possible in the good machine, and a turn within the slot begins the next phase of both, which hold the same entries
  pub turns : (design : FlatDesign) (fault : StuckAt) (d : Within) (good own : Moment) (turn : TurnKind) → KeepsRules design → InLockstepAt design fault d good own →
      good.steps ≤ most_steps → own.steps ≤ most_steps → IsIdle good.state → turn_of good.state ≡ Some turn → turn_in_slot (Some turn) ≡ Some Turns →
      InLockstepAt design fault (turned_within good.state.time turn d) (after_turn turn good) (after_turn turn own)
      × (held_accesses (good_machine design) (turned turn good.state) ≡ held_accesses (faulty_machine design fault) (turned turn own.state))
  -- nor is a turn within the slot: both slots end, and none is hyperactive
  pub ends : (design : FlatDesign) (fault : StuckAt) (d : Within) (good own : Moment) → InLockstepAt design fault d good own → good.steps ≤ most_steps → own.steps ≤ most_steps → IsIdle good.state →
      turn_in_slot (turn_of good.state) ≡ None → EndsAt (good_machine design) false good × EndsInLockstep design fault own
