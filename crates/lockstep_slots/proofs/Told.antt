-- Blocks by what is told of them.
use Rattle.std.proofs.Common.{◌≡◌, List, Bool, true, false, ◌||◌, refl, sym, ◌∙◌}
use Rattle.v_design.specs.Designs.{Machine, good_machine, faulty_machine}
use Rattle.v_design.specs.States.{State, Event}
use Rattle.v_design.specs.Runs.{happened}
use Rattle.v_design.specs.WellFormed.{KeepsRules}
use Rattle.copy_laws.specs.Moves.{Parts, ChangesOnly}
use Rattle.block_changes.specs.Changes.{parts_changed, EventsChangeParts, CausesAreTold}
use Rattle.lockstep_laws.specs.Phases.{IsInPhase, PhasesFit}
use Rattle.lockstep_laws.specs.Blocks.{with_all_nodes, either_parts, ChangesAddUp}
use Rattle.lockstep_slots.specs.Places.{state_there, moment_there}
use Rattle.lockstep_slots.specs.Standing.{SlotsInLockstep}
use Rattle.lockstep_slots.specs.Told.{parts_told, ToldBlocksRun}
use Rattle.lockstep_slots.proofs.Moved.{in-phase}

-- the laws on which this stands
pub record ToldLaws : Type 0 where
  pub goes : SlotsInLockstep
  pub fit : PhasesFit
  pub parts : EventsChangeParts
  pub causes : CausesAreTold
  pub add_up : ChangesAddUp

neither : (a b : Bool) → (a || b) ≡ false → (a ≡ false) × (b ≡ false)
neither true b e = cc
neither false b e = (refl, e)

-- what changes in one of two changes in both
one-of : ChangesAddUp → (one other : Parts) (before later : State) → ChangesOnly one before later → ChangesOnly (with_all_nodes (either_parts one other)) before later
one-of law one other before later changes =
    law.wider one (with_all_nodes (either_parts one other)) before later changes (λ object e. (neither (one.objects object) (other.objects object) e).0)
    (λ number e. absurd (let no : true ≡ false = e in cc)) (λ process e. (neither (one.processes process) (other.processes process) e).0)

other-of : ChangesAddUp → (one other : Parts) (before later : State) → ChangesOnly other before later → ChangesOnly (with_all_nodes (either_parts one other)) before later
other-of law one other before later changes =
    law.wider other (with_all_nodes (either_parts one other)) before later changes (λ object e. (neither (one.objects object) (other.objects object) e).1)
    (λ number e. absurd (let no : true ≡ false = e in cc)) (λ process e. (neither (one.processes process) (other.processes process) e).1)

block-changes : ToldLaws → (machine : Machine) (state : State) (events : List Event) → KeepsRules machine.design → IsInPhase machine state →
    ChangesOnly (parts_changed machine state events) state (happened machine state events)
block-changes laws machine state events rules phase = laws.parts machine state events (laws.fit machine state rules phase).parts.nodes

pub told_blocks_run : ToldLaws → ToldBlocksRun
told_blocks_run laws design fault slot begins place own pairs marks old new ones more others s left good_whole own_whole told room =
    laws.goes.runs design fault slot begins place own pairs marks old new (parts_told design fault (state_there (good_machine design) place) own.state ones others) ones more others s left
    good_whole own_whole
    (record {
      good_changes = one-of laws.add_up (parts_changed (good_machine design) (state_there (good_machine design) place) ones) (parts_changed (faulty_machine design fault) own.state others)
          (state_there (good_machine design) place) (happened (good_machine design) (state_there (good_machine design) place) ones)
          (block-changes laws (good_machine design) (state_there (good_machine design) place) ones s.good_slot.rules
          (in-phase (good_machine design) (moment_there (good_machine design) slot place) s.lockstep.good_comes));
      own_changes = other-of laws.add_up (parts_changed (good_machine design) (state_there (good_machine design) place) ones) (parts_changed (faulty_machine design fault) own.state others)
          own.state (happened (faulty_machine design fault) own.state others)
          (block-changes laws (faulty_machine design fault) own.state others s.good_slot.rules (in-phase (faulty_machine design fault) own s.lockstep.own_comes));
      compared = told.compared;
    })
    (record {
      good_reaches = told.good_reaches;
      own_reaches = told.own_reaches;
      steps = λ process.
          laws.causes.steps (good_machine design) (state_there (good_machine design) place) ones process ∙ told.steps process
          ∙ sym (laws.causes.steps (faulty_machine design fault) own.state others process);
      lanes = λ process.
          laws.causes.lanes (good_machine design) (state_there (good_machine design) place) ones process ∙ told.lanes process
          ∙ sym (laws.causes.lanes (faulty_machine design fault) own.state others process);
      accesses = told.accesses;
    })
    room
