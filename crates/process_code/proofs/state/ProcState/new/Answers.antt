use Rattle.std.proofs.Common.{None, refl, ap, ◌∙◌}
use Rattle.std.specs.List.{slice_get}
use Rattle.process_code.specs.declared.state.Stage.TheVariants.{Ready}
use Rattle.process_code.specs.Positions.{part_of_head}
use Rattle.process_code.proofs.Spots.{more-room, state-new, activity-new}
use Rattle.process_code.proofs.state.ProcState.new.Goals as goal

pub returns-clause-state : goal.returns-clause-state
returns-clause-state c = state-new c.args.code.now _ c.requires refl c.in_ok-counts.ensures refl

pub returns-clause-room : goal.returns-clause-room
returns-clause-room c i spot there =
    more-room c.in_ok-room.room.operands c.in_ok-room.room.updates _ _ (part_of_head spot.head) c.in_ok-operands.ensures.capacity c.in_ok-updates.ensures.capacity
    (c.in_ok-room.ensures i spot (ap (λ xs. slice_get xs i) c.deref.ensures.value ∙ there))

pub returns-clause-activity : goal.returns-clause-activity
returns-clause-activity c =
    activity-new c.args.code.now
    (record {
      stage = Ready;
      position = c.args.code.now.start;
      operands = c.in_ok-operands.operands;
      counts = c.in_ok-counts.counts;
      place = c.args.code.now.process.now.place;
      delay = None;
      updates = c.in_ok-updates.updates;
    })
    c.requires refl refl c.in_ok-operands.ensures.items c.in_ok-updates.ensures.items
