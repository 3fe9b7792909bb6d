-- The phase ends, and the next one begins.
use Rattle.std.proofs.Common.{◌∙◌, length, refl, sym, ap}
use Rattle.v_design.specs.Designs.{FlatDesign}
use Rattle.machine.specs.Standing.{machine_kept, state_kept}
use Rattle.machine.proofs.TurnsOn.{idle-processes, ended-room, next-number, turn-moved}
use Rattle.machine.proofs.parts.Machine.turn_phase.Goals as goal

pub turn-requires-clause-quiet : goal.turn-requires-clause-quiet
turn-requires-clause-quiet c = idle-processes (state_kept c.args.self.now) c.requires.idle

pub begin_phase-requires-clause-room : goal.begin_phase-requires-clause-room
begin_phase-requires-clause-room c =
    ended-room c.args.self.now c.end_phase.new.self c.args.log.now _ c.requires.moving c.in_ok-end_phase.ensures
    ∙ ap (λ (d : FlatDesign). length d.objects)
    (sym (c.in_ok-turn.ensures.turned (machine_kept c.args.self.now) (state_kept c.args.self.now) (record { design = c.requires.moving.is.parts.design; time = refl; processes = refl })).design)

pub begin_phase-requires-clause-number : goal.begin_phase-requires-clause-number
begin_phase-requires-clause-number c = next-number c.phases_are_few.ensures.few c.args.self.now c.end_phase.new.self c.args.log.now _ c.requires.moving c.in_ok-end_phase.ensures

pub returns : goal.returns
returns c = record {
  notes_are = refl;
  leads = λ machine first begins steps guide before now moves runs few.
      turn-moved c.runs_go_beside.ensures c.slot_goes_on.ensures.turn c.runs_go_on.ensures.phases machine first begins steps guide before now moves c.args.self.now _ c.args.log.now _ c.args.turn c.end_phase.new.self runs few c.requires.idle
      c.requires.turn c.in_ok-end_phase.ensures
      (λ state of. c.in_ok-turn.ensures.turned machine state of) c.in_ok-turn.ensures.kept (record { values = refl; nodes = refl }) refl refl c.in_ok-begin_phase.ensures refl refl;
}
