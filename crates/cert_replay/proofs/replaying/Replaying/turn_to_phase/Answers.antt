-- The next phase begins.
use Rattle.std.proofs.Common.{◌+◌, ◌∙◌, length, refl, sym, ap}
use Rattle.v_design.specs.Designs.{FlatDesign}
use Rattle.cert_replay.proofs.Turning.{turn-quiet, next-number, phase-goes, phase-none}
use Rattle.cert_replay.proofs.replaying.Replaying.turn_to_phase.Goals as goal

pub slot_turn-requires : goal.slot_turn-requires
slot_turn-requires c = c.requires.ended.arranged

pub turn-requires-clause-kept : goal.turn-requires-clause-kept
turn-requires-clause-kept c = c.requires.ended.arranged

pub turn-requires-clause-quiet : goal.turn-requires-clause-quiet
turn-requires-clause-quiet c = turn-quiet c.args.self.now c.requires

pub returns-in_default : goal.returns-in_default
returns-in_default c = phase-none c.args.self.now c.args.number c.in_default.ensures

pub begin_phase-requires-clause-room : goal.begin_phase-requires-clause-room
begin_phase-requires-clause-room c =
    let is = c.requires in
    is.ended.recorded.causes.objects
    ∙ ap (λ (d : FlatDesign). length d.objects) (sym (c.in_ok-turn.ensures.turned is.machine is.replay.now is.ended.both.table_is).design)

pub begin_phase-requires-clause-number : goal.begin_phase-requires-clause-number
begin_phase-requires-clause-number c = next-number c.args.self.now c.requires

pub returns : goal.returns
returns c =
    phase-goes c.writes_stay.ensures.stay c.phases_are_few.ensures.wake c.args.self.now _ c.in-Some.turn c.args.number c.in-Some.ensures
    (c.if-number.false ∙ ap (λ n. n + 1) c.number.ensures) c.in_ok-turn.ensures.turned c.in_ok-turn.ensures.kept
    c.in_ok-begin_phase.ensures refl (record { race = refl; bound = refl })
