-- The slot begins.
use Rattle.std.proofs.Common.{◌≤◌, ◌^◌, ◌∙◌, length, refl, sym, ap, subst, arith}
use Rattle.v_design.specs.Designs.{FlatDesign}
use Rattle.v_design.specs.States.{State}
use Rattle.machine.specs.Standing.{machine_kept, state_kept, begins_next}
use Rattle.machine.proofs.Beginnings.{some-state, found-some, begins-table, slot-begun, begun-room}
use Rattle.machine.proofs.parts.Machine.begin_slot.Goals as goal

pub begin_phase-requires-clause-number : goal.begin_phase-requires-clause-number
begin_phase-requires-clause-number c = omega (arith, c.in_ok-begin_slot.ensures.number)

pub begin_phase-requires-clause-room : goal.begin_phase-requires-clause-room
begin_phase-requires-clause-room c =
    let m = c.args.self.now in
    let f = found-some (begins_next m) (λ begins. begins.time ≤ 2 ^ 63) c.requires.left in
    begun-room m c.begin_slot.new.self c.begin_slot.new.log c.requires.standing c.in_ok-begin_slot.ensures.begins c.in_ok-begin_slot.ensures.empty
    ∙ ap (λ (d : FlatDesign). length d.objects) (sym (c.in_ok-turn.ensures.begins (machine_kept m) (state_kept m) f.0 (begins-table m c.requires.standing) f.1).design)

pub returns : goal.returns
returns c =
    let m = c.args.self.now in
    let f = found-some (begins_next m) (λ begins. begins.time ≤ 2 ^ 63) c.requires.left in
    record {
      machine_is = refl;
      notes_are = refl;
      stands = λ begins next.
          slot-begun c.slot_goes_on.ensures.begin c.runs_go_on.ensures.begin c.writes_stay.ensures.stay begins m _ _ c.in_ok-turn.turn c.begin_slot.new.self c.requires.standing next
          (subst (λ (s : State). s.time ≤ 2 ^ 63) (some-state f.0 begins (sym f.1 ∙ next)) f.2) c.in_ok-turn.ensures.turn
          (c.in_ok-turn.ensures.begins (machine_kept m) (state_kept m) begins (begins-table m c.requires.standing) next) c.in_ok-turn.ensures.kept (record { values = refl; nodes = refl }) refl refl
          c.in_ok-begin_slot.ensures.empty c.in_ok-begin_slot.ensures.begins c.in_ok-begin_phase.ensures c.begin_slot-2.ensures.none c.begin_slot-2.ensures.stays refl;
    }
