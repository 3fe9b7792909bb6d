-- The copy's state, or the good machine's.
use Rattle.std.proofs.Common.{◌+◌, sym, ap, ◌∙◌}
use Rattle.std.specs.Prelude.{option_map}
use Rattle.vf_base.specs.Base.{process_number}
use Rattle.between_slots.specs.Between.{state_through}
use Rattle.v_design.specs.States.{process_at}
use Rattle.copy_room.proofs.Standing.{stands-copied, stands-good, stands-own}
use Rattle.copy_room.proofs.entering.state_in.Goals as goal

pub returns-in-Some : goal.returns-in-Some
returns-in-Some g c = λ codes faulty codes_are copy.
    let p = process_number c.args.process in
    let good = state_through g.N.World.design g.N.World.plan (c.args.window.now.before + c.args.slot) in
    stands-copied g.N.World.design p (process_at faulty p).activity c.in-Some.own.now c.in_ok-state.state
    (stands-own g.N.World.design codes good faulty c.args.copy.now p codes_are copy c.codes_are_one.ensures.read c.in-Some.own.now c.requires.process (sym c.process.ensures ∙ ap (option_map (λ own. own.now)) c.in-Some.is))
    c.in_ok-state.ensures.point c.in_ok-state.ensures.state

pub returns : goal.returns
returns g c = λ codes faulty codes_are copy.
    let p = process_number c.args.process in
    let good = state_through g.N.World.design g.N.World.plan (c.args.window.now.before + c.args.slot) in
    stands-copied g.N.World.design p (process_at faulty p).activity c.state_before.result.now c.in_ok-state-2.state
    (stands-good g.N.World.design codes good faulty c.args.copy.now p codes_are copy c.state_before.result.now (sym c.process.ensures ∙ ap (option_map (λ own. own.now)) c.in_default.is) c.state_before.ensures)
    c.in_ok-state-2.ensures.point c.in_ok-state-2.ensures.state
