-- The process stands where it stands in the state.
use Rattle.std.proofs.Common.{◌+◌, length, map, sym, ap, ◌∙◌, arith}
use Rattle.std.specs.Prelude.{option_map}
use Rattle.vf_base.specs.Base.{process_number}
use Rattle.v_design.specs.Plain.{due_of}
use Rattle.between_slots.specs.Between.{state_through}
use Rattle.copy_room.proofs.Standing.{later-own, later-good}
use Rattle.copy_room.proofs.Puts.{may-stand, process-put}
use Rattle.copy_room.proofs.entering.put_process.Goals as goal

pub put_process-requires-clause-cleared : goal.put_process-requires-clause-cleared
put_process-requires-clause-cleared g c = c.requires.put.placed.cleared

pub put_process-requires-clause-number : goal.put_process-requires-clause-number
put_process-requires-clause-number g c = omega (arith, c.requires.process, c.requires.put.placed.process_count, c.requires.put.between.count)

pub put_process-requires-clause-idle : goal.put_process-requires-clause-idle
put_process-requires-clause-idle g c = c.requires.put.placed.others (process_number c.args.process) (omega arith)

pub put_process-requires-clause-stands : goal.put_process-requires-clause-stands
put_process-requires-clause-stands g c =
    let put = c.requires.put in
    let p = process_number c.args.process in
    let good = state_through g.N.World.design g.N.World.plan (c.args.window.now.before + c.args.slot) in
    may-stand g.N.World.design g.N.World.plan (c.args.window.now.before + c.args.slot) c.args.copy.now (length g.N.World.design.objects) p c.args.room.now put c.requires.process c.in_ok-state.state
    (map due_of c.in-Some.own.now) (c.in_ok-state.ensures put.codes put.faulty put.codes_are put.copy)
    (later-own g.N.World.design put.codes good put.faulty c.args.copy.now p put.codes_are put.copy (map due_of c.in-Some.own.now)
    (sym c.updates.ensures ∙ ap (option_map (λ own. map due_of own.now)) c.in-Some.is))

pub returns-in-Some : goal.returns-in-Some
returns-in-Some g c = λ of.
    let p = process_number c.args.process in
    let good = state_through g.N.World.design g.N.World.plan (c.args.window.now.before + c.args.slot) in
    process-put g.N.World.design g.N.World.plan (c.args.window.now.before + c.args.slot) c.args.copy.now (length g.N.World.design.objects) p c.args.room.now of c.requires.process c.in_ok-state.state
    (map due_of c.in-Some.own.now) (c.in_ok-state.ensures of.codes of.faulty of.codes_are of.copy)
    (later-own g.N.World.design of.codes good of.faulty c.args.copy.now p of.codes_are of.copy (map due_of c.in-Some.own.now)
    (sym c.updates.ensures ∙ ap (option_map (λ own. map due_of own.now)) c.in-Some.is))
    c.put_process.new.self c.in_ok-put_process.ensures.machine c.in_ok-put_process.ensures.state c.in_ok-put_process.ensures.cleared c.in_ok-put_process.ensures.notes

pub put_process-requires-2-clause-stands : goal.put_process-requires-2-clause-stands
put_process-requires-2-clause-stands g c =
    let put = c.requires.put in
    let p = process_number c.args.process in
    let good = state_through g.N.World.design g.N.World.plan (c.args.window.now.before + c.args.slot) in
    may-stand g.N.World.design g.N.World.plan (c.args.window.now.before + c.args.slot) c.args.copy.now (length g.N.World.design.objects) p c.args.room.now put c.requires.process c.in_ok-state.state
    (map due_of c.as_slice.result.now) (c.in_ok-state.ensures put.codes put.faulty put.codes_are put.copy)
    (later-good g.N.World.design put.codes good put.faulty c.args.copy.now p put.codes_are put.copy (map due_of c.as_slice.result.now)
    (sym c.updates.ensures ∙ ap (option_map (λ own. map due_of own.now)) c.in_default.is)
    (ap (map due_of) c.as_slice.ensures.value ∙ c.in_ok-good.ensures))

pub returns : goal.returns
returns g c = λ of.
    let p = process_number c.args.process in
    let good = state_through g.N.World.design g.N.World.plan (c.args.window.now.before + c.args.slot) in
    process-put g.N.World.design g.N.World.plan (c.args.window.now.before + c.args.slot) c.args.copy.now (length g.N.World.design.objects) p c.args.room.now of c.requires.process c.in_ok-state.state
    (map due_of c.as_slice.result.now) (c.in_ok-state.ensures of.codes of.faulty of.codes_are of.copy)
    (later-good g.N.World.design of.codes good of.faulty c.args.copy.now p of.codes_are of.copy (map due_of c.as_slice.result.now)
    (sym c.updates.ensures ∙ ap (option_map (λ own. map due_of own.now)) c.in_default.is)
    (ap (map due_of) c.as_slice.ensures.value ∙ c.in_ok-good.ensures))
    c.put_process-2.new.self c.in_ok-put_process-2.ensures.machine c.in_ok-put_process-2.ensures.state c.in_ok-put_process-2.ensures.cleared c.in_ok-put_process-2.ensures.notes
