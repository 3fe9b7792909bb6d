-- What is kept of a process.
use Rattle.std.proofs.Common.{◌+◌, map, sym, ap, ◌∙◌}
use Rattle.vf_base.specs.Base.{process_number}
use Rattle.v_design.specs.Plain.{due_of}
use Rattle.v_design.specs.States.{process_at}
use Rattle.copy_state.specs.Kept.{CopyKept}
use Rattle.between_slots.specs.Between.{state_through}
use Rattle.machine.specs.Standing.{state_kept}
use Rattle.copy_room.proofs.Keeping.{stands-room, keeps-state, keeps-updates, process-there}
use Rattle.copy_room.proofs.leaving.keep_process.Goals as goal

pub state_of-requires-clause-number : goal.state_of-requires-clause-number
state_of-requires-clause-number g c = process-there g.N.World.design (process_number c.args.process) c.args.room.now c.requires.standing c.requires.design c.requires.process

pub updates_of-requires-clause-number : goal.updates_of-requires-clause-number
updates_of-requires-clause-number g c = process-there g.N.World.design (process_number c.args.process) c.args.room.now c.requires.standing c.requires.design c.requires.process

pub returns-clause-rest : goal.returns-clause-rest
returns-clause-rest g c =
    let old = c.args.copy.now in
    let new = c.keep_updates.new.copy in
    c.in_ok-keep_updates.ensures.rest
    ∙ ap (λ (k : CopyKept). record k { updates = new.updates }) c.in_ok-keep_state.ensures.rest
    ∙ ap (λ states. record old { states = states; updates = new.updates }) (sym (ap (λ (k : CopyKept). k.states) c.in_ok-keep_updates.ensures.rest))

pub returns-clause-states : goal.returns-clause-states
returns-clause-states g c =
    let p = process_number c.args.process in
    let good = state_through g.N.World.design g.N.World.plan (c.args.window.now.before + c.args.slot) in
    keeps-state g.N.World.design p (process_at good p).activity (process_at (state_kept c.args.room.now) p).activity c.state_before.result.now c.state_of.result.now c.args.copy.now c.keep_state.new.copy
    c.keep_updates.new.copy c.requires.rules c.state_before.ensures
    (stands-room g.N.World.design p c.args.room.now c.state_of.result.now c.requires.design c.state_of.ensures.state c.state_of.ensures.activity)
    c.in_ok-keep_state.ensures.kept c.in_ok-keep_updates.ensures.rest

pub returns-clause-updates : goal.returns-clause-updates
returns-clause-updates g c =
    let p = process_number c.args.process in
    let good = state_through g.N.World.design g.N.World.plan (c.args.window.now.before + c.args.slot) in
    keeps-updates p (process_at good p).later (process_at (state_kept c.args.room.now) p).later (map due_of c.as_slice.result.now) (map due_of c.updates_of.result.now) c.args.copy.now
    c.keep_state.new.copy c.keep_updates.new.copy (ap (map due_of) c.as_slice.ensures.value ∙ c.in_ok-good.ensures) c.updates_of.ensures c.in_ok-keep_state.ensures.rest
    c.in_ok-keep_updates.ensures.kept
