-- The updates that are kept, with their lane.
use Rattle.std.proofs.Common.{◌≡◌, List, [], map, refl, sym, ap, ◌∙◌}
use Rattle.std.specs.Prelude.{Option, Some, None}
use Rattle.vf_base.specs.Base.{process_number}
use Rattle.vf_base.specs.Lists.{change_at}
use Rattle.v_design.specs.Assignments.{ValueUpdate}
use Rattle.v_design.specs.Plain.{due_of, update_of}
use Rattle.v_design.specs.States.{ProcessState, found_or}
use Rattle.copy_laws.specs.Differences.{own_of}
use Rattle.lockstep_index.specs.Writes.{OwnWrites, with_writes}
use Rattle.lockstep_copy.specs.Kept.{kept_by}
use Rattle.block_events.specs.Runners.{state_of}
use Rattle.lockstep_exchange.proofs.Kept.{writes-none, writes-some, change-none}
use Rattle.lockstep_exchange.proofs.put.put_writes.Goals as goal

pub returns-in_default-clause-machine : goal.returns-in_default-clause-machine
returns-in_default-clause-machine c = refl

pub returns-in_default-clause-state : goal.returns-in_default-clause-state
returns-in_default-clause-state c =
    let own = c.args.own.now in
    let process = process_number c.args.process in
    let state = state_of c.args.runner.now in
    let none : (kept_by own).writes process ≡ None = writes-none own process (sym c.in_default.ensures) in
    ap (λ (processes : List ProcessState). record state { processes = processes })
    (sym (change-none state.processes process) ∙ ap (λ found. change_at state.processes process (with_writes found)) (sym none))

pub returns-in_default-clause-whole : goal.returns-in_default-clause-whole
returns-in_default-clause-whole c = c.requires.whole

pub put_updates-requires-clause-number : goal.put_updates-requires-clause-number
put_updates-requires-clause-number c = (c.requires.fits.updates (process_number c.args.process) (map due_of c.in-Some.later.now) (sym c.in-Some.ensures)).there

pub put_updates-requires-clause-after : goal.put_updates-requires-clause-after
put_updates-requires-clause-after c = (c.requires.fits.updates (process_number c.args.process) (map due_of c.in-Some.later.now) (sym c.in-Some.ensures)).due

pub returns-clause-machine : goal.returns-clause-machine
returns-clause-machine c = c.in_ok-put_updates.ensures.machine

pub returns-clause-state : goal.returns-clause-state
returns-clause-state c =
    let own = c.args.own.now in
    let process = process_number c.args.process in
    let state = state_of c.args.runner.now in
    let lane = found_or [] (own_of own.lanes process) in
    let kept = writes-some own process (map due_of c.in-Some.later.now) lane (sym c.in-Some.ensures) refl in
    let as_kept : OwnWrites = record { later = map due_of c.in-Some.later.now; lane = map update_of c.lane_of.result.now } in
    c.in_ok-put_updates.ensures.state
    ∙ ap (λ (found : Option OwnWrites). record state { processes = change_at state.processes process (with_writes found) })
    (ap (λ (l : List ValueUpdate). Some (record as_kept { lane = l })) c.lane_of.ensures ∙ sym kept)

pub returns-clause-whole : goal.returns-clause-whole
returns-clause-whole c = c.in_ok-put_updates.ensures.whole
