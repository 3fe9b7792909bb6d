-- The process may stand there, and does; one that isn't there does nothing in either state.
use Rattle.std.proofs.Common.{◌≡◌, ℕ, [], ◌∷◌, map, refl, subst, arith}
use Rattle.std.specs.Prelude.{Some, None}
use Rattle.vf_base.specs.Base.{process_number}
use Rattle.v_design.specs.Designs.{FlatDesign}
use Rattle.v_design.specs.Plain.{due_of, update_of}
use Rattle.v_design.specs.States.{ProcessState, process_at}
use Rattle.process_table.specs.Replaces.{state_with}
use Rattle.good_trace.specs.RunsKept.{Stands}
use Rattle.lockstep_exchange.specs.block_events.Runners.{machine_of, state_of}
use Rattle.lockstep_exchange.proofs.block_events.Nodes.{process-count}
use Rattle.lockstep_exchange.proofs.Puts.{process-more, processes-none}
use Rattle.lockstep_room.specs.Rooms.{processes_among}
use Rattle.lockstep_room.proofs.Standing.{may-stand-there, one-here, one-other, process-absent, some-code}
use Rattle.lockstep_room.proofs.following.follow_process.Goals as goal

pub state_of-requires : goal.state_of-requires
state_of-requires g c =
    let stands = c.requires.stands in
    let count = process-count c.args.runner.now c.requires.whole in
    record { state = stands.good; shown = stands.shown; there = omega (arith, c.if-process-counts.false, c.requires.counts.processes, count, stands.process_count) }

pub later-requires : goal.later-requires
later-requires g c =
    let stands = c.requires.stands in
    let count = process-count c.args.runner.now c.requires.whole in
    record { state = stands.good; shown = stands.shown; there = omega (arith, c.if-process-counts.false, c.requires.counts.processes, count, stands.process_count) }

pub lane-requires : goal.lane-requires
lane-requires g c =
    let stands = c.requires.stands in
    let count = process-count c.args.runner.now c.requires.whole in
    record { state = stands.good; shown = stands.shown; there = omega (arith, c.if-process-counts.false, c.requires.counts.processes, count, stands.process_count) }

pub put_process-requires-clause-number : goal.put_process-requires-clause-number
put_process-requires-clause-number g c =
    let count = process-count c.args.runner.now c.requires.whole in omega (arith, c.if-process-counts.false, c.requires.counts.processes, count)

pub put_process-requires-clause-stands : goal.put_process-requires-clause-stands
put_process-requires-clause-stands g c =
    let of = c.requires.stands in
    let process = process_number c.args.process in
    may-stand-there (machine_of c.args.runner.now).design (state_of c.args.runner.now).time process (process_at of.good process) c.state_of.result.now (map due_of c.later.result.now)
    (of.may process)
    (subst (λ (d : FlatDesign). Stands d process (process_at of.good process).activity c.state_of.result.now) c.requires.design (c.state_of.ensures of.good of.shown))
    (c.later.ensures of.good of.shown)

pub returns-then-process-counts-clause-state : goal.returns-then-process-counts-clause-state
returns-then-process-counts-clause-state g c = λ of.
    let count = process-count c.args.runner.now c.requires.whole in
    process-absent of.good (state_of c.args.runner.now) (process_number c.args.process) of.process_count (omega (arith, c.if-process-counts.true, c.requires.counts.processes, count))

pub returns-clause-state : goal.returns-clause-state
returns-clause-state g c = λ of.
    let design = (machine_of c.args.runner.now).design in
    let old = state_of c.args.runner.now in
    let process = process_number c.args.process in
    let count = process-count c.args.runner.now c.requires.whole in
    let code = some-code design of.codes process of.codes_are (omega (arith, c.if-process-counts.false, c.requires.counts.processes)) in
    let stands = subst (λ (d : FlatDesign). Stands d process (process_at of.good process).activity c.state_of.result.now) c.requires.design (c.state_of.ensures of.good of.shown) in
    let is : state_with code.0 c.state_of.result.now (map due_of c.later.result.now) (map update_of c.lane.result.now) ≡ process_at of.good process =
    λ i. record { activity = stands.does code.0 code.1 i; later = c.later.ensures of.good of.shown i; lane = c.lane.ensures of.good of.shown i } in
    let found = λ (p : ℕ). Some (process_at of.good p) in
    process-more (λ (p : ℕ). None) (processes_among (process ∷ []) of.good) old old (state_of c.put_process.new.self) process
    (λ (before : ProcessState). state_with code.0 c.state_of.result.now (map due_of c.later.result.now) (map update_of c.lane.result.now)) (process_at of.good process)
    (processes-none (λ (p : ℕ). None) old (λ p. refl)) (omega (arith, c.if-process-counts.false, c.requires.counts.processes, count)) (c.in_ok-put_process.ensures.state code.0 code.1) is
    (one-here found process) (λ other differ. one-other found process other differ)
