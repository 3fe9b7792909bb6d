-- The step is followed and told.
use Rattle.std.proofs.Common.{subst}
use Rattle.vf_base.specs.Base.{process_number}
use Rattle.v_design.specs.Designs.{FlatDesign, Machine}
use Rattle.v_design.specs.States.{ProcessState, State, idle_process, is_ready}
use Rattle.process_code.specs.StatesOf.{IsStateOf}
use Rattle.process_code.specs.declared.code.Code.{Code}
use Rattle.process_table.specs.Arranged.{table_of}
use Rattle.process_table.specs.Known.{IsKnownStep}
use Rattle.run_ends.specs.RunEnds.{IsCodeAt}
use Rattle.machine_laws.proofs.Places.{placed}
use Rattle.block_events.specs.Runners.{state_of}
use Rattle.block_events.proofs.Nodes.{state-is}
use Rattle.block_events.proofs.Taken.{step-there, step-goes}
use Rattle.block_events.proofs.runner.Runner.follow_step.Goals as goal

pub follow_alone-requires-clause-ready : goal.follow_alone-requires-clause-ready
follow_alone-requires-clause-ready c =
    placed (λ (p : ProcessState). is_ready p.activity) idle_process (table_of c.args.self.now.table).processes (process_number c.args.process) c.requires.ready

pub follow_alone-requires-clause-there : goal.follow_alone-requires-clause-there
follow_alone-requires-clause-there c = step-there c.writes_stay.ensures.next c.args.self.now (process_number c.args.process) c.requires.rules c.requires.writes

pub follow_alone-requires-clause-stands : goal.follow_alone-requires-clause-stands
follow_alone-requires-clause-stands c =
    λ code at. c.requires.stands code (subst (λ (d : FlatDesign). IsCodeAt d (process_number c.args.process) code) c.requires.whole.design at)

pub follow_alone-requires-clause-known : goal.follow_alone-requires-clause-known
follow_alone-requires-clause-known c = λ machine state both.
    let p = process_number c.args.process in
    subst (λ (s : State). IsKnownStep machine s p c.args.line c.args.act c.args.next.now) (state-is machine state c.args.self.now both)
    (subst (λ (m : Machine). IsKnownStep m (state_of c.args.self.now) p c.args.line c.args.act c.args.next.now) both.machine_is c.requires.known)

pub returns : goal.returns
returns c =
    step-goes c.phases_go_on.ensures.notes c.moves.ensures.events c.args.self.now _ c.args.process _ c.follow_alone.new.told c.args.told.now c.count_step.new.self
    c.add_step.new.self c.in_ok-first.first c.is_ready-ready.result c.requires.whole c.requires.nodes c.requires.lanes c.requires.ready c.in_ok-followed.ensures c.is_ready-ready.ensures
    c.in_ok-first.ensures.begins c.in_ok-first.ensures.running c.in_ok-count_step.ensures c.in_ok-add_step.ensures
