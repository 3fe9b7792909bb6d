-- The runner stands at the point that is shown.
use Rattle.std.proofs.Common.{arith}
use Rattle.vf_base.specs.Base.{process_number}
use Rattle.runner_writes.proofs.block_events.Nodes.{process-count}
use Rattle.runner_writes.specs.block_events.Runners.{machine_of, state_of}
use Rattle.block_compare.proofs.Same.{same-there, states-there}
use Rattle.block_compare.proofs.alike.does_same.Goals as goal

pub process_state-requires : goal.process_state-requires
process_state-requires c =
    let beside = c.requires.beside in
    let count = beside.process_count in
    states-there c.args.good.now beside.state beside.shown (process_number c.args.process) (omega (arith, c.requires.there, count))

pub stands_at-requires-clause-number : goal.stands_at-requires-clause-number
stands_at-requires-clause-number c = let count = process-count c.args.runner.now c.requires.whole in omega (arith, c.requires.there, count)

pub returns : goal.returns
returns c = λ yes state shown.
    same-there (machine_of c.args.runner.now).design c.args.good.now c.process_state.result.now state (state_of c.args.runner.now) (process_number c.args.process) c.requires.beside shown
    c.requires.there c.process_state.ensures (λ code at. c.stands_at.ensures.activity yes code at)
