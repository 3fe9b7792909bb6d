-- What is shown is compared.
use Rattle.faulty_block.specs.block_events.Runners.{machine_of, state_of}
use Rattle.lockstep_block.proofs.Showing.{compares-beside, may-compare-shown}
use Rattle.lockstep_block.proofs.beside.compare_beside.Goals as goal

pub compare_block-requires-clause-compare : goal.compare_block-requires-clause-compare
compare_block-requires-clause-compare g c =
    let shown = c.show_block-block.ensures in
    may-compare-shown c.args.behind.now c.show_block-block.result shown.changed shown.acted shown.lane g.N.World.design (machine_of c.args.runner.now) c.args.counts c.show-good.result
    c.codes-codes.result.now c.show-good.ensures.design c.show-good.ensures.shows c.codes-codes.ensures.world c.requires.counts c.requires.compare

pub returns-clause-compares : goal.returns-clause-compares
returns-clause-compares g c = λ yes state is.
    let shown = c.show_block-block.ensures in
    compares-beside c.args.behind.now c.show_block-block.result shown.changed shown.acted shown.lane c.args.told.now state (state_of c.args.runner.now) c.args.own.now c.compare_block.new.own
    (c.in_ok-goes.ensures.compares yes state (c.show-good.ensures.shows state is))

pub returns-clause-fault : goal.returns-clause-fault
returns-clause-fault g c = c.in_ok-goes.ensures.fault

pub returns-clause-states : goal.returns-clause-states
returns-clause-states g c = c.in_ok-goes.ensures.states
