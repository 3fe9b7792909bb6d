-- All is alike.
use Rattle.runner_writes.specs.block_events.Runners.{machine_of, state_of}
use Rattle.block_compare.proofs.Same.{go-so}
use Rattle.block_compare.proofs.alike.go_alike.Goals as goal

pub do_same-requires-clause-beside : goal.do_same-requires-clause-beside
do_same-requires-clause-beside c = c.requires.compare.beside

pub do_same-requires-clause-there : goal.do_same-requires-clause-there
do_same-requires-clause-there c = c.requires.compare.acted

pub lane_does_same-requires-clause-beside : goal.lane_does_same-requires-clause-beside
lane_does_same-requires-clause-beside c = c.requires.compare.beside

pub lane_does_same-requires-clause-there : goal.lane_does_same-requires-clause-there
lane_does_same-requires-clause-there c = c.requires.compare.lane

pub returns : goal.returns
returns c = λ yes state shown.
    go-so (machine_of c.args.runner.now).design c.args.counts.objects state (state_of c.args.runner.now) c.args.block.now c.args.told.now c.as_slice.result.now
    c.requires.compare.counts_are.objects c.as_slice.ensures.value (c.acts_alike.ensures c.if-not-acts_alike.false) (c.do_same.ensures c.if-not-do_same.false state shown)
    (c.lane_does_same.ensures yes state shown) (c.are_objects.ensures c.if-not-are_objects.false) (c.are_objects-2.ensures c.if-not-are_objects-2.false)
