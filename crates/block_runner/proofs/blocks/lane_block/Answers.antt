-- A step of the lane, and the work on nodes behind it.
use Rattle.vf_base.specs.Base.{process_number}
use Rattle.block_runner.proofs.Runs.{lane-one, lane-ran-so, lane-given_up-so}
use Rattle.block_runner.proofs.blocks.lane_block.Goals as goal

pub returns-then-branch-clause-goes : goal.returns-then-branch-clause-goes
returns-then-branch-clause-goes c = λ most.
    lane-ran-so c.args.runner.now c.take_lane.new.self c.settle.new.self (process_number c.args.process) c.take_lane.new.told c.settle.new.told c.in_ok-line.ensures c.in_ok-settle.field-0
    c.in_ok-settle.ensures most c.if-branch.true

pub returns-clause-goes : goal.returns-clause-goes
returns-clause-goes c = λ most.
    lane-given_up-so c.args.runner.now c.take_lane.new.self c.settle.new.self (process_number c.args.process) c.take_lane.new.told c.settle.new.told c.in_ok-line.ensures c.in_ok-settle.field-0
    c.in_ok-settle.ensures most c.if-branch.false

pub returns-then-branch-clause-one : goal.returns-then-branch-clause-one
returns-then-branch-clause-one c =
    lane-one c.args.runner.now c.take_lane.new.self c.settle.new.self (process_number c.args.process) c.take_lane.new.told c.settle.new.told c.in_ok-line.ensures c.in_ok-settle.field-0
    c.in_ok-settle.ensures

pub returns-clause-one : goal.returns-clause-one
returns-clause-one c =
    lane-one c.args.runner.now c.take_lane.new.self c.settle.new.self (process_number c.args.process) c.take_lane.new.told c.settle.new.told c.in_ok-line.ensures c.in_ok-settle.field-0
    c.in_ok-settle.ensures
