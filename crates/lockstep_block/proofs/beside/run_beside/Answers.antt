-- What is shown is run beside.
use Rattle.std.proofs.Common.{drop, length, map}
use Rattle.vf_base.specs.Base.{process_number}
use Rattle.v_design.specs.Designs.{faulty_machine}
use Rattle.v_design.specs.Plain.{fault_of}
use Rattle.faulty_block.specs.block_events.Runners.{machine_of}
use Rattle.lockstep_block.proofs.Showing.{may-run-shown, ran-shown}
use Rattle.lockstep_block.proofs.beside.run_beside.Goals as goal

pub run_faulty-requires-clause-run : goal.run_faulty-requires-clause-run
run_faulty-requires-clause-run g c =
    let shown = c.show_block-block.ensures in
    may-run-shown c.args.behind.now c.show_block-block.result shown.changed shown.acted shown.lane c.args.own.now c.args.runner.now c.requires.run

pub run_faulty-requires-clause-goods : goal.run_faulty-requires-clause-goods
run_faulty-requires-clause-goods g c = c.requires.goods

pub run_faulty-requires-clause-few : goal.run_faulty-requires-clause-few
run_faulty-requires-clause-few g c = c.requires.few

pub returns-clause-whole : goal.returns-clause-whole
returns-clause-whole g c = c.in_ok-ran.ensures.whole

pub returns-clause-machine : goal.returns-clause-machine
returns-clause-machine g c = c.in_ok-ran.ensures.machine

pub returns-clause-few : goal.returns-clause-few
returns-clause-few g c = c.in_ok-ran.ensures.few

pub returns-clause-ran : goal.returns-clause-ran
returns-clause-ran g c =
    let shown = c.show_block-block.ensures in
    ran-shown c.args.behind.now c.show_block-block.result shown.changed shown.acted shown.lane (faulty_machine (machine_of c.args.runner.now).design (fault_of c.args.fault)) c.args.own.now
    c.args.runner.now c.run_faulty.new.runner c.args.goods.now c.args.goods.now.phase c.run_faulty.new.told (map process_number c.run_faulty.new.beside.ended.items)
    (drop (length c.args.tried.now.items) c.run_faulty.new.tried.items) c.in_ok-ran.ran c.in_ok-ran.ensures.ran

pub returns-clause-ticks : goal.returns-clause-ticks
returns-clause-ticks g c = c.in_ok-ran.ensures.ticks

pub returns-clause-most : goal.returns-clause-most
unfolding may-run-shown
returns-clause-most g c = λ of runs numbers tells.
    let shown = c.show_block-block.ensures in
    c.in_ok-ran.ensures.most (may-run-shown c.args.behind.now c.show_block-block.result shown.changed shown.acted shown.lane c.args.own.now c.args.runner.now of) runs numbers tells
