-- The faulty machine's block.
use Rattle.std.proofs.Common.{◌≤◌, ◌^◌, drop, length, map, ap, sym, subst, ◌∙◌}
use Rattle.vf_base.specs.Base.{process_number}
use Rattle.v_design.specs.Designs.{Machine}
use Rattle.v_design.specs.Plain.{fault_of}
use Rattle.v_design.specs.States.{State}
use Rattle.v_design.specs.WellFormed.{KeepsRules}
use Rattle.race_laws.specs.Writes.{WritesAreOf}
use Rattle.block_compare.specs.block_events.Runners.{machine_of, state_of}
use Rattle.block_runner.specs.Beside.{AreFew}
use Rattle.faulty_block.proofs.Ran.{put-rests, put-time, put-writes, ran-block, ran-some, ran-within, tells-put}
use Rattle.faulty_block.proofs.run.run_faulty.Goals as goal

pub put_in-requires-clause-put : goal.put_in-requires-clause-put
put_in-requires-clause-put g c = c.requires.run.put

pub run_block-requires-clause-nodes : goal.run_block-requires-clause-nodes
run_block-requires-clause-nodes g c =
    put-rests c.lockstep_is_beside.ensures.beside c.writes_are_unseen.ensures c.args.runner.now c.put_in.new.runner c.args.own.now c.args.block.now c.requires.run
    (c.in_ok-put_in.ensures.state c.requires.run.put)

pub run_block-requires-clause-time : goal.run_block-requires-clause-time
run_block-requires-clause-time g c =
    put-time c.lockstep_is_beside.ensures.beside c.writes_are_unseen.ensures c.args.runner.now c.put_in.new.runner c.args.own.now c.args.block.now c.requires.run
    (c.in_ok-put_in.ensures.state c.requires.run.put)

pub run_block-requires-clause-rules : goal.run_block-requires-clause-rules
run_block-requires-clause-rules g c = subst (λ (m : Machine). KeepsRules m.design) (sym c.in_ok-put_in.ensures.machine) c.requires.run.rules

pub run_block-requires-clause-writes : goal.run_block-requires-clause-writes
run_block-requires-clause-writes g c =
    subst (λ (m : Machine). WritesAreOf m.design (state_of c.put_in.new.runner)) (sym c.in_ok-put_in.ensures.machine)
    (put-writes c.lockstep_is_beside.ensures.beside c.writes_are_unseen.ensures c.args.runner.now c.put_in.new.runner c.args.own.now c.args.block.now c.requires.run
    (c.in_ok-put_in.ensures.state c.requires.run.put))

pub run_block-requires-clause-goods : goal.run_block-requires-clause-goods
run_block-requires-clause-goods g c =
    let put = c.in_ok-put_in.ensures.state c.requires.run.put in
    let may = c.requires.goods in
    record {
      runs = may.runs;
      numbers = may.numbers;
      tells = tells-put c.args.runner.now c.put_in.new.runner (fault_of c.args.fault) may.runs may.numbers c.args.goods.now c.in_ok-put_in.ensures.machine
          (ap (λ (s : State). s.time) put.rest ∙ sym c.requires.run.put.makes.lockstep.time) may.tells;
    }

pub run_block-requires-clause-few : goal.run_block-requires-clause-few
run_block-requires-clause-few g c = subst (λ (m : Machine). AreFew m c.args.goods.now c.args.most) (sym c.in_ok-put_in.ensures.machine) c.requires.few

pub returns-clause-whole : goal.returns-clause-whole
returns-clause-whole g c = c.in_ok-end.ensures.own.goes.whole

pub returns-clause-machine : goal.returns-clause-machine
returns-clause-machine g c = c.in_ok-end.ensures.own.goes.machine_is ∙ c.in_ok-put_in.ensures.machine

pub returns-clause-few : goal.returns-clause-few
returns-clause-few g c = c.steps_within.ensures.few

pub returns-clause-ran : goal.returns-clause-ran
returns-clause-ran g c =
    let begins = c.put_in.new.runner in
    let own = c.in_ok-end.ensures.own in
    let goes = own.goes in
    let ended = map process_number c.run_block.new.beside.ended.items in
    let more = drop (length c.args.tried.now.items) c.run_block.new.tried.items in
    let phase = c.args.goods.now.phase in
    ran-some c.args.runner.now c.run_block.new.runner c.args.own.now c.args.block.now (fault_of c.args.fault) c.in_ok-end.end c.run_block.new.told c.steps_within.result c.args.goods.now phase ended more
    (λ of runs numbers tells taken ran steps.
    let put = c.in_ok-put_in.ensures.state of.put in
    let beside = tells-put c.args.runner.now begins (fault_of c.args.fault) runs numbers c.args.goods.now c.in_ok-put_in.ensures.machine
    (ap (λ (s : State). s.time) put.rest ∙ sym of.put.makes.lockstep.time) tells in
    ran-block c.lockstep_is_beside.ensures.beside c.writes_are_unseen.ensures c.args.runner.now begins c.args.own.now c.args.block.now of put c.own_runs.ensures.steps c.run_block.new.runner
    (fault_of c.args.fault) c.args.most c.in_ok-end.end c.run_block.new.told runs numbers phase more c.in_ok-put_in.ensures.machine goes c.in_ok-end.ensures.one
    (own.keeps runs numbers beside) taken ended ran steps (own.ended_are ran))
    c.steps_within.ensures.end c.steps_within.ensures.steps

pub returns-clause-ticks : goal.returns-clause-ticks
returns-clause-ticks g c = c.in_ok-end.ensures.tried

pub returns-clause-most : goal.returns-clause-most
returns-clause-most g c = λ of runs numbers tells.
    let begins = c.put_in.new.runner in
    let own = c.in_ok-end.ensures.own in
    let goes = own.goes in
    let put = c.in_ok-put_in.ensures.state of.put in
    let more = drop (length c.args.tried.now.items) c.run_block.new.tried.items in
    let phase = c.args.goods.now.phase in
    let beside = tells-put c.args.runner.now begins (fault_of c.args.fault) runs numbers c.args.goods.now c.in_ok-put_in.ensures.machine
    (ap (λ (s : State). s.time) put.rest ∙ sym of.put.makes.lockstep.time) tells in
    ran-within c.lockstep_is_beside.ensures.beside c.writes_are_unseen.ensures c.args.runner.now begins c.args.own.now c.args.block.now of put c.own_runs.ensures.steps c.run_block.new.runner
    (fault_of c.args.fault) c.args.most c.in_ok-end.end c.run_block.new.told runs numbers phase more c.in_ok-put_in.ensures.machine goes c.in_ok-end.ensures.one
    (own.keeps runs numbers beside) c.in_ok-end.ensures.few
