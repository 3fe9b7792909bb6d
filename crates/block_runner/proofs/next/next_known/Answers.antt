-- What the good machine's run of the number tells, where there is one that the process may follow.
use Rattle.std.proofs.Common.{◌≡◌, ◌∙◌, ◌<◌, ℕ, length, sym, subst}
use Rattle.vf_base.specs.Base.{process_number}
use Rattle.block_events.proofs.Nodes.{process-count}
use Rattle.block_events.specs.Runners.{machine_of, state_of}
use Rattle.block_runner.proofs.KnownNext.{own-next, none-next, one-found, found-beside, found-next}
use Rattle.block_runner.proofs.next.next_known.Goals as goal

pub returns-in_default : goal.returns-in_default
returns-in_default c = λ runs numbers run tells is.
    let runner = c.args.runner.now in
    own-next c.known_steps_go_on.ensures (machine_of runner) (state_of runner) (process_number c.args.process) _ c.args.going.now run c.in_default.ensures is

pub run-requires : goal.run-requires
run-requires c =
    let may = c.requires.may in
    let runner = c.args.runner.now in
    record {
      design = (machine_of runner).design;
      time = (state_of runner).time;
      runs = may.runs;
      tells = may.tells.tells;
      there = subst (λ n. process_number c.args.process < n) (process-count runner c.requires.whole) c.requires.process;
    }

pub returns-in_default-run : goal.returns-in_default-run
returns-in_default-run c = λ runs numbers run tells is.
    let runner = c.args.runner.now in
    let design = (machine_of runner).design in
    none-next c.known_steps_go_on.ensures (machine_of runner) (state_of runner) (process_number c.args.process) c.args.number c.args.goods.now runs numbers tells
    (subst (λ n. process_number c.args.process < n) (process-count runner c.requires.whole) c.requires.process) c.has_code.ensures.0 c.has_code.ensures.1 run
    (c.in_default-run.ensures design (state_of runner).time runs tells.tells)

pub known_in-requires-clause-may : goal.known_in-requires-clause-may
known_in-requires-clause-may c =
    let may = c.requires.may in
    let runner = c.args.runner.now in
    let there = subst (λ n. process_number c.args.process < n) (process-count runner c.requires.whole) c.requires.process in
    let told = c.in-Some-run.ensures (machine_of runner).design (state_of runner).time may.runs may.tells.tells in
    record {
      good = (one-found c.known_steps_go_on.ensures (machine_of runner) (state_of runner) (process_number c.args.process) c.args.number c.args.goods.now may.runs may.numbers may.tells there
          c.has_code.ensures.0 c.has_code.ensures.1 c.in-Some-run.found.now told).0;
      run = may.run;
      is = found-beside c.known_steps_go_on.ensures (machine_of runner) (state_of runner) (process_number c.args.process) c.args.number c.args.goods.now may.runs may.numbers may.tells there
          c.has_code.ensures.0 c.has_code.ensures.1 c.in-Some-run.found.now told c.in-Some.place c.args.going.now may.run c.in-Some.ensures may.is;
    }

pub returns : goal.returns
returns c = λ runs numbers run tells is.
    let runner = c.args.runner.now in
    let there = subst (λ n. process_number c.args.process < n) (process-count runner c.requires.whole) c.requires.process in
    let told = c.in-Some-run.ensures (machine_of runner).design (state_of runner).time runs tells.tells in
    found-next c.known_steps_go_on.ensures (machine_of runner) (state_of runner) (process_number c.args.process) c.args.number c.args.goods.now runs numbers tells there
    c.has_code.ensures.0 c.has_code.ensures.1 c.in-Some-run.found.now told run c.known_in.result
    (c.known_in.ensures
    (one-found c.known_steps_go_on.ensures (machine_of runner) (state_of runner) (process_number c.args.process) c.args.number c.args.goods.now runs numbers tells there
    c.has_code.ensures.0 c.has_code.ensures.1 c.in-Some-run.found.now told).0 run
    (found-beside c.known_steps_go_on.ensures (machine_of runner) (state_of runner) (process_number c.args.process) c.args.number c.args.goods.now runs numbers tells there
    c.has_code.ensures.0 c.has_code.ensures.1 c.in-Some-run.found.now told c.in-Some.place c.args.going.now run c.in-Some.ensures is))
