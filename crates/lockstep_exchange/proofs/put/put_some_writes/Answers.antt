-- Process by process.
use Rattle.std.proofs.Common.{◌+◌, List, [], map, get_or, length, take, refl, sym, ap, subst, ◌∙◌, arith}
use Rattle.std.proofs.lemmas.List.{take_all}
use Rattle.vf_base.specs.Base.{process_number}
use Rattle.vf_base.specs.Lists.{has}
use Rattle.vf_base.specs.declared.ids.ProcId.{ProcId}
use Rattle.v_design.specs.Designs.{Machine}
use Rattle.v_design.specs.States.{State}
use Rattle.lockstep_copy.specs.Kept.{kept_by}
use Rattle.block_events.specs.Runners.{machine_of, state_of}
use Rattle.lockstep_exchange.specs.Putting.{KeptFits, WritesArePut, found_among}
use Rattle.lockstep_exchange.proofs.Fits.{fits-again}
use Rattle.lockstep_exchange.proofs.Kept.{writes-there}
use Rattle.lockstep_exchange.proofs.Puts.{has-more, writes-more, writes-none}
use Rattle.lockstep_exchange.proofs.put.put_some_writes.Goals as goal

abbrev none : ProcId
none = record { 0 = 0 }

pub processes-init : goal.processes-init
processes-init c = record {
  machine = refl;
  put = writes-none (found_among (has []) (kept_by c.args.own.now).writes) (state_of c.args.runner.now) (λ process. refl);
  whole = c.requires.whole;
}

pub put_writes-requires-clause-fits : goal.put_writes-requires-clause-fits
put_writes-requires-clause-fits c =
    let put = c.processes.invariant.put in
    subst (λ (m : Machine). KeptFits m.design (state_of c.processes.runner) c.args.own.now) (sym c.processes.invariant.machine)
    (fits-again (machine_of c.args.runner.now).design c.args.own.now (state_of c.args.runner.now) (state_of c.processes.runner) (ap (λ (s : State). length s.values) put.rest) put.count
    (ap (λ (s : State). s.time) put.rest) c.requires.fits)

pub processes-preserved : goal.processes-preserved
processes-preserved c =
    let inv = c.processes.invariant in
    let own = c.args.own.now in
    let old = state_of c.args.runner.now in
    let now = state_of c.processes.runner in
    let processes = c.args.processes.now in
    let process = process_number (get_or processes c.processes.place none) in
    record {
      machine = c.in_ok-put_writes.ensures.machine ∙ inv.machine;
      put =
          writes-more (has (map process_number (take c.processes.place processes))) (has (map process_number (take (c.processes.place + 1) processes))) (kept_by own).writes old now
          (state_of c.put_writes.new.runner) process inv.put
          (λ w some. let there = writes-there (machine_of c.args.runner.now).design own old process w c.requires.fits some in let count = inv.put.count in omega (arith, there, count))
          c.in_ok-put_writes.ensures.state (has-more process_number processes c.processes.place none c.processes-test.true);
      whole = c.in_ok-put_writes.ensures.whole;
    }

pub returns-clause-machine : goal.returns-clause-machine
returns-clause-machine c = c.processes.invariant.machine

pub returns-clause-state : goal.returns-clause-state
returns-clause-state c =
    subst (λ (l : List ProcId). WritesArePut (found_among (has (map process_number l)) (kept_by c.args.own.now).writes) (state_of c.args.runner.now) (state_of c.processes.runner))
    (take_all c.processes.place c.args.processes.now c.processes-test.false) c.processes.invariant.put

pub returns-clause-whole : goal.returns-clause-whole
returns-clause-whole c = c.processes.invariant.whole
