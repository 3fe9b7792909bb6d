-- The state is the good one with what is kept, but for the updates of processes that don't act.
use Rattle.std.proofs.Common.{length, map, sym, ap, subst, ◌∙◌}
use Rattle.std.specs.Prelude.{Some}
use Rattle.vf_base.specs.Base.{process_number}
use Rattle.v_design.specs.Designs.{Machine}
use Rattle.v_design.specs.Plain.{fault_of}
use Rattle.v_design.specs.States.{State}
use Rattle.block_events.specs.Runners.{machine_of, state_of}
use Rattle.lockstep_exchange.specs.Exchange.{ArePutFor, acts_among}
use Rattle.lockstep_exchange.specs.Putting.{KeptFits}
use Rattle.lockstep_exchange.proofs.Fits.{kept-fits, fits-again}
use Rattle.lockstep_exchange.proofs.Whole.{put-in}
use Rattle.lockstep_exchange.proofs.put.put_in.Goals as goal

pub put_values-requires-clause-fits : goal.put_values-requires-clause-fits
put_values-requires-clause-fits c =
    kept-fits (machine_of c.args.runner.now).design c.args.own.now (state_of c.args.runner.now) c.requires.put (λ process. (c.processes_may_stand.ensures process).after.1)

pub put_some_writes-requires-clause-fits : goal.put_some_writes-requires-clause-fits
put_some_writes-requires-clause-fits c =
    let old = state_of c.args.runner.now in
    let put = c.put_values.ensures.state in
    subst (λ (m : Machine). KeptFits m.design (state_of c.put_values.new.runner) c.args.own.now) (sym c.put_values.ensures.machine)
    (fits-again (machine_of c.args.runner.now).design c.args.own.now old (state_of c.put_values.new.runner) put.count (ap (λ (s : State). length s.processes) put.rest)
    (ap (λ (s : State). s.time) put.rest)
    (kept-fits (machine_of c.args.runner.now).design c.args.own.now old c.requires.put (λ process. (c.processes_may_stand.ensures process).after.1)))

pub put_lane_writes-requires-clause-fits : goal.put_lane_writes-requires-clause-fits
put_lane_writes-requires-clause-fits c =
    let old = state_of c.args.runner.now in
    let put = c.put_values.ensures.state in
    let some = c.in_ok-put_some_writes.ensures.state in
    subst (λ (m : Machine). KeptFits m.design (state_of c.put_some_writes.new.runner) c.args.own.now) (sym (c.in_ok-put_some_writes.ensures.machine ∙ c.put_values.ensures.machine))
    (fits-again (machine_of c.args.runner.now).design c.args.own.now old (state_of c.put_some_writes.new.runner) (ap (λ (s : State). length s.values) some.rest ∙ put.count)
    (some.count ∙ ap (λ (s : State). length s.processes) put.rest) (ap (λ (s : State). s.time) some.rest ∙ ap (λ (s : State). s.time) put.rest)
    (kept-fits (machine_of c.args.runner.now).design c.args.own.now old c.requires.put (λ process. (c.processes_may_stand.ensures process).after.1)))

pub returns-clause-machine : goal.returns-clause-machine
returns-clause-machine c =
    c.set_fault.ensures.machine
    ∙ ap (λ (m : Machine). record m { fault = Some (fault_of c.args.fault) }) (c.in_ok-put_lane_writes.ensures.machine ∙ c.in_ok-put_some_writes.ensures.machine ∙ c.put_values.ensures.machine)

pub returns-clause-state : goal.returns-clause-state
returns-clause-state c = λ of.
    subst (ArePutFor (acts_among (map process_number c.args.acted.now) c.args.lane) (state_of c.args.runner.now) of.faulty) (sym c.set_fault.ensures.state)
    (put-in c.differences_are_one.ensures (machine_of c.args.runner.now).design c.args.own.now (map process_number c.args.acted.now) c.args.lane (state_of c.args.runner.now)
    (state_of c.put_values.new.runner) (state_of c.put_some_writes.new.runner) (state_of c.put_lane_writes.new.runner) of c.put_values.ensures.state c.in_ok-put_some_writes.ensures.state
    c.in_ok-put_lane_writes.ensures.state)
