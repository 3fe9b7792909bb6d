-- No process, or the one.
use Rattle.std.proofs.Common.{[], ◌∷◌, refl, sym, subst}
use Rattle.std.specs.Prelude.{Option}
use Rattle.vf_base.specs.Base.{process_number}
use Rattle.vf_base.specs.Lists.{has}
use Rattle.vf_base.specs.declared.ids.ProcId.{ProcId}
use Rattle.lockstep_copy.specs.Kept.{kept_by}
use Rattle.block_events.specs.Runners.{machine_of, state_of}
use Rattle.lockstep_exchange.specs.Putting.{WritesArePut, found_among, lane_numbers}
use Rattle.lockstep_exchange.proofs.Kept.{writes-there}
use Rattle.lockstep_exchange.proofs.Puts.{has-one, writes-more, writes-none}
use Rattle.lockstep_exchange.proofs.put.put_lane_writes.Goals as goal

pub returns-in_default-clause-machine : goal.returns-in_default-clause-machine
returns-in_default-clause-machine c = refl

pub returns-in_default-clause-state : goal.returns-in_default-clause-state
returns-in_default-clause-state c =
    subst (λ (lane : Option ProcId). WritesArePut (found_among (has (lane_numbers lane)) (kept_by c.args.own.now).writes) (state_of c.args.runner.now) (state_of c.args.runner.now)) (sym c.in_default.is)
    (writes-none (found_among (has []) (kept_by c.args.own.now).writes) (state_of c.args.runner.now) (λ process. refl))

pub returns-in_default-clause-whole : goal.returns-in_default-clause-whole
returns-in_default-clause-whole c = c.requires.whole

pub returns-clause-machine : goal.returns-clause-machine
returns-clause-machine c = c.in_ok-put_writes.ensures.machine

pub returns-clause-state : goal.returns-clause-state
returns-clause-state c =
    let own = c.args.own.now in
    let old = state_of c.args.runner.now in
    let process = process_number c.in-Some.process in
    subst (λ (lane : Option ProcId). WritesArePut (found_among (has (lane_numbers lane)) (kept_by own).writes) old (state_of c.put_writes.new.runner)) (sym c.in-Some.is)
    (writes-more (has []) (has (process ∷ [])) (kept_by own).writes old old (state_of c.put_writes.new.runner) process
    (writes-none (found_among (has []) (kept_by own).writes) old (λ other. refl))
    (λ w some. writes-there (machine_of c.args.runner.now).design own old process w c.requires.fits some) c.in_ok-put_writes.ensures.state (has-one process))

pub returns-clause-whole : goal.returns-clause-whole
returns-clause-whole c = c.in_ok-put_writes.ensures.whole
