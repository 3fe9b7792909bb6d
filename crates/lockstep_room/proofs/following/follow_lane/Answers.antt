-- No process is put, or the one.
use Rattle.std.proofs.Common.{sym, ap, subst}
use Rattle.std.specs.Prelude.{Option}
use Rattle.vf_base.specs.declared.ids.ProcId.{ProcId}
use Rattle.lockstep_exchange.specs.block_events.Runners.{state_of}
use Rattle.lockstep_exchange.specs.Putting.{ProcessesArePut}
use Rattle.lockstep_exchange.proofs.Puts.{processes-none}
use Rattle.lockstep_room.specs.Rooms.{processes_among}
use Rattle.lockstep_exchange.specs.Putting.{lane_numbers}
use Rattle.lockstep_room.proofs.following.follow_lane.Goals as goal

pub returns-in_default-clause-state : goal.returns-in_default-clause-state
returns-in_default-clause-state g c = λ of.
    let state = state_of c.args.runner.now in
    processes-none (processes_among (lane_numbers c.args.lane) of.good) state
    (λ process. ap (λ (lane : Option ProcId). processes_among (lane_numbers lane) of.good process) c.in_default.is)

pub returns-clause-machine : goal.returns-clause-machine
returns-clause-machine g c = c.in_ok-follow_process.ensures.machine

pub returns-clause-state : goal.returns-clause-state
returns-clause-state g c = λ of.
    subst (λ (lane : Option ProcId). ProcessesArePut (processes_among (lane_numbers lane) of.good) (state_of c.args.runner.now) (state_of c.follow_process.new.runner)) (sym c.in-Some.is)
    (c.in_ok-follow_process.ensures.state of)

pub returns-clause-whole : goal.returns-clause-whole
returns-clause-whole g c = c.in_ok-follow_process.ensures.whole
