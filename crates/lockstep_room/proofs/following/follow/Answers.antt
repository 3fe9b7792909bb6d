-- The state is the one that is shown.
use Rattle.std.proofs.Common.{map}
use Rattle.vf_base.specs.Base.{object_number, process_number}
use Rattle.lockstep_exchange.specs.block_events.Runners.{machine_of, state_of}
use Rattle.lockstep_room.proofs.Followed.{followed}
use Rattle.lockstep_room.proofs.following.follow.Goals as goal

pub bring-requires-clause-stands : goal.bring-requires-clause-stands
bring-requires-clause-stands g c = c.requires.follows.stands

pub returns-clause-state : goal.returns-clause-state
returns-clause-state g c = λ of.
    followed c.differences_are_one.ensures (machine_of c.args.runner.now).design (g.S.ShownState.shows c.args.good.now) (map object_number c.args.objects.now)
    (map process_number c.args.processes.now) c.args.lane (state_of c.args.runner.now) (state_of c.bring.new.runner) of (c.in_ok-bring.ensures.state of.stands)
