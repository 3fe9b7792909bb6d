-- The least ready process takes a step, else a turn is made.
use Rattle.vf_base.specs.Base.{process_number}
use Rattle.machine.proofs.Counted.{by-in, moving-in}
use Rattle.machine.proofs.Made.{process-made}
use Rattle.machine.proofs.parts.Machine.ready_move.Goals as goal

pub process_step-requires-clause-moving : goal.process_step-requires-clause-moving
process_step-requires-clause-moving g c = by-in c.args.guide.now c.args.steps.now c.args.self.now c.args.log.now c.requires.moving

pub turn_move-requires-clause-moving : goal.turn_move-requires-clause-moving
turn_move-requires-clause-moving g c = moving-in c.args.guide.now c.args.steps.now c.args.self.now c.args.log.now c.requires.moving

pub returns-in_ok-process_step-in-Some : goal.returns-in_ok-process_step-in-Some
returns-in_ok-process_step-in-Some g c =
    process-made (process_number c.in-Some.process) c.args.guide.now _ c.args.steps.now _ c.args.self.now _ c.args.log.now c.in_ok-process_step-in-Some.ensures.goes_on
    c.in_ok-process_step-in-Some.ensures.counts c.in_ok-process_step-in-Some.ensures.stays

pub returns-in_ok-made-in-None : goal.returns-in_ok-made-in-None
returns-in_ok-made-in-None g c = c.in_ok-made-in-None.ensures c.args.guide.now c.args.steps.now
