-- The processes are those with which the slot begins.
use Rattle.std.proofs.Common.{sym, ap}
use Rattle.machine.specs.Standing.{first_turn}
use Rattle.machine.proofs.Beginnings.{start-table, between-table, over-none}
use Rattle.machine.proofs.phases.turn_to_slot.Goals as goal

pub turn-requires-clause-quiet : goal.turn-requires-clause-quiet
turn-requires-clause-quiet c = c.requires.quiet c.in-Between.is

pub returns-in-Start-clause-turn : goal.returns-in-Start-clause-turn
returns-in-Start-clause-turn c = sym (ap first_turn c.in-Start.is)

pub returns-in-Start-clause-begins : goal.returns-in-Start-clause-begins
returns-in-Start-clause-begins c = λ machine state begins of next. start-table c.args.stage machine state begins _ c.in-Start.is of next

pub returns-in_ok-turn-in-Between-clause-turn : goal.returns-in_ok-turn-in-Between-clause-turn
returns-in_ok-turn-in-Between-clause-turn c = sym (ap first_turn c.in-Between.is)

pub returns-in_ok-turn-in-Between-clause-begins : goal.returns-in_ok-turn-in-Between-clause-begins
returns-in_ok-turn-in-Between-clause-begins c = λ machine state begins of next. between-table c.args.stage machine state begins _ c.in-Between.is
    (c.in_ok-turn-in-Between.ensures.turned machine state of) next

pub returns-in-Over-clause-turn : goal.returns-in-Over-clause-turn
returns-in-Over-clause-turn c = sym (ap first_turn c.in-Over.is)

pub returns-in-Over-clause-begins : goal.returns-in-Over-clause-begins
returns-in-Over-clause-begins c = λ machine state begins of next. absurd (over-none c.args.stage state begins c.in-Over.is next)
