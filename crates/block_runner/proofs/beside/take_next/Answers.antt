-- A known step is followed; else the process takes its step itself.
use Rattle.block_runner.proofs.beside.take_next.Goals as goal

pub follow_step-requires-clause-stands : goal.follow_step-requires-clause-stands
follow_step-requires-clause-stands g c =
    let may = c.requires.may in
    (c.in-Some.ensures may.runs may.numbers may.run may.tells may.is).stands

pub follow_step-requires-clause-known : goal.follow_step-requires-clause-known
follow_step-requires-clause-known g c =
    let may = c.requires.may in
    (c.in-Some.ensures may.runs may.numbers may.run may.tells may.is).known

pub returns-in_ok-line-in-Some-clause-took : goal.returns-in_ok-line-in-Some-clause-took
returns-in_ok-line-in-Some-clause-took g c = λ runs numbers run tells is. (c.in-Some.ensures runs numbers run tells is).follows

pub returns-in_ok-line-in-None-clause-took : goal.returns-in_ok-line-in-None-clause-took
returns-in_ok-line-in-None-clause-took g c = λ runs numbers run tells is. c.in-None.ensures runs numbers run tells is
