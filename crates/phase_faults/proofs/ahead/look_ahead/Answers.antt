-- Only the stop of the fault changes.
use Rattle.std.proofs.Common.{refl}
use Rattle.phase_faults.proofs.ahead.look_ahead.Goals as goal

pub untouched_until-until-requires-clause-objects : goal.untouched_until-until-requires-clause-objects
untouched_until-until-requires-clause-objects g c κs within = (c.requires.kept c.if-not-goes.false).objects

pub untouched_until-until-requires-clause-processes : goal.untouched_until-until-requires-clause-processes
untouched_until-until-requires-clause-processes g c κs within = (c.requires.kept c.if-not-goes.false).processes

pub returns-then-not-goes : goal.returns-then-not-goes
returns-then-not-goes g c = record { same = refl; ahead = λ goes. let no : ⊥ = cc in absurd no }

pub returns : goal.returns
returns g c = record {
  same = refl;
  ahead = λ goes. record {
    stop = record { low = c.untouched_until-until.ensures.low; high = c.untouched_until-until.ensures.high; begins = c.untouched_until-until.ensures.begins };
    alone = c.untouched_until-until.ensures.alone;
  };
}
