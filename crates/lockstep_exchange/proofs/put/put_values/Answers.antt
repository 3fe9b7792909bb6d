-- Those of a list, or as they are found.
use Rattle.std.proofs.Common.{map, sym, ap, subst}
use Rattle.copy_laws.specs.Differences.{own_of, Ascend}
use Rattle.copy_state.specs.Listed.{entry_of}
use Rattle.block_events.specs.Runners.{machine_of, state_of}
use Rattle.lockstep_exchange.specs.Putting.{ValuesFit}
use Rattle.lockstep_exchange.proofs.Puts.{values-same}
use Rattle.lockstep_exchange.proofs.put.put_values.Goals as goal

pub put_listed-requires-clause-fits : goal.put_listed-requires-clause-fits
put_listed-requires-clause-fits c = subst (ValuesFit (machine_of c.args.runner.now).design (state_of c.args.runner.now)) (sym c.in-Some.ensures) c.requires.fits.values

pub put_listed-requires-clause-ascend : goal.put_listed-requires-clause-ascend
put_listed-requires-clause-ascend c = subst Ascend (sym c.in-Some.ensures) c.ascending.ensures.values

pub returns-in-Some-clause-state : goal.returns-in-Some-clause-state
returns-in-Some-clause-state c =
    values-same (own_of (map entry_of c.in-Some.listed.now)) (own_of c.args.own.now.copy.values) (state_of c.args.runner.now) (state_of c.put_listed.new.runner)
    (λ object. ap (λ l. own_of l object) (sym c.in-Some.ensures)) c.put_listed.ensures.state
