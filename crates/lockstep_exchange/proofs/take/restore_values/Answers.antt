-- Those of a list, or as they are found.
use Rattle.std.proofs.Common.{List, sym, subst}
use Rattle.std.specs.Prelude.{ℕ}
use Rattle.four_value.specs.Values.{LogicValue}
use Rattle.copy_laws.specs.Differences.{Ascend}
use Rattle.block_events.specs.Runners.{machine_of, state_of}
use Rattle.lockstep_exchange.specs.Putting.{ShownFits, ValuesArePut, values_restored}
use Rattle.lockstep_exchange.proofs.take.restore_values.Goals as goal

pub restore_listed-requires-clause-fits : goal.restore_listed-requires-clause-fits
restore_listed-requires-clause-fits g c =
    subst (ShownFits (machine_of c.args.runner.now).design (g.S.ShownState.shows c.args.good.now) (state_of c.args.runner.now)) (sym c.in-Some.ensures) c.requires.fits

pub restore_listed-requires-clause-ascend : goal.restore_listed-requires-clause-ascend
restore_listed-requires-clause-ascend g c = subst Ascend (sym c.in-Some.ensures) c.ascending.ensures.values

pub returns-in-Some-clause-state : goal.returns-in-Some-clause-state
returns-in-Some-clause-state g c =
    let design = (machine_of c.args.runner.now).design in
    let shows = g.S.ShownState.shows c.args.good.now in
    let old = state_of c.args.runner.now in
    let new = state_of c.restore_listed.new.runner in
    subst (λ (l : List (ℕ × LogicValue)). (of : ShownFits design shows old l) → ValuesArePut (values_restored l of.good) old new) c.in-Some.ensures c.restore_listed.ensures.state
