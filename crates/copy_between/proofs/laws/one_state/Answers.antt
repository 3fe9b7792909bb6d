use Rattle.copy_between.specs.OneState.{one-state, tell-all}
use Rattle.copy_between.proofs.laws.one_state.Goals as goal

pub returns-clause-all : goal.returns-clause-all
returns-clause-all c = tell-all

pub returns-clause-one : goal.returns-clause-one
returns-clause-one c = one-state
