use Rattle.fault_list.proofs.Decimals.{name-found, name-missing}
use Rattle.fault_list.proofs.compare.after_name.Goals as goal

pub returns-in-Some-clause-found : goal.returns-in-Some-clause-found
returns-in-Some-clause-found c behind = name-found c.args.name.now c.args.word.now c.in-Some.rest.now behind c.in-Some.ensures.cases.0 c.in-Some.ensures.cases.1

pub returns-in-None-clause-none : goal.returns-in-None-clause-none
returns-in-None-clause-none c behind = name-missing c.args.name.now c.args.word.now behind c.in-None.ensures.cases
