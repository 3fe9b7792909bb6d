-- The laws are proved in `CodesAlike`.
use Rattle.process_code.proofs.CodesAlike.{codes_read_alike, codes_compare_alike, codes_step_alike}
use Rattle.process_code.proofs.one_code.codes_are_one.Goals as goal

pub returns-clause-read : goal.returns-clause-read
returns-clause-read c = codes_read_alike

pub returns-clause-compare : goal.returns-clause-compare
returns-clause-compare c = codes_compare_alike

pub returns-clause-step : goal.returns-clause-step
returns-clause-step c = codes_step_alike
