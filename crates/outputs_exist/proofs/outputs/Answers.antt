-- The laws are proved in `Texts` and `FirstFaults`.
use Rattle.outputs_exist.proofs.Texts.{reports-exist, dictionary-outputs-exist, certificates-exist}
use Rattle.outputs_exist.proofs.FirstFaults.{faults-texts-exist}
use Rattle.outputs_exist.proofs.outputs.Goals as goal

pub returns-clause-reports : goal.returns-clause-reports
returns-clause-reports c = reports-exist c.grades.ensures.lists

pub returns-clause-over_dictionary : goal.returns-clause-over_dictionary
returns-clause-over_dictionary c = dictionary-outputs-exist c.full_grades.ensures.lists

pub returns-clause-certificates : goal.returns-clause-certificates
returns-clause-certificates c = certificates-exist c.grades.ensures.each

pub returns-clause-faults : goal.returns-clause-faults
returns-clause-faults c = faults-texts-exist
