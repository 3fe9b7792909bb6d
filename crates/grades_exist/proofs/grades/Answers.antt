-- The laws are proved in `LineGrades`.
use Rattle.grades_exist.proofs.LineGrades.{grades_exist, grades_missing, grade_lists_exist}
use Rattle.grades_exist.proofs.grades.Goals as goal

pub returns-clause-each : goal.returns-clause-each
returns-clause-each c = grades_exist

pub returns-clause-missing : goal.returns-clause-missing
returns-clause-missing c = grades_missing

pub returns-clause-lists : goal.returns-clause-lists
returns-clause-lists c = grade_lists_exist
