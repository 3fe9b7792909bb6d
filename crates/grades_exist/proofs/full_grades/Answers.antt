-- The laws are proved in `FullGrades`.
use Rattle.grades_exist.proofs.FullGrades.{full_grades_exist, full_grades_missing, full_grade_lists_exist}
use Rattle.grades_exist.proofs.full_grades.Goals as goal

pub returns-clause-each : goal.returns-clause-each
returns-clause-each c = full_grades_exist

pub returns-clause-missing : goal.returns-clause-missing
returns-clause-missing c = full_grades_missing

pub returns-clause-lists : goal.returns-clause-lists
returns-clause-lists c = full_grade_lists_exist
