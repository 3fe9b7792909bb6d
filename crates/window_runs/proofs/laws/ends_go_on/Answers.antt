-- The laws are proved in `Joining`, `Standing` and `Through`.
use Rattle.window_runs.proofs.Joining.{ends_join, ends_ascend}
use Rattle.window_runs.proofs.Standing.{ends_stand, ends_lead}
use Rattle.window_runs.proofs.Through.{ends_part, ends_append, ends_between}
use Rattle.window_runs.proofs.laws.ends_go_on.Goals as goal

pub returns-clause-join : goal.returns-clause-join
returns-clause-join c = ends_join

pub returns-clause-ascend : goal.returns-clause-ascend
returns-clause-ascend c = ends_ascend

pub returns-clause-stand : goal.returns-clause-stand
returns-clause-stand c = ends_stand

pub returns-clause-lead : goal.returns-clause-lead
returns-clause-lead c = ends_lead

pub returns-clause-part : goal.returns-clause-part
returns-clause-part c = ends_part

pub returns-clause-append : goal.returns-clause-append
returns-clause-append c = ends_append

pub returns-clause-between : goal.returns-clause-between
returns-clause-between c = ends_between
