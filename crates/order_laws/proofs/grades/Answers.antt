-- The law is proved in `FirstOrder.GradesHold`.
use Rattle.order_laws.proofs.FirstOrder.GradesHold.{grades_hold}
use Rattle.order_laws.proofs.grades.Goals as goal

pub returns : goal.returns
returns c = grades_hold
