use Rattle.process_code.specs.Codes.{rests_in_code}
use Rattle.process_code.specs.Points.{point_of}
use Rattle.process_code.specs.SamenessLaws.{activity-same}
use Rattle.process_code.proofs.Apart.{same-activity}
use Rattle.process_code.proofs.state.ProcState.same.Goals as goal

pub returns-clause-activity : goal.returns-clause-activity
returns-clause-activity c holds code = activity-same (rests_in_code code) (point_of c.args.self.now) (point_of c.args.other.now) (c.stands_alike.ensures.0 holds)

pub returns-clause-equal : goal.returns-clause-equal
returns-clause-equal c code differ is h k = (
  λ holds. activity-same (rests_in_code code) (point_of c.args.self.now) (point_of c.args.other.now) (c.stands_alike.ensures.0 holds),
  λ e. c.stands_alike.ensures.1 (same-activity code c.args.self.now c.args.other.now differ is h k e),
)
