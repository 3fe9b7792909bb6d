-- The moment alone changes.
use Rattle.std.proofs.Common.{ap}
use Rattle.passed_blocks.specs.Passed.{at_moment}
use Rattle.good_moment.proofs.moment.GoodMoment.set_moment.Goals as goal

pub returns : goal.returns
returns g c = ap (at_moment c.args.moment) c.self.view_is
