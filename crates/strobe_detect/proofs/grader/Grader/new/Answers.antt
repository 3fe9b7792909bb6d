use Rattle.strobe_detect.specs.Graders.{shown-none}
use Rattle.strobe_detect.proofs.grader.Grader.new.Goals as goal

pub returns-clause-shown : goal.returns-clause-shown
returns-clause-shown c = λ good faulty. shown-none good faulty _
