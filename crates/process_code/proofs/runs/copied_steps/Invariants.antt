use Rattle.std.proofs.Common.{take}
use Rattle.std.specs.List.{AllZip}
use Rattle.process_code.specs.RunEnds.{IsSameStep}
use Rattle.process_code.proofs.runs.copied_steps.Given as goal

abbrev pub invariant-steps : goal.invariant-steps
invariant-steps l = AllZip IsSameStep (take l.step-index l.steps) l.copies.items
