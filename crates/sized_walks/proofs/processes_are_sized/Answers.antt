use Rattle.sized_walks.specs.TextLaws.{named-processes}
use Rattle.sized_walks.proofs.processes_are_sized.Goals as goal

pub returns : goal.returns
returns c = named-processes
