use Rattle.sized_walks.specs.TextLaws.{named-functions}
use Rattle.sized_walks.proofs.nodes_are_sized.Goals as goal

pub returns : goal.returns
returns c = named-functions
