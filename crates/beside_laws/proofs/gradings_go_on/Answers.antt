-- The laws are proved in `Gradings`.
use Rattle.beside_laws.proofs.Gradings.{gradings_go_on}
use Rattle.beside_laws.proofs.gradings_go_on.Goals as goal

pub returns : goal.returns
returns c = gradings_go_on
