-- The laws are proved in `Gradings`.
use Rattle.beside_laws.proofs.Gradings.{gradings_end}
use Rattle.beside_laws.proofs.gradings_end.Goals as goal

pub returns : goal.returns
returns c = gradings_end c.first_run_goes_on.ensures
