use Rattle.elab_examples.specs.Examples.{worked_texts}
use Rattle.elab_examples.proofs.designs.Goals as goal

pub returns : goal.returns
returns c = worked_texts
