use Rattle.elab_examples.specs.Refusals.{texts_at_the_edge}
use Rattle.elab_examples.proofs.refusals.Goals as goal

pub returns : goal.returns
returns c = texts_at_the_edge
