use Rattle.v_elab.specs.Flat.{meaning_in}
use Rattle.elab_parts.specs.PartViews.{process_of}
use Rattle.elab_nodes.proofs.process.flat_process.Goals as goal

pub statement_over-requires : goal.statement_over-requires
statement_over-requires c =
    let over = c.requires in
    (meaning_in over.parts over.objects (process_of c.args.process.now), c.meaning_of.ensures over.parts over.objects over.basis_is, over.sized.0)
