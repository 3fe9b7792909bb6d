use Rattle.std.proofs.Common.{sym, subst}
use Rattle.v_elab.specs.Flat.{meaning_in}
use Rattle.elab_parts.specs.PartViews.{process_of}
use Rattle.object_statements.specs.Texts.{IsSizedText}
use Rattle.elab_nodes.proofs.kinds.block_kind.Goals as goal

pub statement_over-requires : goal.statement_over-requires
statement_over-requires c =
    let over = c.requires in
    let meaning = meaning_in over.parts over.objects (process_of c.args.process.now) in
    (meaning, c.meaning_of-meaning.ensures over.parts over.objects over.basis_is, subst (IsSizedText meaning) (sym c.block_body.ensures) over.sized)
