use Rattle.std.proofs.Common.{List, ap, sym, subst}
use Rattle.v_design.specs.Plain.{expressions_of, node_kind_of}
use Rattle.v_design.specs.declared.tree.FlatExpr.{FlatExpr}
use Rattle.flat_laws.specs.Sizes.WalkedNodes.{IsSizedKind}
use Rattle.object_reads.specs.SizedReads.{AreSized, alone-are}
use Rattle.elab_nodes.proofs.inputs.kind_reads.Goals as goal

pub push_all_reads-requires : goal.push_all_reads-requires
push_all_reads-requires c =
    subst (λ (es : List FlatExpr). AreSized (expressions_of es)) (sym c.deref.ensures.value)
    (alone-are (expressions_of c.in-Gate.terminals.items) (subst IsSizedKind (ap node_kind_of c.in-Gate.is) c.requires))
