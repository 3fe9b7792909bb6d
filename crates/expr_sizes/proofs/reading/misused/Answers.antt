use Rattle.std.proofs.Common.{[], ◌∷◌}
use Rattle.vf_base.specs.Base.{source_place}
use Rattle.v_names.specs.Faults.{WrongKind, fault_at}
use Rattle.expr_sizes.proofs.reading.misused.Goals as goal

pub returns : goal.returns
returns c faults h =
    let wrong = fault_at (source_place c.args.place) WrongKind ∷ [] in c.refused.ensures wrong faults (c.together-faults.ensures wrong [] [] faults c.wrong_kind.ensures h)
