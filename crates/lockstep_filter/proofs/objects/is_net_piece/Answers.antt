-- A net piece is told by its kind.
use Rattle.std.proofs.Common.{refl, ◌∙◌}
use Rattle.v_design.specs.PlainDesigns.{design_of}
use Rattle.vf_base.specs.Base.{object_number}
use Rattle.process_table.proofs.Nets.{net-by-kind}
use Rattle.lockstep_filter.proofs.objects.is_net_piece.Goals as goal

pub returns : goal.returns
returns c =
    c.is_net_kind.ensures
    ∙ net-by-kind (design_of c.args.design.now) c.args.design.now.objects c.as_slice-objects.result.now
    (object_number c.args.object) c.index-objects-object.result refl c.as_slice-objects.ensures c.requires
