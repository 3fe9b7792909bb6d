-- The world's design is the setup's.
use Rattle.std.proofs.Common.{◌<◌, length, sym, ap, subst, ◌∙◌}
use Rattle.vf_base.specs.Base.{object_number}
use Rattle.vf_base.specs.Lists.{has}
use Rattle.v_design.specs.Designs.{FlatDesign}
use Rattle.v_design.specs.Paths.{net_pieces}
use Rattle.lockstep_filter.proofs.objects.is_net_of.Goals as goal

pub is_net_piece-requires : goal.is_net_piece-requires
is_net_piece-requires g c = subst (λ (d : FlatDesign). object_number c.args.object < length d.objects) c.design-design.ensures.world c.requires

pub returns : goal.returns
returns g c = c.is_net_piece.ensures ∙ ap (λ (d : FlatDesign). has (net_pieces d) (object_number c.args.object)) (sym c.design-design.ensures.world)
