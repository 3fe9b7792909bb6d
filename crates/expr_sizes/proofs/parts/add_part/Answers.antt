use Rattle.std.proofs.Common.{[], option_map, ap, ◌∙◌}
use Rattle.vf_base.specs.Base.{source_place}
use Rattle.v_names.specs.SizeViews.{size_of}
use Rattle.expr_sizes.specs.PartReadings.{size_of_part, faults_of_part}
use Rattle.expr_sizes.proofs.PartLaws.{read-more}
use Rattle.expr_sizes.proofs.parts.add_part.Goals as goal

pub returns : goal.returns
returns c whole rest reading h so =
    read-more whole rest reading c.args.unsized_number (source_place c.args.place) c.args.parts _ (option_map size_of c.part_size-size.result) c.tree_alone-tree.result
    (c.part_size-size.ensures ∙ ap (size_of_part c.args.unsized_number) h.size_is)
    (λ inside f.
    c.together-faults.ensures [] inside [] (faults_of_part c.args.unsized_number (source_place c.args.place) reading) f (c.part_faults-own.ensures reading h.faults_are))
    c.wider-total.ensures (c.tree_alone-tree.ensures reading h) c.in_ok-push.ensures.items so
