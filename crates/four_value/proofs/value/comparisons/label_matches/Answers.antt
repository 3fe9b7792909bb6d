use Rattle.four_value.proofs.Views.{AreFields, fields_of}
use Rattle.four_value.proofs.Readings.{label_matches-plane}
use Rattle.four_value.proofs.value.comparisons.label_matches.Goals as goal

pub returns : goal.returns
returns c =
    let f : AreFields c.args.value c.value.inside.width c.value.inside.ones c.value.inside.unknowns = fields_of c.value.inside c.args.value c.value.view_is c.value.invariant in
    let g : AreFields c.args.label c.label.inside.width c.label.inside.ones c.label.inside.unknowns = fields_of c.label.inside c.args.label c.label.view_is c.label.invariant in
    label_matches-plane c.args.kind c.args.value c.args.label _ _ _ _ _ _ _ f g c.requires c.value.invariant.1 c.ignored_places.ensures
