use Rattle.four_value.proofs.Views.{AreFields, fields_of}
use Rattle.four_value.proofs.Readings.{ignored-exact, ignored-z, ignored-xz}
use Rattle.four_value.proofs.value.comparisons.ignored_places.Goals as goal

pub returns-in-Exact : goal.returns-in-Exact
returns-in-Exact c = rw c.in-Exact.is (ignored-exact c.args.value c.args.label)

pub returns-in-IgnoreZ : goal.returns-in-IgnoreZ
returns-in-IgnoreZ c =
    let f : AreFields c.args.value c.value.inside.width c.value.inside.ones c.value.inside.unknowns = fields_of c.value.inside c.args.value c.value.view_is c.value.invariant in
    let g : AreFields c.args.label c.label.inside.width c.label.inside.ones c.label.inside.unknowns = fields_of c.label.inside c.args.label c.label.view_is c.label.invariant in
    rw c.in-IgnoreZ.is (ignored-z c.args.value c.args.label _ _ _ _ _ _ f g c.requires)

pub returns-in-IgnoreXz : goal.returns-in-IgnoreXz
returns-in-IgnoreXz c =
    let f : AreFields c.args.value c.value.inside.width c.value.inside.ones c.value.inside.unknowns = fields_of c.value.inside c.args.value c.value.view_is c.value.invariant in
    let g : AreFields c.args.label c.label.inside.width c.label.inside.ones c.label.inside.unknowns = fields_of c.label.inside c.args.label c.label.view_is c.label.invariant in
    rw c.in-IgnoreXz.is (ignored-xz c.args.value c.args.label _ _ _ _ _ _ f g c.requires)
