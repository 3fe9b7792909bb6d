use Rattle.std.proofs.Common.{◌≡◌, ◌++◌, drop}
use Rattle.v_elab.specs.Flat.{widths_of}
use Rattle.elab_objects.specs.ObjectViews.{held_objects}
use Rattle.elaborate.proofs.tables.widths_of.Given as goal

abbrev pub invariant-held : goal.invariant-held
invariant-held l = l.widths.items ++ widths_of (held_objects (drop l.one-index l.held)) ≡ widths_of (held_objects l.held)
