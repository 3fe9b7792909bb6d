use Rattle.std.proofs.Common.{◌++◌, List, map, flat_map, refl, ap, sym, ◌∙◌}
use Rattle.v_names.specs.Constants.{name_faults, optional_faults}
use Rattle.v_tree.specs.Trees.{SourceWire}
use Rattle.v_tree.specs.Views.{expression_in, wire_of}
use Rattle.v_tree.specs.declared.item.Wire.{Wire}
use Rattle.name_checks.specs.Rows.{rest-more}
use Rattle.name_checks.proofs.items.note_wires.Goals as goal

pub wires-preserved : goal.wires-preserved
wires-preserved c =
    rest-more (λ (x : Wire). optional_faults (name_faults c.args.scope.now) (expression_in x.value))
    (λ (xs : List Wire). flat_map (λ (w : SourceWire). optional_faults (name_faults c.args.scope.now) w.value) (map wire_of xs)) c.args.wires.now c.wires.wire-index c.wire-item.result
    c.wires.first c.note_optional_names.new.first _ (λ y ys. refl) c.wires-test.true c.wire-item.is c.in_ok-note_optional_names.ensures c.wires.invariant
