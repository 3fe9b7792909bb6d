use Rattle.std.proofs.Common.{List, map, flat_map, refl}
use Rattle.vf_base.specs.Base.{source_place}
use Rattle.v_tree.specs.Trees.{SourceWire}
use Rattle.v_tree.specs.Views.{wire_of}
use Rattle.v_tree.specs.declared.item.Wire.{Wire}
use Rattle.v_names.specs.Names.{Declaration, DeclaredNet, names_declared}
use Rattle.v_elab.specs.Walk.{parts_of_own}
use Rattle.name_checks.specs.Rows.{list-more}
use Rattle.elab_parts.specs.PartViews.{parts_of}
use Rattle.module_scope.specs.Declarations.{wire_declarations}
use Rattle.elab_items.specs.Narrow.{IsNarrow}
use Rattle.elab_items.proofs.Rows.{list-done, holds-of}
use Rattle.elab_items.proofs.declared.push_nets.Goals as goal

pub wires-preserved : goal.wires-preserved
wires-preserved c h signed bounds i =
    let net = λ (x : Wire). let d : Declaration = record { name = x.name; place = source_place x.place; declared = DeclaredNet signed bounds } in d in
    list-more (λ (x : Wire). parts_of_own h (names_declared h.instance.inner) (net x)) (λ (xs : List Wire).
    flat_map (parts_of_own h (names_declared h.instance.inner)) (wire_declarations signed bounds (map wire_of xs)))
    c.args.wires.now c.wires.wire-index c.wire-item.result (parts_of c.wires.parts.items) (parts_of c.push_own.new.parts.items) _ (λ y ys. refl) c.wires-test.true c.wire-item.is
    (c.in_ok-push_own.ensures h (net c.wire-item.result) i refl refl) (c.wires.invariant h signed bounds i)

pub returns : goal.returns
returns c h signed bounds i =
    list-done (λ (xs : List Wire). flat_map (parts_of_own h (names_declared h.instance.inner)) (wire_declarations signed bounds (map wire_of xs))) c.args.wires.now c.wires.wire-index
    (parts_of c.wires.parts.items) _ refl c.wires-test.false (c.wires.invariant h signed bounds i)

pub push_own-requires : goal.push_own-requires
push_own-requires c =
    holds-of (λ (w : SourceWire). IsNarrow c.args.here.now.scope.value w.name) wire_of c.args.wires.now c.wires.wire-index c.wire-item.result c.requires c.wires-test.true c.wire-item.is
