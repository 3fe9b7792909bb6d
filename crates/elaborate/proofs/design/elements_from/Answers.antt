use Rattle.std.proofs.Common.{List, ap, sym, subst, ◌∙◌}
use Rattle.std.specs.Prelude.{Result, option_map}
use Rattle.v_design.specs.Designs.{FlatDesign}
use Rattle.v_tree.specs.Views.{unit_of, module_of}
use Rattle.v_elab.specs.Refusals.{Refusal}
use Rattle.v_elab.specs.Walk.{walked_from}
use Rattle.v_elab.specs.Flat.{flat_of_parts}
use Rattle.elab_parts.specs.PartViews.{parts_of}
use Rattle.elab_parts.specs.declared.part.Part.{Part}
use Rattle.flat_laws.specs.Hierarchy.Levelled.{named-module}
use Rattle.flat_laws.specs.Sizes.WalkedNodes.{named-nodes}
use Rattle.sized_walks.specs.TextLaws.{named-functions, named-processes}
use Rattle.elaborate.specs.ElabFaults.{refusal_of, IsRefusal}
use Rattle.elaborate.specs.Elements.{AreSizedParts}
use Rattle.elaborate.specs.ElementLaws.{top-over, go-refused}
use Rattle.elaborate.proofs.design.elements_from.Goals as goal

pub elements_of-requires : goal.elements_of-requires
elements_of-requires c =
    let modules = (unit_of c.args.unit.now).modules in
    let named = c.in-Some.ensures modules c.in_ok-modules.ensures in
    let top = named-module modules c.args.top.now (module_of c.in-Some.top.now) (sym named) in
    let parts = parts_of c.in-Ok.parts.items in
    let walk = c.in-Ok.ensures modules c.in_ok-modules.ensures in
    subst (λ (parts : List Part). AreSizedParts (parts_of parts)) (sym c.deref.ensures.value)
    (record {
      nodes_sized = named-nodes modules c.requires.items c.requires.names c.args.mode (module_of c.in-Some.top.now) top.0 top.1 parts walk;
      functions_sized = named-functions modules c.requires.items c.requires.names c.args.mode (module_of c.in-Some.top.now) top.0 top.1 parts walk;
      processes_sized = named-processes modules c.requires.items c.requires.names c.args.mode (module_of c.in-Some.top.now) top.0 top.1 parts walk;
    })

pub returns : goal.returns
returns c =
    let modules = (unit_of c.args.unit.now).modules in
    let named = c.in-Some.ensures modules c.in_ok-modules.ensures in
    subst (λ (answer : Result FlatDesign Refusal). IsRefusal answer (refusal_of c.walk_fault.result))
    (sym (top-over modules c.args.mode (module_of c.in-Some.top.now) _ named (c.in_ok-place.ensures ∙ ap (option_map _) c.in-None.is)))
    (go-refused (walked_from modules c.args.mode (module_of c.in-Some.top.now)) flat_of_parts (refusal_of c.walk_fault.result)
    (c.walk_fault.ensures _ (c.in-Err.ensures modules c.in_ok-modules.ensures)))
