use Rattle.std.proofs.Common.{List, ◌++◌, None, map, flat_map, sym, ap, subst, ◌∙◌}
use Rattle.vf_base.specs.Lists.{AllHold}
use Rattle.v_tree.specs.Trees.{NamedPlace}
use Rattle.v_tree.specs.Views.{name_of, range_in}
use Rattle.v_tree.specs.declared.item.Name.{Name}
use Rattle.v_names.specs.Names.{Declaration, Declared, DeclaredPort, names_declared, bounds_of}
use Rattle.v_elab.specs.Walk.{parts_of_own}
use Rattle.elab_parts.specs.PartViews.{parts_of}
use Rattle.module_scope.specs.Declarations.{name_declared}
use Rattle.elab_items.specs.Narrow.{IsNarrow}
use Rattle.elab_items.proofs.Rows.{holds-before}
use Rattle.elab_items.proofs.item.push_port_parts.Goals as goal

pub returns : goal.returns
returns c h i =
    let group = c.args.group.now in
    let declared : Declared = DeclaredPort group.direction group.is_reg group.signed (bounds_of (range_in group.range)) None in
    c.in_ok-push_names.ensures h declared i
    ∙ ap (λ (ns : List Name). parts_of c.args.parts.now.items ++ flat_map (parts_of_own h (names_declared h.instance.inner)) (map (name_declared declared) (map name_of ns))) c.as_slice.ensures

pub push_names-requires : goal.push_names-requires
push_names-requires c =
    let group = c.args.group.now in
    let declared : Declared = DeclaredPort group.direction group.is_reg group.signed (bounds_of (range_in group.range)) None in
    let P : NamedPlace → Type 0 = λ n. IsNarrow c.args.here.now.scope.value n.name in
    subst (λ (ns : List Name). AllHold P (map name_of ns)) (sym c.as_slice.ensures)
    (holds-before (λ (d : Declaration). IsNarrow c.args.here.now.scope.value d.name) (name_declared declared) (map name_of group.names) c.requires)
