use Rattle.std.proofs.Common.{List, map, flat_map, refl}
use Rattle.v_tree.specs.Trees.{NamedPlace}
use Rattle.v_tree.specs.Views.{name_of}
use Rattle.v_tree.specs.declared.item.Name.{Name}
use Rattle.v_names.specs.Names.{names_declared}
use Rattle.v_elab.specs.Walk.{parts_of_own}
use Rattle.name_checks.specs.Rows.{list-more}
use Rattle.elab_parts.specs.PartViews.{parts_of}
use Rattle.module_scope.specs.Declarations.{name_declared}
use Rattle.elab_items.specs.Narrow.{IsNarrow}
use Rattle.elab_items.proofs.Rows.{list-done, holds-of}
use Rattle.elab_items.proofs.declared.push_names.Goals as goal

pub names-preserved : goal.names-preserved
names-preserved c h declared i =
    list-more (λ (x : Name). parts_of_own h (names_declared h.instance.inner) (name_declared declared (name_of x)))
    (λ (xs : List Name). flat_map (parts_of_own h (names_declared h.instance.inner)) (map (name_declared declared) (map name_of xs)))
    c.args.names.now c.names.name-index c.name-item.result (parts_of c.names.parts.items) (parts_of c.push_own.new.parts.items) _ (λ y ys. refl) c.names-test.true c.name-item.is
    (c.in_ok-push_own.ensures h (name_declared declared (name_of c.name-item.result)) i refl refl) (c.names.invariant h declared i)

pub returns : goal.returns
returns c h declared i =
    list-done (λ (xs : List Name). flat_map (parts_of_own h (names_declared h.instance.inner)) (map (name_declared declared) (map name_of xs))) c.args.names.now c.names.name-index
    (parts_of c.names.parts.items) _ refl c.names-test.false (c.names.invariant h declared i)

pub push_own-requires : goal.push_own-requires
push_own-requires c =
    holds-of (λ (n : NamedPlace). IsNarrow c.args.here.now.scope.value n.name) name_of c.args.names.now c.names.name-index c.name-item.result c.requires c.names-test.true c.name-item.is
