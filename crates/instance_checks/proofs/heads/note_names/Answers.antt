use Rattle.std.proofs.Common.{List, Bool, map, flat_map, refl, ap, ◌∙◌}
use Rattle.vf_base.specs.Base.{source_place}
use Rattle.v_tree.specs.Trees.{NamedPlace}
use Rattle.v_tree.specs.Views.{name_of}
use Rattle.v_tree.specs.declared.item.Name.{Name}
use Rattle.v_names.specs.Faults.{WrongKind, fault_if}
use Rattle.name_checks.specs.Noted.{noted}
use Rattle.name_checks.specs.Rows.{rest-more}
use Rattle.instance_checks.specs.Ports.{is_no_port}
use Rattle.instance_checks.proofs.heads.note_names.Goals as goal

pub names-preserved : goal.names-preserved
names-preserved c m formals =
    rest-more (λ (x : Name). fault_if (is_no_port m x.name) (source_place x.place) WrongKind)
    (λ (xs : List Name). flat_map (λ (n : NamedPlace). fault_if (is_no_port m n.name) n.place WrongKind) (map name_of xs)) c.args.names.now c.names.name-index c.name-item.result
    c.names.first c.note_where.new.first _ (λ y ys. refl) c.names-test.true c.name-item.is
    (c.note_where.ensures ∙ ap (λ (b : Bool). noted c.names.first (fault_if b (source_place c.name-item.result.place) WrongKind)) (c.is_no_port.ensures m formals)) (c.names.invariant m formals)
