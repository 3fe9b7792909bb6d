use Rattle.std.proofs.Common.{List, [], map, flat_map, ap, sym, subst, ◌∙◌}
use Rattle.v_tree.specs.Trees.{Identifier, NamedPlace, SourcePorts}
use Rattle.v_tree.specs.Views.{name_of, ports_of, heads_of}
use Rattle.v_tree.specs.declared.item.Name.{Name}
use Rattle.v_tree.specs.declared.item.Ports.{Ports}
use Rattle.v_tree.specs.declared.item.Heads.{Heads}
use Rattle.v_elab.specs.Connections.{head_names}
use Rattle.instance_checks.specs.Offered.{AreNames}
use Rattle.instance_checks.proofs.name_lists.names_of_heads.Goals as goal

pub returns-in_ok-push_names-in-Plain : goal.returns-in_ok-push_names-in-Plain
returns-in_ok-push_names-in-Plain c =
    subst (λ (list : List Identifier). AreNames list c.push_names.new.names)
    (ap (λ (hs : List Name). map (λ (n : NamedPlace). n.name) (map name_of hs)) c.as_slice.ensures ∙ ap (λ (h : Heads). head_names (heads_of h)) (sym c.in-Plain.is))
    (c.in_ok-push_names-in-Plain.ensures.grows [] c.new-names.ensures)

pub returns-in_ok-push_groups-in-Declared : goal.returns-in_ok-push_groups-in-Declared
returns-in_ok-push_groups-in-Declared c =
    subst (λ (list : List Identifier). AreNames list c.push_groups.new.names)
    (ap (λ (gs : List Ports). flat_map (λ (g : SourcePorts). map (λ (n : NamedPlace). n.name) g.names) (map ports_of gs)) c.as_slice-in-Declared.ensures
    ∙ ap (λ (h : Heads). head_names (heads_of h)) (sym c.in-Declared.is))
    (c.in_ok-push_groups-in-Declared.ensures.grows [] c.new-names.ensures)
