use Rattle.std.proofs.Common.{List, Option, map, flat_map, ap, ◌∙◌, sym}
use Rattle.v_tree.specs.Trees.{NamedPlace}
use Rattle.v_tree.specs.Views.{name_of, heads_of}
use Rattle.v_tree.specs.declared.item.Name.{Name}
use Rattle.v_tree.specs.declared.item.Heads.{Heads}
use Rattle.v_names.specs.Faults.{WrongKind, Fault, fault_if, first_fault}
use Rattle.v_elab.specs.Walk.{not_port_faults}
use Rattle.name_checks.specs.Noted.{noted, noted_none}
use Rattle.instance_checks.specs.Ports.{is_no_port}
use Rattle.instance_checks.proofs.heads.not_port_fault.Goals as goal

pub returns-in-Plain : goal.returns-in-Plain
returns-in-Plain c m formals =
    let faults : List Name → List Fault = λ xs. flat_map (λ (n : NamedPlace). fault_if (is_no_port m n.name) n.place WrongKind) (map name_of xs) in
    c.found.ensures ∙ c.note_names.ensures m formals ∙ ap (λ (o : Option Fault). noted o (faults c.as_slice.result.now)) c.new-first.ensures ∙ noted_none (faults c.as_slice.result.now)
    ∙ ap (λ (xs : List Name). first_fault (faults xs)) c.as_slice.ensures ∙ ap (λ (h : Heads). first_fault (not_port_faults m (heads_of h))) (sym c.in-Plain.is)
