use Rattle.std.proofs.Common.{Option, ap, ◌∙◌}
use Rattle.v_tree.specs.Trees.{PortItem}
use Rattle.v_tree.specs.Views.{ports_of}
use Rattle.v_names.specs.Faults.{Fault}
use Rattle.v_elab.specs.ItemFaults.{item_faults}
use Rattle.name_checks.specs.Noted.{noted, noted_none}
use Rattle.item_checks.proofs.items.ports_fault.Goals as goal

pub returns : goal.returns
returns c =
    c.found.ensures ∙ c.in_ok-note_declared_range.ensures ∙ ap (λ (o : Option Fault). noted o (item_faults c.args.scope.now (PortItem (ports_of c.args.group.now)))) c.new-first.ensures
    ∙ noted_none (item_faults c.args.scope.now (PortItem (ports_of c.args.group.now)))
