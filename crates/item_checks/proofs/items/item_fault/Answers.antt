use Rattle.std.proofs.Common.{Option, ap, ◌∙◌}
use Rattle.v_tree.specs.Views.{item_of}
use Rattle.v_names.specs.Faults.{Fault}
use Rattle.v_elab.specs.ItemFaults.{item_faults}
use Rattle.name_checks.specs.Noted.{noted, noted_none}
use Rattle.item_checks.proofs.items.item_fault.Goals as goal

pub returns : goal.returns
returns c =
    c.found.ensures ∙ c.in_ok-note_item.ensures ∙ ap (λ (o : Option Fault). noted o (item_faults c.args.scope.now (item_of c.args.item.now))) c.new-first.ensures
    ∙ noted_none (item_faults c.args.scope.now (item_of c.args.item.now))
