use Rattle.std.proofs.Common.{◌≡◌, drop, map, flat_map}
use Rattle.v_elab.specs.ItemFaults.{size_faults}
use Rattle.v_tree.specs.Trees.{SourceParameter}
use Rattle.v_tree.specs.Views.{parameter_of}
use Rattle.name_checks.specs.Noted.{noted}
use Rattle.item_checks.proofs.items.note_values.Given as goal

abbrev pub invariant-params : goal.invariant-params
invariant-params l = noted l.first (flat_map (λ (p : SourceParameter). size_faults l.scope p.value) (map parameter_of (drop l.param-index l.params))) ≡ noted l.initial.first
    (flat_map (λ (p : SourceParameter). size_faults l.scope p.value) (map parameter_of l.params))
