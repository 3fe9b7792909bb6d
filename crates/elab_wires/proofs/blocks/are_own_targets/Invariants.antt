use Rattle.std.proofs.Common.{◌≡◌, take, true}
use Rattle.std.specs.List.{list_all}
use Rattle.v_elab.specs.Drivers.{is_own_target}
use Rattle.elab_parts.specs.PartViews.{parts_of}
use Rattle.elab_wires.proofs.blocks.are_own_targets.Given as goal

abbrev pub invariant-names : goal.invariant-names
invariant-names l = list_all (is_own_target (parts_of l.wiring.parts.now) l.number) (take l.name-index l.names) ≡ true
