use Rattle.std.proofs.Common.{◌≡◌, take, false}
use Rattle.std.specs.List.{list_any}
use Rattle.elab_wires.specs.WrittenNames.{is_other}
use Rattle.elab_wires.proofs.writers.has_other.Given as goal

abbrev pub invariant-parts : goal.invariant-parts
invariant-parts l = list_any (is_other l.part) (take l.other-index l.parts) ≡ false
