use Rattle.std.proofs.Common.{◌≡◌, ◌++◌, take}
use Rattle.std.specs.Prelude.{string_bytes}
use Rattle.std.specs.List.{flat_map}
use Rattle.soak_text.specs.Soak.{register_line}
use Rattle.soak_text.proofs.design.add_registers.Given as goal

abbrev pub invariant-stages : goal.invariant-stages
invariant-stages l = string_bytes l.text ≡ string_bytes l.initial.text ++ flat_map register_line (take l.stage-index l.stages)
