use Rattle.std.proofs.Common.{◌≡◌, ◌-◌, ◌++◌}
use Rattle.std.specs.Prelude.{string_bytes}
use Rattle.std.specs.List.{flat_map, range_with_len}
use Rattle.soak_text.specs.Soak.{watch_line}
use Rattle.soak_text.proofs.plan.add_watched.Given as goal

abbrev pub invariant-registers : goal.invariant-registers
invariant-registers l = string_bytes l.text ≡ string_bytes l.initial.text ++ flat_map watch_line (range_with_len l.first (l.register - l.first))
