use Rattle.std.proofs.Common.{◌≡◌, map, take}
use Rattle.copy_state.specs.Listed.{entry_of}
use Rattle.copy_state.proofs.few_values.FewValues.table.Given as goal

abbrev pub invariant-values : goal.invariant-values
invariant-values l = l.table ≡ map entry_of (take l.own-index l.own-items)
