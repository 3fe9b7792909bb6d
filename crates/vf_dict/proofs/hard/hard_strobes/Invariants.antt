-- So many faults have their hard strobes.
use Rattle.std.proofs.Common.{take}
use Rattle.std.specs.List.{AllZip}
use Rattle.vf_dict.specs.SideBySide.{IsHardOf}
use Rattle.vf_dict.proofs.hard.hard_strobes.Given as goal

abbrev pub invariant-faults : goal.invariant-faults
invariant-faults l = AllZip (IsHardOf l.good) (take l.kept-index l.kept-items) l.hard.items
