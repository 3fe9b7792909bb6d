use Rattle.std.proofs.Common.{◌≡◌, drop, flat_map}
use Rattle.v_comb.specs.Flags.{flag_names}
use Rattle.v_comb.specs.Occurrences.{whole_names_of}
use Rattle.v_comb.proofs.assigned.flag_whole.Given as goal

abbrev pub invariant-selects : goal.invariant-selects
invariant-selects l = flag_names l.targets l.flags.items (flat_map whole_names_of (drop l.select-index l.selects)) ≡ flag_names l.targets l.initial.flags.items (flat_map whole_names_of l.selects)
