use Rattle.std.proofs.Common.{◌≡◌, drop}
use Rattle.std.specs.List.{list_all}
use Rattle.v_comb.proofs.assigned.are_all_set.Given as goal

abbrev pub invariant-flags : goal.invariant-flags
invariant-flags l = list_all (λ flag. flag) (drop l.flag-index l.flags) ≡ list_all (λ flag. flag) l.flags
