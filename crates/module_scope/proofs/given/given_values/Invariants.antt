use Rattle.std.proofs.Common.{◌≡◌, ℕ, List, drop, map}
use Rattle.v_names.specs.Names.{given_of}
use Rattle.module_scope.specs.Givens.{given_parameter, given_seen, value_or}
use Rattle.module_scope.proofs.given.given_values.Given as goal

abbrev pub invariant-given : goal.invariant-given
invariant-given l = (name : List ℕ) → value_or (given_of (given_seen l.values) name) (given_of (map given_parameter (drop l.one-index l.given)) name) ≡ given_of (map given_parameter l.given) name
