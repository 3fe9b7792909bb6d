-- The parameters that an instance sets, as plain data.
use Rattle.std.specs.Prelude.{ℕ, List, map, Option, Some, None}
use Rattle.v_tree.specs.Trees.{Identifier, same_name}
use Rattle.v_names.specs.declared.constant.Constant.{Constant}
use Rattle.v_names.specs.Scopes.{SignedValue}
use Rattle.v_names.specs.SizeViews.{signed_value}
use Rattle.v_names.specs.Names.{GivenParameter, given_if}
use Rattle.module_scope.specs.declared.given.Given.{Given}

abbrev pub given_parameter : Given → GivenParameter
given_parameter g = record { name = g.name; given = record { value = g.value; signed = g.signed } }

abbrev pub given_pair : List ℕ × Constant → GivenParameter
given_pair p = record { name = p.0; given = signed_value p.1 }

-- those that are kept by their names
abbrev pub given_seen : List (List ℕ × Constant) → List GivenParameter
given_seen pairs = map given_pair pairs

-- the value that was kept, else that of one more parameter if it has the name
abbrev pub given_first : Option SignedValue → GivenParameter → Identifier → Option SignedValue
given_first (Some value) g name = Some value
given_first None g name = given_if (same_name g.name name) g.given None

-- what was there before, else another value
abbrev pub value_or : Option SignedValue → Option SignedValue → Option SignedValue
value_or None other = other
value_or (Some value) other = Some value
