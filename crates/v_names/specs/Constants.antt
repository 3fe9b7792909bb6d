-- Where a constant must stand, and what it must be there (IEEE 1364-2001, clause 3.10 and clause 3.3 for ranges, clause 4.2 for selects, clause 9.7 for delays).
use Rattle.std.specs.Prelude.{ℕ, Bool, true, false, not, ◌&&◌, ◌||◌, List, [], ◌∷◌, ◌++◌, Option, Some, None, nat_lt}
use Rattle.std.specs.List.{list_all, list_any}
use Rattle.vf_base.specs.Base.{SourcePlace}
use Rattle.vf_base.specs.declared.limits.TheConstants.{MAX_BOUND, MAX_ADDRESS, MAX_DELAY}
use Rattle.four_value.specs.Bits.{is_unknown}
use Rattle.four_value.specs.Values.{some_bit, number_of, natural_number}
use Rattle.v_tree.specs.Trees.{SourceExpression, Number, Selected, Parenthesised, Prefixed, Infixed, Chosen, Concatenated, Replicated, SourceIndex, NoIndex, IndexAt, IndexRange, SourceExpressions}
use Rattle.v_tree.specs.Trees.{no_parts, more_parts, SourceSelect, SourceRange, place_of_expression, names_in}
use Rattle.v_names.specs.Faults.{UnknownName, NoConstant, Fault, fault_at, fault_if}
use Rattle.v_names.specs.Scopes.{SignedValue, ScopeEntry, Scope, looked_up, is_parameter, is_waiting}
use Rattle.v_names.specs.Readings.{constant_of}

-- the kinds of place where a constant must stand
pub data ConstantPlace : Type 0 where
  -- the first content of a variable: any value
  AnyValue : ConstantPlace
  -- a parameter: no x and no z
  ParameterValue : ConstantPlace
  -- an index or a count: a number that isn't negative
  IndexOrCount : ConstantPlace
  -- a bound of a range or of a part, at most a limit
  BoundUpTo : (limit : ℕ) → ConstantPlace
  -- a delay, read as unsigned
  DelayValue : ConstantPlace

-- the most of a bound, of a bound of a memory, and of a delay
abbrev pub most_bound : ℕ
most_bound = MAX_BOUND

abbrev pub most_address : ℕ
most_address = MAX_ADDRESS

abbrev pub most_delay : ℕ
most_delay = MAX_DELAY

abbrev pub exceeds : ℕ → Option ℕ → Bool
exceeds limit None = true
exceeds limit (Some n) = nat_lt limit n

abbrev pub is_missing : Option ℕ → Bool
is_missing None = true
is_missing (Some n) = false

-- whether a constant isn't one of its place
abbrev pub is_unfit : ConstantPlace → SignedValue → Bool
is_unfit AnyValue c = false
is_unfit ParameterValue c = some_bit is_unknown c.value
is_unfit IndexOrCount c = is_missing (natural_number c.signed c.value)
is_unfit (BoundUpTo limit) c = exceeds limit (natural_number c.signed c.value)
is_unfit DelayValue c = exceeds most_delay (number_of c.value)

abbrev pub is_unfit_if_some : ConstantPlace → Option SignedValue → Bool
is_unfit_if_some kind None = false
is_unfit_if_some kind (Some c) = is_unfit kind c

abbrev pub all_parameters : Scope → SourceExpression → Bool
all_parameters scope e = list_all (λ name. is_parameter (looked_up scope name)) (names_in e)

abbrev pub some_waiting : Scope → SourceExpression → Bool
some_waiting scope e = list_any (λ name. is_waiting (looked_up scope name)) (names_in e)

-- what is wrong with the value of a constant in a context of a width: it rests on itself, or is unfit; nothing is said of one that names other things than parameters, or whose sizes are refused
abbrev pub value_faults_within : ℕ → Scope → ConstantPlace → SourceExpression → List Fault
value_faults_within width scope kind e =
    fault_if (all_parameters scope e && (some_waiting scope e || is_unfit_if_some kind (constant_of scope width e))) (place_of_expression e) NoConstant

-- the same of a constant that is sized alone
abbrev pub value_faults : Scope → ConstantPlace → SourceExpression → List Fault
value_faults scope kind e = value_faults_within 0 scope kind e

-- a name that must be a parameter
abbrev pub parameter_faults : Option ScopeEntry → SourcePlace → List Fault
parameter_faults None place = fault_at place UnknownName ∷ []
parameter_faults (Some entry) place = fault_if (not (is_parameter (Some entry))) place NoConstant

-- a name that must be declared
abbrev pub known_faults : Option ScopeEntry → SourcePlace → List Fault
known_faults None place = fault_at place UnknownName ∷ []
known_faults (Some entry) place = []

abbrev mutual
  -- the names of a constant must be parameters, and the constants in it must be constants of their places
  pub constant_name_faults : Scope → SourceExpression → List Fault
  constant_name_faults scope (Number place form value) = []
  constant_name_faults scope (Selected place name index) = parameter_faults (looked_up scope name) place ++ constant_index_faults scope index
  constant_name_faults scope (Parenthesised place inner) = constant_name_faults scope inner
  constant_name_faults scope (Prefixed place operator operand) = constant_name_faults scope operand
  constant_name_faults scope (Infixed place operator left right) = constant_name_faults scope left ++ constant_name_faults scope right
  constant_name_faults scope (Chosen place condition first second) = constant_name_faults scope condition ++ (constant_name_faults scope first ++ constant_name_faults scope second)
  constant_name_faults scope (Concatenated place parts) = constant_part_faults scope parts
  constant_name_faults scope (Replicated place count parts) = constant_name_faults scope count ++ (value_faults scope IndexOrCount count ++ constant_part_faults scope parts)

  pub constant_index_faults : Scope → SourceIndex → List Fault
  constant_index_faults scope NoIndex = []
  constant_index_faults scope (IndexAt index) = constant_name_faults scope index
  constant_index_faults scope (IndexRange from to) =
      constant_name_faults scope from ++ (value_faults scope (BoundUpTo most_bound) from ++ (constant_name_faults scope to ++ value_faults scope (BoundUpTo most_bound) to))

  pub constant_part_faults : Scope → SourceExpressions → List Fault
  constant_part_faults scope no_parts = []
  constant_part_faults scope (more_parts first rest) = constant_name_faults scope first ++ constant_part_faults scope rest

-- what is wrong with a constant at its place
abbrev pub constant_faults : Scope → ConstantPlace → SourceExpression → List Fault
constant_faults scope kind e = constant_name_faults scope e ++ value_faults scope kind e

abbrev mutual
  -- the names of an expression must be declared, and the constants in it must be constants of their places
  pub name_faults : Scope → SourceExpression → List Fault
  name_faults scope (Number place form value) = []
  name_faults scope (Selected place name index) = known_faults (looked_up scope name) place ++ index_faults scope index
  name_faults scope (Parenthesised place inner) = name_faults scope inner
  name_faults scope (Prefixed place operator operand) = name_faults scope operand
  name_faults scope (Infixed place operator left right) = name_faults scope left ++ name_faults scope right
  name_faults scope (Chosen place condition first second) = name_faults scope condition ++ (name_faults scope first ++ name_faults scope second)
  name_faults scope (Concatenated place parts) = part_faults scope parts
  name_faults scope (Replicated place count parts) = constant_faults scope IndexOrCount count ++ part_faults scope parts

  pub index_faults : Scope → SourceIndex → List Fault
  index_faults scope NoIndex = []
  index_faults scope (IndexAt index) = name_faults scope index
  index_faults scope (IndexRange from to) = constant_faults scope (BoundUpTo most_bound) from ++ constant_faults scope (BoundUpTo most_bound) to

  pub part_faults : Scope → SourceExpressions → List Fault
  part_faults scope no_parts = []
  part_faults scope (more_parts first rest) = name_faults scope first ++ part_faults scope rest

abbrev pub optional_faults : {A : Type 0} → (A → List Fault) → Option A → List Fault
optional_faults faults None = []
optional_faults faults (Some x) = faults x

-- the bounds of a range
abbrev pub bound_faults : Scope → ℕ → SourceRange → List Fault
bound_faults scope limit range = constant_faults scope (BoundUpTo limit) range.high ++ constant_faults scope (BoundUpTo limit) range.low

-- an index that must be constant
abbrev pub fixed_index_faults : Scope → SourceIndex → List Fault
fixed_index_faults scope NoIndex = []
fixed_index_faults scope (IndexAt index) = constant_faults scope IndexOrCount index
fixed_index_faults scope (IndexRange from to) = constant_faults scope (BoundUpTo most_bound) from ++ constant_faults scope (BoundUpTo most_bound) to

-- a select whose index must be constant, as in the target of a net or an entry of an event control
abbrev pub fixed_select_faults : Scope → SourceSelect → List Fault
fixed_select_faults scope select = known_faults (looked_up scope select.name) select.place ++ fixed_index_faults scope select.index

-- a select whose index may vary, as in the target of a process
abbrev pub select_faults : Scope → SourceSelect → List Fault
select_faults scope select = known_faults (looked_up scope select.name) select.place ++ index_faults scope select.index
