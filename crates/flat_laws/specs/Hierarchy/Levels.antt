-- An expression or a statement over objects has no more levels than its text: each part stands at most as deep as in the syntax tree (that a text has few levels is own).
use Rattle.std.proofs.Common.{ℕ, suc, ◌*◌, ◌≤◌, max, Bool, true, false, ◌&&◌, List, [], ◌∷◌, ◌++◌, length, Option, Some, None, nat_le, arith}
use Rattle.std.specs.Prelude.{map}
use Rattle.vf_base.specs.Base.{SourcePlace}
use Rattle.four_value.specs.declared.operator.UnaryOperator.{UnaryOperator}
use Rattle.four_value.specs.declared.operator.BinaryOperator.{BinaryOperator}
use Rattle.v_design.specs.Sized.{span, most_bits, UnarySizing, OperandWithWhole, OperandAlone, unary_sizing, BinarySizing, BothWithWhole, LeftWithWhole, BothTogether, EachAlone, binary_sizing}
use Rattle.v_design.specs.Sized.{levels_of, levels_of_parts, levels_of_target, levels_of_targets, levels_of_statement, levels_of_statements, levels_of_items}
use Rattle.v_tree.specs.Trees.{Identifier, SourceExpression, Number, Selected, Parenthesised, Prefixed, Infixed, Chosen, Concatenated, Replicated, SourceIndex, NoIndex, IndexAt, IndexRange}
use Rattle.v_tree.specs.Trees.{SourceExpressions, no_parts, more_parts, place_of_expression, SourceSelect, SourceTarget, OneSelect, JoinedSelects, SourceStatement, NullStatement, BlockStatement}
use Rattle.v_tree.specs.Trees.{IfStatement, IfElseStatement, CaseStatement, ForStatement, WhileStatement, RepeatStatement, ForeverStatement, WaitStatement, EventStatement, DelayStatement}
use Rattle.v_tree.specs.Trees.{BlockingStatement, NonblockingStatement, IgnoredTask, FinishTask, SourceStatements, no_source_statements, more_source_statements, SourceCaseItems, no_source_items}
use Rattle.v_tree.specs.Trees.{labelled, otherwise}
use Rattle.v_names.specs.Faults.{Fault}
use Rattle.v_names.specs.Scopes.{DeclaredRange, ScopeEntry, ParameterEntry, RefusedParameter, WaitingParameter, NetEntry, RegEntry, MemoryEntry, GateEntry, InstanceEntry, Scope, looked_up}
use Rattle.v_names.specs.Scopes.{is_memory, range_width}
use Rattle.v_names.specs.SizedTrees.{SizedExpression, SizedConstant, SizedExpressions, Holders, over_objects, all_over_objects}
use Rattle.v_names.specs.Readings.{Size, Reading, size_or_bit, larger_size, alone_faults, sized_if, sized_reading, is_signed_number, name_reading, bit_reading, indexed_reading, runs_alike, part_if}
use Rattle.v_names.specs.Readings.{part_between, part_reading, ranged_reading, unary_reading, binary_reading, choice_reading, PartsReading, is_unsized_number, part_before, concatenation_reading}
use Rattle.v_names.specs.Readings.{replication_reading, reading_of, select_reading, parts_reading, constant_reading, natural_constant}
use Rattle.v_width.specs.Targets.{ByProcess, target_width_in}
use Rattle.v_elab.specs.Statements.{Meaning, alone_expression, assigned_expression, indexed_target, target_by_index, targets_over, items_size, label_expressions, statement_over, statements_over}
use Rattle.v_elab.specs.Statements.{items_over, default_over}
use Rattle.v_expr.specs.Heights.{height_of, index_height, heights_of, select_heights, target_height}
use Rattle.v_stmt.specs.Heights.{statement_height, body_height, items_height}

-- the trees of a reading have so many levels at most
abbrev AreWithin : Holders → ℕ → Reading → Type 0
AreWithin holders most reading = (width : ℕ) (signed : Bool) → levels_of (over_objects holders (reading.tree width signed)) ≤ most

sized-within : (holders : Holders) (most : ℕ) (test : Bool) (place : SourcePlace) (size : Size) (complete : Bool) (inside : List Fault) (tree : ℕ → Bool → SizedExpression) → 1 ≤ most →
    ((width : ℕ) (signed : Bool) → levels_of (over_objects holders (tree width signed)) ≤ most) → AreWithin holders most (sized_if test place size complete inside tree)
sized-within holders most true place size complete inside tree some h width signed = h width signed
sized-within holders most false place size complete inside tree some h width signed = some

reading-within : (holders : Holders) (most : ℕ) (place : SourcePlace) (width : ℕ) (signed complete : Bool) (inside : List Fault) (tree : ℕ → Bool → SizedExpression) → 1 ≤ most →
    ((width : ℕ) (signed : Bool) → levels_of (over_objects holders (tree width signed)) ≤ most) → AreWithin holders most (sized_reading place width signed complete inside tree)
reading-within holders most place width signed complete inside tree some h =
    sized-within holders most (nat_le 1 width && nat_le width most_bits) place (record { width = width; signed = signed }) complete inside tree some h

-- Names

name-within : (holders : Holders) (most : ℕ) → 1 ≤ most → (entry : Option ScopeEntry) (place : SourcePlace) (name : Identifier) → AreWithin holders most (name_reading entry place name)
name-within holders most some None place name = λ width signed. some
name-within holders most some (Some (ParameterEntry value signed)) place name = reading-within holders most place (length value) signed true [] (λ width whole. SizedConstant width whole value) some
    (λ width whole. some)
name-within holders most some (Some RefusedParameter) place name = λ width signed. some
name-within holders most some (Some WaitingParameter) place name = λ width signed. some
name-within holders most some (Some (NetEntry range signed)) place name = reading-within holders most place (range_width range) signed true [] _ some (λ width whole. some)
name-within holders most some (Some (RegEntry range signed)) place name = reading-within holders most place (range_width range) signed true [] _ some (λ width whole. some)
name-within holders most some (Some (MemoryEntry range first last signed)) place name = λ width whole. some
name-within holders most some (Some GateEntry) place name = λ width signed. some
name-within holders most some (Some InstanceEntry) place name = λ width signed. some

bit-within : (holders : Holders) (most : ℕ) (ranged : Bool) (place : SourcePlace) (name : Identifier) (index : Reading) → AreWithin holders most index →
    AreWithin holders (suc most) (bit_reading ranged place name index)
bit-within holders most true place name index h width signed = let low = h (size_or_bit index.size).width (size_or_bit index.size).signed in omega (arith, low)
bit-within holders most false place name index h width signed = omega arith

indexed-within : (holders : Holders) (most : ℕ) (entry : Option ScopeEntry) (place : SourcePlace) (name : Identifier) (index : Reading) → AreWithin holders most index →
    AreWithin holders (suc most) (indexed_reading entry place name index)
indexed-within holders most None place name index h = λ width signed. omega arith
indexed-within holders most (Some (NetEntry range signed)) place name index h = bit-within holders most range.ranged place name index h
indexed-within holders most (Some (RegEntry range signed)) place name index h = bit-within holders most range.ranged place name index h
indexed-within holders most (Some (MemoryEntry range first last signed)) place name index h =
    reading-within holders (suc most) place (range_width range) signed index.complete (alone_faults index) _ (omega arith)
    (λ width whole. let low = h (size_or_bit index.size).width (size_or_bit index.size).signed in omega (arith, low))
indexed-within holders most (Some (ParameterEntry value signed)) place name index h = λ width whole. omega arith
indexed-within holders most (Some RefusedParameter) place name index h = λ width whole. omega arith
indexed-within holders most (Some WaitingParameter) place name index h = λ width whole. omega arith
indexed-within holders most (Some GateEntry) place name index h = λ width whole. omega arith
indexed-within holders most (Some InstanceEntry) place name index h = λ width whole. omega arith

part_if-within : (holders : Holders) (most : ℕ) → 1 ≤ most → (alike : Bool) (place : SourcePlace) (name : Identifier) (inside : List Fault) (from to : ℕ) →
    AreWithin holders most (part_if alike place name inside from to)
part_if-within holders most some true place name inside from to = reading-within holders most place (span from to) false true inside _ some (λ width whole. some)
part_if-within holders most some false place name inside from to = λ width whole. some

part_between-within : (holders : Holders) (most : ℕ) → 1 ≤ most → (range : DeclaredRange) (place : SourcePlace) (name : Identifier) (inside : List Fault) (from to : Option ℕ) →
    AreWithin holders most (part_between range place name inside from to)
part_between-within holders most some range place name inside None to = λ width whole. some
part_between-within holders most some range place name inside (Some from) None = λ width whole. some
part_between-within holders most some range place name inside (Some from) (Some to) = part_if-within holders most some (runs_alike range from to) place name inside from to

part-within : (holders : Holders) (most : ℕ) → 1 ≤ most → (ranged : Bool) (range : DeclaredRange) (place : SourcePlace) (name : Identifier) (inside : List Fault) (from to : Option ℕ) →
    AreWithin holders most (part_reading ranged range place name inside from to)
part-within holders most some true range place name inside from to = part_between-within holders most some range place name inside from to
part-within holders most some false range place name inside from to = λ width whole. some

ranged-within : (holders : Holders) (most : ℕ) → 1 ≤ most → (entry : Option ScopeEntry) (place : SourcePlace) (name : Identifier) (inside : List Fault) (from to : Option ℕ) →
    AreWithin holders most (ranged_reading entry place name inside from to)
ranged-within holders most some None place name inside from to = λ width whole. some
ranged-within holders most some (Some (NetEntry range signed)) place name inside from to = part-within holders most some range.ranged range place name inside from to
ranged-within holders most some (Some (RegEntry range signed)) place name inside from to = part-within holders most some range.ranged range place name inside from to
ranged-within holders most some (Some (MemoryEntry range first last signed)) place name inside from to = λ width whole. some
ranged-within holders most some (Some (ParameterEntry value signed)) place name inside from to = λ width whole. some
ranged-within holders most some (Some RefusedParameter) place name inside from to = λ width whole. some
ranged-within holders most some (Some WaitingParameter) place name inside from to = λ width whole. some
ranged-within holders most some (Some GateEntry) place name inside from to = λ width whole. some
ranged-within holders most some (Some InstanceEntry) place name inside from to = λ width whole. some

-- Operators

unary-within : (holders : Holders) (most : ℕ) (sizing : UnarySizing) (operator : UnaryOperator) (a : Reading) → AreWithin holders most a →
    AreWithin holders (suc most) (unary_reading sizing operator a)
unary-within holders most OperandWithWhole operator a h width signed = let low = h width signed in omega (arith, low)
unary-within holders most OperandAlone operator a h width signed = let low = h (size_or_bit a.size).width (size_or_bit a.size).signed in omega (arith, low)

binary-within : (holders : Holders) (most : ℕ) (sizing : BinarySizing) (operator : BinaryOperator) (a b : Reading) → AreWithin holders most a → AreWithin holders most b →
    AreWithin holders (suc most) (binary_reading sizing operator a b)
binary-within holders most BothWithWhole operator a b h k width signed = let one = h width signed in let other = k width signed in omega (arith, one, other)
binary-within holders most LeftWithWhole operator a b h k width signed = let one = h width signed in let other = k (size_or_bit b.size).width (size_or_bit b.size).signed in omega (arith, one, other)
binary-within holders most BothTogether operator a b h k width signed =
    let size = size_or_bit (larger_size a.size b.size) in let one = h size.width size.signed in let other = k size.width size.signed in omega (arith, one, other)
binary-within holders most EachAlone operator a b h k width signed =
    let one = h (size_or_bit a.size).width (size_or_bit a.size).signed in let other = k (size_or_bit b.size).width (size_or_bit b.size).signed in omega (arith, one, other)

choice-within : (holders : Holders) (most : ℕ) (c a b : Reading) → AreWithin holders most c → AreWithin holders most a → AreWithin holders most b → AreWithin holders (suc most) (choice_reading c a b)
choice-within holders most c a b g h k width signed =
    let test = g (size_or_bit c.size).width (size_or_bit c.size).signed in let one = h width signed in let other = k width signed in omega (arith, test, one, other)

-- Concatenations

abbrev PartsWithin : Holders → ℕ → PartsReading → Type 0
PartsWithin holders most read = levels_of_parts (all_over_objects holders read.trees) ≤ most

parts-before : (holders : Holders) (most : ℕ) (unsized : Bool) (place : SourcePlace) (reading : Reading) (rest : PartsReading) → AreWithin holders most reading → PartsWithin holders most rest →
    PartsWithin holders most (part_before unsized place reading rest)
parts-before holders most true place reading rest h k = let one = h (size_or_bit reading.size).width (size_or_bit reading.size).signed in omega (arith, one, k)
parts-before holders most false place reading rest h k = let one = h (size_or_bit reading.size).width (size_or_bit reading.size).signed in omega (arith, one, k)

concatenation-within : (holders : Holders) (most : ℕ) (place : SourcePlace) (width : Option ℕ) (complete : Bool) (inside : List Fault) (trees : SizedExpressions) →
    levels_of_parts (all_over_objects holders trees) ≤ most →
    AreWithin holders (suc most) (concatenation_reading place width complete inside trees)
concatenation-within holders most place None complete inside trees h = λ width signed. omega arith
concatenation-within holders most place (Some total) complete inside trees h = reading-within holders (suc most) place total false complete inside _ (omega arith) (λ width whole. omega (arith, h))

replication-within : (holders : Holders) (most : ℕ) (place : SourcePlace) (count width : Option ℕ) (complete : Bool) (inside : List Fault) (trees : SizedExpressions) →
    levels_of_parts (all_over_objects holders trees) ≤ most →
    AreWithin holders (suc most) (replication_reading place count width complete inside trees)
replication-within holders most place None width complete inside trees h = λ size signed. omega arith
replication-within holders most place (Some count) None complete inside trees h = λ size signed. omega arith
replication-within holders most place (Some count) (Some total) complete inside trees h =
    reading-within holders (suc most) place (count * total) false complete inside _ (omega arith) (λ width whole. omega (arith, h))

-- more levels are no fewer
within-more : (holders : Holders) (most more : ℕ) (reading : Reading) → most ≤ more → AreWithin holders most reading → AreWithin holders more reading
within-more holders most more reading low h width signed = let here = h width signed in omega (arith, low, here)

-- Expressions

mutual
  -- the trees of an expression have no more levels than the expression
  pub tree-within : (holders : Holders) (scope : Scope) (e : SourceExpression) → AreWithin holders (suc (height_of e)) (reading_of scope e)
  tree-within holders scope (Number place form value) =
      reading-within holders 1 place (length value) (is_signed_number form value) true [] (λ width signed. SizedConstant width signed value) (omega arith) (λ width whole. omega arith)
  tree-within holders scope (Selected place name index) = select-within holders scope place name index
  tree-within holders scope (Parenthesised place inner) = within-more holders (suc (height_of inner)) (suc (suc (height_of inner))) (reading_of scope inner) (omega arith)
      (tree-within holders scope inner)
  tree-within holders scope (Prefixed place operator operand) = unary-within holders (suc (height_of operand)) (unary_sizing operator) operator (reading_of scope operand)
      (tree-within holders scope operand)
  tree-within holders scope (Infixed place operator left right) =
      let most = suc (max (height_of left) (height_of right)) in
      binary-within holders most (binary_sizing operator) operator (reading_of scope left) (reading_of scope right)
      (within-more holders (suc (height_of left)) most (reading_of scope left) (omega arith) (tree-within holders scope left))
      (within-more holders (suc (height_of right)) most (reading_of scope right) (omega arith) (tree-within holders scope right))
  tree-within holders scope (Chosen place condition first second) =
      let most = suc (max (height_of condition) (max (height_of first) (height_of second))) in
      choice-within holders most (reading_of scope condition) (reading_of scope first) (reading_of scope second)
      (within-more holders (suc (height_of condition)) most (reading_of scope condition) (omega arith) (tree-within holders scope condition))
      (within-more holders (suc (height_of first)) most (reading_of scope first) (omega arith) (tree-within holders scope first))
      (within-more holders (suc (height_of second)) most (reading_of scope second) (omega arith) (tree-within holders scope second))
  tree-within holders scope (Concatenated place parts) =
      let read = parts_reading scope parts in
      concatenation-within holders (suc (heights_of parts)) place read.width read.complete read.inside read.trees (parts-within holders scope parts)
  tree-within holders scope (Replicated place count parts) =
      let read = parts_reading scope parts in
      let times = reading_of scope count in
      within-more holders (suc (suc (heights_of parts))) (suc (suc (max (height_of count) (heights_of parts)))) (reading_of scope (Replicated place count parts)) (omega arith)
      (replication-within holders (suc (heights_of parts)) place (natural_constant (constant_reading scope 0 count times)) read.width read.complete (read.inside ++ alone_faults times) read.trees
      (parts-within holders scope parts))

  select-within : (holders : Holders) (scope : Scope) (place : SourcePlace) (name : Identifier) (index : SourceIndex) →
      AreWithin holders (suc (index_height index)) (select_reading scope place name index)
  select-within holders scope place name NoIndex = name-within holders 1 (omega arith) (looked_up scope name) place name
  select-within holders scope place name (IndexAt index) = indexed-within holders (suc (height_of index)) (looked_up scope name) place name (reading_of scope index) (tree-within holders scope index)
  select-within holders scope place name (IndexRange from to) =
      let first = reading_of scope from in
      let second = reading_of scope to in
      ranged-within holders (suc (suc (max (height_of from) (height_of to)))) (omega arith) (looked_up scope name) place name (alone_faults first ++ alone_faults second)
      (natural_constant (constant_reading scope 0 from first)) (natural_constant (constant_reading scope 0 to second))

  parts-within : (holders : Holders) (scope : Scope) (parts : SourceExpressions) → PartsWithin holders (suc (heights_of parts)) (parts_reading scope parts)
  parts-within holders scope no_parts = omega arith
  parts-within holders scope (more_parts first rest) =
      let most = suc (max (height_of first) (heights_of rest)) in
      let later = parts-within holders scope rest in
      parts-before holders most (is_unsized_number first) (place_of_expression first) (reading_of scope first) (parts_reading scope rest)
      (within-more holders (suc (height_of first)) most (reading_of scope first) (omega arith) (tree-within holders scope first)) (omega (arith, later))

-- Statements

alone-levels : (meaning : Meaning) (e : SourceExpression) → levels_of (alone_expression meaning e) ≤ suc (height_of e)
alone-levels meaning e = let size = size_or_bit (reading_of meaning.scope e).size in tree-within meaning.holders meaning.scope e size.width size.signed

assigned-levels : (meaning : Meaning) (target : SourceTarget) (e : SourceExpression) → levels_of (assigned_expression meaning target e) ≤ suc (height_of e)
assigned-levels meaning target e =
    let size = size_or_bit (reading_of meaning.scope e).size in tree-within meaning.holders meaning.scope e (max (target_width_in ByProcess meaning.scope target) size.width) size.signed

indexed-levels : (test : Bool) (meaning : Meaning) (name : Identifier) (index : SourceExpression) → levels_of_target (indexed_target test meaning name index) ≤ suc (suc (height_of index))
indexed-levels true meaning name index = let low = alone-levels meaning index in omega (arith, low)
indexed-levels false meaning name index = let low = alone-levels meaning index in omega (arith, low)

target-levels : (meaning : Meaning) (name : Identifier) (index : SourceIndex) → levels_of_target (target_by_index meaning name index) ≤ suc (index_height index)
target-levels meaning name NoIndex = omega arith
target-levels meaning name (IndexAt index) = indexed-levels (is_memory (looked_up meaning.scope name)) meaning name index
target-levels meaning name (IndexRange from to) = omega arith

selects-levels : (meaning : Meaning) (selects : List SourceSelect) → levels_of_targets (map (λ (s : SourceSelect). target_by_index meaning s.name s.index) selects) ≤ suc (select_heights selects)
selects-levels meaning [] = omega arith
selects-levels meaning (s ∷ rest) = let one = target-levels meaning s.name s.index in let later = selects-levels meaning rest in omega (arith, one, later)

targets-levels : (meaning : Meaning) (target : SourceTarget) → levels_of_targets (targets_over meaning target) ≤ suc (target_height target)
targets-levels meaning (OneSelect select) = let one = target-levels meaning select.name select.index in omega (arith, one)
targets-levels meaning (JoinedSelects place selects) = let all = selects-levels meaning selects in omega (arith, all)

labels-levels : (meaning : Meaning) (size : Option Size) (labels : SourceExpressions) → levels_of_parts (label_expressions meaning size labels) ≤ suc (heights_of labels)
labels-levels meaning size no_parts = omega arith
labels-levels meaning size (more_parts label rest) =
    let one = tree-within meaning.holders meaning.scope label (size_or_bit size).width (size_or_bit size).signed in
    let later = labels-levels meaning size rest in
    omega (arith, one, later)

mutual
  -- a statement over objects has no more levels than the statement
  pub statement-levels : (meaning : Meaning) (s : SourceStatement) → levels_of_statement (statement_over meaning s) ≤ suc (statement_height s)
  statement-levels meaning (NullStatement place) = omega arith
  statement-levels meaning (BlockStatement place statements) = let all = statements-levels meaning statements in omega (arith, all)
  statement-levels meaning (IfStatement place condition first) = let test = alone-levels meaning condition in let one = statement-levels meaning first in omega (arith, test, one)
  statement-levels meaning (IfElseStatement place condition first second) =
      let test = alone-levels meaning condition in let one = statement-levels meaning first in let other = statement-levels meaning second in omega (arith, test, one, other)
  statement-levels meaning (CaseStatement place kind value items) =
      let size = size_or_bit (items_size meaning.scope items (reading_of meaning.scope value).size) in
      let test = tree-within meaning.holders meaning.scope value size.width size.signed in
      let all = items-levels meaning (items_size meaning.scope items (reading_of meaning.scope value).size) items in
      let default = default-levels meaning items in
      omega (arith, test, all, default)
  statement-levels meaning (ForStatement place first_target first condition next_target next body) =
      let a = targets-levels meaning first_target in
      let b = assigned-levels meaning first_target first in
      let c = alone-levels meaning condition in
      let d = targets-levels meaning next_target in
      let e = assigned-levels meaning next_target next in
      let f = statement-levels meaning body in
      omega (arith, a, b, c, d, e, f)
  statement-levels meaning (WhileStatement place condition body) = let test = alone-levels meaning condition in let one = statement-levels meaning body in omega (arith, test, one)
  statement-levels meaning (RepeatStatement place count body) = let test = alone-levels meaning count in let one = statement-levels meaning body in omega (arith, test, one)
  statement-levels meaning (ForeverStatement place body) = let one = statement-levels meaning body in omega (arith, one)
  statement-levels meaning (WaitStatement place condition body) = let test = alone-levels meaning condition in let one = statement-levels meaning body in omega (arith, test, one)
  statement-levels meaning (EventStatement place waits body) = let one = statement-levels meaning body in omega (arith, one)
  statement-levels meaning (DelayStatement place delay body) = let one = statement-levels meaning body in omega (arith, one)
  statement-levels meaning (BlockingStatement place target delay value) = let one = targets-levels meaning target in let other = assigned-levels meaning target value in omega (arith, one, other)
  statement-levels meaning (NonblockingStatement place target delay value) = let one = targets-levels meaning target in let other = assigned-levels meaning target value in omega (arith, one, other)
  statement-levels meaning (IgnoredTask place) = omega arith
  statement-levels meaning (FinishTask place) = omega arith

  statements-levels : (meaning : Meaning) (statements : SourceStatements) → levels_of_statements (statements_over meaning statements) ≤ body_height statements
  statements-levels meaning no_source_statements = omega arith
  statements-levels meaning (more_source_statements first rest) = let one = statement-levels meaning first in let later = statements-levels meaning rest in omega (arith, one, later)

  items-levels : (meaning : Meaning) (size : Option Size) (items : SourceCaseItems) → levels_of_items (items_over meaning size items) ≤ suc (items_height items)
  items-levels meaning size no_source_items = omega arith
  items-levels meaning size (labelled labels statement rest) =
      let all = labels-levels meaning size labels in let one = statement-levels meaning statement in let later = items-levels meaning size rest in omega (arith, all, one, later)
  items-levels meaning size (otherwise statement rest) = let later = items-levels meaning size rest in omega (arith, later)

  default-levels : (meaning : Meaning) (items : SourceCaseItems) → levels_of_statement (default_over meaning items) ≤ suc (items_height items)
  default-levels meaning no_source_items = omega arith
  default-levels meaning (labelled labels statement rest) = let later = default-levels meaning rest in omega (arith, later)
  default-levels meaning (otherwise statement rest) = let one = statement-levels meaning statement in omega (arith, one)
