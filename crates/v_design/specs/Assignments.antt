-- What an assignment writes, and the function of a node (IEEE 1364-2001, clause 6 and clause 9.2; gates by clause 7).
use Rattle.std.specs.Prelude.{◌≡◌, ℕ, ◌+◌, Bool, true, false, ◌||◌, List, [], ◌∷◌, map, length, Option, Some, None, get_or, slice_get, sum_by, fold}
use Rattle.vf_base.specs.Lists.{zip_with, change_at, map_numbered}
use Rattle.four_value.specs.Bits.{and_bit, or_bit, xor_bit, not_bit}
use Rattle.four_value.specs.Values.{LogicValue, bit_at, natural_number, is_true, part_of, with_part, reduced}
use Rattle.four_value.specs.Operators.{label_matches}
use Rattle.v_design.specs.Trees.{Expression, Expressions, no_expressions, more_expressions, Target, WholeTarget, BitTarget, PartTarget, WordTarget, Statement, Null, Block, If, Case, For, While}
use Rattle.v_design.specs.Trees.{Repeat, Forever, Delay, EventControl, Wait, Blocking, Nonblocking, Finish, Statements, no_statements, more_statements, CaseItems, no_items, more_items}
use Rattle.v_design.specs.Expressions.{sign_of, index_number, place_of_number, part_indexes, part_places, word_at, value_of, Progress, Has, then_with, read_expression}
use Rattle.v_design.specs.Designs.{FlatNode, FlatNodeKind, AssignNode, GateNode, BlockNode, Machine, width_in, forced_variable, forced_output, forced_terminal}
use Rattle.four_value.specs.declared.logic.Bit.{Bit}
use Rattle.four_value.specs.declared.logic.Bit.TheVariants.{Zero, One}
use Rattle.four_value.specs.declared.operator.CaseKind.{CaseKind}
use Rattle.four_value.specs.declared.operator.GateKind.{GateKind}
use Rattle.four_value.specs.declared.operator.GateKind.TheVariants.{And, Nand, Or, Nor, Xor, Xnor, Buf, Not}

-- bits that are written to an object from a place on, and the line of the statement that writes them
pub record ValueUpdate : Type 0 where
  pub object : ℕ
  pub low : ℕ
  pub value : LogicValue
  pub line : ℕ

-- Targets

-- the number of bits of a part-select
abbrev pub part_width : ℕ → ℕ → ℕ
part_width from to = length (part_indexes from to)

-- the number of bits that a target takes of the value
abbrev pub target_width : Target → ℕ
target_width (WholeTarget variable) = variable.width
target_width (BitTarget variable index) = 1
target_width (PartTarget variable from to) = part_width from to
target_width (WordTarget memory index) = memory.width

-- the bits of a part that lie in the range, as one update; none where no bit does
abbrev pub part_update : ℕ → ℕ → List (Option ℕ) → LogicValue → Option ValueUpdate
part_update line object [] value = None
part_update line object (None ∷ places) [] = None
part_update line object (None ∷ places) (b ∷ value) = part_update line object places value
part_update line object (Some place ∷ places) value = Some (record { object = object; low = place; value = value; line = line })

-- an update of one bit; none where the index selects none
abbrev pub bit_update : ℕ → ℕ → Option ℕ → LogicValue → Option ValueUpdate
bit_update line object None value = None
bit_update line object (Some place) value = Some (record { object = object; low = place; value = value; line = line })

-- an update of a memory word; none where the index selects none
abbrev pub word_update : ℕ → Option ℕ → LogicValue → Option ValueUpdate
word_update line None value = None
word_update line (Some object) value = Some (record { object = object; low = 0; value = value; line = line })

-- the number that a target's index spells, once it is read
abbrev pub read_index : Target → List LogicValue → Progress (Option ℕ)
read_index (WholeTarget variable) operands = Has None operands
read_index (BitTarget variable index) operands = then_with (read_expression index operands) (λ value left. Has (natural_number (sign_of index) value) left)
read_index (PartTarget variable from to) operands = Has None operands
read_index (WordTarget memory index) operands = then_with (read_expression index operands) (λ value left. Has (natural_number (sign_of index) value) left)

-- the update that a target gets of its part of the value; none where the index selects nothing
abbrev pub target_update : ℕ → Target → Option ℕ → LogicValue → Option ValueUpdate
target_update line (WholeTarget variable) index value = Some (record { object = variable.object; low = 0; value = value; line = line })
target_update line (BitTarget variable index) number value = bit_update line variable.object (place_of_number variable.high variable.low number) value
target_update line (PartTarget variable from to) index value = part_update line variable.object (part_places variable.high variable.low from to) value
target_update line (WordTarget memory index) number value = word_update line (word_at memory number) value

-- the width of the targets
abbrev pub targets_width : List Target → ℕ
targets_width targets = sum_by target_width targets

-- each target's part of the value, from the left: the last target gets the least significant bits, and what is wider than the targets is cut
abbrev pub target_updates : ℕ → List Target → List (Option ℕ) → LogicValue → List (Option ValueUpdate)
target_updates line [] indexes value = []
target_updates line (target ∷ targets) [] value = []
target_updates line (target ∷ targets) (index ∷ indexes) value =
    target_update line target index (part_of value (targets_width targets) (target_width target)) ∷ target_updates line targets indexes value

-- the indexes of several targets, from the left
abbrev pub read_indexes : List Target → List LogicValue → Progress (List (Option ℕ))
read_indexes [] operands = Has [] operands
read_indexes (target ∷ targets) operands =
    then_with (read_index target operands) (λ index rest. then_with (read_indexes targets rest) (λ indexes left. Has (index ∷ indexes) left))

-- an assignment reads its value, then the indexes of its targets
abbrev pub read_assignment : ℕ → List Target → Expression → List LogicValue → Progress (List (Option ValueUpdate))
read_assignment line targets value operands =
    then_with (read_expression value operands)
    (λ bits rest. then_with (read_indexes targets rest) (λ indexes left. Has (target_updates line targets indexes bits) left))

-- The values of all objects, as a list

-- the value of an object in a list of all values
abbrev pub value_at : List LogicValue → ℕ → LogicValue
value_at values object = get_or values object []

-- the values after an update; bits that fall outside are dropped
abbrev pub updated : List LogicValue → Option ValueUpdate → List LogicValue
updated values None = values
updated values (Some update) = change_at values update.object (λ old. with_part old update.low update.value)

-- A combinational block, run from start to end in one evaluation

-- the number that a target's index spells, over the values as they stand
abbrev pub index_value : List LogicValue → Target → Option ℕ
index_value values (WholeTarget variable) = None
index_value values (BitTarget variable index) = index_number (value_at values) index
index_value values (PartTarget variable from to) = None
index_value values (WordTarget memory index) = index_number (value_at values) index

-- the values after a blocking assignment within a block
abbrev pub assigned : ℕ → List LogicValue → List Target → Expression → List LogicValue
assigned line values targets value =
    fold updated values (target_updates line targets (map (index_value values) targets) (value_of (value_at values) value))

-- whether one of some labels matches a case's value
abbrev pub some_label_matches : CaseKind → LogicValue → List LogicValue → Bool
some_label_matches kind value [] = false
some_label_matches kind value (label ∷ labels) = label_matches kind value label || some_label_matches kind value labels

-- the values of several expressions
abbrev pub label_values : (ℕ → LogicValue) → Expressions → List LogicValue
label_values values no_expressions = []
label_values values (more_expressions first rest) = value_of values first ∷ label_values values rest

-- the one list of values or the other
abbrev pub either_values : Bool → List LogicValue → List LogicValue → List LogicValue
either_values true a b = a
either_values false a b = b

abbrev mutual
  -- the values after a statement of a combinational block
  pub run_statement : Statement → List LogicValue → List LogicValue
  run_statement Null values = values
  run_statement (Block statements) values = run_statements statements values
  run_statement (If place condition first second) values =
      either_values (is_true (value_of (value_at values) condition)) (run_statement first values) (run_statement second values)
  run_statement (Case place kind value items default) values =
      run_items kind (value_of (value_at values) value) items values (run_statement default values)
  run_statement (For place first_targets first condition next_targets next body) values = values
  run_statement (While place condition body) values = values
  run_statement (Repeat place count body) values = values
  run_statement (Forever place body) values = values
  run_statement (Delay place delay body) values = values
  run_statement (EventControl place entries body) values = values
  run_statement (Wait place condition body) values = values
  run_statement (Blocking place targets delay value) values = assigned place.line values targets value
  run_statement (Nonblocking place targets delay value) values = values
  run_statement (Finish place) values = values

  -- the values after several statements, in order
  pub run_statements : Statements → List LogicValue → List LogicValue
  run_statements no_statements values = values
  run_statements (more_statements first rest) values = run_statements rest (run_statement first values)

  -- the first item with a label that matches, else what the default gives
  pub run_items : CaseKind → LogicValue → CaseItems → List LogicValue → List LogicValue → List LogicValue
  run_items kind value no_items values otherwise = otherwise
  run_items kind value (more_items labels statement rest) values otherwise =
      either_values (some_label_matches kind value (label_values (value_at values) labels)) (run_statement statement values) (run_items kind value rest values otherwise)

-- The function of a node

-- the width of an object of a machine's design
abbrev pub object_width : Machine → ℕ → ℕ
object_width machine object = width_in machine.design object

-- the output of a gate over its input terminals, an x or z among them taken as x
abbrev pub gate_bit : GateKind → List Bit → Bit
gate_bit And bits = reduced and_bit One bits
gate_bit Nand bits = not_bit (reduced and_bit One bits)
gate_bit Or bits = reduced or_bit Zero bits
gate_bit Nor bits = not_bit (reduced or_bit Zero bits)
gate_bit Xor bits = reduced xor_bit Zero bits
gate_bit Xnor bits = not_bit (reduced xor_bit Zero bits)
gate_bit Buf bits = reduced xor_bit Zero bits
gate_bit Not bits = not_bit (reduced xor_bit Zero bits)

-- an assignment gives each output its bits of the value, a gate its bit, and a block what its statement leaves there
abbrev pub node_value : Machine → ℕ → FlatNodeKind → List ℕ → List LogicValue → List LogicValue
node_value machine node (AssignNode value places) outputs values =
    zip_with (λ object place. part_of (value_of (value_at values) value) place (object_width machine object)) outputs places
node_value machine node (GateNode kind terminals) outputs values =
    (gate_bit kind (map_numbered (λ number value. forced_terminal machine.fault node number (bit_at value 0)) 1 (label_values (value_at values) terminals)) ∷ []) ∷ []
node_value machine node (BlockNode statement) outputs values = map (value_at (run_statement statement values)) outputs

-- the function of a node: the values that it gives its outputs
abbrev pub node_outputs : Machine → ℕ → FlatNode → List LogicValue → List LogicValue
node_outputs machine number node values =
    zip_with (forced_output machine.fault number) node.outputs (node_value machine number node.kind node.outputs values)

-- the values with some objects' values put in
abbrev pub with_outputs : List ℕ → List LogicValue → List LogicValue → List LogicValue
with_outputs [] outputs values = values
with_outputs (object ∷ objects) [] values = values
with_outputs (object ∷ objects) (value ∷ outputs) values = with_outputs objects outputs (change_at values object (λ old. value))

-- each node's outputs equal its function of its inputs
abbrev pub AreSettled : Machine → List LogicValue → Type 0
AreSettled machine values =
    (number : ℕ) (node : FlatNode) → slice_get machine.design.nodes number ≡ Some node → map (value_at values) node.outputs ≡ node_outputs machine number node values

-- the nodes evaluated once each, in order
abbrev pub settled_from : Machine → ℕ → List FlatNode → List LogicValue → List LogicValue
settled_from machine number [] values = values
settled_from machine number (node ∷ nodes) values =
    settled_from machine (number + 1) nodes (with_outputs node.outputs (node_outputs machine number node values) values)

-- what the objects hold first: variables their first contents, and the nets what then follows
abbrev pub first_contents : Machine → List LogicValue
first_contents machine = map_numbered (λ number object. forced_variable machine.fault number object.first) 0 machine.design.objects

-- the first contents, and the nets settled on them
abbrev pub first_values : Machine → List LogicValue
first_values machine = settled_from machine 0 machine.design.nodes (first_contents machine)
