-- The unit of the generated design (gates by IEEE 1364-2001, clause 7, the always construct by clause 9.9; annex A for the tree).
use Rattle.std.specs.Prelude.{ℕ, List, [], ◌∷◌, ◌++◌, Some, None, false, codes}
use Rattle.std.specs.Fmt.{decimal}
use Rattle.std.specs.List.{flat_map}
use Rattle.vf_base.specs.Base.{source_place}
use Rattle.vf_base.specs.declared.ids.Place.{Place}
use Rattle.four_value.specs.Values.{bits_of}
use Rattle.four_value.specs.declared.logic.Edge.TheVariants.{Pos}
use Rattle.four_value.specs.declared.operator.GateKind.{GateKind}
use Rattle.four_value.specs.declared.operator.GateKind.TheVariants as gates
use Rattle.four_value.specs.declared.operator.UnaryOperator.TheVariants.{BitwiseNot}
use Rattle.v_tree.specs.declared.token.NumberForm.TheVariants.{Plain}
use Rattle.v_tree.specs.Trees.{Identifier, SourceExpression, Number, Selected, NoIndex, Prefixed, SourceSelect, SourceTarget, OneSelect, OnEntries, EventStatement, DelayStatement}
use Rattle.v_tree.specs.Trees.{BlockingStatement, NonblockingStatement, FirstContent, SourceItem, WireItem, RegItem, GateItem, AlwaysItem, PlainHeads, SourceModule, SourceUnit}
use Rattle.v_scan.specs.Texts.{place_behind, start}
use Rattle.soak_text.specs.declared.draws.Kind.{Kind}
use Rattle.soak_text.specs.declared.draws.Kind.TheVariants as kinds
use Rattle.soak_text.specs.declared.draws.Stage.{Stage}
use Rattle.soak_text.specs.Soak.{kind_text, register_line, wire_line, gate_line, clocked_line, stages_of}

-- Names

abbrev pub clock_name : Identifier
clock_name = codes "clk"

abbrev pub top_name : Identifier
top_name = codes "top"

-- a register, a wire and a gate have the number of their stage
abbrev pub register_name : ℕ → Identifier
register_name number = 114 ∷ decimal number

abbrev pub wire_name : ℕ → Identifier
wire_name number = 119 ∷ decimal number

abbrev pub gate_name : ℕ → Identifier
gate_name number = 103 ∷ decimal number

abbrev pub gate_kind : Kind → GateKind
gate_kind kinds.And = gates.And
gate_kind kinds.Nand = gates.Nand
gate_kind kinds.Or = gates.Or
gate_kind kinds.Nor = gates.Nor
gate_kind kinds.Xor = gates.Xor
gate_kind kinds.Xnor = gates.Xnor

-- Items, each at a place; what stands in a line stands behind its earlier tokens and blanks

abbrev pub behind_word : Place → List ℕ → Place
behind_word place word = place_behind (place_behind place word) (32 ∷ [])

abbrev pub whole_name : Identifier → Place → SourceExpression
whole_name name place = Selected (source_place place) name NoIndex

abbrev pub select_of : Identifier → Place → SourceSelect
select_of name place = record { place = source_place place; name = name; index = NoIndex }

abbrev pub target_of : Identifier → Place → SourceTarget
target_of name place = OneSelect (select_of name place)

abbrev pub variable_item : Identifier → ℕ → Place → SourceItem
variable_item name first place =
    let at_name = behind_word place (codes "reg") in
    let at_value = behind_word (behind_word at_name name) (codes "=") in
    RegItem (source_place place) false None (record { name = name; place = source_place at_name; content = FirstContent (Number (source_place at_value) Plain (bits_of 32 first)) } ∷ [])

-- the line that turns the clock over
abbrev pub clock_item : Place → SourceItem
clock_item place =
    let at_hash = behind_word place (codes "always") in
    let at_number = place_behind at_hash (codes "#") in
    let at_target = behind_word at_number (codes "5") in
    let at_not = behind_word (behind_word at_target clock_name) (codes "=") in
    AlwaysItem (source_place place) (DelayStatement (source_place at_hash) (Number (source_place at_number) Plain (bits_of 32 5))
    (BlockingStatement (source_place at_target) (target_of clock_name at_target) None (Prefixed (source_place at_not) BitwiseNot (whole_name clock_name (place_behind at_not (codes "~"))))))

abbrev pub wire_item : Stage → Place → SourceItem
wire_item stage place =
    WireItem (source_place place) false None (record { name = wire_name stage.number; place = source_place (behind_word place (codes "wire")); value = None } ∷ [])

abbrev pub gate_item : Stage → Place → SourceItem
gate_item stage place =
    let at_name = behind_word place (kind_text stage.kind) in
    let at_output = place_behind (place_behind at_name (gate_name stage.number)) (codes "(") in
    let at_left = behind_word (place_behind at_output (wire_name stage.number)) (codes ",") in
    let at_right = behind_word (place_behind at_left (register_name stage.left)) (codes ",") in
    GateItem (source_place place) (gate_kind stage.kind) (record {
      name = Some (record { name = gate_name stage.number; place = source_place at_name });
      output = target_of (wire_name stage.number) at_output;
      inputs = whole_name (register_name stage.left) at_left ∷ whole_name (register_name stage.right) at_right ∷ [];
    } ∷ [])

abbrev pub clocked_item : Stage → Place → SourceItem
clocked_item stage place =
    let at_event = behind_word place (codes "always") in
    let at_edge = place_behind (place_behind at_event (codes "@")) (codes "(") in
    let at_clock = behind_word at_edge (codes "posedge") in
    let at_target = behind_word (place_behind at_clock clock_name) (codes ")") in
    let at_value = behind_word (behind_word at_target (register_name stage.number)) (codes "<=") in
    AlwaysItem (source_place place) (EventStatement (source_place at_event) (OnEntries (record { edge = Pos; select = select_of clock_name at_clock } ∷ []))
    (NonblockingStatement (source_place at_target) (target_of (register_name stage.number) at_target) None (whole_name (wire_name stage.number) at_value)))

-- The unit

abbrev pub register_items : List Stage → Place → List SourceItem
register_items [] place = []
register_items (stage ∷ stages) place = variable_item (register_name stage.number) stage.first place ∷ register_items stages (place_behind place (register_line stage))

abbrev pub gate_items : List Stage → Place → List SourceItem
gate_items [] place = []
gate_items (stage ∷ stages) place =
    let at_gate = place_behind place (wire_line stage) in
    let at_process = place_behind at_gate (gate_line stage) in
    wire_item stage place ∷ gate_item stage at_gate ∷ clocked_item stage at_process ∷ gate_items stages (place_behind at_process (clocked_line stage))

-- the items behind the module's head, whose place is given
abbrev pub soak_items : List Stage → Place → List SourceItem
soak_items stages place =
    let at_clock = place_behind place (codes "reg clk = 0;\n") in
    let at_registers = place_behind at_clock (codes "always #5 clk = ~clk;\n") in
    variable_item clock_name 0 place ∷ clock_item at_clock ∷ (register_items stages at_registers ++ gate_items stages (place_behind at_registers (flat_map register_line stages)))

abbrev pub soak_module : List Stage → SourceModule
soak_module stages = record {
  name = top_name;
  place = source_place (behind_word start (codes "module"));
  parameters = [];
  heads = PlainHeads [];
  items = soak_items stages (place_behind start (codes "module top;\n"));
}

-- the unit of a number and a size
abbrev pub soak_unit : ℕ → ℕ → SourceUnit
soak_unit number size = record { modules = soak_module (stages_of number size) ∷ [] }
