-- The rules that a design or a plan keeps are facts with one proof, so they may be taken out of what a value carries (nothing of the language).
use Rattle.std.specs.Prelude.{◌≡◌, ◌≢◌, ℕ, ◌+◌, ◌≤◌, ◌<◌, Bool, false, List, [], ◌∷◌, length, map, Option, Some, None, IsTrue}
use Rattle.std.specs.Coded.{×_prop, Unit-prop}
use Rattle.std.specs.List.{AllZip, IsDistinct-prop}
use Rattle.std.proofs.Math.Logic.{∥∥₁_elim}
use Rattle.std.proofs.Props.{props}
use Rattle.vf_base.specs.Lists.{has, AllHold}
use Rattle.v_design.specs.Trees.{Expression, Constant, Name, BitSelect, PartSelect, WordSelect, Unary, Binary, Conditional, Concatenation, Replication, Expressions, no_expressions, more_expressions}
use Rattle.v_design.specs.Trees.{Target, WholeTarget, BitTarget, PartTarget, WordTarget, Statement, Null, Block, If, Case, For, While, Repeat, Forever, Delay, EventControl, Wait, Blocking}
use Rattle.v_design.specs.Trees.{Nonblocking, Finish, Statements, no_statements, more_statements, CaseItems, no_items, more_items}
use Rattle.v_design.specs.Expressions.{width_of, sign_of}
use Rattle.v_design.specs.Designs.{FlatObject, NameJoined, FlatNodeKind, AssignNode, GateNode, BlockNode, FlatNode, FlatProcess, FlatDesign, width_in, TestPlan}
use Rattle.v_design.specs.Paths.{net_pieces}
use Rattle.v_design.specs.Places.{same_place, places_in, PlacesDiffer}
use Rattle.v_design.specs.Reads.{written_objects, entries_in}
use Rattle.v_design.specs.CombinationalForm.{WritesOutputs}
use Rattle.v_design.specs.Sites.{AllDiffer, expressions_count, site_name, sites_of}
use Rattle.v_design.specs.WellFormed.{TerminalsFit, AreTerminals, IsSizedNode, IsSizedObject, IsSizedName, IsEntryOf, ends_word, IsOneWord, HasNamesOfOneWord, IsNodeOf, IsProcessOf, KeepsRules}
use Rattle.v_design.specs.WellFormed.{IsAscending, IsPlan}
use Rattle.four_value.specs.declared.operator.GateKind.{GateKind}
use Rattle.four_value.specs.declared.operator.GateKind.TheVariants.{And, Nand, Or, Nor, Xor, Xnor, Buf, Not}
use Rattle.v_design.specs.Sized.{UnarySizing, OperandWithWhole, OperandAlone, UnaryAgrees, BinarySizing, BothWithWhole, LeftWithWhole, BothTogether, EachAlone, BinaryAgrees, IsSized, AreSizedAlone}
use Rattle.v_design.specs.Sized.{IsSizedTarget, IsSizedAssignment, IsSizedEntry, AreLabels, IsDelayIf, IsSizedStatement, AreSizedStatements, AreSizedItems}

-- a fact of each element
pub AllHold-prop : {A : Type 0} (P : A → Type 0) (xs : List A) → ((x : A) → IsProp (P x)) → IsProp (AllHold P xs)
AllHold-prop P [] each = Unit-prop
AllHold-prop P (x ∷ xs) each = ×_prop (each x) (AllHold-prop P xs each)

unary_agrees-prop : (sizing : UnarySizing) (width : ℕ) (signed : Bool) (a : Expression) → IsProp (UnaryAgrees sizing width signed a)
unary_agrees-prop OperandWithWhole width signed a = hlevel props
unary_agrees-prop OperandAlone width signed a = hlevel props

binary_agrees-prop : (sizing : BinarySizing) (width : ℕ) (signed : Bool) (a b : Expression) → IsProp (BinaryAgrees sizing width signed a b)
binary_agrees-prop BothWithWhole width signed a b = hlevel props
binary_agrees-prop LeftWithWhole width signed a b = hlevel props
binary_agrees-prop BothTogether width signed a b = hlevel props
binary_agrees-prop EachAlone width signed a b = hlevel props

mutual
  is_sized-prop : (e : Expression) → IsProp (IsSized e)
  is_sized-prop (Constant width signed value) = hlevel props
  is_sized-prop (Name width signed v) = hlevel props
  is_sized-prop (BitSelect width signed v index) = hlevel (props, is_sized-prop index)
  is_sized-prop (PartSelect width signed v from to) = hlevel props
  is_sized-prop (WordSelect width signed m index) = hlevel (props, is_sized-prop index)
  is_sized-prop (Unary width signed operator a) = hlevel (props, unary_agrees-prop, is_sized-prop a)
  is_sized-prop (Binary width signed operator a b) = hlevel (props, binary_agrees-prop, is_sized-prop a, is_sized-prop b)
  is_sized-prop (Conditional width signed c a b) = hlevel (props, is_sized-prop c, is_sized-prop a, is_sized-prop b)
  is_sized-prop (Concatenation width signed parts) = hlevel (props, sized_alone-prop parts)
  is_sized-prop (Replication width signed count parts) = hlevel (props, sized_alone-prop parts)

  sized_alone-prop : (parts : Expressions) → IsProp (AreSizedAlone parts)
  sized_alone-prop no_expressions = Unit-prop
  sized_alone-prop (more_expressions part rest) = hlevel (props, is_sized-prop part, sized_alone-prop rest)

is_sized_target-prop : (target : Target) → IsProp (IsSizedTarget target)
is_sized_target-prop (WholeTarget variable) = hlevel props
is_sized_target-prop (BitTarget variable index) = hlevel (props, is_sized-prop)
is_sized_target-prop (PartTarget variable from to) = hlevel props
is_sized_target-prop (WordTarget memory index) = hlevel (props, is_sized-prop)

is_sized_assignment-prop : (targets : List Target) (value : Expression) → IsProp (IsSizedAssignment targets value)
is_sized_assignment-prop targets value = hlevel (props, AllHold-prop IsSizedTarget targets is_sized_target-prop, is_sized-prop value)

are_labels-prop : (width : ℕ) (signed : Bool) (labels : Expressions) → IsProp (AreLabels width signed labels)
are_labels-prop width signed no_expressions = Unit-prop
are_labels-prop width signed (more_expressions label rest) = hlevel (props, is_sized-prop label, are_labels-prop width signed rest)

is_delay_if-prop : (delay : Option ℕ) → IsProp (IsDelayIf delay)
is_delay_if-prop None = Unit-prop
is_delay_if-prop (Some delay) = hlevel props

mutual
  is_sized_statement-prop : (s : Statement) → IsProp (IsSizedStatement s)
  is_sized_statement-prop Null = Unit-prop
  is_sized_statement-prop (Block statements) = are_sized_statements-prop statements
  is_sized_statement-prop (If place condition first second) = hlevel (props, is_sized-prop condition, is_sized_statement-prop first, is_sized_statement-prop second)
  is_sized_statement-prop (Case place kind value items default) = hlevel (props, is_sized-prop value, are_sized_items-prop (width_of value) (sign_of value) items, is_sized_statement-prop default)
  is_sized_statement-prop (For place first_targets first condition next_targets next body) =
      hlevel (props, is_sized_assignment-prop first_targets first, is_sized-prop condition, is_sized_assignment-prop next_targets next, is_sized_statement-prop body)
  is_sized_statement-prop (While place condition body) = hlevel (props, is_sized-prop condition, is_sized_statement-prop body)
  is_sized_statement-prop (Repeat place count body) = hlevel (props, is_sized-prop count, is_sized_statement-prop body)
  is_sized_statement-prop (Forever place body) = is_sized_statement-prop body
  is_sized_statement-prop (Delay place delay body) = hlevel (props, is_sized_statement-prop body)
  is_sized_statement-prop (EventControl place entries body) =
      hlevel (props, AllHold-prop IsSizedEntry entries (λ entry. hlevel props), is_sized_statement-prop body)
  is_sized_statement-prop (Wait place condition body) = hlevel (props, is_sized-prop condition, is_sized_statement-prop body)
  is_sized_statement-prop (Blocking place targets delay value) = hlevel (props, is_sized_assignment-prop targets value, is_delay_if-prop delay)
  is_sized_statement-prop (Nonblocking place targets delay value) = hlevel (props, is_sized_assignment-prop targets value)
  is_sized_statement-prop (Finish place) = Unit-prop

  are_sized_statements-prop : (all : Statements) → IsProp (AreSizedStatements all)
  are_sized_statements-prop no_statements = Unit-prop
  are_sized_statements-prop (more_statements first rest) = hlevel (props, is_sized_statement-prop first, are_sized_statements-prop rest)

  are_sized_items-prop : (width : ℕ) (signed : Bool) (items : CaseItems) → IsProp (AreSizedItems width signed items)
  are_sized_items-prop width signed no_items = Unit-prop
  are_sized_items-prop width signed (more_items labels statement rest) =
      hlevel (props, are_labels-prop width signed labels, is_sized_statement-prop statement, are_sized_items-prop width signed rest)

-- Nodes

terminals_fit-prop : (kind : GateKind) (count : ℕ) → IsProp (TerminalsFit kind count)
terminals_fit-prop And count = hlevel props
terminals_fit-prop Nand count = hlevel props
terminals_fit-prop Or count = hlevel props
terminals_fit-prop Nor count = hlevel props
terminals_fit-prop Xor count = hlevel props
terminals_fit-prop Xnor count = hlevel props
terminals_fit-prop Buf count = hlevel props
terminals_fit-prop Not count = hlevel props

are_terminals-prop : (terminals : Expressions) → IsProp (AreTerminals terminals)
are_terminals-prop no_expressions = Unit-prop
are_terminals-prop (more_expressions terminal rest) = hlevel (props, is_sized-prop terminal, are_terminals-prop rest)

all_zip-prop : {A B : Type 0} (P : A → B → Type 0) (xs : List A) (ys : List B) → ((x : A) (y : B) → IsProp (P x y)) → IsProp (AllZip P xs ys)
all_zip-prop P [] [] each = hlevel props
all_zip-prop P [] (y ∷ ys) each = hlevel props
all_zip-prop P (x ∷ xs) [] each = hlevel props
all_zip-prop P (x ∷ xs) (y ∷ ys) each = ×_prop (each x y) (all_zip-prop P xs ys each)

is_sized_node-prop : (design : FlatDesign) (kind : FlatNodeKind) (outputs : List ℕ) → IsProp (IsSizedNode design kind outputs)
is_sized_node-prop design (AssignNode value places) outputs =
    hlevel (props, is_sized-prop value, all_zip-prop (λ object place. place + width_in design object ≤ width_of value) outputs places (λ object place. hlevel props))
is_sized_node-prop design (GateNode kind terminals) outputs =
    hlevel (
      props,
      terminals_fit-prop kind (expressions_count terminals),
      are_terminals-prop terminals,
      AllHold-prop (λ object. width_in design object ≡ 1) outputs (λ object. hlevel props),
    )
is_sized_node-prop design (BlockNode statement) outputs = is_sized_statement-prop statement

writes_outputs-prop : (kind : FlatNodeKind) (outputs : List ℕ) → IsProp (WritesOutputs kind outputs)
writes_outputs-prop (AssignNode value places) outputs = Unit-prop
writes_outputs-prop (GateNode kind terminals) outputs = hlevel props
writes_outputs-prop (BlockNode statement) outputs = hlevel props

all_differ-prop : (names : List (List ℕ)) → IsProp (AllDiffer names)
all_differ-prop [] = Unit-prop
all_differ-prop (name ∷ names) = ×_prop (AllHold-prop (λ other. name ≢ other) names (λ other. hlevel props)) (all_differ-prop names)

is_node_of-prop : (design : FlatDesign) (node : FlatNode) → IsProp (IsNodeOf design node)
is_node_of-prop design node =
    hlevel (
      props,
      writes_outputs-prop node.kind node.outputs,
      is_sized_node-prop design node.kind node.outputs,
      AllHold-prop (λ object. object < length design.objects) node.inputs (λ object. hlevel props),
      AllHold-prop (λ object. IsTrue (has (net_pieces design) object)) node.outputs (λ object. hlevel props),
    )

is_process_of-prop : (design : FlatDesign) (process : FlatProcess) → IsProp (IsProcessOf design process)
is_process_of-prop design process =
    hlevel (
      props,
      is_sized_statement-prop process.body,
      AllHold-prop (IsEntryOf design) (entries_in process.body) (λ entry. hlevel props),
      AllHold-prop (λ object. has (net_pieces design) object ≡ false) (written_objects process.body) (λ object. hlevel props),
    )

-- Names

is_one_word-prop : (name : List ℕ) → IsProp (IsOneWord name)
is_one_word-prop name = AllHold-prop (λ byte. ends_word byte ≡ false) name (λ byte. hlevel props)

has_names_of_one_word-prop : (design : FlatDesign) → IsProp (HasNamesOfOneWord design)
has_names_of_one_word-prop design =
    hlevel (
      props,
      AllHold-prop (λ (object : FlatObject). IsOneWord object.name) design.objects (λ object. is_one_word-prop object.name),
      AllHold-prop (λ (name : NameJoined). IsOneWord name.name) design.joined (λ name. is_one_word-prop name.name),
      AllHold-prop (λ (node : FlatNode). IsOneWord node.name) design.nodes (λ node. is_one_word-prop node.name),
    )

-- The rules of a design

keeps_rules-prop : (design : FlatDesign) → IsProp (KeepsRules design)
keeps_rules-prop design =
    hlevel (
      props,
      AllHold-prop IsSizedObject design.objects (λ object. hlevel props),
      AllHold-prop (IsSizedName design) design.joined (λ name. hlevel props),
      AllHold-prop (IsNodeOf design) design.nodes (is_node_of-prop design),
      AllHold-prop (IsProcessOf design) design.processes (is_process_of-prop design),
      AllHold-prop (λ (process : FlatProcess). PlacesDiffer process.body) design.processes (λ process. IsDistinct-prop same_place (places_in process.body)),
      has_names_of_one_word-prop design,
      all_differ-prop (map (site_name design) (sites_of design)),
    )

-- what a design carries: it keeps the rules of every flat design
pub rules_hold : (design : FlatDesign) → ∥ KeepsRules design ∥₁ → KeepsRules design
rules_hold design rules = ∥∥₁_elim rules (keeps_rules-prop design) (λ held. held)

-- The rules of a plan

is_ascending-prop : (times : List ℕ) → IsProp (IsAscending times)
is_ascending-prop [] = Unit-prop
is_ascending-prop (time ∷ times) = ×_prop (AllHold-prop (λ later. time < later) times (λ later. hlevel props)) (is_ascending-prop times)

is_plan-prop : (plan : TestPlan) → IsProp (IsPlan plan)
is_plan-prop plan = hlevel (props, is_ascending-prop plan.strobes, AllHold-prop (λ strobe. strobe ≤ plan.end) plan.strobes (λ strobe. hlevel props))

-- what a plan carries: its strobes ascend to its end at most, and its lists are within their limits
pub plan_rules_hold : (plan : TestPlan) → ∥ IsPlan plan ∥₁ → IsPlan plan
plan_rules_hold plan rules = ∥∥₁_elim rules (is_plan-prop plan) (λ held. held)
