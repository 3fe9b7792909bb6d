-- The faulty machines of one class have the same events, and so one grade (gates by IEEE 1364-2001, clause 7).
use Rattle.std.proofs.Common.{◌≡◌, ℕ, suc, ◌+◌, ◌<◌, ◌≤◌, Bool, true, false, ◌&&◌, List, [], ◌∷◌, map, length, Option, Some, None, refl, ap, sym, ◌∙◌, subst, arith, inl, inr}
use Rattle.std.specs.Prelude.{slice_get, nat_eq, nat_le, fold}
use Rattle.std.proofs.lemmas.Bool.{and_parts, or_cases, eqb-true, eq-eqb, false≢true, leb-true}
use Rattle.four_value.specs.Bits.{bit_of, and_bit, or_bit, xor_bit, not_bit, known_or_x}
use Rattle.four_value.specs.Values.{LogicValue, bit_at, part_of}
use Rattle.four_value.specs.declared.logic.Bit.{Bit}
use Rattle.four_value.specs.declared.logic.Bit.TheVariants.{Zero, One, X, Z}
use Rattle.four_value.specs.declared.operator.GateKind.{GateKind}
use Rattle.four_value.specs.declared.operator.GateKind.TheVariants.{And, Nand, Or, Nor, Xor, Xnor, Buf, Not}
use Rattle.vf_base.specs.Lists.{has, map_numbered, zip_with}
use Rattle.v_design.specs.Trees.{Expressions, no_expressions, more_expressions}
use Rattle.v_design.specs.Expressions.{value_of}
use Rattle.v_design.specs.Designs.{width_in, forced_output, FlatNode, FlatNodeKind, AssignNode, GateNode, BlockNode, FlatDesign, StuckAt, FaultSite, VariableBit, OutputBit, GateTerminal, TestPlan}
use Rattle.v_design.specs.Designs.{faulty_machine, stuck_if, forced_if}
use Rattle.v_design.specs.Assignments.{gate_bit, label_values, node_value, run_statement, node_outputs, settled_from, first_contents, with_outputs, value_at}
use Rattle.v_design.specs.States.{State, Event, Step, LaneStep, Evaluation, NetUpdate, start, after, with_node, evaluated}
use Rattle.v_design.specs.Accesses.{accesses_of}
use Rattle.v_design.specs.WellFormed.{TerminalsFit, IsSizedNode, KeepsRules, IsNodeOf}
use Rattle.v_design.specs.CombinationalForm.{WritesOutputs}
use Rattle.v_design.specs.Laws.{ClassesAgree}
use Rattle.fault_list.specs.FullGrades.{FullGradesAgree}
use Rattle.v_design.specs.Sites.{expressions_count, terminal_count, kind_forces, forces, node_forces, gate_forces, is_gate_pair, same_fault, joined_by}
use Rattle.v_design.specs.Grades.{grade, full_grade}
use Rattle.fault_list.proofs.Outputs.{AllHold-slice_get}
use Rattle.fault_list.proofs.SameEvents.{grade-same, full-same}

-- A gate with a terminal that is held

-- what a gate sees at its terminals, of which one is held
abbrev seen : ℕ → Bool → ℕ → List LogicValue → List Bit
seen t stuck from labels = map_numbered (λ number value. stuck_if (nat_eq t number) stuck (bit_at value 0)) from labels

zero-stays : (bits : List Bit) → fold and_bit Zero (map known_or_x bits) ≡ Zero
zero-stays [] = refl
zero-stays (b ∷ bits) = zero-stays bits

one-stays : (bits : List Bit) → fold or_bit One (map known_or_x bits) ≡ One
one-stays [] = refl
one-stays (b ∷ bits) = one-stays bits

and-zero : (start : Bit) → and_bit start Zero ≡ Zero
and-zero Zero = refl
and-zero One = refl
and-zero X = refl
and-zero Z = refl

or-one : (start : Bit) → or_bit start One ≡ One
or-one Zero = refl
or-one One = refl
or-one X = refl
or-one Z = refl

later : (t from : ℕ) → from ≤ t → nat_eq t from ≡ false → from + 1 ≤ t
later t from le other = let apart : t ≡ from → ⊥ = λ e. false≢true (sym other ∙ eq-eqb t from e) in omega arith

-- a 0 among the inputs of an and
and-held : (t : ℕ) (start : Bit) (from : ℕ) (labels : List LogicValue) → from ≤ t → t < from + length labels → fold and_bit start (map known_or_x (seen t false from labels)) ≡ Zero
and-held t start from [] low high = absurd (omega arith)
and-held t start from (value ∷ labels) low high =
    elim (nat_eq t from) as (λ b. nat_eq t from ≡ b → fold and_bit (and_bit start (known_or_x (stuck_if b false (bit_at value 0)))) (map known_or_x (seen t false (from + 1) labels)) ≡ Zero) [
      | true ↦ λ e. ap (λ s. fold and_bit s (map known_or_x (seen t false (from + 1) labels))) (and-zero start) ∙ zero-stays (seen t false (from + 1) labels)
      | false ↦ λ e. and-held t (and_bit start (known_or_x (bit_at value 0))) (from + 1) labels (later t from low e) (omega arith)
    ] refl

-- a 1 among the inputs of an or
or-held : (t : ℕ) (start : Bit) (from : ℕ) (labels : List LogicValue) → from ≤ t → t < from + length labels → fold or_bit start (map known_or_x (seen t true from labels)) ≡ One
or-held t start from [] low high = absurd (omega arith)
or-held t start from (value ∷ labels) low high =
    elim (nat_eq t from) as (λ b. nat_eq t from ≡ b → fold or_bit (or_bit start (known_or_x (stuck_if b true (bit_at value 0)))) (map known_or_x (seen t true (from + 1) labels)) ≡ One) [
      | true ↦ λ e. ap (λ s. fold or_bit s (map known_or_x (seen t true (from + 1) labels))) (or-one start) ∙ one-stays (seen t true (from + 1) labels)
      | false ↦ λ e. or-held t (or_bit start (known_or_x (bit_at value 0))) (from + 1) labels (later t from low e) (omega arith)
    ] refl

-- the one input of a buf or a not
one-held : (stuck : Bool) (t : ℕ) (labels : List LogicValue) → length labels ≡ 1 → 1 ≤ t → t ≤ length labels → fold xor_bit Zero (map known_or_x (seen t stuck 1 labels)) ≡ bit_of stuck
one-held stuck t [] one low high = absurd (omega arith)
one-held stuck t (value ∷ next ∷ labels) one low high = absurd (omega arith)
one-held stuck t (value ∷ []) one low high =
    let e : nat_eq t 1 ≡ true = eq-eqb t 1 (omega arith) in
    ap (λ b. xor_bit Zero (known_or_x (stuck_if b stuck (bit_at value 0)))) e ∙ known stuck
  where
    known : (stuck : Bool) → xor_bit Zero (known_or_x (bit_of stuck)) ≡ bit_of stuck
    known true = refl
    known false = refl

-- a terminal that is held holds the output
gate-held : (kind : GateKind) (input output : Bool) (t : ℕ) (labels : List LogicValue) → forces kind input output ≡ true → 1 ≤ t → t ≤ length labels → TerminalsFit kind (length labels) →
    gate_bit kind (seen t input 1 labels) ≡ bit_of output
gate-held And true true t labels e low high fit = absurd (false≢true e)
gate-held And true false t labels e low high fit = absurd (false≢true e)
gate-held And false true t labels e low high fit = absurd (false≢true e)
gate-held And false false t labels e low high fit = and-held t One 1 labels low (omega arith)
gate-held Nand true true t labels e low high fit = absurd (false≢true e)
gate-held Nand true false t labels e low high fit = absurd (false≢true e)
gate-held Nand false true t labels e low high fit = ap not_bit (and-held t One 1 labels low (omega arith))
gate-held Nand false false t labels e low high fit = absurd (false≢true e)
gate-held Or true true t labels e low high fit = or-held t Zero 1 labels low (omega arith)
gate-held Or true false t labels e low high fit = absurd (false≢true e)
gate-held Or false true t labels e low high fit = absurd (false≢true e)
gate-held Or false false t labels e low high fit = absurd (false≢true e)
gate-held Nor true true t labels e low high fit = absurd (false≢true e)
gate-held Nor true false t labels e low high fit = ap not_bit (or-held t Zero 1 labels low (omega arith))
gate-held Nor false true t labels e low high fit = absurd (false≢true e)
gate-held Nor false false t labels e low high fit = absurd (false≢true e)
gate-held Xor input output t labels e low high fit = absurd (false≢true e)
gate-held Xnor input output t labels e low high fit = absurd (false≢true e)
gate-held Buf true true t labels e low high fit = one-held true t labels fit low high
gate-held Buf true false t labels e low high fit = absurd (false≢true e)
gate-held Buf false true t labels e low high fit = absurd (false≢true e)
gate-held Buf false false t labels e low high fit = one-held false t labels fit low high
gate-held Not true true t labels e low high fit = absurd (false≢true e)
gate-held Not true false t labels e low high fit = ap not_bit (one-held true t labels fit low high)
gate-held Not false true t labels e low high fit = ap not_bit (one-held false t labels fit low high)
gate-held Not false false t labels e low high fit = absurd (false≢true e)

-- A node under the two faults

-- the fault of a terminal, and that of an output
abbrev terminal_fault : ℕ → ℕ → Bool → StuckAt
terminal_fault gate t input = record { site = GateTerminal gate t; value = input }

abbrev output_fault : ℕ → ℕ → ℕ → Bool → StuckAt
output_fault gate object bit output = record { site = OutputBit gate object bit; value = output }

-- what a node gives where one of its terminals may be held
abbrev held_inside : Bool → FlatDesign → ℕ → Bool → FlatNodeKind → List ℕ → List LogicValue → List LogicValue
held_inside here design t input (AssignNode value places) outputs values = zip_with (λ object place. part_of (value_of (value_at values) value) place (width_in design object)) outputs places
held_inside here design t input (GateNode kind terminals) outputs values =
    (gate_bit kind (map_numbered (λ number value. stuck_if (here && nat_eq t number) input (bit_at value 0)) 1 (label_values (value_at values) terminals)) ∷ []) ∷ []
held_inside here design t input (BlockNode statement) outputs values = map (value_at (run_statement statement values)) outputs

-- a value that may be held at an output
abbrev held_outside : Bool → ℕ → ℕ → Bool → ℕ → LogicValue → LogicValue
held_outside here object bit output at value = forced_if (here && nat_eq object at) bit output value

inside : (design : FlatDesign) (gate t : ℕ) (input : Bool) (k : ℕ) (node : FlatNode) (values : List LogicValue) →
    node_outputs (faulty_machine design (terminal_fault gate t input)) k node values ≡ zip_with (λ object value. value) node.outputs
    (held_inside (nat_eq gate k) design t input node.kind node.outputs values)
inside design gate t input k node values = inside_kind node.kind
  where
    inside_kind : (kind : FlatNodeKind) →
        zip_with (forced_output (Some (terminal_fault gate t input)) k) node.outputs (node_value (faulty_machine design (terminal_fault gate t input)) k kind node.outputs values)
        ≡ zip_with (λ object value. value) node.outputs (held_inside (nat_eq gate k) design t input kind node.outputs values)
    inside_kind (AssignNode value places) = refl
    inside_kind (GateNode kind terminals) = refl
    inside_kind (BlockNode statement) = refl

outside : (design : FlatDesign) (gate object bit : ℕ) (output : Bool) (k : ℕ) (node : FlatNode) (t : ℕ) (input : Bool) (values : List LogicValue) →
    node_outputs (faulty_machine design (output_fault gate object bit output)) k node values
    ≡ zip_with (held_outside (nat_eq gate k) object bit output) node.outputs (held_inside false design t input node.kind node.outputs values)
outside design gate object bit output k node t input values = outside_kind node.kind
  where
    outside_kind : (kind : FlatNodeKind) →
        zip_with (forced_output (Some (output_fault gate object bit output)) k) node.outputs (node_value (faulty_machine design (output_fault gate object bit output)) k kind node.outputs values)
        ≡ zip_with (held_outside (nat_eq gate k) object bit output) node.outputs (held_inside false design t input kind node.outputs values)
    outside_kind (AssignNode value places) = refl
    outside_kind (GateNode kind terminals) = refl
    outside_kind (BlockNode statement) = refl

labels-count : (values : ℕ → LogicValue) (terminals : Expressions) → length (label_values values terminals) ≡ expressions_count terminals
labels-count values no_expressions = refl
labels-count values (more_expressions first rest) = let more : length (label_values values rest) ≡ expressions_count rest = labels-count values rest in omega arith

pub one-output : (object : ℕ) (outputs : List ℕ) → length outputs ≤ 1 → has outputs object ≡ true → outputs ≡ object ∷ []
one-output object [] one there = absurd (false≢true there)
one-output object (a ∷ b ∷ rest) one there = absurd (omega arith)
one-output object (a ∷ []) one there =
    elim (or_cases (nat_eq a object) false there) [ inl same ↦ ap (λ n. n ∷ []) (eqb-true a object same) | inr never ↦ absurd (false≢true never) ]

pub first-of : (a b c d e : Bool) → (a && b && c && d && e) ≡ true → a ≡ true
first-of true b c d e all = refl
first-of false b c d e all = all

-- the gate itself gives the same under both faults
at-gate : (design : FlatDesign) (node : FlatNode) (t object : ℕ) (input output : Bool) (values : List LogicValue) → IsNodeOf design node →
    gate_forces node t input object 0 output ≡ true →
    zip_with (λ object value. value) node.outputs (held_inside true design t input node.kind node.outputs values)
    ≡ zip_with (held_outside true object 0 output) node.outputs (held_inside false design t input node.kind node.outputs values)
at-gate design node t object input output values rules forced = by_kind node.kind refl
  where
    by_kind : (kind : FlatNodeKind) → node.kind ≡ kind →
        zip_with (λ object value. value) node.outputs (held_inside true design t input kind node.outputs values)
        ≡ zip_with (held_outside true object 0 output) node.outputs (held_inside false design t input kind node.outputs values)
    by_kind (AssignNode value places) is =
        absurd (false≢true (first-of (kind_forces (AssignNode value places) input output) (nat_le 1 t) (nat_le t (terminal_count (AssignNode value places))) (has node.outputs object) (nat_eq 0 0)
        (subst (λ k. gate_forces (record node { kind = k }) t input object 0 output ≡ true) is forced)))
    by_kind (GateNode kind terminals) is =
        let all : gate_forces (record node { kind = GateNode kind terminals }) t input object 0 output ≡ true =
        subst (λ k. gate_forces (record node { kind = k }) t input object 0 output ≡ true) is forced in
        let has_part = and_parts (forces kind input output && nat_le 1 t && nat_le t (expressions_count terminals) && has node.outputs object) (nat_eq 0 0) all in
        let high_part = and_parts (forces kind input output && nat_le 1 t && nat_le t (expressions_count terminals)) (has node.outputs object) has_part.0 in
        let low_part = and_parts (forces kind input output && nat_le 1 t) (nat_le t (expressions_count terminals)) high_part.0 in
        let force_part = and_parts (forces kind input output) (nat_le 1 t) low_part.0 in
        let single : length node.outputs ≤ 1 = subst (λ k. WritesOutputs k node.outputs) is rules.outputs in
        let one : node.outputs ≡ object ∷ [] = one-output object node.outputs single high_part.1 in
        let labels : List LogicValue = label_values (value_at values) terminals in
        let counted : length labels ≡ expressions_count terminals = labels-count (value_at values) terminals in
        let fits : TerminalsFit kind (expressions_count terminals) = (subst (λ k. IsSizedNode design k node.outputs) is rules.sized).0 in
        let above : 1 ≤ t = leb-true 1 t force_part.1 in
        let below : t ≤ expressions_count terminals = leb-true t (expressions_count terminals) low_part.1 in
        let held : gate_bit kind (seen t input 1 labels) ≡ bit_of output =
        gate-held kind input output t labels force_part.0 above (omega arith) (subst (λ n. TerminalsFit kind n) (sym counted) fits) in
        subst (λ l. zip_with (λ object value. value) l (held_inside true design t input (GateNode kind terminals) l values) ≡ zip_with (held_outside true object 0 output) l
        (held_inside false design t input (GateNode kind terminals) l values)) (sym one)
        (ap (λ b. (b ∷ []) ∷ []) held
        ∙ sym (ap (λ b. forced_if b 0 output (gate_bit kind (map_numbered (λ number value. bit_at value 0) 1 labels) ∷ []) ∷ []) (eq-eqb object object refl)))
    by_kind (BlockNode statement) is =
        absurd (false≢true (first-of (kind_forces (BlockNode statement) input output) (nat_le 1 t) (nat_le t (terminal_count (BlockNode statement))) (has node.outputs object) (nat_eq 0 0)
        (subst (λ k. gate_forces (record node { kind = k }) t input object 0 output ≡ true) is forced)))

-- each node gives the same under both faults
module _ (design : FlatDesign) (rules : KeepsRules design) (gate t object bit : ℕ) (input output : Bool)
    (forced : node_forces (slice_get design.nodes gate) t input object bit output ≡ true) where
  node-same : (k : ℕ) (node : FlatNode) (values : List LogicValue) → slice_get design.nodes k ≡ Some node →
      node_outputs (faulty_machine design (terminal_fault gate t input)) k node values ≡ node_outputs (faulty_machine design (output_fault gate object bit output)) k node values
  node-same k node values at =
      inside design gate t input k node values
      ∙ elim (nat_eq gate k) as (λ b. nat_eq gate k ≡ b →
      zip_with (λ object value. value) node.outputs (held_inside b design t input node.kind node.outputs values)
      ≡ zip_with (held_outside b object bit output) node.outputs (held_inside false design t input node.kind node.outputs values)) [
        | true ↦ λ e.
            let here : slice_get design.nodes gate ≡ Some node = subst (λ n. slice_get design.nodes n ≡ Some node) (sym (eqb-true gate k e)) at in
            let does : gate_forces node t input object bit output ≡ true = subst (λ o. node_forces o t input object bit output ≡ true) here forced in
            let least : bit ≡ 0 = eqb-true bit 0 (and_parts (kind_forces node.kind input output && nat_le 1 t && nat_le t (terminal_count node.kind) && has node.outputs object)
            (nat_eq bit 0) does).1 in
            subst (λ n. zip_with (λ object value. value) node.outputs (held_inside true design t input node.kind node.outputs values)
            ≡ zip_with (held_outside true object n output) node.outputs (held_inside false design t input node.kind node.outputs values)) (sym least)
            (at-gate design node t object input output values (AllHold-slice_get (IsNodeOf design) design.nodes k node rules.nodes at)
            (subst (λ n. gate_forces node t input object n output ≡ true) least does))
        | false ↦ λ e. refl
      ] refl
      ∙ sym (outside design gate object bit output k node t input values)

  settled-same : (k : ℕ) (nodes : List FlatNode) (values : List LogicValue) → ((i : ℕ) (node : FlatNode) → slice_get nodes i ≡ Some node → slice_get design.nodes (k + i) ≡ Some node) →
      settled_from (faulty_machine design (terminal_fault gate t input)) k nodes values ≡ settled_from (faulty_machine design (output_fault gate object bit output)) k nodes values
  settled-same k [] values stand = refl
  settled-same k (node ∷ nodes) values stand =
      let here : slice_get design.nodes k ≡ Some node = let e : k + 0 ≡ k = omega arith in subst (λ n. slice_get design.nodes n ≡ Some node) e (stand 0 node refl) in
      let more : (i : ℕ) (other : FlatNode) → slice_get nodes i ≡ Some other → slice_get design.nodes (k + 1 + i) ≡ Some other =
      λ i other at. let e : k + suc i ≡ k + 1 + i = omega arith in subst (λ n. slice_get design.nodes n ≡ Some other) e (stand (suc i) other at) in
      settled-same (k + 1) nodes (with_outputs node.outputs (node_outputs (faulty_machine design (terminal_fault gate t input)) k node values) values) more
      ∙ ap (λ (outputs : List LogicValue). settled_from (faulty_machine design (output_fault gate object bit output)) (k + 1) nodes (with_outputs node.outputs outputs values))
      (node-same k node values here)

  start-same : start (faulty_machine design (terminal_fault gate t input)) ≡ start (faulty_machine design (output_fault gate object bit output))
  start-same =
      ap (λ (values : List LogicValue). record (start (faulty_machine design (output_fault gate object bit output))) { values = values })
      (settled-same 0 design.nodes (first_contents (faulty_machine design (terminal_fault gate t input)))
      (λ i node at. let e : i ≡ 0 + i = omega arith in subst (λ n. slice_get design.nodes n ≡ Some node) e at))

  evaluated-same : (k : ℕ) (state : State) (o : Option FlatNode) → slice_get design.nodes k ≡ o →
      evaluated (faulty_machine design (terminal_fault gate t input)) k o state ≡ evaluated (faulty_machine design (output_fault gate object bit output)) k o state
  evaluated-same k state None at = refl
  evaluated-same k state (Some node) at =
      ap (λ (outputs : List LogicValue). with_node k (λ old. record { marked = false; pending = Some outputs }) state) (node-same k node state.values at)

  after-same : (state : State) (event : Event) → after (faulty_machine design (terminal_fault gate t input)) state event ≡ after
      (faulty_machine design (output_fault gate object bit output)) state event
  after-same state (Step process) = refl
  after-same state (LaneStep process) = refl
  after-same state (Evaluation node) = evaluated-same node state (slice_get design.nodes node) refl
  after-same state (NetUpdate node) = refl

  accesses-same : (process line : ℕ) (state : State) (event : Event) →
      accesses_of (faulty_machine design (terminal_fault gate t input)) process line state event ≡ accesses_of (faulty_machine design (output_fault gate object bit output)) process line state event
  accesses-same process line state (Step number) = refl
  accesses-same process line state (LaneStep number) = refl
  accesses-same process line state (Evaluation node) = refl
  accesses-same process line state (NetUpdate node) = refl

  pair-same : (plan : TestPlan) → grade design plan (terminal_fault gate t input) ≡ grade design plan (output_fault gate object bit output)
  pair-same plan = grade-same design (terminal_fault gate t input) (output_fault gate object bit output) start-same after-same accesses-same plan

  pair-full : (plan : TestPlan) → full_grade design plan (terminal_fault gate t input) ≡ full_grade design plan (output_fault gate object bit output)
  pair-full plan = full-same design (terminal_fault gate t input) (output_fault gate object bit output) start-same after-same accesses-same plan

-- Classes

sites-same : (design : FlatDesign) (plan : TestPlan) → KeepsRules design → (one : FaultSite) (input : Bool) (other : FaultSite) (output : Bool) → is_gate_pair design one input other output ≡ true →
    grade design plan (record { site = one; value = input }) ≡ grade design plan (record { site = other; value = output })
sites-same design plan rules (GateTerminal node t) input (OutputBit driver object bit) output e =
    let parts = and_parts (nat_eq node driver) (node_forces (slice_get design.nodes node) t input object bit output) e in
    pair-same design rules node t object bit input output parts.1 plan
    ∙ ap (λ n. grade design plan (output_fault n object bit output)) (eqb-true node driver parts.0)
sites-same design plan rules (GateTerminal node t) input (VariableBit object bit) output e = absurd (false≢true e)
sites-same design plan rules (GateTerminal node t) input (GateTerminal other number) output e = absurd (false≢true e)
sites-same design plan rules (VariableBit object bit) input other output e = absurd (false≢true e)
sites-same design plan rules (OutputBit node object bit) input other output e = absurd (false≢true e)

-- two faults of one class have one grade
pub classes_agree : ClassesAgree
classes_agree design plan one other rules (same_fault fault) = refl
classes_agree design plan one other rules (joined_by first next last pair chain) =
    elim (or_cases (is_gate_pair design first.site first.value next.site next.value) (is_gate_pair design next.site next.value first.site first.value) pair) [
      | inl to ↦ sites-same design plan rules first.site first.value next.site next.value to ∙ classes_agree design plan next last rules chain
      | inr from ↦ sym (sites-same design plan rules next.site next.value first.site first.value from) ∙ classes_agree design plan next last rules chain
    ]

sites-full : (design : FlatDesign) (plan : TestPlan) → KeepsRules design → (one : FaultSite) (input : Bool) (other : FaultSite) (output : Bool) → is_gate_pair design one input other output ≡ true →
    full_grade design plan (record { site = one; value = input }) ≡ full_grade design plan (record { site = other; value = output })
sites-full design plan rules (GateTerminal node t) input (OutputBit driver object bit) output e =
    let parts = and_parts (nat_eq node driver) (node_forces (slice_get design.nodes node) t input object bit output) e in
    pair-full design rules node t object bit input output parts.1 plan
    ∙ ap (λ n. full_grade design plan (output_fault n object bit output)) (eqb-true node driver parts.0)
sites-full design plan rules (GateTerminal node t) input (VariableBit object bit) output e = absurd (false≢true e)
sites-full design plan rules (GateTerminal node t) input (GateTerminal other number) output e = absurd (false≢true e)
sites-full design plan rules (VariableBit object bit) input other output e = absurd (false≢true e)
sites-full design plan rules (OutputBit node object bit) input other output e = absurd (false≢true e)

-- two faults of one class have one full grade
pub full_grades_agree : FullGradesAgree
full_grades_agree design plan one other rules (same_fault fault) = refl
full_grades_agree design plan one other rules (joined_by first next last pair chain) =
    elim (or_cases (is_gate_pair design first.site first.value next.site next.value) (is_gate_pair design next.site next.value first.site first.value) pair) [
      | inl to ↦ sites-full design plan rules first.site first.value next.site next.value to ∙ full_grades_agree design plan next last rules chain
      | inr from ↦ sym (sites-full design plan rules next.site next.value first.site first.value from) ∙ full_grades_agree design plan next last rules chain
    ]
