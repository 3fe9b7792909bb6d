-- The items of a spelled unit are those of a text (IEEE 1364-2001, annexes A.2 to A.6, clause 7 for the inputs of gates).
use Rattle.std.proofs.Common.{◌≡◌, ℕ, suc, ◌+◌, ◌<◌, ◌≤◌, true, List, [], ◌∷◌, ◌++◌, length, Option, Some, None, refl, sym, ap, subst, length-append, ◌⊎◌, inl, inr, arith}
use Rattle.std.specs.Prelude.{◌^◌}
use Rattle.vf_base.specs.Base.{SourcePlace}
use Rattle.four_value.specs.declared.operator.GateKind.{GateKind}
use Rattle.four_value.specs.declared.operator.GateKind.TheVariants.{And, Nand, Or, Nor, Xor, Xnor, Buf, Not}
use Rattle.vf_base.specs.Lists.{AllHold}
use Rattle.v_design.specs.WellFormed.{TerminalsFit}
use Rattle.v_tree.specs.Tokens.{SourceToken}
use Rattle.v_tree.specs.Trees.{SourceExpression, Concatenated, no_parts, more_parts, SourceWire, SourceAssignment, SourceGate, SourceConnection, SourceInstance, SourceItem, ParameterItem, PortItem}
use Rattle.v_tree.specs.Trees.{WireItem, RegItem, IntegerItem, AssignItem, GateItem, InstanceItem, InitialItem, AlwaysItem}
use Rattle.v_readers.specs.Classes.{token_of}
use Rattle.v_readers.specs.declared.class.Class.TheVariants as classes
use Rattle.v_readers.specs.Separated.{SpellsList}
use Rattle.v_expr.specs.Spelling.{SpellsExpression}
use Rattle.v_expr.specs.Heights.{height_of}
use Rattle.v_parse.specs.Spelling.{SpellsWire, SpellsAssignment, has_one_input, SpellsGate, SpellsActual, SpellsConnections, SpellsPlacedConnections, SpellsNamedConnection, SpellsInstance, SpellsItem}
use Rattle.v_parse.specs.Heights.{greatest, height_if_there, wire_height, assignment_height, gate_height, connection_height, instance_height, item_height}
use Rattle.flat_laws.specs.Sizes.Statements.{HasSelects}
use Rattle.flat_laws.specs.Source.{most_height, IsLowIfThere, HoldsParts, IsSourceItem}
use Rattle.source_laws.specs.Targets.{target-has, statement-has, list-hold, list-long}

-- Values

low-there : (e : Option SourceExpression) → height_if_there height_of e ≤ most_height → IsLowIfThere e
low-there None low = tt
low-there (Some e) low = low

wire-good : (w : SourceWire) (ts : List SourceToken) → SpellsWire w ts → wire_height w ≤ most_height → IsLowIfThere w.value
wire-good w ts h low = low-there w.value low

assignment-good : (a : SourceAssignment) (ts : List SourceToken) → SpellsAssignment a ts → assignment_height a ≤ most_height → HasSelects a.target × (height_of a.value ≤ most_height)
assignment-good a ts h low = (target-has a.target h.1 h.3, omega (arith, low))

-- Gates

abbrev IsGoodGate : GateKind → SourceGate → Type 0
IsGoodGate kind g = HasSelects g.output × TerminalsFit kind (length g.inputs) × AllHold (λ (e : SourceExpression). height_of e ≤ most_height) g.inputs × (length g.inputs < 2 ^ 64)

terminals-fit : (kind : GateKind) (count : ℕ) → (has_one_input kind ≡ true → count ≡ 1) → 1 ≤ count → TerminalsFit kind count
terminals-fit And count one some = some
terminals-fit Nand count one some = some
terminals-fit Or count one some = some
terminals-fit Nor count one some = some
terminals-fit Xor count one some = some
terminals-fit Xnor count one some = some
terminals-fit Buf count one some = one refl
terminals-fit Not count one some = one refl

list-some : {A : Type 0} (L : A → List SourceToken → Type 0) (xs : List A) (ts : List SourceToken) → SpellsList L classes.Comma xs ts → 1 ≤ length xs
list-some L [] ts h = absurd h
list-some L (x ∷ xs) ts h = omega arith

gate-good : (kind : GateKind) (g : SourceGate) (ts : List SourceToken) → SpellsGate kind g ts → gate_height g ≤ most_height → length ts < 2 ^ 63 → IsGoodGate kind g
gate-good kind g ts h low few =
    let inside = h.5 in
    let after = h.6 in
    let close = token_of classes.RightParen h.3 ∷ [] in
    let comma = token_of classes.Comma h.2 ∷ (after ++ close) in
    let inputs : greatest height_of g.inputs ≤ most_height = omega (arith, low) in
    let long = list-long SpellsExpression classes.Comma g.inputs after h.9 in
    let whole : length after ≤ length ts =
    omega (arith, ap length h.10, length-append h.4 (token_of classes.LeftParen h.1 ∷ (inside ++ comma)), length-append inside comma, length-append after close) in
    let short : length after < 2 ^ 63 = omega (arith, whole, few) in (
      target-has g.output inside h.8,
      terminals-fit kind (length g.inputs) h.0 (list-some SpellsExpression g.inputs after h.9),
      list-hold SpellsExpression classes.Comma height_of most_height (2 ^ 63) (λ (e : SourceExpression). height_of e ≤ most_height) (λ e ts h low few. low) g.inputs after h.9 inputs short,
      omega (arith, long, short),
    )

-- Connections

abbrev IsGoodConnection : SourceConnection → Type 0
IsGoodConnection c = IsLowIfThere c.actual × HoldsParts c.actual

parts-held : (e : Option SourceExpression) (ts : List SourceToken) → SpellsActual e ts → HoldsParts e
parts-held (Some (Concatenated place no_parts)) ts h = absurd h.2
parts-held (Some (Concatenated place (more_parts first rest))) ts h = tt
parts-held None ts h = tt
parts-held _ ts h = tt

connection-good : (c : SourceConnection) (ts : List SourceToken) → SpellsActual c.actual ts → connection_height c ≤ most_height → IsGoodConnection c
connection-good c ts h low = (low-there c.actual low, parts-held c.actual ts h)

placed-good : (place : SourcePlace) (cs : List SourceConnection) (ts : List SourceToken) → SpellsPlacedConnections place cs ts → greatest connection_height cs ≤ most_height →
    AllHold IsGoodConnection cs
placed-good place [] ts h low = absurd h
placed-good place (c ∷ []) ts h low = (connection-good c ts h.2 (omega (arith, low)), tt)
placed-good place (c ∷ d ∷ cs) ts h low = (connection-good c h.1 h.3.2 (omega (arith, low)), placed-good place (d ∷ cs) h.2 h.4 (omega (arith, low)))

connections-good : (place : SourcePlace) (cs : List SourceConnection) (ts : List SourceToken) → SpellsConnections place cs ts → greatest connection_height cs ≤ most_height →
    AllHold IsGoodConnection cs
connections-good place cs ts (inl h) low =
    list-hold SpellsNamedConnection classes.Comma connection_height most_height (suc (length ts)) IsGoodConnection (λ c ts h low short. connection-good c h.6 h.7 low) cs ts h low (omega arith)
connections-good place cs ts (inr h) low = placed-good place cs ts h low

abbrev IsGoodInstance : SourceInstance → Type 0
IsGoodInstance i = AllHold IsGoodConnection i.connections

instance-good : (i : SourceInstance) (ts : List SourceToken) → SpellsInstance i ts → instance_height i ≤ most_height → IsGoodInstance i
instance-good i ts h low = given h.4
  where
    given : ((i.connections ≡ []) × (h.3 ≡ [])) ⊎ ((0 < length h.3) × SpellsConnections h.2 i.connections h.3) → IsGoodInstance i
    given (inl none) = subst (AllHold IsGoodConnection) (sym none.0) tt
    given (inr some) = connections-good h.2 i.connections h.3 some.1 low

-- Items

pub item-good : (item : SourceItem) (ts : List SourceToken) → SpellsItem item ts → item_height item ≤ most_height → length ts < 2 ^ 63 → IsSourceItem item
item-good (ParameterItem group) ts h low few = tt
item-good (PortItem group) ts h low few = tt
item-good (WireItem place signed range wires) ts h low few =
    list-hold SpellsWire classes.Comma wire_height most_height (suc (length h.3)) (λ (w : SourceWire). IsLowIfThere w.value) (λ w ts h low short. wire-good w ts h low) wires h.3 h.6
    (omega (arith, low)) (omega arith)
item-good (RegItem place signed range regs) ts h low few = tt
item-good (IntegerItem place regs) ts h low few = tt
item-good (AssignItem place assignments) ts h low few =
    list-hold SpellsAssignment classes.Comma assignment_height most_height (suc (length h.3)) (λ (a : SourceAssignment). HasSelects a.target × (height_of a.value ≤ most_height))
    (λ a ts h low short. assignment-good a ts h low)
    assignments h.3 h.6 low (omega arith)
item-good (GateItem place kind gates) ts h low few =
    let end = token_of classes.Semicolon h.0 ∷ [] in
    let short : length h.3 < 2 ^ 63 = omega (arith, ap length h.7, length-append h.1 (h.2 ++ (h.3 ++ end)), length-append h.2 (h.3 ++ end), length-append h.3 end, few) in
    list-hold (SpellsGate kind) classes.Comma gate_height most_height (2 ^ 63) (IsGoodGate kind) (gate-good kind) gates h.3 h.6 low short
item-good (InstanceItem place module_name parameters instances) ts h low few =
    list-hold SpellsInstance classes.Comma instance_height most_height (suc (length h.3)) IsGoodInstance (λ i ts h low short. instance-good i ts h low) instances h.3 h.5 (omega (arith, low))
    (omega arith)
item-good (InitialItem place body) ts h low few = (statement-has body h.0 h.1, low)
item-good (AlwaysItem place body) ts h low few = (statement-has body h.0 h.1, low)
