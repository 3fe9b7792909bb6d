use Rattle.std.proofs.Common.{◌≡◌, Bool, true, List, ◌++◌, map, flat_map, ap, sym, subst, ◌∙◌, append_assoc}
use Rattle.vf_base.specs.Lists.{AllHold}
use Rattle.v_tree.specs.Trees.{SourceAssignment, SourceWire, SourceReg}
use Rattle.v_tree.specs.Views.{range_in, wire_of, reg_of, assignment_of, gate_of, item_of}
use Rattle.v_tree.specs.declared.item.Wire.{Wire}
use Rattle.v_tree.specs.declared.item.Reg.{Reg}
use Rattle.v_tree.specs.declared.item.Assignment.{Assignment}
use Rattle.v_tree.specs.declared.item.Gate.{Gate}
use Rattle.v_tree.specs.declared.item.Item.{Item}
use Rattle.v_names.specs.Names.{Declaration, Bounds, IntegerBounds, names_declared, bounds_of, reg_declarations, item_declarations}
use Rattle.v_names.specs.Scopes.{Scope}
use Rattle.v_elab.specs.Parts.{Part}
use Rattle.v_elab.specs.Walk.{parts_of_own, assign_part, wire_parts, item_parts}
use Rattle.elab_parts.specs.PartViews.{parts_of}
use Rattle.module_scope.specs.Declarations.{wire_declarations}
use Rattle.elab_items.specs.Narrow.{IsNarrow, AreNarrow}
use Rattle.elab_items.specs.Runs.{AssignmentsTakeRuns, GatesTakeRuns, ItemTakesRuns}
use Rattle.elab_items.proofs.Rows.{holds-before}
use Rattle.elab_items.proofs.item.push_item_parts.Goals as goal

pub returns-in_ok-push_port_parts-in-Ports : goal.returns-in_ok-push_port_parts-in-Ports
returns-in_ok-push_port_parts-in-Ports c h i =
    c.in_ok-push_port_parts-in-Ports.ensures h i ∙ ap (λ (item : Item). parts_of c.args.parts.now.items ++ item_parts h c.args.gates (item_of item)) (sym c.in-Ports.is)

pub returns-in_ok-push_wire_values-in-Wire : goal.returns-in_ok-push_wire_values-in-Wire
returns-in_ok-push_wire_values-in-Wire c h i =
    let before : List Part = parts_of c.args.parts.now.items in
    let bounds : Bounds = bounds_of (range_in c.in-Wire.range) in
    let nets = λ (ws : List Wire). flat_map (parts_of_own h (names_declared h.instance.inner)) (wire_declarations c.in-Wire.signed bounds (map wire_of ws)) in
    let values = λ (ws : List Wire). flat_map (wire_parts h) (map wire_of ws) in
    c.in_ok-push_wire_values-in-Wire.ensures h i
    ∙ ap (λ (ws : List Wire). parts_of c.push_nets.new.parts.items ++ values ws) c.as_slice-in-Wire.ensures
    ∙ ap (λ (ps : List Part). ps ++ values c.in-Wire.wires) (c.in_ok-push_nets-in-Wire.ensures h c.in-Wire.signed bounds i ∙ ap (λ (ws : List Wire). before ++ nets ws) c.as_slice.ensures)
    ∙ append_assoc before (nets c.in-Wire.wires) (values c.in-Wire.wires)
    ∙ ap (λ (item : Item). before ++ item_parts h c.args.gates (item_of item)) (sym c.in-Wire.is)

pub returns-in_ok-push_regs-in-Reg : goal.returns-in_ok-push_regs-in-Reg
returns-in_ok-push_regs-in-Reg c h i =
    let bounds : Bounds = bounds_of (range_in c.in-Reg.range) in
    c.in_ok-push_regs-in-Reg.ensures h c.in-Reg.signed bounds i
    ∙ ap (λ (rs : List Reg). parts_of c.args.parts.now.items ++ flat_map (parts_of_own h (names_declared h.instance.inner)) (reg_declarations c.in-Reg.signed bounds (map reg_of rs)))
    c.as_slice-in-Reg.ensures
    ∙ ap (λ (item : Item). parts_of c.args.parts.now.items ++ item_parts h c.args.gates (item_of item)) (sym c.in-Reg.is)

pub returns-in_ok-push_regs-in-Integer : goal.returns-in_ok-push_regs-in-Integer
returns-in_ok-push_regs-in-Integer c h i =
    c.in_ok-push_regs-in-Integer.ensures h true IntegerBounds i
    ∙ ap (λ (rs : List Reg). parts_of c.args.parts.now.items ++ flat_map (parts_of_own h (names_declared h.instance.inner)) (reg_declarations true IntegerBounds (map reg_of rs)))
    c.as_slice-in-Integer.ensures
    ∙ ap (λ (item : Item). parts_of c.args.parts.now.items ++ item_parts h c.args.gates (item_of item)) (sym c.in-Integer.is)

pub returns-in_ok-push_assignments-in-Assign : goal.returns-in_ok-push_assignments-in-Assign
returns-in_ok-push_assignments-in-Assign c h i =
    c.in_ok-push_assignments-in-Assign.ensures h i
    ∙ ap (λ (all : List Assignment). parts_of c.args.parts.now.items ++ map (λ (a : SourceAssignment). assign_part h a.target a.value) (map assignment_of all)) c.as_slice-in-Assign.ensures
    ∙ ap (λ (item : Item). parts_of c.args.parts.now.items ++ item_parts h c.args.gates (item_of item)) (sym c.in-Assign.is)

-- what the item is is known in each case
narrow-as : (scope : Scope) (one other : Item) → one ≡ other → AreNarrow scope (item_declarations (item_of one)) → AreNarrow scope (item_declarations (item_of other))
narrow-as scope one other same h = subst (λ (item : Item). AreNarrow scope (item_declarations (item_of item))) same h

narrow-nets : (scope : Scope) (signed : Bool) (bounds : Bounds) (wires : List SourceWire) → AreNarrow scope (wire_declarations signed bounds wires) →
    AllHold (λ (w : SourceWire). IsNarrow scope w.name) wires
narrow-nets scope signed bounds wires h = holds-before (λ (d : Declaration). IsNarrow scope d.name) _ wires h

narrow-regs : (scope : Scope) (signed : Bool) (bounds : Bounds) (regs : List SourceReg) → AreNarrow scope (reg_declarations signed bounds regs) →
    AllHold (λ (r : SourceReg). IsNarrow scope r.name) regs
narrow-regs scope signed bounds regs h = holds-before (λ (d : Declaration). IsNarrow scope d.name) _ regs h

pub push_port_parts-requires : goal.push_port_parts-requires
push_port_parts-requires c = narrow-as _ _ _ c.in-Ports.is c.requires.narrow

pub push_nets-requires : goal.push_nets-requires
push_nets-requires c =
    let scope : Scope = c.args.here.now.scope.value in
    subst (λ (ws : List Wire). AllHold (λ (w : SourceWire). IsNarrow scope w.name) (map wire_of ws)) (sym c.as_slice.ensures)
    (narrow-nets scope c.in-Wire.signed (bounds_of (range_in c.in-Wire.range)) (map wire_of c.in-Wire.wires) (narrow-as scope _ _ c.in-Wire.is c.requires.narrow))

pub push_regs-requires : goal.push_regs-requires
push_regs-requires c =
    let scope : Scope = c.args.here.now.scope.value in
    subst (λ (rs : List Reg). AllHold (λ (r : SourceReg). IsNarrow scope r.name) (map reg_of rs)) (sym c.as_slice-in-Reg.ensures)
    (narrow-regs scope c.in-Reg.signed (bounds_of (range_in c.in-Reg.range)) (map reg_of c.in-Reg.regs) (narrow-as scope _ _ c.in-Reg.is c.requires.narrow))

pub push_regs-requires-in-Integer : goal.push_regs-requires-in-Integer
push_regs-requires-in-Integer c =
    let scope : Scope = c.args.here.now.scope.value in
    subst (λ (rs : List Reg). AllHold (λ (r : SourceReg). IsNarrow scope r.name) (map reg_of rs)) (sym c.as_slice-in-Integer.ensures)
    (narrow-regs scope true IntegerBounds (map reg_of c.in-Integer.regs) (narrow-as scope _ _ c.in-Integer.is c.requires.narrow))

runs-as : (scope : Scope) (one other : Item) → one ≡ other → ItemTakesRuns scope (item_of one) → ItemTakesRuns scope (item_of other)
runs-as scope one other same h = subst (λ (item : Item). ItemTakesRuns scope (item_of item)) same h

pub push_assignments-requires : goal.push_assignments-requires
push_assignments-requires c =
    let scope : Scope = c.args.here.now.scope.value in
    subst (λ (all : List Assignment). AssignmentsTakeRuns scope (map assignment_of all)) (sym c.as_slice-in-Assign.ensures) (runs-as scope _ _ c.in-Assign.is c.requires.runs)

pub push_gates-requires-clause-runs : goal.push_gates-requires-clause-runs
push_gates-requires-clause-runs c =
    let scope : Scope = c.args.here.now.scope.value in
    subst (λ (all : List Gate). GatesTakeRuns scope (map gate_of all)) (sym c.as_slice-in-Gate.ensures) (runs-as scope _ _ c.in-Gate.is c.requires.runs)
