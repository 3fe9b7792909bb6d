-- What each unit keeps that is read from a text: its items hold no more levels than a text may have, braces hold something, and gates have the inputs of their kinds, fewer
-- than a text may have bytes (IEEE 1364-2001, annex A for what is spelled, clause 7 for gates; that a text has few levels is own).
use Rattle.std.specs.Prelude.{◌≡◌, ℕ, ◌<◌, ◌≤◌, ◌^◌, List, Option, Some, None, length, slice_get}
use Rattle.vf_base.specs.Lists.{AllHold}
use Rattle.vf_base.specs.declared.limits.TheConstants.{MAX_LEVELS_BELOW}
use Rattle.v_design.specs.WellFormed.{TerminalsFit}
use Rattle.v_tree.specs.Trees.{SourceExpression, Concatenated, no_parts, SourceWire, SourceAssignment, SourceGate, SourceConnection, SourceInstance, SourceItem, ParameterItem, PortItem, WireItem}
use Rattle.v_tree.specs.Trees.{RegItem, IntegerItem, AssignItem, GateItem, InstanceItem, InitialItem, AlwaysItem, SourceModule}
use Rattle.v_expr.specs.Heights.{height_of}
use Rattle.v_stmt.specs.Heights.{statement_height}
use Rattle.flat_laws.specs.Sizes.Statements.{HasSelects, HaveSelects}
use Rattle.flat_laws.specs.Hierarchy.Walks.{IsOf}

-- the most levels below the outermost one
abbrev pub most_height : ℕ
most_height = MAX_LEVELS_BELOW

abbrev pub IsLowIfThere : Option SourceExpression → Type 0
IsLowIfThere None = Unit {0}
IsLowIfThere (Some e) = height_of e ≤ most_height

-- an actual in braces holds something
abbrev pub HoldsParts : Option SourceExpression → Type 0
HoldsParts (Some (Concatenated place no_parts)) = ⊥
HoldsParts _ = Unit {0}

-- an item of a text
abbrev pub IsSourceItem : SourceItem → Type 0
IsSourceItem (ParameterItem group) = Unit {0}
IsSourceItem (PortItem group) = Unit {0}
IsSourceItem (WireItem place signed range wires) = AllHold (λ (w : SourceWire). IsLowIfThere w.value) wires
IsSourceItem (RegItem place signed range regs) = Unit {0}
IsSourceItem (IntegerItem place regs) = Unit {0}
IsSourceItem (AssignItem place assignments) = AllHold (λ (a : SourceAssignment). HasSelects a.target × (height_of a.value ≤ most_height)) assignments
IsSourceItem (GateItem place kind gates) =
    AllHold (λ (g : SourceGate). HasSelects g.output × TerminalsFit kind (length g.inputs) × AllHold (λ (e : SourceExpression). height_of e ≤ most_height) g.inputs × (length g.inputs < 2 ^ 64)) gates
IsSourceItem (InstanceItem place module_name parameters instances) =
    AllHold (λ (i : SourceInstance). AllHold (λ (c : SourceConnection). IsLowIfThere c.actual × HoldsParts c.actual) i.connections) instances
IsSourceItem (InitialItem place body) = HaveSelects body × (statement_height body ≤ most_height)
IsSourceItem (AlwaysItem place body) = HaveSelects body × (statement_height body ≤ most_height)

-- each item of each module is one of a text
pub record IsSourceUnit (modules : List SourceModule) : Type 0 where
  pub items : (i : ℕ) (m : SourceModule) → slice_get modules i ≡ Some m → (item : SourceItem) → IsOf m item → IsSourceItem item
