-- The parts of a design in the order of the walk through its hierarchy, before they are joined (IEEE 1364-2001, clause 12.1 for the hierarchy, clause 12.4 for names).
use Rattle.std.specs.Prelude.{ℕ, ◌+◌, Bool, true, false, List, sum_by, Option, Some, None, nat_lt}
use Rattle.vf_base.specs.Base.{SourcePlace}
use Rattle.four_value.specs.Values.{LogicValue}
use Rattle.v_design.specs.Sized.{span}
use Rattle.v_design.specs.WellFormed.{most_parts}
use Rattle.four_value.specs.declared.operator.GateKind.{GateKind}
use Rattle.v_tree.specs.declared.item.Direction.{Direction}
use Rattle.v_tree.specs.Trees.{Identifier, SourceStatement}
use Rattle.v_elab.specs.declared.What.{What}
use Rattle.v_elab.specs.declared.What.TheVariants.{Objects, Nodes, Processes, Instances}
use Rattle.v_elab.specs.Refusals.{Refusal, TooMany}
use Rattle.v_names.specs.Scopes.{DeclaredRange, Scope}
use Rattle.v_names.specs.SizedTrees.{SizedExpression, SizedExpressions}

-- a port that is joined with the whole net or variable that it is connected to, and the place of that
pub record Joining : Type 0 where
  pub into : Identifier
  pub direction : Direction
  pub place : SourcePlace

-- a net or a variable of an instance, by its hierarchical name
pub record Signal : Type 0 where
  pub name : Identifier
  pub is_reg : Bool
  pub range : DeclaredRange
  pub first : Option LogicValue
  pub place : SourcePlace
  pub depth : ℕ
  pub joined : Option Joining

pub record WalkedMemory : Type 0 where
  pub name : Identifier
  pub range : DeclaredRange
  pub first : ℕ
  pub last : ℕ
  pub place : SourcePlace

-- a select that a node drives: the places of its bits in the signal, from its least significant; none for a bit outside
pub record Drive : Type 0 where
  pub signal : Identifier
  pub places : List (Option ℕ)
  pub place : SourcePlace

-- an expression of an instance: what stands before its names in the hierarchy
pub record ValueIn : Type 0 where
  pub path : Identifier
  pub value : SizedExpression

-- an `initial` or `always` of an instance, with its targets where by itself it is of combinational form
pub record WalkedProcess : Type 0 where
  pub always : Bool
  pub place : SourcePlace
  pub path : Identifier
  pub scope : Scope
  pub body : SourceStatement
  pub targets : Option (List Identifier)

-- the drives of a node stand from the left of its target
pub data Part : Type 0 where
  SignalPart : (signal : Signal) → Part
  MemoryPart : (memory : WalkedMemory) → Part
  AssignPart : (drives : List Drive) (value : ValueIn) → Part
  GatePart : (name : Identifier) (kind : GateKind) (drives : List Drive) (path : Identifier) (terminals : SizedExpressions) → Part
  ProcessPart : (process : WalkedProcess) → Part
  -- an instance, before its connections and its items
  InstancePart : Part

-- Counts: a memory counts by its words, a port that is joined not at all; a block that by itself is of combinational form counts only after the walk, which shows what it is

abbrev pub unjoined : Option Joining → ℕ
unjoined None = 1
unjoined (Some joining) = 0

abbrev pub objects_of_part : Part → ℕ
objects_of_part (SignalPart signal) = unjoined signal.joined
objects_of_part (MemoryPart memory) = span memory.first memory.last
objects_of_part _ = 0

abbrev pub nodes_of_part : Part → ℕ
nodes_of_part (AssignPart drives value) = 1
nodes_of_part (GatePart name kind drives path terminals) = 1
nodes_of_part _ = 0

abbrev pub process_by_itself : Option (List Identifier) → ℕ
process_by_itself None = 1
process_by_itself (Some targets) = 0

abbrev pub processes_of_part : Part → ℕ
processes_of_part (ProcessPart process) = process_by_itself process.targets
processes_of_part _ = 0

abbrev pub instances_of_part : Part → ℕ
instances_of_part InstancePart = 1
instances_of_part _ = 0

-- the first of two refusals
abbrev pub refusal_or : Option Refusal → Option Refusal → Option Refusal
refusal_or None other = other
refusal_or (Some refusal) other = Some refusal

abbrev pub too_many_if : Bool → What → ℕ → Option Refusal
too_many_if true what limit = Some (TooMany what (limit + 1))
too_many_if false what limit = None

-- a count that passes its limit
abbrev pub over_limit : What → ℕ → ℕ → Option Refusal
over_limit what limit count = too_many_if (nat_lt limit count) what limit

-- the first count of the parts that passes its limit
abbrev pub too_many_parts : List Part → Option Refusal
too_many_parts parts =
    refusal_or (over_limit Objects most_parts (sum_by objects_of_part parts))
    (refusal_or (over_limit Nodes most_parts (sum_by nodes_of_part parts))
    (refusal_or (over_limit Processes most_parts (sum_by processes_of_part parts))
    (over_limit Instances most_parts (sum_by instances_of_part parts))))
