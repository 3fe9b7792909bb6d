-- Places, watched bits and reported accesses as plain data, and the view of the code's types (nothing of the language).
use Rattle.std.specs.Prelude.{ℕ}
use Rattle.vf_base.specs.declared.ids.ObjectId.{ObjectId}
use Rattle.vf_base.specs.declared.ids.NodeId.{NodeId}
use Rattle.vf_base.specs.declared.ids.ProcId.{ProcId}
use Rattle.vf_base.specs.declared.ids.FaultId.{FaultId}
use Rattle.vf_base.specs.declared.ids.Place.{Place}
use Rattle.vf_base.specs.declared.finding.AccessKind.{AccessKind}
use Rattle.vf_base.specs.declared.finding.Access.{Access}
use Rattle.vf_base.specs.declared.finding.Pair.{Pair}
use Rattle.vf_base.specs.declared.ids.WatchBit.{WatchBit}

-- the number of an object
abbrev pub object_number : ObjectId → ℕ
object_number o = o.0

-- the number of a node
abbrev pub node_number : NodeId → ℕ
node_number n = n.0

-- the number of a process
abbrev pub process_number : ProcId → ℕ
process_number p = p.0

-- the place of a fault in the list of faults
abbrev pub fault_number : FaultId → ℕ
fault_number f = f.0

-- a place in the text, line and column from 1
pub record SourcePlace : Type 0 where
  pub line : ℕ
  pub column : ℕ

-- a place as plain data
abbrev pub source_place : Place → SourcePlace
source_place p = record { line = p.line; column = p.column }

-- a bit of an object that the strobes look at, counted from the least significant
pub record WatchedBit : Type 0 where
  pub object : ℕ
  pub bit : ℕ

-- a watched bit as plain data
abbrev pub watched_bit : WatchBit → WatchedBit
watched_bit w = record { object = object_number w.object; bit = w.bit }

-- an access as a report names it
pub record ReportedAccess : Type 0 where
  pub kind : AccessKind
  pub object : ℕ
  pub process : ℕ
  pub line : ℕ

-- an access of a report as plain data
abbrev pub reported_access : Access → ReportedAccess
reported_access a = record { kind = a.kind; object = object_number a.object; process = process_number a.process; line = a.line }

-- two accesses of one phase of a time, the phases numbered from 1
pub record ReportedPair : Type 0 where
  pub time : ℕ
  pub phase : ℕ
  pub first : ReportedAccess
  pub second : ReportedAccess

-- a pair of a report as plain data
abbrev pub reported_pair : Pair → ReportedPair
reported_pair p = record { time = p.time; phase = p.phase; first = reported_access p.first; second = reported_access p.second }
