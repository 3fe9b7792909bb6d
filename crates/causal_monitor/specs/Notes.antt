-- A noted access as plain data (events and their order by IEEE 1364-2001, clause 5).
use Rattle.std.specs.Prelude.{◌≡◌, ◌≤◌, ℕ, [], length, Option, Some, None}
use Rattle.four_value.specs.Values.{LogicValue}
use Rattle.four_value.specs.declared.logic.Edge.TheVariants.{Any}
use Rattle.vf_base.specs.Base.{object_number, process_number}
use Rattle.vf_base.specs.declared.finding.AccessKind.{AccessKind}
use Rattle.vf_base.specs.declared.finding.AccessKind.TheVariants.{Read, Write, Await, Ended, Held, Settle}
use Rattle.v_design.specs.Trees.{Entry}
use Rattle.v_design.specs.Accesses.{AccessAct, Reading, Writing, Awaiting, Ending, Holding, Settling, ObjectAccess}
use Rattle.causal_monitor.specs.declared.noted.WaitEdge.{WaitEdge}
use Rattle.causal_monitor.specs.declared.noted.Noted.{Noted}

-- the value that was noted
abbrev pub value_or_none : Option LogicValue → LogicValue
value_or_none None = []
value_or_none (Some value) = value

-- the entry that was noted, on an object
abbrev pub entry_on : ℕ → Option WaitEdge → Entry
entry_on object None = record { object = object; low = 0; width = 0; edge = Any }
entry_on object (Some entry) = record { object = object; low = entry.low; width = entry.width; edge = entry.edge }

-- what an access of a kind does
abbrev pub act_of : AccessKind → Option LogicValue → Option LogicValue → Entry → AccessAct
act_of Read old new entry = Reading
act_of Write old new entry = Writing (value_or_none old) (value_or_none new)
act_of Await old new entry = Awaiting entry
act_of Ended old new entry = Ending entry
act_of Held old new entry = Holding entry
act_of Settle old new entry = Settling

-- an access
abbrev pub noted_access : Noted → ObjectAccess
noted_access noted =
    record {
      act = act_of noted.access.kind noted.old noted.new (entry_on (object_number noted.access.object) noted.entry);
      object = object_number noted.access.object;
      process = process_number noted.access.process;
      line = noted.access.line;
    }

-- both values of a write are there, of one width
abbrev pub HasValues : Option LogicValue → Option LogicValue → Type 0
HasValues None new = ⊥
HasValues (Some old) None = ⊥
HasValues (Some old) (Some new) = length old ≡ length new

-- the entry of a wait is there, with a width that values have
abbrev pub HasEntry : Option WaitEdge → Type 0
HasEntry None = ⊥
HasEntry (Some entry) = (1 ≤ entry.width) × (entry.width ≤ 128)

-- what an access of a kind has
abbrev pub HasParts : AccessKind → Option LogicValue → Option LogicValue → Option WaitEdge → Type 0
HasParts Read old new entry = Unit {0}
HasParts Write old new entry = HasValues old new
HasParts Await old new entry = HasEntry entry
HasParts Ended old new entry = HasEntry entry
HasParts Held old new entry = ⊥
HasParts Settle old new entry = ⊥

-- an access that an event may have
abbrev pub IsNoted : Noted → Type 0
IsNoted noted = HasParts noted.access.kind noted.old noted.new noted.entry

-- an entry that a phase holds from its start
abbrev pub IsHeld : Noted → Type 0
IsHeld noted = noted.access.kind ≡ Held
