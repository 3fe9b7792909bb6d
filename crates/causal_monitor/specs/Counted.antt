-- The numbered accesses of a phase, as the check keeps them.
use Rattle.std.specs.Prelude.{◌≡◌, ℕ, ◌<◌, ◌++◌, List, map, Option, Some, None}
use Rattle.std.specs.List.{All}
use Rattle.v_design.specs.Accesses.{ObjectAccess, Settling}
use Rattle.std.specs.Option.{ForSome}
use Rattle.four_value.specs.Values.{LogicValue}
use Rattle.vf_base.specs.Base.{object_number}
use Rattle.vf_base.specs.declared.finding.AccessKind.{AccessKind}
use Rattle.vf_base.specs.declared.finding.AccessKind.TheVariants.{Read, Write, Await, Ended, Held, Settle}
use Rattle.v_design.specs.Logs.{PhaseAccess}
use Rattle.causal_monitor.specs.declared.noted.WaitEdge.{WaitEdge}
use Rattle.causal_monitor.specs.declared.noted.Noted.{Noted}
use Rattle.causal_monitor.specs.declared.numbered.Numbered.{Numbered}
use Rattle.causal_monitor.specs.Notes.{noted_access, HasValues, HasEntry}

-- an access with the number of its event
abbrev pub phase_access : Numbered → PhaseAccess
phase_access numbered = record { event = numbered.event; access = noted_access numbered.noted }

-- what an access of a kind has; a held entry and a settling are compared by their objects alone
abbrev pub HasCheckedParts : AccessKind → Option LogicValue → Option LogicValue → Option WaitEdge → Type 0
HasCheckedParts Read old new entry = Unit {0}
HasCheckedParts Write old new entry = HasValues old new
HasCheckedParts Await old new entry = HasEntry entry
HasCheckedParts Ended old new entry = HasEntry entry
HasCheckedParts Held old new entry = Unit {0}
HasCheckedParts Settle old new entry = Unit {0}

-- an access that can be compared with others
abbrev pub IsComparable : Noted → Type 0
IsComparable noted = HasCheckedParts noted.access.kind noted.old noted.new noted.entry

-- an access of a phase with so many events
pub record IsNumbered (events : ℕ) (numbered : Numbered) : Type 0 where
  pub event : ForSome numbered.event (λ event. event < events)
  pub parts : IsComparable numbered.noted

-- the number of an access's object
abbrev pub numbered_object : Numbered → ℕ
numbered_object numbered = object_number numbered.noted.access.object

-- an access of an event
abbrev pub numbered_at : ℕ → ObjectAccess → PhaseAccess
numbered_at event access = record { event = Some event; access = access }

-- an entry that is held from the phase's start
abbrev pub held_at : ObjectAccess → PhaseAccess
held_at access = record { event = None; access = access }

-- the settling of a net piece, with the process and the line of a write
abbrev pub settling_of : ObjectAccess → ℕ → ObjectAccess
settling_of write net = record { act = Settling; object = net; process = write.process; line = write.line }

-- a list gains some accesses of a phase with so many events, of a design with so many objects
pub record Adds (object_count events : ℕ) (before later : List Numbered) (more : List PhaseAccess) : Type 0 where
  pub list : map phase_access later ≡ map phase_access before ++ more
  pub numbered : All (IsNumbered events) before → All (IsNumbered events) later
  pub objects : All (λ (n : Numbered). numbered_object n < object_count) before → All (λ (n : Numbered). numbered_object n < object_count) later
