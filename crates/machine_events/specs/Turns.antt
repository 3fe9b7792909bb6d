-- The turns between the phases of a slot, and what a phase begins with (IEEE 1364-2001, clauses 5.3 and 5.4).
use Rattle.std.specs.Prelude.{◌≡◌, ℕ, List, Option, Some, None}
use Rattle.vf_base.specs.Lists.{joined, map_numbered}
use Rattle.v_design.specs.States.{TurnKind, PostponedTurn, UpdatesTurn, TimeTurn}
use Rattle.v_design.specs.Runs.{Turns, turn_in_slot}
use Rattle.v_design.specs.Accesses.{ObjectAccess, held_by}
use Rattle.causal_monitor.specs.declared.slot.Turn.{Turn}
use Rattle.slot_record.specs.SlotLogs.{turn_before}
use Rattle.process_table.specs.Tables.{TableState}

-- the accesses that a phase holds which begins with the processes of a table
abbrev pub held_in : TableState → List ObjectAccess
held_in table = joined (map_numbered (held_by table.design) 0 table.processes)

-- the turn before the next phase, as it is logged: none exactly where no turn within the slot comes
abbrev pub TellsTurn : Option Turn → Option TurnKind → Type 0
TellsTurn None kind = turn_in_slot kind ≡ None
TellsTurn (Some turn) None = ⊥
TellsTurn (Some turn) (Some kind) = (turn_in_slot (Some kind) ≡ Some Turns) × ((first : Turn) → turn ≡ turn_before first (Some kind))

-- the time to which a turn leads, where it leads to a later one
abbrev pub time_in : Option TurnKind → Option ℕ
time_in None = None
time_in (Some PostponedTurn) = None
time_in (Some UpdatesTurn) = None
time_in (Some (TimeTurn time)) = Some time
