-- The next slot begins (IEEE 1364-2001, clause 5.4).
use Rattle.std.proofs.Common.{◌≡◌, ℕ, ◌≤◌, ◌^◌, [], length, refl, sym, ap, subst, ◌∙◌, arith}
use Rattle.std.specs.Prelude.{Option, Some, None, IsSomeAnd}
use Rattle.v_design.specs.PlainDesigns.{design_of}
use Rattle.v_design.specs.Designs.{Machine}
use Rattle.v_design.specs.States.{State, TurnKind, PostponedTurn, UpdatesTurn, TimeTurn, found_or, turn_of, time_turn}
use Rattle.causal_monitor.specs.declared.slot.Turn.{Turn}
use Rattle.causal_monitor.specs.declared.slot.SlotLog.{SlotLog}
use Rattle.slot_record.specs.Records.{object_count}
use Rattle.race_laws.specs.Writes.{WritesAreOf, WritesStay}
use Rattle.machine_laws.specs.SlotLoop.{SlotsBegin, first_moment, slot_from}
use Rattle.slot_record.specs.declared.record.SlotRecord.{SlotRecord}
use Rattle.slot_record.specs.SlotRecords.{BeginsSlot, BeginsPhase, IsEmptyLog}
use Rattle.run_record.specs.RunRecords.{runs_so_far, AreAtRest, SlotsBeginNotes}
use Rattle.net_state.specs.declared.state.NetState.{NetState}
use Rattle.net_state.specs.States.{AreNetsOf}
use Rattle.process_table.specs.Tables.{TableState, IsTableOf}
use Rattle.v_design.specs.Runs.{turned_by}
use Rattle.process_table.specs.Arranged.{IsKept, table_of}
use Rattle.machine.specs.declared.parts.Stage.{Stage}
use Rattle.machine.specs.declared.parts.Stage.TheVariants.{Start, Between, Over}
use Rattle.machine.specs.declared.parts.Machine.{Machine as Simulated}
use Rattle.machine.specs.Standing.{machine_kept, state_kept, slot_after, begins_at, begins_next, notes_runs, first_turn, IsStanding}
use Rattle.machine_events.specs.Parts.{AreBothOf}
use Rattle.machine_events.specs.Turns.{held_in}
use Rattle.machine_events.specs.PartLaws.{turned-nets, held-is}
use Rattle.machine.specs.Moments.{IsAt}
use Rattle.machine.proofs.Moved.{moved, rules-of}

pub some-state : (x y : State) → Some x ≡ Some y → x ≡ y
some-state x y e = ap (found_or x) e

-- what is left of a run
pub found-some : (o : Option State) (P : State → Type 0) → IsSomeAnd o P → (x : State) × (o ≡ Some x) × P x
found-some None P h = absurd h
found-some (Some x) P h = (x, refl, h)

-- a later slot begins by a turn to its time
pub later-slot : (state begins : State) (o : Option TurnKind) → slot_after state o ≡ Some begins → (time : ℕ) × (o ≡ Some (TimeTurn time)) × (time_turn time state ≡ begins)
later-slot state begins None e = cc
later-slot state begins (Some PostponedTurn) e = cc
later-slot state begins (Some UpdatesTurn) e = cc
later-slot state begins (Some (TimeTurn time)) e = (time, refl, some-state (time_turn time state) begins e)

-- a slot begins with the values and the nodes of the state before
begins-nets : (stage : Stage) (nets : NetState) (state begins : State) → AreNetsOf nets state → begins_at stage state ≡ Some begins → AreNetsOf nets begins
begins-nets Start nets state begins are e = subst (AreNetsOf nets) (some-state state begins e) are
begins-nets Between nets state begins are e =
    let l = later-slot state begins (turn_of state) e in
    subst (AreNetsOf nets) l.2 (turned-nets (TimeTurn l.0) nets state are)
begins-nets Over nets state begins are e = cc

-- the processes are those of the state in which the slot begins
pub begins-table : (m : Simulated) → IsStanding m → IsTableOf (machine_kept m) (state_kept m) (table_of m.table)
begins-table m standing = record { design = standing.design; time = refl; processes = refl }

-- what is to be written in a slot of the first run is of the design
begins-writes : WritesStay → (m : Simulated) → IsStanding m → (begins : State) → begins_next m ≡ Some begins → WritesAreOf (machine_kept m).design begins
begins-writes law m standing begins next =
    let reached = standing.reached begins next in
    law.slots_begin (machine_kept m) begins.time reached.number (slot_from (machine_kept m) begins) (rules-of m) (reached.stands begins.time (omega arith))

-- the slot begins, and is recorded
pub slot-begun : SlotsBegin → SlotsBeginNotes → WritesStay → (begins : State) (old new : Simulated) (log : SlotLog) (turn : Turn) (between : SlotRecord) → IsStanding old →
    begins_next old ≡ Some begins → begins.time ≤ 2 ^ 63 →
    turn ≡ first_turn old.stage → IsTableOf (machine_kept old) begins (table_of new.table) → IsKept new.table → AreNetsOf new.nets (state_kept old) → machine_kept new ≡ machine_kept old →
    design_of new.graph.now.design.now ≡ design_of old.graph.now.design.now → IsEmptyLog log → BeginsSlot old.record between →
    BeginsPhase turn (table_of new.table).time (held_in (table_of new.table)) between new.record → new.runs.ended.items ≡ [] → runs_so_far new.runs ≡ runs_so_far old.runs →
    notes_runs new ≡ notes_runs old → IsAt (machine_kept old) (first_turn old.stage) (first_moment begins) new log
slot-begun law notes stay_there begins old new log turn between standing next low first table kept nets same graph empty slot phase none stay noted =
    let machine = machine_kept old in
    let both : AreBothOf machine begins new.nets new.table = record { machine_is = same; nets_are = begins-nets old.stage new.nets (state_kept old) begins nets next; table_is = table } in
    moved machine (first_turn old.stage) (first_moment begins) new log (law machine begins (standing.begins begins next)) both kept (graph ∙ standing.graph)
    (phase machine (first_turn old.stage) [] None begins log (slot machine (first_turn old.stage) standing.earlier log standing.causes empty) first (sym table.time)
    (held-is machine begins (table_of new.table) table)) low
    (begins-writes stay_there old standing begins next)
    (λ on. notes machine begins new.runs (subst (AreAtRest (length machine.design.processes)) (sym stay) (standing.rests begins next (sym noted ∙ on))) none)

-- there is room for as many objects as the design has
pub begun-room : (m : Simulated) (between : SlotRecord) (log : SlotLog) → IsStanding m → BeginsSlot m.record between → IsEmptyLog log →
    object_count between.phase ≡ length (machine_kept m).design.objects
begun-room m between log standing slot empty = (slot (machine_kept m) (first_turn m.stage) standing.earlier log standing.causes empty).causes.objects

-- The turn before a slot

-- at the start there is none
pub start-table : (stage : Stage) (machine : Machine) (state begins : State) (table : TableState) → stage ≡ Start → IsTableOf machine state table → begins_at stage state ≡ Some begins →
    IsTableOf machine begins table
start-table stage machine state begins table is of next =
    subst (λ s. IsTableOf machine s table) (some-state state begins (sym (ap (λ g. begins_at g state) is) ∙ next)) of

-- between two slots time moves on
pub between-table : (stage : Stage) (machine : Machine) (state begins : State) (table : TableState) → stage ≡ Between → IsTableOf machine (turned_by (turn_of state) state) table →
    begins_at stage state ≡ Some begins → IsTableOf machine begins table
between-table stage machine state begins table is of next =
    let l = later-slot state begins (turn_of state) (sym (ap (λ g. begins_at g state) is) ∙ next) in
    subst (λ s. IsTableOf machine s table) (ap (λ o. turned_by o state) l.1 ∙ l.2) of

-- and none comes after a loop
pub over-none : (stage : Stage) (state begins : State) → stage ≡ Over → begins_at stage state ≡ Some begins → ⊥
over-none stage state begins is next = let no : None ≡ Some begins = sym (ap (λ g. begins_at g state) is) ∙ next in cc
