-- What a process reads or writes is of the design of the values and the nodes (IEEE 1364-2001, clause 9).
use Rattle.std.proofs.Common.{◌≡◌, ℕ, ◌<◌, length, refl, sym, subst}
use Rattle.std.specs.Prelude.{Option, Some, None, IfSome}
use Rattle.vf_base.specs.Base.{object_number}
use Rattle.v_design.specs.Designs.{Machine}
use Rattle.v_design.specs.Assignments.{ValueUpdate}
use Rattle.v_design.specs.States.{State, first_update, step_of, write_of}
use Rattle.net_state.specs.declared.state.NetState.{NetState}
use Rattle.net_state.specs.States.{values_in}
use Rattle.process_table.specs.declared.deed.Act.{Act}
use Rattle.process_table.specs.declared.deed.Act.TheVariants.{Read, Write}
use Rattle.process_table.specs.declared.table.ProcessTable.{ProcessTable}
use Rattle.process_table.specs.Deeds.{read_by, written_by}
use Rattle.process_table.specs.Tables.{process_in}
use Rattle.process_table.specs.Arranged.{table_of}
use Rattle.machine_events.specs.Parts.{AreBothOf}

-- an update is of one of so many objects
abbrev pub IsOfObjects : ℕ → ValueUpdate → Type 0
IsOfObjects count update = update.object < count

-- a step read or wrote one of so many objects
abbrev pub TouchesBelow : ℕ → Act → Type 0
TouchesBelow count (Read object) = object_number object < count
TouchesBelow count (Write update) = object_number update.object < count

-- the first update of a process's lane is of an object that has a value
abbrev pub LaneIsThere : ℕ → NetState → ProcessTable → Type 0
LaneIsThere process nets table = IfSome (first_update (process_in (table_of table) process).lane) (IsOfObjects (length (values_in nets)))

-- in whatever state both are of, the update that a step of a process writes is of an object that has a value
abbrev pub StepIsThere : ℕ → NetState → ProcessTable → Type 0
StepIsThere process nets table =
    (machine : Machine) (state : State) → AreBothOf machine state nets table → IfSome (write_of (step_of machine state process).action) (IsOfObjects (length (values_in nets)))

-- what holds of whatever is found
pub found-holds : {A : Type 0} (P : A → Type 0) (found : Option A) → ((x : A) → found ≡ Some x → P x) → IfSome found P
found-holds P None h = tt
found-holds P (Some x) h = h x refl

-- what a step did is to an object that is there, where what it read and what it wrote are
pub touches-there : (count : ℕ) (act : Option Act) (write : Option ValueUpdate) → IfSome (read_by act) (λ object. object < count) → written_by act ≡ write → IfSome write (IsOfObjects count) →
    IfSome act (TouchesBelow count)
touches-there count None write read is wrote = tt
touches-there count (Some (Read object)) write read is wrote = read
touches-there count (Some (Write update)) write read is wrote = subst (λ (o : Option ValueUpdate). IfSome o (IsOfObjects count)) (sym is) wrote
