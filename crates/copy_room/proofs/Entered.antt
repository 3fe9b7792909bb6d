-- A room that is put into a state goes on from part to part, and stands there in the end.
use Rattle.std.proofs.Common.{◌≡◌, ℕ, List, length, sym, ap, subst, ◌∙◌}
use Rattle.std.specs.Prelude.{Some}
use Rattle.v_design.specs.Designs.{FlatDesign, Machine, StuckAt, TestPlan, faulty_machine}
use Rattle.v_design.specs.States.{State, turn_of}
use Rattle.process_code.specs.declared.code.Code.{Code}
use Rattle.run_ends.specs.RunEnds.{AreCodesOf}
use Rattle.copy_state.specs.Kept.{CopyKept}
use Rattle.machine.specs.declared.parts.Machine.{Machine as Simulated}
use Rattle.machine.specs.declared.parts.Stage.TheVariants.{Between}
use Rattle.machine.specs.Standing.{IsStanding, IsCleared, StandsBetween, machine_kept, state_kept, notes_runs, begins_next, slot_after, cleared_state}
use Rattle.copy_room.specs.Rooms.{IsRoom, CanEnter, HasEntered}
use Rattle.copy_room.specs.Putting.{IsPlaced, CanPut}
use Rattle.copy_room.proofs.Placing.{begins-placed, all-placed}

-- nothing is put yet
abbrev pub can-begin : (codes : List Code) (design : FlatDesign) (plan : TestPlan) (number : ℕ) (fault : StuckAt) (time : ℕ) (kept : CopyKept) (old new : Simulated) →
    CanEnter codes design plan number fault time kept → AreCodesOf design codes → IsRoom design old → machine_kept new ≡ record (machine_kept old) { fault = Some fault } →
    state_kept new ≡ cleared_state (machine_kept old).design time (state_kept old).values → IsCleared new → notes_runs new ≡ notes_runs old → CanPut design plan number kept 0 0 new
can-begin codes design plan number fault time kept old new of codes_are room machine state cleared notes = record {
  codes = codes;
  codes_are = codes_are;
  fault = fault;
  faulty = of.faulty;
  between = of.between;
  copy = of.copy;
  placed = begins-placed design fault of.faulty time old new room of.between of.time_is machine state cleared notes;
}

-- more is put
abbrev pub can-go-on : (design : FlatDesign) (plan : TestPlan) (number : ℕ) (kept : CopyKept) (objects processes more_objects more_processes : ℕ) (old new : Simulated) →
    (put : CanPut design plan number kept objects processes old) → IsPlaced (faulty_machine design put.fault) put.faulty more_objects more_processes new →
    CanPut design plan number kept more_objects more_processes new
can-go-on design plan number kept objects processes more_objects more_processes old new put placed = record {
  codes = put.codes;
  codes_are = put.codes_are;
  fault = put.fault;
  faulty = put.faulty;
  between = put.between;
  copy = put.copy;
  placed = placed;
}

-- all is put
pub whole-state : (design : FlatDesign) (fault : StuckAt) (faulty : State) (m : Simulated) → StandsBetween (faulty_machine design fault) faulty →
    IsPlaced (faulty_machine design fault) faulty (length design.objects) (length design.processes) m → state_kept m ≡ faulty
whole-state design fault faulty m between placed =
    all-placed (faulty_machine design fault) faulty m
    (subst (λ n. IsPlaced (faulty_machine design fault) faulty n (length faulty.processes) m) (sym between.values)
    (subst (λ n. IsPlaced (faulty_machine design fault) faulty (length design.objects) n m) (sym between.count) placed))

pub may-stand-between : (design : FlatDesign) (fault : StuckAt) (faulty : State) (m : Simulated) → StandsBetween (faulty_machine design fault) faulty →
    IsPlaced (faulty_machine design fault) faulty (length design.objects) (length design.processes) m → StandsBetween (machine_kept m) (state_kept m)
may-stand-between design fault faulty m between placed =
    subst (λ (k : Machine). StandsBetween k (state_kept m)) (sym placed.machine_is)
    (subst (StandsBetween (faulty_machine design fault)) (sym (whole-state design fault faulty m between placed)) between)

pub has-entered : (design : FlatDesign) (fault : StuckAt) (faulty : State) (old new : Simulated) → StandsBetween (faulty_machine design fault) faulty →
    IsPlaced (faulty_machine design fault) faulty (length design.objects) (length design.processes) old → machine_kept new ≡ machine_kept old → state_kept new ≡ state_kept old → IsStanding new →
    begins_next new ≡ slot_after (state_kept old) (turn_of (state_kept old)) → new.stage ≡ Between → notes_runs new ≡ notes_runs old → HasEntered design fault faulty new
has-entered design fault faulty old new between placed machine state standing next stage notes =
    let whole = whole-state design fault faulty old between placed in
    record {
      machine_is = machine ∙ placed.machine_is;
      state_is = state ∙ whole;
      standing = standing;
      next_is = next ∙ ap (λ (s : State). slot_after s (turn_of s)) whole;
      stage = stage;
      no_notes = notes ∙ placed.no_notes;
    }
