-- One object, and one process, more of a state that is put into a room.
use Rattle.std.proofs.Common.{◌≡◌, ℕ, ◌+◌, ◌<◌, List, length, sym, ap, subst, ◌∙◌, arith}
use Rattle.vf_base.specs.Lists.{change_at}
use Rattle.four_value.specs.Values.{LogicValue}
use Rattle.v_design.specs.Assignments.{value_at}
use Rattle.v_design.specs.Designs.{FlatDesign, Machine, TestPlan, faulty_machine, width_in}
use Rattle.v_design.specs.States.{ProcessState, LaterUpdate, process_at}
use Rattle.process_code.specs.declared.code.Code.{Code}
use Rattle.process_code.specs.declared.state.ProcState.{ProcState}
use Rattle.run_ends.specs.RunEnds.{IsCodeAt}
use Rattle.process_table.specs.Puts.{MayStand, StandsAt, process_at_state}
use Rattle.copy_state.specs.Kept.{CopyKept}
use Rattle.good_trace.specs.RunsKept.{Stands}
use Rattle.machine.specs.declared.parts.Machine.{Machine as Simulated}
use Rattle.machine.specs.Standing.{IsCleared, machine_kept, state_kept, notes_runs}
use Rattle.copy_room.specs.Putting.{IsPlaced, CanPut}
use Rattle.copy_room.proofs.Placing.{process-placed}
use Rattle.copy_room.proofs.Standing.{some-code, lane-empty}

-- an object's value has its width
pub value-wide : (design : FlatDesign) (plan : TestPlan) (number : ℕ) (kept : CopyKept) (objects processes : ℕ) (first room : Simulated) (put : CanPut design plan number kept 0 0 first) →
    IsPlaced (faulty_machine design put.fault) put.faulty objects processes room → (object : ℕ) (value : LogicValue) → object < length design.objects →
    value ≡ value_at put.faulty.values object → length value ≡ width_in (machine_kept room).design object
value-wide design plan number kept objects processes first room put placed object value low is =
    ap length is ∙ put.between.widths object (omega (arith, low, put.between.values)) ∙ ap (λ (k : Machine). width_in k.design object) (sym placed.machine_is)

module _ (design : FlatDesign) (plan : TestPlan) (number : ℕ) (kept : CopyKept) (objects process : ℕ) (room : Simulated) (put : CanPut design plan number kept objects process room)
    (low : process < length design.processes) (state : ProcState) (updates : List LaterUpdate) (stands : Stands design process (process_at put.faulty process).activity state)
    (later : updates ≡ (process_at put.faulty process).later) where
  same-design : (machine_kept room).design ≡ design
  same-design = ap (λ (k : Machine). k.design) put.placed.machine_is

  stands-there : (code : Code) → IsCodeAt design process code → process_at_state code state updates ≡ process_at put.faulty process
  stands-there code at = λ i. record { activity = stands.does code at i; later = later i; lane = sym (lane-empty put.faulty process put.between.quiet) i }

  -- it may stand so
  pub may-stand : (code : Code) → IsCodeAt (machine_kept room).design process code → StandsAt (machine_kept room).design (state_kept room).time process state updates code
  may-stand code at =
      let here = subst (λ d. IsCodeAt d process code) same-design at in
      record {
        is_state = stands.state_of code here;
        may =
            subst (λ d. MayStand d (state_kept room).time process (process_at_state code state updates)) (sym same-design)
            (subst (λ time. MayStand design time process (process_at_state code state updates)) (sym put.placed.time_is)
            (subst (MayStand design put.faulty.time process) (sym (stands-there code here)) (put.between.processes process)));
      }

  -- and then does
  pub process-put : (new : Simulated) → machine_kept new ≡ machine_kept room →
      ((code : Code) → IsCodeAt (machine_kept room).design process code → state_kept new ≡ record (state_kept room) {
        processes = change_at (state_kept room).processes process (λ (old : ProcessState). process_at_state code state updates);
      }) →
      IsCleared new → notes_runs new ≡ notes_runs room → IsPlaced (faulty_machine design put.fault) put.faulty objects (process + 1) new
  process-put new machine state_is cleared notes =
      let code = some-code design put.codes process put.codes_are low in
      let at = put.codes_are.each process code.0 code.1 in
      process-placed (faulty_machine design put.fault) put.faulty objects process room new (process_at_state code.0 state updates) put.placed (omega (arith, low, put.between.count))
      (stands-there code.0 at) machine (state_is code.0 (subst (λ d. IsCodeAt d process code.0) (sym same-design) at)) cleared notes
