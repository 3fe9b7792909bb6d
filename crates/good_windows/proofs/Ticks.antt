-- A counter rises by no more than the process steps of the good slots that are run (steps by IEEE 1364-2001, clause 9; slots by clause 5).
use Rattle.std.proofs.Common.{◌≡◌, ℕ, zero, suc, ◌+◌, ◌<◌, ◌≤◌, length, get_or, take, refl, ap, arith}
use Rattle.std.specs.Prelude.{Option, Some, None, slice_get}
use Rattle.std.proofs.lemmas.List.Sums.{sum_by_more}
use Rattle.std.proofs.lemmas.Option.{slice_get_within, get_or_from_slice_get}
use Rattle.v_design.specs.Designs.{FlatDesign, TestPlan}
use Rattle.v_design.specs.Runs.{FirstSlot}
use Rattle.copy_laws.specs.Windows.{good_slots}
use Rattle.machine.specs.Ticks.{raised_by, process_steps}
use Rattle.good_windows.specs.Next.{steps_of_slots}
use Rattle.good_windows.specs.Stages.{run_through, stage_by}

raised-most : (count before : ℕ) → raised_by count before ≤ before + count
raised-most zero before = omega arith
raised-most (suc count) before = let x : raised_by count before ≤ before + count = raised-most count before in omega (arith, x)

-- a slot
pub slot-ticks : (design : FlatDesign) (plan : TestPlan) (number before after : ℕ) (slot : FirstSlot) → slice_get (good_slots design plan) number ≡ Some slot →
    after ≡ raised_by (process_steps slot) before → after + steps_of_slots design plan number ≤ before + steps_of_slots design plan (number + 1)
slot-ticks design plan number before after slot here rose =
    let low : number < length (good_slots design plan) = slice_get_within (good_slots design plan) number slot here in
    let more : steps_of_slots design plan (number + 1) ≡ steps_of_slots design plan number + process_steps (get_or (good_slots design plan) number slot) =
    sum_by_more process_steps (good_slots design plan) number slot low in
    let same : process_steps (get_or (good_slots design plan) number slot) ≡ process_steps slot = ap process_steps (get_or_from_slice_get (good_slots design plan) number slot slot here) in
    let most : raised_by (process_steps slot) before ≤ before + process_steps slot = raised-most (process_steps slot) before in
    omega (arith, rose, more, same, most)

-- one slot more
pub ticks-more : (design : FlatDesign) (plan : TestPlan) (first pushed now before mid after : ℕ) → mid + steps_of_slots design plan first ≤ before + steps_of_slots design plan pushed →
    after + steps_of_slots design plan pushed ≤ mid + steps_of_slots design plan (pushed + 1) → now ≡ pushed + 1 → after + steps_of_slots design plan first ≤ before + steps_of_slots design plan now
ticks-more design plan first pushed now before mid after so_far more is =
    let same : steps_of_slots design plan now ≡ steps_of_slots design plan (pushed + 1) = ap (steps_of_slots design plan) is in omega (arith, so_far, more, same)

-- a run that may go on was run through the slots that stand in the trace
pub run-by : (pushed : ℕ) (next : Option ℕ) → run_through pushed (stage_by next) ≡ pushed
run-by pushed None = refl
run-by pushed (Some time) = refl
