-- The lane of a process.
use Rattle.std.proofs.Common.{◌≡◌, ℕ, zero, suc, List, [], ◌∷◌, false, refl, sym, ap, ◌∙◌}
use Rattle.std.specs.Prelude.{◌≢◌, Option, Some, None, slice_get}
use Rattle.std.proofs.lemmas.Bool.{eq-eqb}
use Rattle.vf_base.specs.Lists.{change_at}
use Rattle.v_design.specs.Designs.{Machine}
use Rattle.v_design.specs.Assignments.{ValueUpdate}
use Rattle.v_design.specs.States.{State, ProcessState, Event, LaneStep, after, process_at, found_or, idle_process, with_process, first_update, rest_of, after_lane_step}
use Rattle.v_design.specs.PhaseLogs.{is_lane_of}
use Rattle.order_laws.proofs.Woken.{lane_after_other, woken_if_process, process-written}
use Rattle.phase_blocks.proofs.Lists.{true-false}

-- an event that isn't its step leaves a lane
pub other-lane : (machine : Machine) (state : State) (p : ℕ) (event : Event) → is_lane_of p event ≡ false → (process_at (after machine state event) p).lane ≡ (process_at state p).lane
other-lane machine state p event h = lane_after_other machine state event p apart
  where
    apart : LaneStep p ≢ event
    apart e = true-false (is_lane_of p event) (ap (is_lane_of p) (sym e) ∙ eq-eqb p p refl) h

woken-lane : (machine : Machine) (state : State) (write : Option ValueUpdate) (s : ProcessState) → (woken_if_process machine state write s).lane ≡ s.lane
woken-lane machine state None s = refl
woken-lane machine state (Some update) s = refl

lane-rest : (xs : List ProcessState) (p : ℕ) → (found_or idle_process (slice_get (change_at xs p after_lane_step) p)).lane ≡ rest_of (found_or idle_process (slice_get xs p)).lane
lane-rest [] p = refl
lane-rest (x ∷ xs) zero = refl
lane-rest (x ∷ xs) (suc p) = lane-rest xs p

-- and that takes the first update
pub own-lane : (machine : Machine) (state : State) (p : ℕ) → (process_at (after machine state (LaneStep p)) p).lane ≡ rest_of (process_at state p).lane
own-lane machine state p =
    ap (λ (s : ProcessState). s.lane) (process-written machine write (with_process p after_lane_step state) p)
    ∙ woken-lane machine (with_process p after_lane_step state) write (process_at (with_process p after_lane_step state) p) ∙ lane-rest state.processes p
  where
    write : Option ValueUpdate
    write = first_update (process_at state p).lane
