-- A turn keeps what processes are still to write, and at the start it is what their bodies write.
use Rattle.std.proofs.Common.{◌≡◌, ℕ, zero, suc, List, [], ◌∷◌, ◌++◌, map, Bool, true, false, not, refl, filter}
use Rattle.std.specs.Prelude.{Some, slice_get, cond, if◌then◌else◌, nat_le}
use Rattle.v_design.specs.Designs.{FlatProcess}
use Rattle.v_design.specs.Assignments.{ValueUpdate}
use Rattle.v_design.specs.Processes.{Activity, Ready, Waiting, Asleep, Postponed, Done, opened}
use Rattle.v_design.specs.States.{State, LaterUpdate, TurnKind, PostponedTurn, UpdatesTurn, TimeTurn, found_or, idle_process, resumed, awake_at, is_due, turned}
use Rattle.v_design.specs.Reads.{written_objects}
use Rattle.v_design.specs.Writers.{activity_objects, later_objects, lane_objects}
use Rattle.race_laws.proofs.Writers.{Clear, IsClear, AreClear, opened-clear, mapped-clear}

resumed-clear : (P : ℕ → Type 0) (activity : Activity) → Clear P (activity_objects activity) → Clear P (activity_objects (resumed activity))
resumed-clear P (Ready tasks operands) h = h
resumed-clear P (Waiting place entries tasks) h = h
resumed-clear P (Asleep time tasks) h = h
resumed-clear P (Postponed tasks) h = h
resumed-clear P Done h = h

awake-clear : (P : ℕ → Type 0) (now : ℕ) (activity : Activity) → Clear P (activity_objects activity) → Clear P (activity_objects (awake_at now activity))
awake-clear P now (Ready tasks operands) h = h
awake-clear P now (Waiting place entries tasks) h = h
awake-clear P now (Asleep time tasks) h = go (nat_le time now)
  where
    go : (b : Bool) → Clear P (activity_objects (if b then Ready tasks [] else Asleep time tasks))
    go true = h
    go false = h
awake-clear P now (Postponed tasks) h = h
awake-clear P now Done h = h

filter-clear : (P : ℕ → Type 0) (test : LaterUpdate → Bool) (later : List LaterUpdate) → Clear P (later_objects later) → Clear P (later_objects (filter test later))
filter-clear P test [] h = tt
filter-clear P test (first ∷ rest) h = go (test first) (filter-clear P test rest h.1)
  where
    go : (b : Bool) → Clear P (later_objects (filter test rest)) → Clear P (later_objects (cond b (first ∷ filter test rest) (filter test rest)))
    go true i = (h.0, i)
    go false i = i

lane-append : (P : ℕ → Type 0) (lane : List ValueUpdate) (later : List LaterUpdate) → Clear P (lane_objects lane) → Clear P (later_objects later) →
    Clear P (lane_objects (lane ++ map (λ (later : LaterUpdate). later.update) later))
lane-append P [] [] h i = tt
lane-append P [] (first ∷ later) h i = (i.0, lane-append P [] later tt i.1)
lane-append P (update ∷ lane) later h i = (h.0, lane-append P lane later h.1 i)

pub turned-clear : (P : ℕ → Type 0) (turn : TurnKind) (state : State) → AreClear P state → AreClear P (turned turn state)
turned-clear P PostponedTurn state h =
    mapped-clear P state.processes (λ process. record process { activity = resumed process.activity }) (λ x i. (resumed-clear P x.activity i.0, i.1)) h
turned-clear P UpdatesTurn state h =
    mapped-clear P state.processes
    (λ process. record process {
      later = filter (λ later. not (is_due state.time later)) process.later;
      lane = process.lane ++ map (λ (later : LaterUpdate). later.update) (filter (is_due state.time) process.later);
    })
    (λ x i. (
      i.0,
      (
        filter-clear P (λ later. not (is_due state.time later)) x.later i.1.0,
        lane-append P x.lane (filter (is_due state.time) x.later) i.1.1 (filter-clear P (is_due state.time) x.later i.1.0),
      ),
    )) h
turned-clear P (TimeTurn time) state h =
    mapped-clear P state.processes (λ process. record process { activity = awake_at time process.activity }) (λ x i. (awake-clear P time x.activity i.0, i.1)) h

-- At the start

pub start-clear : (P : ℕ → Type 0) (processes : List FlatProcess) → ((number : ℕ) (process : FlatProcess) → slice_get processes number ≡ Some process → Clear P (written_objects process.body)) →
    (number : ℕ) →
    IsClear P (found_or idle_process (slice_get (map (λ (process : FlatProcess). record { activity = Ready (opened process.body []) []; later = []; lane = [] }) processes) number))
start-clear P [] h number = (tt, (tt, tt))
start-clear P (process ∷ processes) h zero = (opened-clear P process.body [] (h 0 process refl) tt, (tt, tt))
start-clear P (process ∷ processes) h (suc number) = start-clear P processes (λ n. h (suc n)) number
