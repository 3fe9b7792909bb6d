-- The beginning and the end of a slot in lockstep.
use Rattle.std.proofs.Common.{◌≡◌, ℕ, ◌+◌, List, [], ◌∷◌, length, Bool, true, false, refl, sym, ap, subst, ◌∙◌}
use Rattle.std.specs.Prelude.{Option, Some, None}
use Rattle.vf_base.specs.Base.{ReportedPair}
use Rattle.vf_base.specs.Lists.{AllHold}
use Rattle.v_design.specs.Designs.{Machine, faulty_machine}
use Rattle.v_design.specs.States.{State, ProcessState, LaterUpdate, TimeTurn, process_at, found_or, awake_at, is_postponed, is_due, some_in, next_time_of, time_turn_at, turn_by, turn_of, time_turn}
use Rattle.v_design.specs.Logs.{PhaseAccess}
use Rattle.v_design.specs.PhaseLogs.{phase_race}
use Rattle.v_design.specs.Runs.{turn_in_slot}
use Rattle.v_design.specs.Grades.{Phase, race_of, first_race, race_or_fine}
use Rattle.machine_laws.specs.SlotLoop.{QuietSlotsEnd, phases_so_far}
use Rattle.copy_laws.specs.Differences.{Differences, own_of, apart_of, StandsFor}
use Rattle.copy_laws.specs.Rest.{with_own, within_of, SameLanes, DifferencesAreWithin, WithinAreDifferences}
use Rattle.copy_laws.proofs.Parts.{length-mapped}
use Rattle.lockstep_laws.specs.Lockstep.{due_times, DiffersInWrites, AreInLockstep, StandBeside, LockstepIsBeside}
use Rattle.lockstep_laws.specs.Turning.{turned_process, LockstepTurns}
use Rattle.lockstep_laws.specs.Slots.{LockstepEnds, MayGoInLockstep, LockstepBegins, LockstepStops}
use Rattle.lockstep_laws.proofs.Lists.{some-is}
use Rattle.lockstep_laws.proofs.Turned.{Alike, next-alike, process-turned}

-- The end

-- where no phase has a race there is no first one
no-race : (machine : Machine) (number : ℕ) (phases : List Phase) → AllHold (λ (phase : Phase). phase_race machine phase.begins phase.events ≡ None) phases → first_race machine number phases ≡ None
no-race machine number [] h = refl
no-race machine number (phase ∷ phases) h =
    ap
    (λ (found : Option (PhaseAccess × PhaseAccess)). elim found as (λ _. Option ReportedPair) [
      | None ↦ first_race machine (number + 1) phases
      | Some pair ↦ Some (race_of phase.begins.time number pair)
    ]) h.0
    ∙ no-race machine (number + 1) phases h.1

pub lockstep_ends : LockstepTurns → QuietSlotsEnd → LockstepEnds
lockstep_ends turns law design fault d good own l comes few idle none =
    let t = turns d good own.state l in
    let ends = law (faulty_machine design fault) own comes few (t.idle idle) (ap turn_in_slot t.turn ∙ none) in
    record { ends = ends; fine = λ clean. ends.outcome_is ∙ ap race_or_fine (no-race (faulty_machine design fault) 1 (phases_so_far own) clean) }

-- The beginning

-- what is kept under no number
none-own : {A : Type 0} (own : Option A) (good : A) → own ≡ None → found_or good own ≡ good
none-own own good e = ap (found_or good) e

-- a kept process differs in its updates alone
own-differs : (d : Differences) (good : State) → MayGoInLockstep d good → (p : ℕ) → DiffersInWrites (process_at good p) (with_own d good p)
own-differs d good may p = record { activity = none-own (own_of d.activities p) (process_at good p).activity (may.activities p); due = due (own_of d.updates p) refl; lane = refl }
  where
    due : (own : Option (List LaterUpdate)) → own_of d.updates p ≡ own → due_times (found_or (process_at good p).later own) ≡ due_times (process_at good p).later
    due None e = refl
    due (Some own) e = may.updates p own e

-- between slots, but for the time
rests-lockstep : DifferencesAreWithin → (d : Differences) (good faulty : State) → StandsFor d good faulty → SameLanes good faulty → MayGoInLockstep d good → good.time ≡ faulty.time →
    AreInLockstep (within_of d good) good faulty
rests-lockstep law d good faulty s lanes may time = record {
  within = law d good faulty s lanes;
  time = time;
  nodes = λ number. refl;
  processes = λ p own e. kept p own ((apart_of d).processes p) e;
}
  where
    kept : (p : ℕ) (own : ProcessState) (b : Bool) → elim b as (λ _. Option ProcessState) [ true ↦ Some (with_own d good p) | false ↦ None ] ≡ Some own → DiffersInWrites (process_at good p) own
    kept p own true e = subst (DiffersInWrites (process_at good p)) (some-is (with_own d good p) own e) (own-differs d good may p)
    kept p own false e = cc

-- a turn to another time leaves the differences, updates and lanes, and wakes the same processes
turned-activity : (time : ℕ) (state : State) (p : ℕ) → (process_at (time_turn time state) p).activity ≡ awake_at time (process_at state p).activity
turned-activity time state p = ap (λ (s : ProcessState). s.activity) (process-turned (TimeTurn time) state p)

turned-later : (time : ℕ) (state : State) (p : ℕ) → (process_at (time_turn time state) p).later ≡ (process_at state p).later
turned-later time state p = ap (λ (s : ProcessState). s.later) (process-turned (TimeTurn time) state p)

pub turned-may : (d : Differences) (good : State) (time : ℕ) → MayGoInLockstep d good → MayGoInLockstep d (time_turn time good)
turned-may d good time may = record { activities = may.activities; updates = λ p own e. may.updates p own e ∙ sym (ap due_times (turned-later time good p)) }

turned-stands : (d : Differences) (good faulty : State) (time : ℕ) → ((p : ℕ) → own_of d.activities p ≡ None) → StandsFor d good faulty →
    StandsFor d (time_turn time good) (time_turn time faulty)
turned-stands d good faulty time none s = record {
  value_count = s.value_count;
  process_count = length-mapped (turned_process 0 (TimeTurn time)) faulty.processes ∙ s.process_count ∙ sym (length-mapped (turned_process 0 (TimeTurn time)) good.processes);
  nodes = s.nodes;
  values = s.values;
  activities = λ p.
      turned-activity time faulty p ∙ ap (awake_at time) (s.activities p ∙ none-own (own_of d.activities p) (process_at good p).activity (none p)) ∙ sym (turned-activity time good p)
      ∙ sym (none-own (own_of d.activities p) (process_at (time_turn time good) p).activity (none p));
  updates = λ p. turned-later time faulty p ∙ s.updates p ∙ ap (λ later. found_or later (own_of d.updates p)) (sym (turned-later time good p));
}

turned-lanes : (good faulty : State) (time : ℕ) → SameLanes good faulty → SameLanes (time_turn time good) (time_turn time faulty)
turned-lanes good faulty time lanes p =
    ap (λ (s : ProcessState). s.lane) (process-turned (TimeTurn time) faulty p) ∙ lanes p ∙ sym (ap (λ (s : ProcessState). s.lane) (process-turned (TimeTurn time) good p))

-- each process does the same in both
stands-alike : (d : Differences) (good faulty : State) → StandsFor d good faulty → SameLanes good faulty → MayGoInLockstep d good → Alike faulty.processes good.processes
stands-alike d good faulty s lanes may = record {
  count = s.process_count;
  each = λ p. record {
    activity = s.activities p ∙ (own-differs d good may p).activity;
    due = ap due_times (s.updates p) ∙ (own-differs d good may p).due;
    lane = ap length (lanes p);
  };
}

-- where no turn within the slot comes, the turn is that to the next time
next-turn : (postponed due : Bool) (next : Option ℕ) → turn_in_slot (turn_by postponed due next) ≡ None → turn_by postponed due next ≡ time_turn_at next
next-turn true due next e = cc
next-turn false true next e = cc
next-turn false false next e = refl

next-turn-of : (state : State) → turn_in_slot (turn_of state) ≡ None → turn_of state ≡ time_turn_at (next_time_of state.processes)
next-turn-of state e =
    next-turn (some_in (λ (p : ProcessState). is_postponed p.activity) state.processes) (some_in (λ (p : ProcessState). some_in (is_due state.time) p.later) state.processes)
    (next_time_of state.processes) e

pub lockstep_begins : DifferencesAreWithin → LockstepBegins
lockstep_begins law d good faulty s lanes may = record {
  turn = λ good_none own_none.
      next-turn-of faulty own_none ∙ ap time_turn_at (next-alike faulty.processes good.processes (stands-alike d good faulty s lanes may)) ∙ sym (next-turn-of good good_none);
  lockstep = λ time.
      rests-lockstep law d (time_turn time good) (time_turn time faulty) (turned-stands d good faulty time may.activities s) (turned-lanes good faulty time lanes)
      (turned-may d good time may) refl;
}

-- Between slots again

pub lockstep_stops : LockstepIsBeside → WithinAreDifferences → LockstepStops
lockstep_stops side law w d good faulty l listed = (
  law d w good faulty l.within (sym b.beside.nodes) listed.values
      (λ p.
      ap (λ (s : ProcessState). s.activity) (sym (l.within.processes p)) ∙ (b.processes p).activity
      ∙ sym (none-own (own_of d.activities p) (process_at good p).activity (listed.activities p)))
      (λ p. sym (listed.updates p)),
  record {
    activities = listed.activities;
    updates = λ p own e.
        ap due_times (ap (found_or (process_at good p).later) (sym e) ∙ listed.updates p ∙ ap (λ (s : ProcessState). s.later) (sym (l.within.processes p))) ∙ (b.processes p).due;
  },
)
  where
    b : StandBeside w good faulty
    b = side w good faulty l
