-- Turns of states in lockstep.
use Rattle.std.proofs.Common.{◌≡◌, ℕ, suc, List, [], ◌∷◌, length, Bool, not, ◌&&◌, ◌||◌, refl, sym, ap, subst, ◌∙◌, arith}
use Rattle.std.specs.Prelude.{Option, Some, None, slice_get}
use Rattle.std.specs.Option.{option_map}
use Rattle.v_design.specs.States.{State, ProcessState, TurnKind, PostponedTurn, UpdatesTurn, TimeTurn, process_at, found_or, idle_process, is_ready, is_any, has_event, has_work, some_in}
use Rattle.v_design.specs.States.{is_postponed, is_due, with_processes, least_of, wake_time, next_time_of, turn_by, turn_of, turned}
use Rattle.v_design.specs.Runs.{work_of}
use Rattle.copy_laws.specs.Beside.{AreBeside}
use Rattle.copy_laws.specs.Moves.{Within, apart_within}
use Rattle.copy_laws.proofs.Parts.{length-mapped, found-mapped, first_place-alike}
use Rattle.lockstep_laws.specs.Lockstep.{DiffersInWrites, AreInLockstep, StandBeside, LockstepIsBeside}
use Rattle.lockstep_laws.specs.Turning.{turned_process, turned_within, LockstepTurns}
use Rattle.lockstep_laws.proofs.Lists.{some-is}
use Rattle.lockstep_laws.proofs.Updates.{any-alike, due-alike, first-alike, turned-alike}

-- Lists of processes that are alike place by place

-- two lists of processes, as long as each other, that differ at each place in what updates write alone
pub record Alike (xs ys : List ProcessState) : Type 0 where
  pub count : length xs ≡ length ys
  pub each : (p : ℕ) → DiffersInWrites (found_or idle_process (slice_get ys p)) (found_or idle_process (slice_get xs p))

rest-alike : (x y : ProcessState) (xs ys : List ProcessState) → Alike (x ∷ xs) (y ∷ ys) → Alike xs ys
rest-alike x y xs ys a = record { count = omega (arith, a.count); each = λ p. a.each (suc p) }

pub some-alike : (test : ProcessState → Bool) → ((good own : ProcessState) → DiffersInWrites good own → test own ≡ test good) → (xs ys : List ProcessState) → Alike xs ys →
    some_in test xs ≡ some_in test ys
some-alike test h [] [] a = refl
some-alike test h [] (y ∷ ys) a = absurd (omega (arith, a.count))
some-alike test h (x ∷ xs) [] a = absurd (omega (arith, a.count))
some-alike test h (x ∷ xs) (y ∷ ys) a = λ i. h y x (a.each 0) i || some-alike test h xs ys (rest-alike x y xs ys a) i

pub next-alike : (xs ys : List ProcessState) → Alike xs ys → next_time_of xs ≡ next_time_of ys
next-alike [] [] a = refl
next-alike [] (y ∷ ys) a = absurd (omega (arith, a.count))
next-alike (x ∷ xs) [] a = absurd (omega (arith, a.count))
next-alike (x ∷ xs) (y ∷ ys) a =
    λ i. least_of (least_of (wake_time ((a.each 0).activity i)) (first-alike x.later y.later (a.each 0).due i)) (next-alike xs ys (rest-alike x y xs ys a) i)

-- The turn

pub turn-alike : (good faulty : State) → good.time ≡ faulty.time → Alike faulty.processes good.processes → turn_of faulty ≡ turn_of good
turn-alike good faulty time a =
    λ i. turn_by
    (some-alike (λ (p : ProcessState). is_postponed p.activity) (λ g o h. ap is_postponed h.activity) faulty.processes good.processes a i)
    ((ap (λ now. some_in (λ (p : ProcessState). some_in (is_due now) p.later) faulty.processes) (sym time)
    ∙ some-alike (λ (p : ProcessState). some_in (is_due good.time) p.later) (λ g o h. due-alike good.time o.later g.later h.due) faulty.processes good.processes a) i)
    (next-alike faulty.processes good.processes a i)

-- A change of each process

pub changed-lockstep : (f : ProcessState → ProcessState) → f idle_process ≡ idle_process →
    ((good own : ProcessState) → DiffersInWrites good own → DiffersInWrites (f good) (f own)) → (d : Within) (good faulty : State) → AreInLockstep d good faulty →
    AreInLockstep (record d { processes = λ process. option_map f (d.processes process) }) (with_processes f good) (with_processes f faulty)
changed-lockstep f idle same d good faulty l = record {
  within = record {
    value_count = l.within.value_count;
    node_count = l.within.node_count;
    process_count = length-mapped f faulty.processes ∙ l.within.process_count ∙ sym (length-mapped f good.processes);
    values = l.within.values;
    nodes = l.within.nodes;
    processes = λ p.
        found-mapped f idle_process faulty.processes p idle ∙ ap f (l.within.processes p) ∙ through (process_at good p) (d.processes p)
        ∙ ap (λ (s : ProcessState). found_or s (option_map f (d.processes p))) (sym (found-mapped f idle_process good.processes p idle));
  };
  time = l.time;
  nodes = l.nodes;
  processes = λ p own e. kept p own (d.processes p) refl e;
}
  where
    through : (process : ProcessState) (own : Option ProcessState) → f (found_or process own) ≡ found_or (f process) (option_map f own)
    through process None = refl
    through process (Some own) = refl

    kept : (p : ℕ) (own : ProcessState) (was : Option ProcessState) → d.processes p ≡ was → option_map f was ≡ Some own → DiffersInWrites (process_at (with_processes f good) p) own
    kept p own None is e = cc
    kept p own (Some before) is e =
        subst (λ (s : ProcessState). DiffersInWrites s own) (sym (found-mapped f idle_process good.processes p idle))
        (subst (DiffersInWrites (f (process_at good p))) (some-is (f before) own e) (same (process_at good p) before (l.processes p before is)))

idle-turned : (now : ℕ) (turn : TurnKind) → turned_process now turn idle_process ≡ idle_process
idle-turned now PostponedTurn = refl
idle-turned now UpdatesTurn = refl
idle-turned now (TimeTurn time) = refl

pub process-turned : (turn : TurnKind) (state : State) (p : ℕ) → process_at (turned turn state) p ≡ turned_process state.time turn (process_at state p)
process-turned PostponedTurn state p = found-mapped (turned_process state.time PostponedTurn) idle_process state.processes p (idle-turned state.time PostponedTurn)
process-turned UpdatesTurn state p = found-mapped (turned_process state.time UpdatesTurn) idle_process state.processes p (idle-turned state.time UpdatesTurn)
process-turned (TimeTurn time) state p = found-mapped (turned_process state.time (TimeTurn time)) idle_process state.processes p (idle-turned state.time (TimeTurn time))

-- at another time
pub at-time : (d : Within) (good faulty : State) (time : ℕ) → AreInLockstep d good faulty → AreInLockstep d (record good { time = time }) (record faulty { time = time })
at-time d good faulty time l = record {
  within = record {
    value_count = l.within.value_count;
    node_count = l.within.node_count;
    process_count = l.within.process_count;
    values = l.within.values;
    nodes = l.within.nodes;
    processes = l.within.processes;
  };
  time = refl;
  nodes = l.nodes;
  processes = l.processes;
}

pub turned-lockstep : (turn : TurnKind) (d : Within) (good faulty : State) → AreInLockstep d good faulty → AreInLockstep (turned_within good.time turn d) (turned turn good) (turned turn faulty)
turned-lockstep PostponedTurn d good faulty l =
    changed-lockstep (turned_process good.time PostponedTurn) (idle-turned good.time PostponedTurn) (turned-alike good.time PostponedTurn) d good faulty l
turned-lockstep UpdatesTurn d good faulty l =
    subst (λ now. AreInLockstep (turned_within good.time UpdatesTurn d) (turned UpdatesTurn good) (with_processes (turned_process now UpdatesTurn) faulty)) l.time
    (changed-lockstep (turned_process good.time UpdatesTurn) (idle-turned good.time UpdatesTurn) (turned-alike good.time UpdatesTurn) d good faulty l)
turned-lockstep (TimeTurn time) d good faulty l =
    changed-lockstep (turned_process good.time (TimeTurn time)) (idle-turned good.time (TimeTurn time)) (turned-alike good.time (TimeTurn time)) d (record good { time = time })
    (record faulty { time = time }) (at-time d good faulty time l)

-- The law

pub lockstep_turns : LockstepIsBeside → LockstepTurns
lockstep_turns law d good faulty l = record {
  idle = λ idle. (
    ap (work_of 0) (sym b.nodes) ∙ idle.0,
    sym (first_place-alike idle_process (λ (p : ProcessState). is_any p.lane) good.processes faulty.processes b.process_count b.lanes) ∙ idle.1,
    sym (first_place-alike idle_process (λ (p : ProcessState). is_ready p.activity) good.processes faulty.processes b.process_count b.ready) ∙ idle.2,
  );
  quiescent = λ i. not (events i) && not (some_in has_work (sym b.nodes i));
  turn = turn-alike good faulty l.time alike;
  behind = λ turn. turned-lockstep turn d good faulty l;
}
  where
    side : StandBeside d good faulty
    side = law d good faulty l

    b : AreBeside (apart_within d) good faulty
    b = side.beside

    alike : Alike faulty.processes good.processes
    alike = record { count = l.within.process_count; each = side.processes }

    events : some_in has_event faulty.processes ≡ some_in has_event good.processes
    events = some-alike has_event (λ g o h. λ i. is_ready (h.activity i) || any-alike o.lane g.lane h.lane i) faulty.processes good.processes alike
