-- What an event makes of the ticks of a phase.
use Rattle.std.proofs.Common.{◌≡◌, ℕ, zero, suc, ◌+◌, ◌<◌, ◌≤◌, Bool, true, false, List, [], ◌++◌, length, map, nat_eq, refl, sym, ap, subst, ◌∙◌, inl, inr, arith}
use Rattle.std.specs.Prelude.{Option, if◌then◌else◌}
use Rattle.std.specs.List.{sum}
use Rattle.std.proofs.lemmas.Bool.{cases_eq, cases_lt, eq-eqb, ne_eqb}
use Rattle.std.proofs.lemmas.List.{append-nil}
use Rattle.vf_base.specs.Lists.{joined}
use Rattle.v_design.specs.Designs.{Machine}
use Rattle.v_design.specs.Expressions.{up_from}
use Rattle.v_design.specs.Grades.{Phase}
use Rattle.v_design.specs.OwnSteps.{ProcessRun, StepSeen, beside, good_runs, phase_beside, process_runs, runs_of, seen_if, seen_step, steps_in}
use Rattle.v_design.specs.PhaseLogs.{is_step_of}
use Rattle.v_design.specs.Processes.{Activity}
use Rattle.v_design.specs.Runs.{happened}
use Rattle.v_design.specs.States.{State, TurnKind, Event, Step, process_at}
use Rattle.copy_laws.specs.OwnRuns.{RunsGrow, StepsGrow, grow, last_goes_on}
use Rattle.own_counts.specs.Counts.{AtMostOwn, OwnLast, OwnStepsCount, PhaseTicks, ProcessTicks, behind_event, last_steps, with_answer}
use Rattle.own_counts.proofs.Processes.{own-last, part-new, part-on, part-own, part-turns}
use Rattle.own_counts.proofs.Runs.{joins, less, none, sum-cons, ticks-low}

-- Numbers

-- the number of one changes
abbrev with_number : ℕ → ℕ → (ℕ → ℕ) → ℕ → ℕ
with_number place number parts other = if nat_eq other place then number else parts other

number-same : (place number : ℕ) (parts : ℕ → ℕ) → with_number place number parts place ≡ number
number-same place number parts = ap (λ (b : Bool). if b then number else parts place) (eq-eqb place place refl)

number-other : (place number : ℕ) (parts : ℕ → ℕ) (other : ℕ) → (other ≡ place → ⊥) → with_number place number parts other ≡ parts other
number-other place number parts other ne = ap (λ (b : Bool). if b then number else parts other) (ne_eqb other place ne)

sum-apart : (place number : ℕ) (parts : ℕ → ℕ) (start count : ℕ) → place < start → sum (map (with_number place number parts) (up_from start count)) ≡ sum (map parts (up_from start count))
sum-apart place number parts start zero low = refl
sum-apart place number parts start (suc count) low =
    let one = number-other place number parts start (λ e. omega (arith, e, low)) in
    let rest = sum-apart place number parts (start + 1) count (omega (arith, low)) in
    let new = sum-cons (with_number place number parts start) (map (with_number place number parts) (up_from (start + 1) count)) in
    let old = sum-cons (parts start) (map parts (up_from (start + 1) count)) in
    omega (arith, one, rest, new, old)

sum-change : (place number : ℕ) (parts : ℕ → ℕ) (start count : ℕ) → start ≤ place → place < start + count →
    sum (map (with_number place number parts) (up_from start count)) + parts place ≡ sum (map parts (up_from start count)) + number
sum-change place number parts start zero low high = absurd (omega (arith, low, high))
sum-change place number parts start (suc count) low high =
    let new = sum-cons (with_number place number parts start) (map (with_number place number parts) (up_from (start + 1) count)) in
    let old = sum-cons (parts start) (map parts (up_from (start + 1) count)) in
    elim (cases_lt start place) [
      | inl less ↦
          let one = number-other place number parts start (λ e. omega (arith, e, less)) in
          let rest = sum-change place number parts (start + 1) count (omega (arith, less)) (omega (arith, high)) in
          omega (arith, new, old, one, rest)
      | inr past ↦
          let same : start ≡ place = omega (arith, low, past) in
          let one : with_number place number parts start ≡ number = ap (with_number place number parts) same ∙ number-same place number parts in
          let here : parts start ≡ parts place = ap parts same in
          let rest = sum-apart place number parts (start + 1) count (omega (arith, same)) in
          omega (arith, new, old, one, here, rest)
    ]

-- The runs of a process behind an event

module _ (steps_grow : StepsGrow) (runs_grow : RunsGrow) where
  runs-same : (machine : Machine) (process : ℕ) (phase : Phase) (event : Event) → is_step_of process event ≡ false →
      process_runs machine process (behind_event phase event) ≡ process_runs machine process phase
  runs-same machine process phase event other =
      let state = happened machine phase.begins phase.events in
      ap runs_of
      (steps_grow machine process phase.begins phase.events event
      ∙ ap (λ (b : Bool). steps_in machine process phase.begins phase.events ++ seen_if b ((process_at state process).activity, seen_step machine state process) []) other
      ∙ append-nil (steps_in machine process phase.begins phase.events))

  abbrev step_more : Machine → ℕ → Phase → Activity × StepSeen
  step_more machine process phase = ((process_at (happened machine phase.begins phase.events) process).activity, seen_step machine (happened machine phase.begins phase.events) process)

  runs-grow : (machine : Machine) (process : ℕ) (phase : Phase) →
      process_runs machine process (behind_event phase (Step process)) ≡ grow (process_runs machine process phase) (step_more machine process phase)
  runs-grow machine process phase =
      let step = step_more machine process phase in
      ap runs_of
      (steps_grow machine process phase.begins phase.events (Step process)
      ∙ ap (λ (b : Bool). steps_in machine process phase.begins phase.events ++ seen_if b step []) (eq-eqb process process refl))
      ∙ runs_grow (steps_in machine process phase.begins phase.events) step

  -- A phase

  module _ (good faulty : Machine) (other : Option Phase) (phase : Phase) (follows : ℕ → Bool) (ticked : ℕ) (so_far : PhaseTicks good faulty other phase follows ticked) where
    pub passes : (event : Event) → ((process : ℕ) → is_step_of process event ≡ false) → PhaseTicks good faulty other (behind_event phase event) follows ticked
    passes event none_steps = record {
      parts = so_far.parts;
      each = λ process low.
          subst (λ (runs : List ProcessRun). ProcessTicks (good_runs good process phase.turn other) runs (follows process) (so_far.parts process))
          (sym (runs-same faulty process phase event (none_steps process))) (so_far.each process low);
      total = so_far.total;
    }

    -- a step of a process that isn't there, or that changes nothing of what ticked
    stepped : (process : ℕ) (answers : ℕ → Bool) → ((q : ℕ) → (q ≡ process → ⊥) → answers q ≡ follows q) →
        (process < length faulty.design.processes →
        ProcessTicks (good_runs good process phase.turn other) (grow (process_runs faulty process phase) (step_more faulty process phase)) (answers process) (so_far.parts process)) →
        PhaseTicks good faulty other (behind_event phase (Step process)) answers ticked
    stepped process answers same changed = record {
      parts = so_far.parts;
      each = λ q low. elim (cases_eq q process) [
        | inl here ↦
            subst
            (λ n. n < length faulty.design.processes →
            ProcessTicks (good_runs good n phase.turn other) (process_runs faulty n (behind_event phase (Step process))) (answers n) (so_far.parts n)) (sym here)
            (λ within.
            subst (λ (runs : List ProcessRun). ProcessTicks (good_runs good process phase.turn other) runs (answers process) (so_far.parts process)) (sym (runs-grow faulty process phase))
            (changed within)) low
        | inr ne ↦
            subst (λ b. ProcessTicks (good_runs good q phase.turn other) (process_runs faulty q (behind_event phase (Step process))) b (so_far.parts q)) (sym (same q ne))
            (subst (λ (runs : List ProcessRun). ProcessTicks (good_runs good q phase.turn other) runs (follows q) (so_far.parts q))
            (sym (runs-same faulty q phase (Step process) (ne_eqb q process ne))) (so_far.each q low))
      ];
      total = so_far.total;
    }

    pub goes_on : (process : ℕ) → last_goes_on (process_runs faulty process phase) ≡ true → PhaseTicks good faulty other (behind_event phase (Step process)) follows ticked
    goes_on process on =
        stepped process follows (λ q ne. refl)
        (λ low.
        part-on (good_runs good process phase.turn other) (process_runs faulty process phase) (step_more faulty process phase) (follows process) (so_far.parts process) on
        (so_far.each process low))

    pub new : (process : ℕ) (answer : Bool) → last_goes_on (process_runs faulty process phase) ≡ false →
        PhaseTicks good faulty other (behind_event phase (Step process)) (with_answer process answer follows) ticked
    new process answer on =
        stepped process (with_answer process answer follows) (λ q ne. ap (λ (b : Bool). if b then answer else follows q) (ne_eqb q process ne))
        (λ low.
        part-new (good_runs good process phase.turn other) (process_runs faulty process phase) (step_more faulty process phase) (with_answer process answer follows process) (follows process)
        (so_far.parts process) on (so_far.each process low))

    -- a step that ticks
    ticking : (process more : ℕ) → process < length faulty.design.processes →
        ProcessTicks (good_runs good process phase.turn other) (grow (process_runs faulty process phase) (step_more faulty process phase)) false (so_far.parts process + more) →
        PhaseTicks good faulty other (behind_event phase (Step process)) (with_answer process false follows) (ticked + more)
    ticking process more within changed =
        let parts = with_number process (so_far.parts process + more) so_far.parts in
        let sums = sum-change process (so_far.parts process + more) so_far.parts 0 (length faulty.design.processes) (omega arith) (omega (arith, within)) in
        let total = so_far.total in
        record {
          parts = parts;
          each = λ q low. elim (cases_eq q process) [
            | inl here ↦
                subst
                (λ n. ProcessTicks (good_runs good n phase.turn other) (process_runs faulty n (behind_event phase (Step process))) (with_answer process false follows n) (parts n)) (sym here)
                (subst (λ b. ProcessTicks (good_runs good process phase.turn other) (process_runs faulty process (behind_event phase (Step process))) b (parts process))
                (sym (ap (λ (b : Bool). if b then false else follows process) (eq-eqb process process refl)))
                (subst (λ n. ProcessTicks (good_runs good process phase.turn other) (process_runs faulty process (behind_event phase (Step process))) false n)
                (sym (number-same process (so_far.parts process + more) so_far.parts))
                (subst (λ (runs : List ProcessRun). ProcessTicks (good_runs good process phase.turn other) runs false (so_far.parts process + more)) (sym (runs-grow faulty process phase)) changed)))
            | inr ne ↦
                subst (λ b. ProcessTicks (good_runs good q phase.turn other) (process_runs faulty q (behind_event phase (Step process))) b (parts q))
                (sym (ap (λ (b : Bool). if b then false else follows q) (ne_eqb q process ne)))
                (subst (λ n. ProcessTicks (good_runs good q phase.turn other) (process_runs faulty q (behind_event phase (Step process))) (follows q) n)
                (sym (number-other process (so_far.parts process + more) so_far.parts q ne))
                (subst (λ (runs : List ProcessRun). ProcessTicks (good_runs good q phase.turn other) runs (follows q) (so_far.parts q))
                (sym (runs-same faulty q phase (Step process) (ne_eqb q process ne))) (so_far.each q low)))
          ];
          total = omega (arith, sums, total);
        }

    pub own : (process : ℕ) → process < length faulty.design.processes →
        OwnLast (good_runs good process phase.turn other) (process_runs faulty process (behind_event phase (Step process))) →
        PhaseTicks good faulty other (behind_event phase (Step process)) (with_answer process false follows) (ticked + 1)
    own process low counts =
        ticking process 1 low
        (part-own (good_runs good process phase.turn other) (process_runs faulty process phase) (step_more faulty process phase) (follows process) (so_far.parts process)
        (subst (OwnLast (good_runs good process phase.turn other)) (runs-grow faulty process phase) counts) (so_far.each process low))

    pub turns_own : (process : ℕ) → process < length faulty.design.processes → follows process ≡ true → last_goes_on (process_runs faulty process phase) ≡ true →
        OwnLast (good_runs good process phase.turn other) (process_runs faulty process (behind_event phase (Step process))) →
        PhaseTicks good faulty other (behind_event phase (Step process)) (with_answer process false follows) (ticked + last_steps (process_runs faulty process (behind_event phase (Step process))))
    turns_own process low followed on counts =
        ticking process (last_steps (process_runs faulty process (behind_event phase (Step process)))) low
        (subst (λ n. ProcessTicks (good_runs good process phase.turn other) (grow (process_runs faulty process phase) (step_more faulty process phase)) false (so_far.parts process + n))
        (sym (ap last_steps (runs-grow faulty process phase)))
        (part-turns (good_runs good process phase.turn other) (process_runs faulty process phase) (step_more faulty process phase) (follows process) (so_far.parts process) followed on
        (subst (OwnLast (good_runs good process phase.turn other)) (runs-grow faulty process phase) counts) (so_far.each process low)))

-- Behind a phase

-- bounds of processes one after the other
all-low : (f : ℕ → List (Option ProcessRun × ProcessRun)) (parts : ℕ → ℕ) (start count : ℕ) → ((n : ℕ) → start ≤ n → n < start + count → AtMostOwn (f n) (parts n)) →
    AtMostOwn (joined (map f (up_from start count))) (sum (map parts (up_from start count)))
all-low f parts start zero each = none
all-low f parts start (suc count) each =
    subst (AtMostOwn (f start ++ joined (map f (up_from (start + 1) count)))) (sym (sum-cons (parts start) (map parts (up_from (start + 1) count))))
    (joins (f start) (joined (map f (up_from (start + 1) count))) (parts start) (sum (map parts (up_from (start + 1) count))) (each start (omega arith) (omega arith))
    (all-low f parts (start + 1) count (λ n since before. each n (omega (arith, since)) (omega (arith, before)))))

ends : (good faulty : Machine) (other : Option Phase) (phase : Phase) (follows : ℕ → Bool) (ticked : ℕ) → PhaseTicks good faulty other phase follows ticked →
    AtMostOwn (phase_beside good faulty other phase) ticked
ends good faulty other phase follows ticked so_far =
    less (phase_beside good faulty other phase) (sum (map so_far.parts (up_from 0 (length faulty.design.processes)))) ticked so_far.total
    (all-low (λ process. beside (good_runs good process phase.turn other) (process_runs faulty process phase)) so_far.parts 0 (length faulty.design.processes)
    (λ process since before.
    let part = so_far.each process (omega (arith, before)) in
    less (beside (good_runs good process phase.turn other) (process_runs faulty process phase)) (sum part.ticks) (so_far.parts process) part.total
    (ticks-low (good_runs good process phase.turn other) (process_runs faulty process phase) part.ticks part.each)))

begins : (good faulty : Machine) (other : Option Phase) (turn : Option TurnKind) (begins : State) (follows : ℕ → Bool) →
    PhaseTicks good faulty other (record { turn = turn; begins = begins; events = [] }) follows 0
begins good faulty other turn state follows = record {
  parts = λ process. 0;
  each = λ process low. record { ticks = []; each = tt; last = λ e. refl; total = omega arith };
  total = omega arith;
}

pub own_steps_count : StepsGrow → RunsGrow → OwnStepsCount
own_steps_count steps runs = record {
  begins = begins;
  passes = λ good faulty other phase event follows ticked apart so_far. passes steps runs good faulty other phase follows ticked so_far event apart;
  goes_on = λ good faulty other phase process follows ticked on so_far. goes_on steps runs good faulty other phase follows ticked so_far process on;
  new = λ good faulty other phase process answer follows ticked on so_far. new steps runs good faulty other phase follows ticked so_far process answer on;
  own = λ good faulty other phase process follows ticked low counts so_far. own steps runs good faulty other phase follows ticked so_far process low counts;
  turns_own = λ good faulty other phase process follows ticked low followed on counts so_far. turns_own steps runs good faulty other phase follows ticked so_far process low followed on counts;
  ends = ends;
  last = own-last;
  none = none;
  less = less;
  joins = joins;
}
