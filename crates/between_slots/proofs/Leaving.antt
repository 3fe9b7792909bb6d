-- What a slot leaves a process doing.
use Rattle.std.proofs.Common.{◌≡◌, ℕ, zero, suc, List, [], ◌∷◌, ◌++◌, map, Bool, true, false, refl, sym, ap, subst, ◌∙◌, ◌⊎◌, inl, inr, append-nil}
use Rattle.std.specs.Prelude.{◌≢◌, Option, Some, None, slice_get, nat_eq, nat_le, if◌then◌else◌}
use Rattle.std.proofs.lemmas.Bool.{eqb-true, eq-eqb}
use Rattle.four_value.specs.Values.{LogicValue}
use Rattle.vf_base.specs.Lists.{change_at}
use Rattle.v_design.specs.Designs.{FlatNode, Machine}
use Rattle.v_design.specs.Assignments.{ValueUpdate, value_at}
use Rattle.v_design.specs.Processes.{Activity, Ready, Waiting, Asleep, Postponed, Done, ProcessStep}
use Rattle.v_design.specs.States.{State, ProcessState, Event, Step, LaneStep, Evaluation, NetUpdate, TurnKind, PostponedTurn, UpdatesTurn, TimeTurn, after, process_at, node_at, found_or}
use Rattle.v_design.specs.States.{idle_process, activity_step, step_of, is_ready, entry_matches, some_entry, ready_if, woken, woken_process, with_value, with_values, with_process}
use Rattle.v_design.specs.States.{with_node, value_written, written_if, write_of, after_step, first_update, after_lane_step, evaluated, nets_updated, resumed, awake_at, turn_of, turned}
use Rattle.v_design.specs.Runs.{Move, Happens, Turns, happened, made, all_made, turned_by}
use Rattle.v_design.specs.PhaseLogs.{is_step_of}
use Rattle.v_design.specs.Grades.{cut}
use Rattle.v_design.specs.OwnSteps.{StepSeen, ProcessRun, value_read, seen_step, seen_if, steps_in, run_before, runs_of}
use Rattle.copy_laws.specs.SharedRuns.{with_read, read-next, activity_after, activity_at_end}
use Rattle.between_slots.specs.Between.{activity_after_runs, runs_in, SlotsLeave}

-- A process that isn't ready after an event

true-false : {A : Type 0} (b : Bool) → b ≡ true → b ≡ false → A
true-false true e f = cc
true-false false e f = cc

activity_in : State → ℕ → Activity
activity_in state p = (process_at state p).activity

found-mapped : {A : Type 0} (f : A → A) (default : A) (xs : List A) (place : ℕ) → f default ≡ default → found_or default (slice_get (map f xs) place) ≡ f (found_or default (slice_get xs place))
found-mapped f default [] place e = sym e
found-mapped f default (x ∷ xs) zero e = refl
found-mapped f default (x ∷ xs) (suc place) e = found-mapped f default xs place e

changed-elsewhere : {A : Type 0} (default : A) (xs : List A) (place : ℕ) (h : A → A) (q : ℕ) → place ≢ q → found_or default (slice_get (change_at xs place h) q) ≡ found_or default (slice_get xs q)
changed-elsewhere default [] place h q d = refl
changed-elsewhere default (x ∷ xs) zero h zero d = absurd (d refl)
changed-elsewhere default (x ∷ xs) zero h (suc q) d = refl
changed-elsewhere default (x ∷ xs) (suc place) h zero d = refl
changed-elsewhere default (x ∷ xs) (suc place) h (suc q) d = changed-elsewhere default xs place h q (λ e. d (ap suc e))

-- one place changed: it has the new element, or there is none and the default stays
changed-here : {A : Type 0} (default : A) (xs : List A) (place : ℕ) (h : A → A) →
    (found_or default (slice_get (change_at xs place h) place) ≡ h (found_or default (slice_get xs place)))
    ⊎ ((found_or default (slice_get (change_at xs place h) place) ≡ default) × (found_or default (slice_get xs place) ≡ default))
changed-here default [] place h = inr (refl, refl)
changed-here default (x ∷ xs) zero h = inl refl
changed-here default (x ∷ xs) (suc place) h = changed-here default xs place h

woken-still : (object : ℕ) (old new : LogicValue) (activity : Activity) → is_ready (woken object old new activity) ≡ false → woken object old new activity ≡ activity
woken-still object old new (Ready tasks operands) r = refl
woken-still object old new (Waiting place entries tasks) r = go (some_entry (entry_matches object old new) entries) r
  where
    go : (b : Bool) → is_ready (ready_if b (Waiting place entries tasks) tasks) ≡ false → ready_if b (Waiting place entries tasks) tasks ≡ Waiting place entries tasks
    go true s = cc
    go false s = refl
woken-still object old new (Asleep time tasks) r = refl
woken-still object old new (Postponed tasks) r = refl
woken-still object old new Done r = refl

put-still : (machine : Machine) (object : ℕ) (new : LogicValue) (state : State) (p : ℕ) → is_ready (process_at (with_value machine object new state) p).activity ≡ false →
    (process_at (with_value machine object new state) p).activity ≡ (process_at state p).activity
put-still machine object new state p r =
    let own = ap (λ (s : ProcessState). s.activity) (found-mapped (woken_process object (value_at state.values object) new) idle_process state.processes p refl) in
    own ∙ woken-still object (value_at state.values object) new (process_at state p).activity (ap is_ready (sym own) ∙ r)

written-still : (machine : Machine) (update : Option ValueUpdate) (state : State) (p : ℕ) → is_ready (process_at (written_if machine update state) p).activity ≡ false →
    (process_at (written_if machine update state) p).activity ≡ (process_at state p).activity
written-still machine None state p r = refl
written-still machine (Some update) state p r = put-still machine update.object (value_written machine state update) state p r

puts-still : (machine : Machine) (objects : List ℕ) (values : List LogicValue) (state : State) (p : ℕ) → is_ready (process_at (with_values machine objects values state) p).activity ≡ false →
    (process_at (with_values machine objects values state) p).activity ≡ (process_at state p).activity
puts-still machine [] values state p r = refl
puts-still machine (object ∷ objects) [] state p r = refl
puts-still machine (object ∷ objects) (value ∷ values) state p r =
    let rest = puts-still machine objects values (with_value machine object value state) p r in
    rest ∙ put-still machine object value state p (ap is_ready (sym rest) ∙ r)

evaluated-processes : (machine : Machine) (number : ℕ) (found : Option FlatNode) (state : State) → (evaluated machine number found state).processes ≡ state.processes
evaluated-processes machine number None state = refl
evaluated-processes machine number (Some node) state = refl

updated-still : (machine : Machine) (number : ℕ) (found : Option FlatNode) (pending : Option (List LogicValue)) (state : State) (p : ℕ) →
    is_ready (process_at (nets_updated machine number found pending state) p).activity ≡ false →
    (process_at (nets_updated machine number found pending state) p).activity ≡ (process_at state p).activity
updated-still machine number None pending state p r = refl
updated-still machine number (Some node) None state p r = refl
updated-still machine number (Some node) (Some values) state p r = puts-still machine node.outputs values (with_node number (λ old. record old { pending = None }) state) p r

lane-activity : (xs : List ProcessState) (q p : ℕ) → (found_or idle_process (slice_get (change_at xs q after_lane_step) p)).activity ≡ (found_or idle_process (slice_get xs p)).activity
lane-activity [] q p = refl
lane-activity (x ∷ xs) zero zero = refl
lane-activity (x ∷ xs) zero (suc p) = refl
lane-activity (x ∷ xs) (suc q) zero = refl
lane-activity (x ∷ xs) (suc q) (suc p) = lane-activity xs q p

-- an event that isn't its step leaves it as it was
other-still : (machine : Machine) (state : State) (p : ℕ) (event : Event) → is_step_of p event ≡ false → is_ready (process_at (after machine state event) p).activity ≡ false →
    (process_at (after machine state event) p).activity ≡ (process_at state p).activity
other-still machine state p (Step q) h r =
    let apart : q ≢ p = λ e. true-false (nat_eq p q) (eq-eqb p q (sym e)) h in
    written-still machine (write_of (step_of machine state q).action) (with_process q (after_step state (step_of machine state q)) state) p r
    ∙ ap (λ (s : ProcessState). s.activity) (changed-elsewhere idle_process state.processes q (after_step state (step_of machine state q)) p apart)
other-still machine state p (LaneStep q) h r =
    written-still machine (first_update (process_at state q).lane) (with_process q after_lane_step state) p r ∙ lane-activity state.processes q p
other-still machine state p (Evaluation number) h r =
    ap (λ (ps : List ProcessState). (found_or idle_process (slice_get ps p)).activity) (evaluated-processes machine number (slice_get machine.design.nodes number) state)
other-still machine state p (NetUpdate number) h r = updated-still machine number (slice_get machine.design.nodes number) (node_at state number).pending state p r

-- its step leaves it doing what the step says
own-still : (machine : Machine) (state : State) (p : ℕ) → is_ready (process_at (after machine state (Step p)) p).activity ≡ false →
    (process_at (after machine state (Step p)) p).activity ≡ activity_after (seen_step machine state p)
own-still machine state p r =
    written-still machine (write_of step.action) (with_process p (after_step state step) state) p r
    ∙ elim (changed-here idle_process state.processes p (after_step state step)) [
      | inl here ↦ ap (λ (s : ProcessState). s.activity) here ∙ read-next state step.action step.next
      | inr none ↦ ap (λ (s : ProcessState). s.activity) none.0 ∙ sym (ap (λ (s : ProcessState).
          with_read (value_read state (activity_step machine state p s.activity).action) (activity_step machine state p s.activity).next) none.1)
    ]
  where
    step : ProcessStep
    step = step_of machine state p

resumed-still : (activity : Activity) → is_ready (resumed activity) ≡ false → resumed activity ≡ activity
resumed-still (Ready tasks operands) r = refl
resumed-still (Waiting place entries tasks) r = refl
resumed-still (Asleep time tasks) r = refl
resumed-still (Postponed tasks) r = cc
resumed-still Done r = refl

awake-still : (now : ℕ) (activity : Activity) → is_ready (awake_at now activity) ≡ false → awake_at now activity ≡ activity
awake-still now (Ready tasks operands) r = refl
awake-still now (Waiting place entries tasks) r = refl
awake-still now (Asleep time tasks) r = go (nat_le time now) r
  where
    go : (b : Bool) → is_ready (if b then Ready tasks [] else Asleep time tasks) ≡ false → (if b then Ready tasks [] else Asleep time tasks) ≡ Asleep time tasks
    go true s = cc
    go false s = refl
awake-still now (Postponed tasks) r = refl
awake-still now Done r = refl

-- so does a turn
pub turned-still : (turn : TurnKind) (state : State) (p : ℕ) → is_ready (process_at (turned turn state) p).activity ≡ false →
    (process_at (turned turn state) p).activity ≡ (process_at state p).activity
turned-still PostponedTurn state p r =
    let own = ap (λ (s : ProcessState). s.activity) (found-mapped (λ (s : ProcessState). record s { activity = resumed s.activity }) idle_process state.processes p refl) in
    own ∙ resumed-still (process_at state p).activity (ap is_ready (sym own) ∙ r)
turned-still UpdatesTurn state p r = updates state.processes p
  where
    updates : (xs : List ProcessState) (p : ℕ) → (found_or idle_process (slice_get (turned UpdatesTurn (record state { processes = xs })).processes p)).activity ≡
        (found_or idle_process (slice_get xs p)).activity
    updates [] p = refl
    updates (x ∷ xs) zero = refl
    updates (x ∷ xs) (suc p) = updates xs p
turned-still (TimeTurn time) state p r =
    let own = ap (λ (s : ProcessState). s.activity) (found-mapped (λ (s : ProcessState). record s { activity = awake_at time s.activity }) idle_process state.processes p refl) in
    own ∙ awake-still time (process_at state p).activity (ap is_ready (sym own) ∙ r)

made-still : (state : State) (turn : Option TurnKind) (p : ℕ) → is_ready (process_at (turned_by turn state) p).activity ≡ false →
    (process_at (turned_by turn state) p).activity ≡ (process_at state p).activity
made-still state None p r = refl
made-still state (Some turn) p r = turned-still turn state p r

-- Steps

-- what a process does after some steps
abbrev after_steps : Activity → List (Activity × StepSeen) → Activity
after_steps activity [] = activity
after_steps activity (step ∷ steps) = after_steps (activity_after step.1) steps

-- its steps among some moves
abbrev steps_among : Machine → ℕ → State → List Move → List (Activity × StepSeen)
steps_among machine p state [] = []
steps_among machine p state (Happens event ∷ moves) =
    seen_if (is_step_of p event) ((process_at state p).activity, seen_step machine state p) (steps_among machine p (after machine state event) moves)
steps_among machine p state (Turns ∷ moves) = steps_among machine p (made machine state Turns) moves

-- from another activity, where the first one would have been left only by becoming ready
from-still : (a b final : Activity) (steps : List (Activity × StepSeen)) → final ≡ after_steps a steps → is_ready final ≡ false → (is_ready a ≡ false → a ≡ b) → final ≡ after_steps b steps
from-still a b final [] e r still = e ∙ still (ap is_ready (sym e) ∙ r)
from-still a b final (step ∷ steps) e r still = e

moves-leave : (machine : Machine) (p : ℕ) (state : State) (moves : List Move) → is_ready (process_at (all_made machine state moves) p).activity ≡ false →
    (process_at (all_made machine state moves) p).activity ≡ after_steps (process_at state p).activity (steps_among machine p state moves)
moves-leave machine p state [] r = refl
moves-leave machine p state (Happens event ∷ moves) r = go event (is_step_of p event) refl r (λ s. moves-leave machine p (after machine state event) moves s)
  where
    go : (event : Event) (b : Bool) → is_step_of p event ≡ b → is_ready (process_at (all_made machine (after machine state event) moves) p).activity ≡ false →
        (is_ready (process_at (all_made machine (after machine state event) moves) p).activity ≡ false →
        (process_at (all_made machine (after machine state event) moves) p).activity ≡ after_steps (process_at (after machine state event) p).activity
        (steps_among machine p (after machine state event) moves)) →
        (process_at (all_made machine (after machine state event) moves) p).activity
        ≡ after_steps (process_at state p).activity (seen_if b ((process_at state p).activity, seen_step machine state p) (steps_among machine p (after machine state event) moves))
    go event false h s rest =
        from-still (process_at (after machine state event) p).activity (process_at state p).activity (process_at (all_made machine (after machine state event) moves) p).activity
        (steps_among machine p (after machine state event) moves) (rest s) s (other-still machine state p event h)
    go (Step q) true h s rest =
        from-still (process_at (after machine state (Step q)) p).activity (activity_after (seen_step machine state p)) (process_at (all_made machine (after machine state (Step q)) moves) p).activity
        (steps_among machine p (after machine state (Step q)) moves) (rest s) s
        (let same : p ≡ q = eqb-true p q h in
        subst (λ x. is_ready (process_at (after machine state (Step x)) p).activity ≡ false → (process_at (after machine state (Step x)) p).activity ≡ activity_after (seen_step machine state p)) same
        (own-still machine state p))
    go (LaneStep q) true h s rest = cc
    go (Evaluation node) true h s rest = cc
    go (NetUpdate node) true h s rest = cc
moves-leave machine p state (Turns ∷ moves) r =
    from-still (process_at (made machine state Turns) p).activity (process_at state p).activity (process_at (all_made machine (made machine state Turns) moves) p).activity
    (steps_among machine p (made machine state Turns) moves) (moves-leave machine p (made machine state Turns) moves r) r (made-still state (turn_of state) p)

-- Steps as runs

-- what some steps begin with doesn't matter after one more
first-forgets : (a b : Activity) (first : Activity × StepSeen) (steps : List (Activity × StepSeen)) (other : List ProcessRun) (c : Bool) → is_ready first.1.step.next ≡ c →
    activity_after_runs a (run_before c first other) ≡ activity_after_runs b (run_before c first other)
first-forgets a b first steps other false e = refl
first-forgets a b first steps [] true e = refl
first-forgets a b first steps (run ∷ other) true e = refl

-- a run in front of others: it goes on with the first of them, where that begins with a step
before-leaves : (a : Activity) (first next : Activity × StepSeen) (other : List ProcessRun) (c d : Bool) →
    activity_after_runs a (run_before c first (run_before d next other)) ≡ activity_after_runs (activity_after first.1) (run_before d next other)
before-leaves a first next other false d = refl
before-leaves a first next other true false = refl
before-leaves a first next [] true true = refl
before-leaves a first next (run ∷ other) true true = refl

runs-leave : (a : Activity) (steps : List (Activity × StepSeen)) → activity_after_runs a (runs_of steps) ≡ after_steps a steps
runs-leave a [] = refl
runs-leave a (first ∷ []) = go (is_ready first.1.step.next)
  where
    go : (b : Bool) → activity_after_runs a (run_before b first []) ≡ activity_after first.1
    go true = refl
    go false = refl
runs-leave a (first ∷ next ∷ steps) =
    before-leaves a first next (runs_of steps) (is_ready first.1.step.next) (is_ready next.1.step.next) ∙ runs-leave (activity_after first.1) (next ∷ steps)

after-append : (a : Activity) (xs ys : List (Activity × StepSeen)) → after_steps a (xs ++ ys) ≡ after_steps (after_steps a xs) ys
after-append a [] ys = refl
after-append a (x ∷ xs) ys = after-append (activity_after x.1) xs ys

pub runs-append : (a : Activity) (xs ys : List ProcessRun) → activity_after_runs a (xs ++ ys) ≡ activity_after_runs (activity_after_runs a xs) ys
runs-append a [] ys = refl
runs-append a (x ∷ xs) ys = runs-append (activity_at_end x.begins x.steps) xs ys

seen-append : (b : Bool) (step : Activity × StepSeen) (xs ys : List (Activity × StepSeen)) → seen_if b step xs ++ ys ≡ seen_if b step (xs ++ ys)
seen-append true step xs ys = refl
seen-append false step xs ys = refl

steps-push : (machine : Machine) (p : ℕ) (state : State) (events : List Event) (event : Event) (rest : List (Activity × StepSeen)) →
    steps_in machine p state (events ++ event ∷ []) ++ rest
    ≡ steps_in machine p state events ++ seen_if (is_step_of p event) ((process_at (happened machine state events) p).activity, seen_step machine (happened machine state events) p) rest
steps-push machine p state [] event rest = seen-append (is_step_of p event) ((process_at state p).activity, seen_step machine state p) [] rest
steps-push machine p state (first ∷ events) event rest =
    seen-append (is_step_of p first) ((process_at state p).activity, seen_step machine state p) (steps_in machine p (after machine state first) (events ++ event ∷ [])) rest
    ∙ ap (seen_if (is_step_of p first) ((process_at state p).activity, seen_step machine state p)) (steps-push machine p (after machine state first) events event rest)
    ∙ sym (seen-append (is_step_of p first) ((process_at state p).activity, seen_step machine state p) (steps_in machine p (after machine state first) events)
    (seen_if (is_step_of p event)
    ((process_at (happened machine (after machine state first) events) p).activity, seen_step machine (happened machine (after machine state first) events) p) rest))

pub happened-push : (machine : Machine) (state : State) (events : List Event) (event : Event) → happened machine state (events ++ event ∷ []) ≡ after machine (happened machine state events) event
happened-push machine state [] event = refl
happened-push machine state (first ∷ events) event = happened-push machine (after machine state first) events event

-- the runs of the phases of some moves, from a phase that has begun
cut-leaves : (machine : Machine) (p : ℕ) (a : Activity) (turn : Option TurnKind) (begins : State) (events : List Event) (state : State) (moves : List Move) → state ≡ happened machine begins events →
    activity_after_runs a (runs_in machine p (cut machine turn begins events state moves)) ≡ after_steps a (steps_in machine p begins events ++ steps_among machine p state moves)
cut-leaves machine p a turn begins events state [] here =
    ap (activity_after_runs a) (append-nil (runs_of (steps_in machine p begins events))) ∙ runs-leave a (steps_in machine p begins events)
    ∙ ap (after_steps a) (sym (append-nil (steps_in machine p begins events)))
cut-leaves machine p a turn begins events state (Happens event ∷ moves) here =
    cut-leaves machine p a turn begins (events ++ event ∷ []) (after machine state event) moves (ap (λ s. after machine s event) here ∙ sym (happened-push machine begins events event))
    ∙ ap (after_steps a)
    (steps-push machine p begins events event (steps_among machine p (after machine state event) moves)
    ∙ ap (λ s. steps_in machine p begins events ++ seen_if (is_step_of p event) ((process_at s p).activity, seen_step machine s p) (steps_among machine p (after machine state event) moves))
    (sym here))
cut-leaves machine p a turn begins events state (Turns ∷ moves) here =
    let next = made machine state Turns in
    let runs = runs_of (steps_in machine p begins events) in
    runs-append a runs (runs_in machine p (cut machine (turn_of state) next [] next moves))
    ∙ ap (λ x. activity_after_runs x (runs_in machine p (cut machine (turn_of state) next [] next moves))) (runs-leave a (steps_in machine p begins events))
    ∙ cut-leaves machine p (after_steps a (steps_in machine p begins events)) (turn_of state) next [] next moves refl
    ∙ sym (after-append a (steps_in machine p begins events) (steps_among machine p next moves))

pub slots_leave : SlotsLeave
slots_leave machine slot p r =
    moves-leave machine p slot.begins slot.moves r ∙ sym (cut-leaves machine p (process_at slot.begins p).activity None slot.begins [] slot.begins slot.moves refl)
