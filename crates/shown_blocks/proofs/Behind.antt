-- The state behind a block, process by process and part by part (blocks by IEEE 1364-2001, clause 5; processes by clause 9).
use Rattle.std.proofs.Common.{◌≡◌, ℕ, suc, ◌+◌, ◌-◌, ◌<◌, ◌≤◌, Bool, true, false, cond, ◌||◌, List, [], ◌∷◌, ◌++◌, map, length, take, drop, refl, sym, ap, subst, ◌∙◌, arith, append_assoc, length-append}
use Rattle.std.specs.Prelude.{count_by, is_some, slice_get}
use Rattle.std.proofs.lemmas.List.Sums.{sum_by-append}
use Rattle.std.proofs.lemmas.Option.{slice_get-get_or, slice_get_past}
use Rattle.vf_base.specs.Lists.{joined}
use Rattle.v_design.specs.Assignments.{ValueUpdate}
use Rattle.v_design.specs.Designs.{FlatDesign, Machine, good_machine}
use Rattle.v_design.specs.States.{State, LaterUpdate, Event, Step, LaneStep, Evaluation, NetUpdate, process_at, idle_process, found_or, is_ready, rest_of}
use Rattle.v_design.specs.Runs.{happened}
use Rattle.v_design.specs.PhaseLogs.{is_step_of, is_lane_of}
use Rattle.v_design.specs.OwnSteps.{ProcessRun, steps_in, runs_of, process_runs}
use Rattle.machine_laws.specs.SlotLoop.{NoNodeWorks}
use Rattle.copy_laws.specs.Beside.{AreFirst}
use Rattle.copy_laws.specs.SharedRuns.{appended_by, is_there}
use Rattle.process_code.specs.declared.state.ProcState.{ProcState}
use Rattle.between_slots.specs.Between.{activity_after_runs}
use Rattle.good_trace.specs.RunsKept.{Stands}
use Rattle.phase_blocks.specs.Blocks.{IsBetweenRuns, IsWholeBlock, begins_block, BlocksBegin, RunsOfBlocks}
use Rattle.phase_blocks.proofs.Lists.{happened-append, first-before}
use Rattle.block_changes.specs.Changes.{ends_wait_of, steps_process, steps_lane}
use Rattle.block_states.specs.Leaving.{Leaves, BlocksLeave}
use Rattle.boundary_laws.specs.Boundaries.{ProcessAtBoundary}
use Rattle.boundary_laws.specs.Pending.{RunsAppend}
use Rattle.moment_laws.specs.moment_runs.Taken.{StandsBehind, appended_behind}
use Rattle.moment_laws.specs.moment_parts.Within.{IsWokenIf}
use Rattle.moment_laws.specs.lockstep_slots.Places.{Place, state_there}
use Rattle.shown_blocks.specs.Blocks.{BlockAt}
use Rattle.shown_blocks.proofs.Ended.{last-run, appended-is, joined-append}
use Rattle.moment_laws.proofs.Readied.{waits-there, readied-stands}

-- Where processes stand

events-joined : (machine : Machine) (place : Place) (block rest : List Event) → BlockAt machine place block rest → place.phase.events ≡ place.passed ++ place.left →
    AreFirst machine place.phase.begins (place.passed ++ (block ++ rest))
events-joined machine place block rest at are = subst (AreFirst machine place.phase.begins) (are ∙ ap (λ l. place.passed ++ l) at.parts) at.first

pub first-passed : (machine : Machine) (place : Place) (block rest : List Event) → BlockAt machine place block rest → place.phase.events ≡ place.passed ++ place.left →
    AreFirst machine place.phase.begins (place.passed ++ block)
first-passed machine place block rest at are =
    first-before machine place.phase.begins (place.passed ++ block) rest
    (subst (AreFirst machine place.phase.begins) (sym (append_assoc place.passed block rest)) (events-joined machine place block rest at are))

-- the runs of a process in a phase, as they are parted by a block
pub runs-parted : RunsOfBlocks → (machine : Machine) (place : Place) (block rest : List Event) (p : ℕ) → BlockAt machine place block rest → place.phase.events ≡ place.passed ++ place.left →
    process_runs machine p place.phase
    ≡ runs_of (steps_in machine p place.phase.begins place.passed)
    ++ (runs_of (steps_in machine p (state_there machine place) block) ++ runs_of (steps_in machine p (happened machine place.phase.begins (place.passed ++ block)) rest))
runs-parted law machine place block rest p at are =
    ap (λ l. runs_of (steps_in machine p place.phase.begins l)) (are ∙ ap (λ l. place.passed ++ l) at.parts ∙ sym (append_assoc place.passed block rest))
    ∙ law machine p place.phase.begins (place.passed ++ block) rest at.ends
    ∙ ap (λ l. l ++ runs_of (steps_in machine p (happened machine place.phase.begins (place.passed ++ block)) rest)) (law machine p place.phase.begins place.passed block at.between)
    ∙ append_assoc (runs_of (steps_in machine p place.phase.begins place.passed)) (runs_of (steps_in machine p (state_there machine place) block))
    (runs_of (steps_in machine p (happened machine place.phase.begins (place.passed ++ block)) rest))

steps-join : (xs ys : List Event) (p : ℕ) → steps_process (xs ++ ys) p ≡ (steps_process xs p || steps_process ys p)
steps-join [] ys p = refl
steps-join (x ∷ xs) ys p = ap (λ b. is_step_of p x || b) (steps-join xs ys p) ∙ assoc (is_step_of p x) (steps_process xs p) (steps_process ys p)
  where
    assoc : (a b c : Bool) → (a || (b || c)) ≡ ((a || b) || c)
    assoc true b c = refl
    assoc false b c = refl

or-yes : (a b : Bool) → b ≡ true → (a || b) ≡ true
or-yes true b e = refl
or-yes false b e = e

-- a process that took a step in the block stands where the last of its runs so far left it
pub stepper-stands : ProcessAtBoundary → RunsOfBlocks → (design : FlatDesign) (place : Place) (block rest : List Event) (p number : ℕ) (own : ProcState) → BlockAt (good_machine design) place block rest →
    place.phase.events ≡ place.passed ++ place.left → steps_process block p ≡ true → 0 < length (runs_of (steps_in (good_machine design) p (state_there (good_machine design) place) block)) →
    number ≡ length (runs_of (steps_in (good_machine design) p place.phase.begins place.passed)) + length (runs_of (steps_in (good_machine design) p (state_there (good_machine design) place) block)) - 1 →
    StandsBehind design place.phase p number own → Stands design p (process_at (happened (good_machine design) place.phase.begins (place.passed ++ block)) p).activity own
stepper-stands law blocks design place block rest p number own at are steps some number_is behind =
    subst (λ a. Stands design p a own) (sym (left.1 ∙ last-run (process_at place.phase.begins p).activity so_far later behind.run more
    (ap (λ l. slice_get l (length so_far - 1)) (sym parted) ∙ ap (λ n. slice_get (process_runs machine p place.phase) n) (sym last) ∙ behind.is))) behind.stands
  where
    machine : Machine
    machine = good_machine design

    so_far : List ProcessRun
    so_far = runs_of (steps_in machine p place.phase.begins (place.passed ++ block))

    later : List ProcessRun
    later = runs_of (steps_in machine p (happened machine place.phase.begins (place.passed ++ block)) rest)

    joined-runs : so_far ≡ runs_of (steps_in machine p place.phase.begins place.passed) ++ runs_of (steps_in machine p (state_there machine place) block)
    joined-runs = blocks machine p place.phase.begins place.passed block at.between

    long : length so_far ≡ length (runs_of (steps_in machine p place.phase.begins place.passed)) + length (runs_of (steps_in machine p (state_there machine place) block))
    long = ap length joined-runs ∙ length-append (runs_of (steps_in machine p place.phase.begins place.passed)) (runs_of (steps_in machine p (state_there machine place) block))

    more : 0 < length so_far
    more = omega (arith, long, some)

    last : number ≡ length so_far - 1
    last = omega (arith, number_is, long)

    parted : process_runs machine p place.phase ≡ so_far ++ later
    parted =
        ap (λ l. runs_of (steps_in machine p place.phase.begins l)) (are ∙ ap (λ l. place.passed ++ l) at.parts ∙ sym (append_assoc place.passed block rest))
        ∙ blocks machine p place.phase.begins (place.passed ++ block) rest at.ends

    left : (is_ready (process_at (happened machine place.phase.begins (place.passed ++ block)) p).activity ≡ false)
        × ((process_at (happened machine place.phase.begins (place.passed ++ block)) p).activity ≡ activity_after_runs (process_at place.phase.begins p).activity so_far)
    left =
        (law machine place.phase.begins (place.passed ++ block) p (first-passed machine place block rest at are) at.ends).stepped
        (steps-join place.passed block p ∙ or-yes (steps_process place.passed p) (steps_process block p) steps)

split-block : (block : List Event) → 0 < length block → (first : Event) × (more : List Event) × (block ≡ first ∷ more)
split-block [] low = absurd (omega (arith, low))
split-block (first ∷ more) low = (first, more, refl)

leaves-there : BlocksLeave → (machine : Machine) (state : State) (block : List Event) (p : ℕ) → NoNodeWorks state → IsWholeBlock machine state block → Leaves machine state block p
leaves-there law machine state block p rests whole =
    let parts = split-block block whole.some in
    subst (λ l. Leaves machine state l p) (sym parts.2) (law machine state parts.0 parts.1 p rests (subst (IsWholeBlock machine state) parts.2 whole))

-- any other stands where it stood, or is ready where the block ends its wait
pub other-stands : BlocksLeave → (design : FlatDesign) (place : Place) (block rest : List Event) (p : ℕ) (old own : ProcState) → BlockAt (good_machine design) place block rest →
    steps_process block p ≡ false → Stands design p (process_at (state_there (good_machine design) place) p).activity old →
    IsWokenIf (ends_wait_of (good_machine design) (state_there (good_machine design) place) block p) old own →
    Stands design p (process_at (happened (good_machine design) place.phase.begins (place.passed ++ block)) p).activity own
other-stands law design place block rest p old own at none stands woken =
    subst (λ s. Stands design p (process_at s p).activity own) (sym (happened-append machine place.phase.begins place.passed block)) (go (ends_wait_of machine there block p) refl woken)
  where
    machine : Machine
    machine = good_machine design

    there : State
    there = state_there machine place

    leaves : Leaves machine there block p
    leaves = leaves-there law machine there block p at.between.nodes at.whole

    go : (b : Bool) → ends_wait_of machine there block p ≡ b → IsWokenIf b old own → Stands design p (process_at (happened machine there block) p).activity own
    go true ends readied =
        subst (λ a. Stands design p a own) (sym (leaves.woken none ends)) (readied-stands design p (process_at there p).activity old own stands (waits-there machine there block p none ends) readied)
    go false ends same = subst (λ s. Stands design p (process_at (happened machine there block) p).activity s) (sym same) (subst (λ a. Stands design p a old) (sym (leaves.stays none ends)) stands)

-- What they have pending

pub past-idle : (state : State) (p : ℕ) → length state.processes ≤ p → process_at state p ≡ idle_process
past-idle state p high = ap (found_or idle_process) (slice_get_past state.processes p high)

there-is : (state : State) (p : ℕ) → p < length state.processes → is_there p state ≡ true
there-is state p low = ap is_some (slice_get-get_or state.processes p idle_process low)

-- what a process has pending behind the block: what it had, and what its runs in the block append
pub later-behind : RunsAppend → RunsOfBlocks → (design : FlatDesign) (place : Place) (block rest : List Event) (p count : ℕ) → BlockAt (good_machine design) place block rest →
    place.phase.events ≡ place.passed ++ place.left → p < length place.phase.begins.processes →
    count ≡ length (runs_of (steps_in (good_machine design) p (state_there (good_machine design) place) block)) →
    (process_at (happened (good_machine design) place.phase.begins (place.passed ++ block)) p).later
    ≡ (process_at (state_there (good_machine design) place) p).later
    ++ appended_behind design place.phase p (length (runs_of (steps_in (good_machine design) p place.phase.begins place.passed))) count
later-behind law blocks design place block rest p count at are low count_is =
    law machine (record { turn = place.phase.turn; begins = place.phase.begins; events = place.passed ++ block }) p (there-is place.phase.begins p low)
    ∙ ap (λ l. (process_at place.phase.begins p).later ++ joined (map f l)) (blocks machine p place.phase.begins place.passed block at.between)
    ∙ ap (λ l. (process_at place.phase.begins p).later ++ l) (joined-append f before own)
    ∙ sym (append_assoc (process_at place.phase.begins p).later (joined (map f before)) (joined (map f own)))
    ∙ ap (λ l. l ++ joined (map f own))
    (sym (law machine (record { turn = place.phase.turn; begins = place.phase.begins; events = place.passed }) p (there-is place.phase.begins p low)))
    ∙ ap (λ l. (process_at (state_there machine place) p).later ++ l)
    (sym (ap (λ n. appended_behind design place.phase p (length before) n) count_is
    ∙ appended-is design place.phase p before own (runs_of (steps_in machine p (happened machine place.phase.begins (place.passed ++ block)) rest)) (runs-parted blocks machine place block rest p at are)))
  where
    machine : Machine
    machine = good_machine design

    f : ProcessRun → List LaterUpdate
    f = λ (run : ProcessRun). appended_by place.phase.begins.time run.steps

    before : List ProcessRun
    before = runs_of (steps_in machine p place.phase.begins place.passed)

    own : List ProcessRun
    own = runs_of (steps_in machine p (state_there machine place) block)

-- Lanes

-- behind its first event a block has no step of a lane
no-lane : BlocksBegin → (machine : Machine) (state : State) (done events : List Event) (p : ℕ) → IsWholeBlock machine state (done ++ events) → 0 < length done → steps_lane events p ≡ false
no-lane law machine state done [] p whole some = refl
no-lane law machine state done (event ∷ events) p whole some = go event refl (no-lane law machine state (done ++ event ∷ []) events p (subst (IsWholeBlock machine state) moved whole) longer)
  where
    moved : done ++ event ∷ events ≡ (done ++ event ∷ []) ++ events
    moved = sym (append_assoc done (event ∷ []) events)

    longer : 0 < length (done ++ event ∷ [])
    longer = let e : length (done ++ event ∷ []) ≡ length done + length (event ∷ []) = length-append done (event ∷ []) in omega (arith, e, some)

    long : length (done ++ event ∷ events) ≡ length done + suc (length events)
    long = length-append done (event ∷ events)

    front : take (length done) (done ++ event ∷ events) ≡ done
    front = go-take done (event ∷ events)
      where
        go-take : (xs ys : List Event) → take (length xs) (xs ++ ys) ≡ xs
        go-take [] ys = refl
        go-take (x ∷ xs) ys = ap (λ l. x ∷ l) (go-take xs ys)

    no-begin : begins_block done event ≡ true → ⊥
    no-begin begins =
        whole.none (length done) some (omega (arith, long))
        (subst (IsBetweenRuns machine state) (sym front)
        ((law machine state done event (first-before machine state (done ++ event ∷ []) events (subst (AreFirst machine state) moved whole.first))).0 begins))

    go : (e : Event) → e ≡ event → steps_lane events p ≡ false → (is_lane_of p event || steps_lane events p) ≡ false
    go (Step q) is rest = ap (λ (x : Event). is_lane_of p x || steps_lane events p) (sym is) ∙ rest
    go (LaneStep q) is rest = absurd (no-begin (ap (begins_block done) (sym is)))
    go (Evaluation n) is rest = ap (λ (x : Event). is_lane_of p x || steps_lane events p) (sym is) ∙ rest
    go (NetUpdate n) is rest = ap (λ (x : Event). is_lane_of p x || steps_lane events p) (sym is) ∙ rest

pub lanes-first : BlocksBegin → (machine : Machine) (state : State) (first : Event) (more : List Event) (p : ℕ) → IsWholeBlock machine state (first ∷ more) → steps_lane more p ≡ false
lanes-first law machine state first more p whole = no-lane law machine state (first ∷ []) more p whole (omega arith)

count-none : (events : List Event) (p : ℕ) → steps_lane events p ≡ false → count_by (is_lane_of p) events ≡ 0
count-none [] p e = refl
count-none (event ∷ events) p e = go (is_lane_of p event) refl e (count-none events p)
  where
    go : (b : Bool) → is_lane_of p event ≡ b → (b || steps_lane events p) ≡ false → (steps_lane events p ≡ false → count_by (is_lane_of p) events ≡ 0) →
        count_by (is_lane_of p) (event ∷ events) ≡ 0
    go true is f rest = cc
    go false is f rest =
        let all : count_by (is_lane_of p) (event ∷ events) ≡ count_by (is_lane_of p) (event ∷ []) + count_by (is_lane_of p) events = sum_by-append (λ x. cond (is_lane_of p x) 1 0) (event ∷ []) events in
        let own : count_by (is_lane_of p) (event ∷ []) ≡ 0 = ap (λ b. 0 + cond b 1 0) is in
        let z : count_by (is_lane_of p) events ≡ 0 = rest f in
        omega (arith, all, own, z)

-- how many steps of a lane a block has
pub lane-count : BlocksBegin → (machine : Machine) (state : State) (first : Event) (more : List Event) (p : ℕ) → IsWholeBlock machine state (first ∷ more) →
    count_by (is_lane_of p) (first ∷ more) ≡ count_by (is_lane_of p) (first ∷ [])
lane-count law machine state first more p whole =
    let all : count_by (is_lane_of p) (first ∷ more) ≡ count_by (is_lane_of p) (first ∷ []) + count_by (is_lane_of p) more = sum_by-append (λ x. cond (is_lane_of p x) 1 0) (first ∷ []) more in
    let none : count_by (is_lane_of p) more ≡ 0 = count-none more p (lanes-first law machine state first more p whole) in
    omega (arith, all, none)

pub drop-one : (lane : List ValueUpdate) → drop 1 lane ≡ rest_of lane
drop-one [] = refl
drop-one (update ∷ lane) = refl
