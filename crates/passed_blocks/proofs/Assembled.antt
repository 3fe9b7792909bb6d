-- A block is passed: the whole (blocks, phases and slots by IEEE 1364-2001, clause 5).
use Rattle.std.proofs.Common.{◌≡◌, ℕ, ◌+◌, ◌-◌, ◌<◌, Bool, true, false, cond, ◌||◌, List, [], ◌∷◌, ◌++◌, map, length, get_or, drop, set, refl, sym, ap, subst, ◌∙◌, inl, inr, arith, append-nil, append_assoc, length-append}
use Rattle.std.specs.List.{All}
use Rattle.std.specs.Prelude.{Some, count_by, slice_get, sum_by}
use Rattle.std.proofs.lemmas.Bool.{cases_lt, cases_eq, eq-eqb, ne_eqb}
use Rattle.std.proofs.lemmas.List.{get_or_past, get_or-set_same, get_or-set_other, length-set}
use Rattle.std.proofs.lemmas.Option.{slice_get_within}
use Rattle.vf_base.specs.Lists.{has, joined}
use Rattle.v_design.specs.Designs.{FlatDesign, Machine, TestPlan, good_machine}
use Rattle.v_design.specs.States.{State, ProcessState, Event, Step, LaneStep, Evaluation, NetUpdate, process_at, rest_of}
use Rattle.v_design.specs.Runs.{happened}
use Rattle.v_design.specs.Grades.{Phase}
use Rattle.v_design.specs.PhaseLogs.{is_lane_of}
use Rattle.v_design.specs.OwnSteps.{steps_in, runs_of}
use Rattle.copy_laws.specs.Moves.{ChangesOnly}
use Rattle.copy_laws.specs.Windows.{good_slots}
use Rattle.process_code.specs.declared.state.ProcState.{ProcState}
use Rattle.run_ends.specs.RunEnds.{enders_in}
use Rattle.good_trace.specs.RunsKept.{Stands}
use Rattle.between_slots.specs.Between.{window_phases}
use Rattle.phase_blocks.specs.Blocks.{IsWholeBlock}
use Rattle.phase_blocks.proofs.Lists.{happened-append}
use Rattle.block_changes.specs.Changes.{ends_wait_of, steps_process, steps_lane, parts_changed}
use Rattle.block_ends.specs.Ends.{IsLastOf}
use Rattle.boundary_ends.proofs.Counts.{enders-append}
use Rattle.shown_blocks.specs.moment_runs.Taken.{ProcessesKept, count_of, appended_behind, AreRunsTaken, StandsBehind}
use Rattle.trace_window.specs.Moments.{window_events}
use Rattle.shown_blocks.specs.window_places.Passing.{events_before}
use Rattle.shown_blocks.specs.window_places.Windows.{IsAtMoment}
use Rattle.shown_blocks.specs.window_wakes.Wakes.{WakeTold}
use Rattle.shown_blocks.specs.lockstep_slots.Places.{Place, state_there, behind_events}
use Rattle.shown_blocks.specs.lockstep_places.Places.{IsPlaceIn}
use Rattle.shown_blocks.specs.moment_laws.Passing.{PassesBlock}
use Rattle.shown_blocks.specs.moment_laws.Places.{runs_before}
use Rattle.shown_blocks.specs.moment_laws.Shown.{MomentKept, ShowsState, processes_in, is_lane}
use Rattle.shown_blocks.specs.moment_laws.Steps.{woken_within, slot_enders, SameButTaken, Takes}
use Rattle.shown_blocks.specs.Blocks.{BlockAt}
use Rattle.passed_blocks.proofs.Bounds.{acted-low, lanes-low, all-low}
use Rattle.shown_blocks.proofs.moment_laws.Moved.{move4}
use Rattle.shown_blocks.proofs.Behind.{stepper-stands, later-behind, lanes-first, lane-count, drop-one, past-idle}
use Rattle.shown_blocks.proofs.Ended.{enders-stepped, ended-count, some-steps, no-steps}
use Rattle.shown_blocks.proofs.Passed.{BlockLaws, enders-there, one-front}
use Rattle.shown_blocks.specs.Passages.{Passage}
use Rattle.shown_blocks.proofs.Shifted.{values-behind, changed-told, value-kept, woken-told, other-shown, counts-behind}
use Rattle.shown_blocks.proofs.Told.{has-append}

-- What the processes come to

-- the processes behind the block, as they are taken
record ProcessesBehind (design : FlatDesign) (place : Place) (block : List Event) (woken : List ℕ) (old taken : MomentKept) : Type 0 where
  states : length taken.states ≡ length design.processes
  later_count : length taken.later ≡ length design.processes
  lane_count : length taken.lanes ≡ length design.processes
  ran_count : length taken.ran ≡ length design.processes
  stands : (p : ℕ) (own : ProcState) → slice_get taken.states p ≡ Some own →
      Stands design p (process_at (happened (good_machine design) place.phase.begins (place.passed ++ block)) p).activity own
  later : (p : ℕ) → p < length design.processes → get_or taken.later p [] ≡ (process_at (happened (good_machine design) place.phase.begins (place.passed ++ block)) p).later
  lanes : (p : ℕ) → p < length design.processes → get_or taken.lanes p [] ≡ (process_at (happened (good_machine design) place.phase.begins (place.passed ++ block)) p).lane
  ran : (p : ℕ) → p < length design.processes →
      get_or taken.ran p 0 ≡ length (runs_of (steps_in (good_machine design) p place.phase.begins place.passed)) + length (runs_of (steps_in (good_machine design) p (state_there (good_machine design) place) block))
  runs : taken.runs ≡ old.runs + length (enders_in (good_machine design) (state_there (good_machine design) place) block)
  acted : (p : ℕ) → has taken.acted p ≡ (has woken p || steps_process block p)
  lane : (p : ℕ) → is_lane taken.lane p ≡ steps_lane block p

-- the steps of lanes of a block are told by its first event
lane-told : BlockLaws → (machine : Machine) (state : State) (first : Event) (more : List Event) (p : ℕ) → IsWholeBlock machine state (first ∷ more) → steps_lane (first ∷ more) p ≡ is_lane_of p first
lane-told laws machine state first more p whole = ap (λ b. is_lane_of p first || b) (lanes-first laws.begin machine state first more p whole) ∙ right (is_lane_of p first)
  where
    right : (b : Bool) → (b || false) ≡ b
    right true = refl
    right false = refl

-- a lane behind a block
lane-behind : BlockLaws → (machine : Machine) (begins : State) (passed : List Event) (first : Event) (more : List Event) (p : ℕ) → IsWholeBlock machine (happened machine begins passed) (first ∷ more) →
    (process_at (happened machine begins (passed ++ first ∷ more)) p).lane ≡ drop (count_by (is_lane_of p) (first ∷ [])) (process_at (happened machine begins passed) p).lane
lane-behind laws machine begins passed first more p whole =
    ap (λ (s : State). (process_at s p).lane) (happened-append machine begins passed (first ∷ more))
    ∙ laws.lanes machine (happened machine begins passed) (first ∷ more) p
    ∙ ap (λ n. drop n (process_at (happened machine begins passed) p).lane) (lane-count laws.begin machine (happened machine begins passed) first more p whole)

has-joined : (design : FlatDesign) (place : Place) (block : List Event) (rest : List Event) → BlockAt (good_machine design) place block rest → (woken : List ℕ) (p : ℕ) →
    has (woken ++ enders_in (good_machine design) (state_there (good_machine design) place) block) p ≡ (has woken p || steps_process block p)
has-joined design place block rest at woken p =
    has-append woken (enders_in (good_machine design) (state_there (good_machine design) place) block) p
    ∙ ap (λ b. has woken p || b) (enders-stepped (good_machine design) (state_there (good_machine design) place) block p at.whole.ends)

-- where the block begins with a step of a process
runs-behind : BlockLaws → (design : FlatDesign) (plan : TestPlan) (place : Place) (old put taken : MomentKept) (block rest : List Event) (q limit : ℕ) (wakes : List WakeTold) →
    Passage design plan place old put taken block rest (Step q) limit wakes → ProcessesBehind design place block (woken_within old.moment limit wakes) old taken
runs-behind laws design plan place old put taken block rest q limit wakes is = record {
  states = own.each.states;
  later_count = own.each.later;
  lane_count = ap length (is.takes.lanes ∙ is.puts.same.lanes) ∙ is.shown.shows.counts.lanes;
  ran_count = own.each.ran;
  stands = λ p state here. go p state here (steps_process block p) refl;
  later = λ p low.
      own.later p low ∙ (λ i. get_or (is.puts.same.later i) p [] ++ appended_behind design place.phase p (was-ran p low i) (count p i))
      ∙ ap (λ l. l ++ appended_behind design place.phase p (length (runs_of (steps_in machine p place.phase.begins place.passed))) (length (runs_of (steps_in machine p there block)))) (is.shown.shows.later p)
      ∙ sym (later-behind laws.later laws.runs design place block rest p (length (runs_of (steps_in machine p there block))) is.at is.shown.place_is.events_are (begins-low p low) refl);
  lanes = λ p low.
      ap (λ l. get_or l p []) (is.takes.lanes ∙ is.puts.same.lanes) ∙ is.shown.shows.lanes p
      ∙ sym (ap (λ l. (process_at (happened machine place.phase.begins (place.passed ++ l)) p).lane) is.begins ∙ lane-behind laws machine place.phase.begins place.passed (Step q) is.more p whole);
  ran = λ p low. own.ran p low ∙ (λ i. was-ran p low i + count p i);
  runs = is.takes.runs ∙ (λ i. is.puts.same.runs i + length (enders i));
  acted = λ p.
      ap (λ l. has l p) (is.takes.acted ∙ (λ i. is.puts.acted i ++ enders i)) ∙ has-joined design place block rest is.at (woken_within old.moment limit wakes) p;
  lane = λ p. ap (λ l. is_lane l p) (is.takes.lane ∙ is.puts.same.lane) ∙ sym (ap (λ l. steps_lane l p) is.begins ∙ lane-told laws machine there (Step q) is.more p whole);
}
  where
    machine : Machine
    machine = good_machine design

    there : State
    there = state_there machine place

    whole : IsWholeBlock machine there (Step q ∷ is.more)
    whole = subst (IsWholeBlock machine there) is.begins is.at.whole

    last : IsLastOf q (enders_in machine there block)
    last = subst (λ l. IsLastOf q (enders_in machine there l)) (sym is.begins) (laws.ends.runs machine there q is.more whole)

    others-are : is.takes.others ≡ last.others
    others-are =
        let from = enders-there design plan place old block rest is.shown is.at.parts in
        one-front q is.takes.others is.takes.rest last.others from.0
        (sym is.takes.enders ∙ (λ i. drop (is.puts.same.runs i) (slot_enders design plan (is.puts.same.before i) (is.puts.same.before i + is.puts.same.slot i))) ∙ from.1
        ∙ ap (λ l. l ++ from.0) last.are ∙ append_assoc last.others (q ∷ []) from.0)
        is.takes.once last.once

    enders : is.takes.others ++ q ∷ [] ≡ enders_in machine there block
    enders = ap (λ l. l ++ q ∷ []) others-are ∙ sym last.are

    phase-same : is.takes.phase ≡ place.phase
    phase-same =
        same-phase is.takes.phase place.phase
        (sym is.takes.phase_is ∙ (λ i. slice_get (window_phases design plan (is.puts.same.before i) (is.puts.same.through i)) (is.puts.same.phase i))
        ∙ (λ i. slice_get (is.shown.in_window.phases_are i) (is.shown.in_window.number_is i)) ∙ at-length is.shown.in_window.before place.phase (place.later ++ is.shown.in_window.others))
      where
        same-phase : (a b : Phase) → Some a ≡ Some b → a ≡ b
        same-phase a b e = cc

        at-length : (before : List Phase) (phase : Phase) (more : List Phase) → slice_get (before ++ phase ∷ more) (length before) ≡ Some phase
        at-length [] phase more = refl
        at-length (one ∷ before) phase more = at-length before phase more

    own : AreRunsTaken design place.phase (enders_in machine there block) (processes_in put) (processes_in taken)
    own = subst (λ l. AreRunsTaken design place.phase l (processes_in put) (processes_in taken)) enders
        (subst (λ ph. AreRunsTaken design ph (is.takes.others ++ q ∷ []) (processes_in put) (processes_in taken)) phase-same is.takes.taken)

    count : (p : ℕ) → count_of p (enders_in machine there block) ≡ length (runs_of (steps_in machine p there block))
    count p = ended-count machine there block p is.at.whole.ends

    was-ran : (p : ℕ) → p < length design.processes → get_or put.ran p 0 ≡ length (runs_of (steps_in machine p place.phase.begins place.passed))
    was-ran p low = ap (λ l. get_or l p 0) is.puts.same.ran ∙ is.shown.counts.ran p low

    begins-low : (p : ℕ) → p < length design.processes → p < length place.phase.begins.processes
    begins-low p low = let e : length place.phase.begins.processes ≡ length design.processes = is.shown.process_count in omega (arith, e, low)

    go : (p : ℕ) (state : ProcState) → slice_get taken.states p ≡ Some state → (b : Bool) → steps_process block p ≡ b →
        Stands design p (process_at (happened machine place.phase.begins (place.passed ++ block)) p).activity state
    go p state here true steps =
        let low : p < length design.processes = (let l = slice_get_within taken.states p state here in let e : length taken.states ≡ length design.processes = own.each.states in omega (arith, l, e)) in
        let ended : has (enders_in machine there block) p ≡ true = enders-stepped machine there block p is.at.whole.ends ∙ steps in
        let behind : StandsBehind design place.phase p (get_or taken.ran p 0 - 1) state = own.stands p state ended here in
        let total : get_or taken.ran p 0 ≡ length (runs_of (steps_in machine p place.phase.begins place.passed)) + length (runs_of (steps_in machine p there block)) =
        own.ran p low ∙ (λ i. was-ran p low i + count p i) in
        stepper-stands laws.boundary laws.runs design place block rest p (get_or taken.ran p 0 - 1) state is.at is.shown.place_is.events_are steps
        (some-steps machine there block p steps) (ap (λ n. n - 1) total) behind
    go p state here false none =
        let quiet : has (enders_in machine there block) p ≡ false = enders-stepped machine there block p is.at.whole.ends ∙ none in
        other-shown laws design plan place old put taken block rest (Step q) limit wakes p state is none (own.still p state quiet here)

-- where it begins with a step of a lane
lane-taken : BlockLaws → (design : FlatDesign) (plan : TestPlan) (place : Place) (old put taken : MomentKept) (block rest : List Event) (q limit : ℕ) (wakes : List WakeTold) →
    Passage design plan place old put taken block rest (LaneStep q) limit wakes → ProcessesBehind design place block (woken_within old.moment limit wakes) old taken
lane-taken laws design plan place old put taken block rest q limit wakes is = record {
  states = ap (λ (k : ProcessesKept). length k.states) is.takes.processes ∙ is.puts.states.count ∙ is.shown.shows.counts.states;
  later_count = ap (λ (k : ProcessesKept). length k.later) is.takes.processes ∙ ap length is.puts.same.later ∙ is.shown.shows.counts.later;
  lane_count = ap length is.takes.lanes ∙ length-set put.lanes q (rest_of (get_or put.lanes q [])) ∙ ap length is.puts.same.lanes ∙ is.shown.shows.counts.lanes;
  ran_count = ap (λ (k : ProcessesKept). length k.ran) is.takes.processes ∙ ap length is.puts.same.ran ∙ is.shown.shows.counts.ran;
  stands = λ p own here. other-shown laws design plan place old put taken block rest (LaneStep q) limit wakes p own is (none p) (ap (λ (k : ProcessesKept). slice_get k.states p) (sym is.takes.processes) ∙ here);
  later = λ p low.
      ap (λ (k : ProcessesKept). get_or k.later p []) is.takes.processes ∙ ap (λ l. get_or l p []) is.puts.same.later ∙ is.shown.shows.later p
      ∙ sym (later-behind laws.later laws.runs design place block rest p 0 is.at is.shown.place_is.events_are (begins-low p low) (sym (no-runs p)) ∙ append-nil (process_at there p).later);
  lanes = λ p low.
      ap (λ l. get_or l p []) is.takes.lanes ∙ own-lane p low
      ∙ sym (ap (λ l. (process_at (happened machine place.phase.begins (place.passed ++ l)) p).lane) is.begins ∙ lane-behind laws machine place.phase.begins place.passed (LaneStep q) is.more p whole);
  ran = λ p low.
      ap (λ (k : ProcessesKept). get_or k.ran p 0) is.takes.processes ∙ ap (λ l. get_or l p 0) is.puts.same.ran ∙ is.shown.counts.ran p low
      ∙ plus-none (length (runs_of (steps_in machine p place.phase.begins place.passed))) (length (runs_of (steps_in machine p there block))) (no-runs p);
  runs = is.takes.runs ∙ is.puts.same.runs ∙ plus-none old.runs (length (enders_in machine there block)) (ap length no-enders);
  acted = λ p.
      ap (λ l. has l p) (is.takes.acted ∙ is.puts.acted)
      ∙ sym (ap (λ l. has (woken_within old.moment limit wakes ++ l) p) no-enders ∙ ap (λ l. has l p) (append-nil (woken_within old.moment limit wakes)))
      ∙ has-joined design place block rest is.at (woken_within old.moment limit wakes) p;
  lane = λ p. ap (λ l. is_lane l p) is.takes.lane ∙ sym (ap (λ l. steps_lane l p) is.begins ∙ lane-told laws machine there (LaneStep q) is.more p whole);
}
  where
    machine : Machine
    machine = good_machine design

    there : State
    there = state_there machine place

    whole : IsWholeBlock machine there (LaneStep q ∷ is.more)
    whole = subst (IsWholeBlock machine there) is.begins is.at.whole

    no-enders : enders_in machine there block ≡ []
    no-enders = ap (enders_in machine there) is.begins ∙ laws.ends.lanes machine there q is.more whole

    none : (p : ℕ) → steps_process block p ≡ false
    none p = sym (enders-stepped machine there block p is.at.whole.ends) ∙ ap (λ l. has l p) no-enders

    no-runs : (p : ℕ) → length (runs_of (steps_in machine p there block)) ≡ 0
    no-runs p = ap (λ l. length (runs_of l)) (no-steps machine there block p (none p))

    plus-none : (n m : ℕ) → m ≡ 0 → n ≡ n + m
    plus-none n m e = omega (arith, e)

    begins-low : (p : ℕ) → p < length design.processes → p < length place.phase.begins.processes
    begins-low p low = let e : length place.phase.begins.processes ≡ length design.processes = is.shown.process_count in omega (arith, e, low)

    lane-was : (p : ℕ) → get_or put.lanes p [] ≡ (process_at there p).lane
    lane-was p = ap (λ l. get_or l p []) is.puts.same.lanes ∙ is.shown.shows.lanes p

    own-lane : (p : ℕ) → p < length design.processes → get_or (set put.lanes q (rest_of (get_or put.lanes q []))) p [] ≡ drop (count_by (is_lane_of p) (LaneStep q ∷ [])) (process_at there p).lane
    own-lane p low = elim (cases_eq p q) [
      | inl same ↦
          subst (λ n. get_or (set put.lanes n (rest_of (get_or put.lanes n []))) p [] ≡ drop (count_by (is_lane_of p) (LaneStep n ∷ [])) (process_at there p).lane) same
          (get_or-set_same put.lanes p (rest_of (get_or put.lanes p [])) [] (let e : length put.lanes ≡ length design.processes = ap length is.puts.same.lanes ∙ is.shown.shows.counts.lanes in omega (arith, e, low))
          ∙ ap rest_of (lane-was p) ∙ sym (drop-one (process_at there p).lane)
          ∙ ap (λ b. drop (0 + cond b 1 0) (process_at there p).lane) (sym (eq-eqb p p refl)))
      | inr apart ↦
          get_or-set_other put.lanes q p (rest_of (get_or put.lanes q [])) [] apart ∙ lane-was p
          ∙ ap (λ b. drop (0 + cond b 1 0) (process_at there p).lane) (sym (ne_eqb p q apart))
    ]

processes-behind : BlockLaws → (design : FlatDesign) (plan : TestPlan) (place : Place) (old put taken : MomentKept) (block rest : List Event) (first : Event) (limit : ℕ) (wakes : List WakeTold) →
    Passage design plan place old put taken block rest first limit wakes → ProcessesBehind design place block (woken_within old.moment limit wakes) old taken
processes-behind laws design plan place old put taken block rest (Step q) limit wakes is = runs-behind laws design plan place old put taken block rest q limit wakes is
processes-behind laws design plan place old put taken block rest (LaneStep q) limit wakes is = lane-taken laws design plan place old put taken block rest q limit wakes is
processes-behind laws design plan place old put taken block rest (Evaluation n) limit wakes is = absurd is.takes
processes-behind laws design plan place old put taken block rest (NetUpdate n) limit wakes is = absurd is.takes

taken-same : (design : FlatDesign) (plan : TestPlan) (put taken : MomentKept) (first : Event) → Takes design plan first put taken → SameButTaken put taken
taken-same design plan put taken (Step q) takes = takes.same
taken-same design plan put taken (LaneStep q) takes = takes.same
taken-same design plan put taken (Evaluation n) takes = absurd takes
taken-same design plan put taken (NetUpdate n) takes = absurd takes

or-swap : (a b : Bool) → (a || b) ≡ (b || a)
or-swap true true = refl
or-swap true false = refl
or-swap false true = refl
or-swap false false = refl

-- The whole

three-false : (a b c : Bool) → ((b || a) || c) ≡ false → ((a || c) || b) ≡ false
three-false true true c e = cc
three-false true false c e = cc
three-false false true c e = cc
three-false false false true e = cc
three-false false false false e = refl

-- the state behind a block
shown-behind : BlockLaws → (design : FlatDesign) (plan : TestPlan) (place : Place) (old put taken : MomentKept) (block rest : List Event) (first : Event) (limit : ℕ) (wakes : List WakeTold) →
    Passage design plan place old put taken block rest first limit wakes → ProcessesBehind design place block (woken_within old.moment limit wakes) old taken → SameButTaken put taken →
    ShowsState design (happened (good_machine design) place.phase.begins (place.passed ++ block)) (record taken { moment = limit })
shown-behind laws design plan place old put taken block rest first limit wakes is own same = record {
  counts = record {
    values = ap length same.values ∙ ap length values ∙ ap (λ (s : State). length s.values) over ∙ changes.value_count ∙ ap length (sym is.shown.shows.values) ∙ is.shown.shows.counts.values;
    states = own.states;
    later = own.later_count;
    lanes = own.lane_count;
    ran = own.ran_count;
  };
  process_count = count;
  node_count = ap (λ (s : State). length s.nodes) over ∙ changes.node_count ∙ is.shown.shows.node_count;
  values = same.values ∙ values;
  stands = own.stands;
  later = λ p. elim (cases_lt p (length design.processes)) [
    | inl low ↦ own.later p low
    | inr high ↦
        get_or_past taken.later p [] (let e : length taken.later ≡ length design.processes = own.later_count in omega (arith, e, high))
        ∙ ap (λ (x : ProcessState). x.later) (sym (past-idle end p (omega (arith, count, high))))
  ];
  lanes = λ p. elim (cases_lt p (length design.processes)) [
    | inl low ↦ own.lanes p low
    | inr high ↦
        get_or_past taken.lanes p [] (let e : length taken.lanes ≡ length design.processes = own.lane_count in omega (arith, e, high))
        ∙ ap (λ (x : ProcessState). x.lane) (sym (past-idle end p (omega (arith, count, high))))
  ];
  time = same.time ∙ is.puts.same.time ∙ is.shown.shows.time ∙ laws.time machine place.phase.begins place.passed ∙ sym (laws.time machine place.phase.begins (place.passed ++ block));
}
  where
    machine : Machine
    machine = good_machine design

    there : State
    there = state_there machine place

    end : State
    end = happened machine place.phase.begins (place.passed ++ block)

    over : end ≡ happened machine there block
    over = happened-append machine place.phase.begins place.passed block

    values : put.values ≡ end.values
    values = values-behind design plan place old put taken block rest first limit wakes is

    changes : ChangesOnly (parts_changed machine there block) there (happened machine there block)
    changes = counts-behind laws design plan place old block is.shown

    count : length end.processes ≡ length design.processes
    count = ap (λ (s : State). length s.processes) over ∙ changes.process_count ∙ is.shown.shows.process_count

pub passed-behind : BlockLaws → (design : FlatDesign) (plan : TestPlan) (place : Place) (old put taken : MomentKept) (block rest : List Event) (first : Event) (limit : ℕ) (wakes : List WakeTold) →
    Passage design plan place old put taken block rest first limit wakes → PassesBlock design plan place old (record taken { moment = limit })
passed-behind laws design plan place old put taken block rest first limit wakes is = record {
  block = block;
  rest = rest;
  parts = is.at.parts;
  whole = is.at.whole;
  shown = record {
    slot = is.shown.slot;
    within = (let w : old.before + old.slot < old.through = is.shown.within in omega (arith, w, before_is, slot_is, through_is));
    stands = (λ i. slice_get (good_slots design plan) (before_is i + slot_is i)) ∙ is.shown.stands;
    in_order = is.shown.in_order;
    place_is = record {
      phases_are = is.shown.place_is.phases_are;
      events_are = is.shown.place_is.events_are ∙ ap (λ l. place.passed ++ l) is.at.parts ∙ sym (append_assoc place.passed block rest);
    };
    in_window =
        move4 (λ b t ph m. IsPlaceIn (window_phases design plan b t) ph m (behind_events block rest place)) old.before old.through old.phase (old.moment + length block) taken.before taken.through taken.phase
        limit (sym before_is) (sym through_is) (sym phase_is) (sym is.limit_is)
        (laws.told.goes_on (window_phases design plan old.before old.through) old.phase old.moment place block rest is.shown.in_window is.at.parts);
    at_moment =
        move4 (λ b t ph m. IsAtMoment design plan b t m (behind_events block rest place)) old.before old.through old.phase (old.moment + length block) taken.before taken.through taken.phase limit
        (sym before_is) (sym through_is) (sym phase_is) (sym is.limit_is)
        (laws.windows.goes_on design plan old.before old.through old.moment place block rest is.shown.at_moment is.at.parts);
    phase_is = phase_is ∙ is.shown.phase_is ∙ sym (λ i. length (window_phases design plan (before_is i) (before_is i + slot_is i)) + length place.ended);
    moment_is =
        (let m : old.moment ≡ length (window_events design plan old.before (old.before + old.slot)) + events_before place = is.shown.moment_is in
        let e : length (window_events design plan taken.before (taken.before + taken.slot)) ≡ length (window_events design plan old.before (old.before + old.slot)) =
        (λ i. length (window_events design plan (before_is i) (before_is i + slot_is i))) in
        let p : length (place.passed ++ block) ≡ length place.passed + length block = length-append place.passed block in
        let b : events_before (behind_events block rest place) ≡ sum_by (λ (phase : Phase). length phase.events) place.ended + length (place.passed ++ block) = refl in
        let o : events_before place ≡ sum_by (λ (phase : Phase). length phase.events) place.ended + length place.passed = refl in
        let l : limit ≡ old.moment + length block = is.limit_is in
        omega (arith, m, e, p, b, o, l));
    between = is.at.ends;
    process_count = is.shown.process_count;
    shows = shown-behind laws design plan place old put taken block rest first limit wakes is own same;
    counts = record {
      runs =
          (let r : taken.runs ≡ old.runs + length (enders_in machine there block) = own.runs in
          let o : old.runs ≡ runs_before machine place = is.shown.counts.runs in
          let e : length (enders_in machine place.phase.begins (place.passed ++ block)) ≡ length (enders_in machine place.phase.begins place.passed) + length (enders_in machine there block) =
          ap length (enders-append machine place.phase.begins place.passed block) ∙ length-append (enders_in machine place.phase.begins place.passed) (enders_in machine there block) in
          let b : runs_before machine (behind_events block rest place)
          ≡ length (joined (map (λ (phase : Phase). enders_in machine phase.begins phase.events) place.ended)) + length (enders_in machine place.phase.begins (place.passed ++ block)) = refl in
          let w : runs_before machine place
          ≡ length (joined (map (λ (phase : Phase). enders_in machine phase.begins phase.events) place.ended)) + length (enders_in machine place.phase.begins place.passed) = refl in
          omega (arith, r, o, e, b, w));
      ran = λ p low.
          own.ran p low
          ∙ sym (ap length (laws.runs machine p place.phase.begins place.passed block is.at.between)
          ∙ length-append (runs_of (steps_in machine p place.phase.begins place.passed)) (runs_of (steps_in machine p there block)));
    };
  };
  moment = is.limit_is;
  phase = phase_is;
  stays = record { before = before_is; through = through_is; slot = slot_is };
  told = record {
    changed = λ object. ap (λ l. has l object) same.changed ∙ changed-told design plan place old put taken block rest first limit wakes object is;
    acted = acted;
    lane = own.lane;
    processes_there =
        subst (λ n. All (λ p. p < n) taken.acted) (sym own.states)
        (all-low (length design.processes) taken.acted
        (λ p e. acted-low laws.changes machine there block (length design.processes) p is.at.whole.first is.shown.shows.node_count is.shown.shows.process_count (sym (acted p) ∙ e)));
    lane_there = λ p e.
        let low : p < length design.processes =
        lanes-low laws.changes machine there block (length design.processes) p is.at.whole.first is.shown.shows.node_count is.shown.shows.process_count (sym (own.lane p) ∙ e) in
        let count : length taken.states ≡ length design.processes = own.states in
        omega (arith, low, count);
    changes_only = record {
      value_count = changes.value_count;
      node_count = changes.node_count;
      process_count = changes.process_count;
      values = λ object none.
          value-kept design plan place old put taken block rest first limit wakes object is (ap (λ l. has l object) (sym same.changed) ∙ none);
      nodes = λ number none. cc;
      processes = λ p none.
          changes.processes p (three-false (steps_process block p) (ends_wait_of machine there block p) (steps_lane block p)
          ((λ i. (or-swap (ends_wait_of machine there block p) (steps_process block p) i) || steps_lane block p) ∙ sym (λ i. acted p i || own.lane p i) ∙ none));
    };
  };
}
  where
    machine : Machine
    machine = good_machine design

    there : State
    there = state_there machine place

    own : ProcessesBehind design place block (woken_within old.moment limit wakes) old taken
    own = processes-behind laws design plan place old put taken block rest first limit wakes is

    same : SameButTaken put taken
    same = taken-same design plan put taken first is.takes

    before_is : taken.before ≡ old.before
    before_is = same.before ∙ is.puts.same.before

    through_is : taken.through ≡ old.through
    through_is = same.through ∙ is.puts.same.through

    slot_is : taken.slot ≡ old.slot
    slot_is = same.slot ∙ is.puts.same.slot

    phase_is : taken.phase ≡ old.phase
    phase_is = same.phase ∙ is.puts.same.phase

    changes : ChangesOnly (parts_changed machine there block) there (happened machine there block)
    changes = counts-behind laws design plan place old block is.shown

    acted : (p : ℕ) → has taken.acted p ≡ (steps_process block p || ends_wait_of machine there block p)
    acted p =
        own.acted p ∙ ap (λ b. b || steps_process block p) (woken-told design plan place old put taken block rest first limit wakes p is)
        ∙ or-swap (ends_wait_of machine there block p) (steps_process block p)
