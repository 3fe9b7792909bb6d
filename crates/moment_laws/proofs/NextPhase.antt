-- A turn within a slot: the state in which the next phase begins is shown (turns by IEEE 1364-2001, clauses 5.3 and 5.4; nonblocking updates by clause 9.2.2).
use Rattle.std.proofs.Common.{◌≡◌, ℕ, zero, suc, ◌+◌, ◌<◌, Bool, true, false, not, ◌||◌, List, [], ◌∷◌, ◌++◌, length, get_or, map, filter, refl, sym, ap, subst, ◌∙◌, arith, append-nil, append_assoc, length-append}
use Rattle.std.specs.Prelude.{Option, Some, None, slice_get, sum_by}
use Rattle.std.specs.List.{list_any}
use Rattle.std.specs.Option.{option_map}
use Rattle.std.proofs.lemmas.List.{length-map}
use Rattle.std.proofs.lemmas.List.Sums.{sum_by-append, sum_by-cons}
use Rattle.std.proofs.lemmas.Option.{slice_get_within, slice_get-get_or, slice_get-map}
use Rattle.vf_base.specs.Lists.{first_place, earlier_place, joined}
use Rattle.v_design.specs.Designs.{FlatDesign, Machine, TestPlan, good_machine}
use Rattle.v_design.specs.Processes.{Activity}
use Rattle.v_design.specs.Processes as activities
use Rattle.v_design.specs.Assignments.{ValueUpdate}
use Rattle.v_design.specs.States.{State, ProcessState, LaterUpdate, TurnKind, PostponedTurn, UpdatesTurn, TimeTurn, process_at, idle_process, found_or, is_any, is_due, is_postponed, resumed, some_in, turn_of, turn_by, next_time_of}
use Rattle.v_design.specs.Runs.{Turns, happened, made, turned_by, turn_in_slot}
use Rattle.v_design.specs.Grades.{Phase}
use Rattle.machine_laws.specs.SlotLoop.{NoNodeWorks, IsIdle}
use Rattle.phase_order.specs.Order.{ComeNext, PhasesFollow}
use Rattle.copy_laws.specs.Windows.{good_slots}
use Rattle.process_code.specs.Codes.{rests_in_code}
use Rattle.process_code.specs.Points.{point_of, activity_by}
use Rattle.process_code.specs.Rests.{Part}
use Rattle.process_code.specs.Points.{Point}
use Rattle.process_code.specs.declared.code.Code.{Code}
use Rattle.process_code.specs.declared.state.ProcState.{ProcState}
use Rattle.process_code.specs.declared.state.Stage.{Stage}
use Rattle.process_code.specs.declared.state.Stage.TheVariants.{Ready, Waiting, Asleep, Postponed, Done}
use Rattle.run_ends.specs.RunEnds.{AreCodesOf, enders_in}
use Rattle.between_slots.specs.Between.{window_phases}
use Rattle.good_trace.specs.RunsKept.{Stands}
use Rattle.trace_window.specs.Moments.{window_events}
use Rattle.moment_parts.specs.Turned.{at_postponed, left_pending, activated}
use Rattle.moment_runs.proofs.Taking.{code-there}
use Rattle.window_places.specs.Passing.{events_before}
use Rattle.window_places.specs.Windows.{IsAtMoment, PlacesInWindows}
use Rattle.lockstep_slots.specs.Places.{Place, state_there, next_phase}
use Rattle.lockstep_slots.proofs.Followed.{IsFollowed}
use Rattle.lockstep_places.specs.Places.{IsPlaceIn, PlacesTold}
use Rattle.moment_laws.specs.Passing.{HasTurn, TakesTurn}
use Rattle.moment_laws.specs.Places.{IsShownAt, runs_before}
use Rattle.moment_laws.specs.Shown.{MomentKept, ShowsState}
use Rattle.moment_laws.specs.Turns.{ResumesAll, ActivatesAll, SameButTurned}
use Rattle.moment_laws.proofs.Following.{followed}
use Rattle.moment_laws.proofs.Moved.{move4}
use Rattle.moment_laws.proofs.Readied.{resumed-stands}

-- Whether a process is postponed

postponed-by : (rests : List (List Part)) (point : Point) (stage : Stage) → is_postponed (activity_by rests point stage) ≡ at_postponed stage
postponed-by rests point Ready = refl
postponed-by rests point (Waiting at) = refl
postponed-by rests point (Asleep time) = refl
postponed-by rests point Postponed = refl
postponed-by rests point Done = refl

-- as its state says
pub postponed-is : (design : FlatDesign) (codes : List Code) (p : ℕ) (activity : Activity) (own : ProcState) → AreCodesOf design codes → p < length design.processes → Stands design p activity own →
    is_postponed activity ≡ at_postponed own.stage
postponed-is design codes p activity own are low stands =
    let code = code-there design codes p are low in
    ap is_postponed (sym (stands.does code.0 code.1)) ∙ postponed-by (rests_in_code code.0) (point_of own) own.stage

-- of some processes
pub some-postponed : (states : List ProcState) (processes : List ProcessState) → length states ≡ length processes →
    ((p : ℕ) (own : ProcState) (process : ProcessState) → slice_get states p ≡ Some own → slice_get processes p ≡ Some process → is_postponed process.activity ≡ at_postponed own.stage) →
    list_any (λ (state : ProcState). at_postponed state.stage) states ≡ some_in (λ (process : ProcessState). is_postponed process.activity) processes
some-postponed [] [] e each = refl
some-postponed [] (p ∷ processes) e each = absurd (omega (arith, e))
some-postponed (s ∷ states) [] e each = absurd (omega (arith, e))
some-postponed (s ∷ states) (p ∷ processes) e each =
    λ i. sym (each 0 s p refl refl) i || some-postponed states processes (omega (arith, e)) (λ n own process here there. each (suc n) own process here there) i

-- Lanes where no event is possible

idle-lane : (processes : List ProcessState) (p : ℕ) → first_place (λ (q : ProcessState). is_any q.lane) processes ≡ None → (found_or idle_process (slice_get processes p)).lane ≡ []
idle-lane [] p e = refl
idle-lane (q ∷ processes) p e = go q.lane refl e (λ n. idle-lane processes n) p
  where
    later : (rest : Option ℕ) → earlier_place false rest ≡ None → rest ≡ None
    later None f = refl
    later (Some n) f = cc

    go : (lane : List ValueUpdate) → q.lane ≡ lane → earlier_place (is_any q.lane) (first_place (λ (r : ProcessState). is_any r.lane) processes) ≡ None →
        ((n : ℕ) → first_place (λ (r : ProcessState). is_any r.lane) processes ≡ None → (found_or idle_process (slice_get processes n)).lane ≡ []) → (n : ℕ) →
        (found_or idle_process (slice_get (q ∷ processes) n)).lane ≡ []
    go [] is f rest zero = is
    go [] is f rest (suc n) =
        rest n
        (later (first_place (λ (r : ProcessState). is_any r.lane) processes)
        (ap (λ (l : List ValueUpdate). earlier_place (is_any l) (first_place (λ (r : ProcessState). is_any r.lane) processes)) (sym is) ∙ f))
    go (u ∷ lane) is f rest n =
        let clash : Some 0 ≡ None = ap (λ (l : List ValueUpdate). earlier_place (is_any l) (first_place (λ (r : ProcessState). is_any r.lane) processes)) (sym is) ∙ f in cc

-- Which turn it is

in-slot-updates : (due : Bool) (next : Option ℕ) → turn_in_slot (turn_by false due next) ≡ Some Turns → turn_by false due next ≡ Some UpdatesTurn
in-slot-updates true next e = refl
in-slot-updates false None e = cc
in-slot-updates false (Some time) e = cc

-- Processes behind a turn

changed-process : (change : ProcessState → ProcessState) (state : State) (p : ℕ) → change idle_process ≡ idle_process →
    found_or idle_process (slice_get (map change state.processes) p) ≡ change (process_at state p)
changed-process change state p idle = ap (found_or idle_process) (slice_get-map change state.processes p) ∙ go (slice_get state.processes p)
  where
    go : (found : Option ProcessState) → found_or idle_process (option_map change found) ≡ change (found_or idle_process found)
    go None = sym idle
    go (Some process) = refl

-- what the code makes of what is shown, one or the other
pub data TurnMade (now : ℕ) (old new : MomentKept) : Type 0 where
  Resumes : ResumesAll old new → TurnMade now old new
  Activates : ActivatesAll now old new → TurnMade now old new

any-postponed : (design : FlatDesign) (codes : List Code) (end : State) (old : MomentKept) → AreCodesOf design codes → ShowsState design end old →
    list_any (λ (state : ProcState). at_postponed state.stage) old.states ≡ some_in (λ (process : ProcessState). is_postponed process.activity) end.processes
any-postponed design codes end old are shows =
    some-postponed old.states end.processes (shows.counts.states ∙ sym shows.process_count)
    (λ p own process here there.
    let low : p < length design.processes = (let l = slice_get_within old.states p own here in let e : length old.states ≡ length design.processes = shows.counts.states in omega (arith, l, e)) in
    ap (λ (found : Option ProcessState). is_postponed (found_or idle_process found).activity) (sym there)
    ∙ postponed-is design codes p (process_at end p).activity own are low (shows.stands p own here))

-- the state behind the turn is shown
turned-shown : (design : FlatDesign) (codes : List Code) (end : State) (old new : MomentKept) → AreCodesOf design codes → IsIdle end → turn_in_slot (turn_of end) ≡ Some Turns → ShowsState design end old →
    SameButTurned old new → TurnMade old.time old new → ShowsState design (turned_by (turn_of end) end) new
turned-shown design codes end old new are idle in_slot shows same (Resumes made) =
    subst (λ turn. ShowsState design (turned_by turn end) new) (sym kind) (record {
      counts = record {
        values = ap length same.values ∙ shows.counts.values;
        states = made.states.count ∙ shows.counts.states;
        later = ap length made.later ∙ shows.counts.later;
        lanes = ap length made.lanes ∙ shows.counts.lanes;
        ran = same.ran_count ∙ shows.counts.ran;
      };
      process_count = length-map end.processes change ∙ shows.process_count;
      node_count = shows.node_count;
      values = same.values ∙ shows.values;
      stands = λ p own here.
          let low : p < length old.states = (let l = slice_get_within new.states p own here in let e : length new.states ≡ length old.states = made.states.count in omega (arith, l, e)) in
          let was : slice_get old.states p ≡ Some (get_or old.states p own) = slice_get-get_or old.states p own low in
          subst (λ a. Stands design p a own) (sym (ap (λ (x : ProcessState). x.activity) (changed-process change end p refl)))
          (resumed-stands design p (process_at end p).activity (get_or old.states p own) own (shows.stands p (get_or old.states p own) was) (made.states.each p (get_or old.states p own) own was here));
      later = λ p. ap (λ l. get_or l p []) made.later ∙ shows.later p ∙ sym (ap (λ (x : ProcessState). x.later) (changed-process change end p refl));
      lanes = λ p. ap (λ l. get_or l p []) made.lanes ∙ shows.lanes p ∙ sym (ap (λ (x : ProcessState). x.lane) (changed-process change end p refl));
      time = same.time ∙ shows.time;
    })
  where
    change : ProcessState → ProcessState
    change = λ (process : ProcessState). record process { activity = resumed process.activity }

    postponed : some_in (λ (process : ProcessState). is_postponed process.activity) end.processes ≡ true
    postponed = sym (any-postponed design codes end old are shows) ∙ made.some

    kind : turn_of end ≡ Some PostponedTurn
    kind = ap (λ b. turn_by b (some_in (λ (process : ProcessState). some_in (is_due end.time) process.later) end.processes) (next_time_of end.processes)) postponed
turned-shown design codes end old new are idle in_slot shows same (Activates made) =
    subst (λ turn. ShowsState design (turned_by turn end) new) (sym kind) (record {
      counts = record {
        values = ap length same.values ∙ shows.counts.values;
        states = ap length made.states ∙ shows.counts.states;
        later = made.later_count ∙ shows.counts.later;
        lanes = made.lane_count ∙ shows.counts.lanes;
        ran = same.ran_count ∙ shows.counts.ran;
      };
      process_count = length-map end.processes change ∙ shows.process_count;
      node_count = shows.node_count;
      values = same.values ∙ shows.values;
      stands = λ p own here.
          subst (λ a. Stands design p a own) (sym (ap (λ (x : ProcessState). x.activity) (changed-process change end p refl))) (shows.stands p own (ap (λ l. slice_get l p) (sym made.states) ∙ here));
      later = λ p.
          made.later p ∙ (λ i. left_pending (shows.time i) (shows.later p i)) ∙ sym (ap (λ (x : ProcessState). x.later) (changed-process change end p refl));
      lanes = λ p.
          made.lanes p ∙ (λ i. activated (shows.time i) (shows.later p i))
          ∙ ap (λ l. l ++ activated end.time (process_at end p).later) (sym (idle-lane end.processes p idle.1))
          ∙ sym (ap (λ (x : ProcessState). x.lane) (changed-process change end p refl));
      time = same.time ∙ shows.time;
    })
  where
    change : ProcessState → ProcessState
    change = λ (process : ProcessState). record process {
      later = filter (λ later. not (is_due end.time later)) process.later;
      lane = process.lane ++ map (λ (later : LaterUpdate). later.update) (filter (is_due end.time) process.later);
    }

    postponed : some_in (λ (process : ProcessState). is_postponed process.activity) end.processes ≡ false
    postponed = sym (any-postponed design codes end old are shows) ∙ made.none

    due : Bool
    due = some_in (λ (process : ProcessState). some_in (is_due end.time) process.later) end.processes

    is : turn_of end ≡ turn_by false due (next_time_of end.processes)
    is = ap (λ b. turn_by b due (next_time_of end.processes)) postponed

    kind : turn_of end ≡ Some UpdatesTurn
    kind = is ∙ in-slot-updates due (next_time_of end.processes) (ap turn_in_slot (sym is) ∙ in_slot)

-- The whole

pub turn-taken : PlacesTold → PlacesInWindows → PhasesFollow → (design : FlatDesign) (plan : TestPlan) (codes : List Code) (place : Place) (next : Phase) (later : List Phase) (old new : MomentKept) →
    AreCodesOf design codes → IsShownAt design plan place old → place.left ≡ [] → place.later ≡ next ∷ later → SameButTurned old new → TurnMade old.time old new →
    TakesTurn design plan place next later old new
turn-taken told windows follow design plan codes place next later old new are shown none later_is same made_turn = record {
  shown = record {
    slot = shown.slot;
    within = (let w : old.before + old.slot < old.through = shown.within in let b : new.before ≡ old.before = same.before in let t : new.through ≡ old.through = same.through in
        let s : new.slot ≡ old.slot = same.slot in omega (arith, w, b, t, s));
    stands = (λ i. slice_get (good_slots design plan) (same.before i + same.slot i)) ∙ shown.stands;
    in_order = shown.in_order;
    place_is = record {
      phases_are = shown.place_is.phases_are ∙ ap (λ l. place.ended ++ place.phase ∷ l) later_is ∙ sym (append_assoc place.ended (place.phase ∷ []) (next ∷ later));
      events_are = refl;
    };
    in_window =
        move4 (λ b t ph m. IsPlaceIn (window_phases design plan b t) ph m behind) old.before old.through (old.phase + 1) old.moment new.before new.through new.phase new.moment (sym same.before)
        (sym same.through) (sym same.phase) (sym same.moment) (told.turns (window_phases design plan old.before old.through) old.phase old.moment place next later shown.in_window none later_is);
    at_moment =
        move4 (λ b t ph m. IsAtMoment design plan b t m behind) old.before old.through 0 old.moment new.before new.through 0 new.moment (sym same.before) (sym same.through) refl (sym same.moment)
        (windows.turns design plan old.before old.through old.moment place next later shown.at_moment none later_is);
    phase_is =
        (let p : old.phase ≡ length (window_phases design plan old.before (old.before + old.slot)) + length place.ended = shown.phase_is in
        let q : new.phase ≡ old.phase + 1 = same.phase in
        let e : length (window_phases design plan new.before (new.before + new.slot)) ≡ length (window_phases design plan old.before (old.before + old.slot)) =
        (λ i. length (window_phases design plan (same.before i) (same.before i + same.slot i))) in
        let l : length (place.ended ++ place.phase ∷ []) ≡ length place.ended + length (place.phase ∷ []) = length-append place.ended (place.phase ∷ []) in
        let one : length (place.phase ∷ []) ≡ 1 = refl in
        omega (arith, p, q, e, l, one));
    moment_is =
        (let m : old.moment ≡ length (window_events design plan old.before (old.before + old.slot)) + events_before place = shown.moment_is in
        let n : new.moment ≡ old.moment = same.moment in
        let e : length (window_events design plan new.before (new.before + new.slot)) ≡ length (window_events design plan old.before (old.before + old.slot)) =
        (λ i. length (window_events design plan (same.before i) (same.before i + same.slot i))) in
        let f : events_before behind ≡ events_before place = moments in
        omega (arith, m, n, e, f));
    between = record { nodes = subst NoNodeWorks (sym begins) (turned-nodes (turn_of end) end idle.0); runs = λ p. refl };
    process_count = ap (λ (s : State). length s.processes) begins ∙ shows.process_count;
    shows = subst (λ s. ShowsState design s new) (sym begins) shows;
    counts = record {
      runs =
          (let r : new.runs ≡ old.runs = same.runs in
          let o : old.runs ≡ runs_before machine place = shown.counts.runs in
          let f : runs_before machine behind ≡ runs_before machine place = runs in
          omega (arith, r, o, f));
      ran = λ p low. same.ran p;
    };
  };
  moment = same.moment;
  phase = same.phase;
  stays = record { before = same.before; through = same.through; slot = same.slot };
}
  where
    machine : Machine
    machine = good_machine design

    behind : Place
    behind = next_phase next later place

    all : place.phase.events ≡ place.passed
    all = shown.place_is.events_are ∙ ap (λ l. place.passed ++ l) none ∙ append-nil place.passed

    end : State
    end = state_there machine place

    phase : IsFollowed machine place.phase (next ∷ later)
    phase = subst (λ l. IsFollowed machine place.phase l) later_is (followed follow machine shown.slot place shown.in_order shown.place_is)

    idle : IsIdle end
    idle = subst (λ l. IsIdle (happened machine place.phase.begins l)) all phase.idle

    comes : ComeNext machine end (next ∷ later)
    comes = subst (λ l. ComeNext machine (happened machine place.phase.begins l) (next ∷ later)) all phase.next

    begins : next.begins ≡ turned_by (turn_of end) end
    begins = comes.1.begins_is

    shows : ShowsState design (turned_by (turn_of end) end) new
    shows = turned-shown design codes end old new are idle comes.0 shown.shows same made_turn

    turned-nodes : (turn : Option TurnKind) (state : State) → NoNodeWorks state → NoNodeWorks (turned_by turn state)
    turned-nodes None state e = e
    turned-nodes (Some PostponedTurn) state e = e
    turned-nodes (Some UpdatesTurn) state e = e
    turned-nodes (Some (TimeTurn time)) state e = e

    moments : events_before behind ≡ events_before place
    moments =
        (let a : sum_by (λ (p : Phase). length p.events) (place.ended ++ place.phase ∷ []) ≡ sum_by (λ (p : Phase). length p.events) place.ended + sum_by (λ (p : Phase). length p.events) (place.phase ∷ []) =
        sum_by-append (λ (p : Phase). length p.events) place.ended (place.phase ∷ []) in
        let b : sum_by (λ (p : Phase). length p.events) (place.phase ∷ []) ≡ length place.phase.events + sum_by (λ (p : Phase). length p.events) [] = sum_by-cons (λ (p : Phase). length p.events) place.phase [] in
        let c : sum_by (λ (p : Phase). length p.events) [] ≡ 0 = refl in
        let d : length place.phase.events ≡ length place.passed = ap length all in
        let x : events_before behind ≡ sum_by (λ (p : Phase). length p.events) (place.ended ++ place.phase ∷ []) + 0 = refl in
        let y : events_before place ≡ sum_by (λ (p : Phase). length p.events) place.ended + length place.passed = refl in
        omega (arith, a, b, c, d, x, y))

    joined-push : (xs : List Phase) → length (joined (map (λ (p : Phase). enders_in machine p.begins p.events) (xs ++ place.phase ∷ [])))
        ≡ length (joined (map (λ (p : Phase). enders_in machine p.begins p.events) xs)) + length (enders_in machine place.phase.begins place.phase.events)
    joined-push [] =
        let e : length (enders_in machine place.phase.begins place.phase.events ++ []) ≡ length (enders_in machine place.phase.begins place.phase.events) =
        ap length (append-nil (enders_in machine place.phase.begins place.phase.events)) in
        let z : length (joined (map (λ (p : Phase). enders_in machine p.begins p.events) [])) ≡ 0 = refl in
        omega (arith, e, z)
    joined-push (x ∷ xs) =
        let a : length (joined (map (λ (p : Phase). enders_in machine p.begins p.events) (x ∷ (xs ++ place.phase ∷ []))))
        ≡ length (enders_in machine x.begins x.events) + length (joined (map (λ (p : Phase). enders_in machine p.begins p.events) (xs ++ place.phase ∷ []))) =
        length-append (enders_in machine x.begins x.events) (joined (map (λ (p : Phase). enders_in machine p.begins p.events) (xs ++ place.phase ∷ []))) in
        let b : length (joined (map (λ (p : Phase). enders_in machine p.begins p.events) (x ∷ xs)))
        ≡ length (enders_in machine x.begins x.events) + length (joined (map (λ (p : Phase). enders_in machine p.begins p.events) xs)) =
        length-append (enders_in machine x.begins x.events) (joined (map (λ (p : Phase). enders_in machine p.begins p.events) xs)) in
        let r = joined-push xs in
        omega (arith, a, b, r)

    runs : runs_before machine behind ≡ runs_before machine place
    runs =
        (let a = joined-push place.ended in
        let d : length (enders_in machine place.phase.begins place.phase.events) ≡ length (enders_in machine place.phase.begins place.passed) = ap (λ l. length (enders_in machine place.phase.begins l)) all in
        let x : runs_before machine behind ≡ length (joined (map (λ (p : Phase). enders_in machine p.begins p.events) (place.ended ++ place.phase ∷ []))) + 0 = refl in
        let y : runs_before machine place
        ≡ length (joined (map (λ (p : Phase). enders_in machine p.begins p.events) place.ended)) + length (enders_in machine place.phase.begins place.passed) = refl in
        omega (arith, a, d, x, y))

-- How many phases there are

-- a phase more than the place's fits among those of the window
pub turn-fits : (design : FlatDesign) (plan : TestPlan) (kept : MomentKept) → HasTurn design plan kept → kept.phase + 1 < length (window_phases design plan kept.before kept.through)
turn-fits design plan kept turn =
    let at = turn.shown.in_window in
    let number : kept.phase ≡ length at.before = at.number_is in
    let all : length (window_phases design plan kept.before kept.through) ≡ length at.before + length (turn.place.phase ∷ (turn.place.later ++ at.others)) =
    ap length at.phases_are ∙ length-append at.before (turn.place.phase ∷ (turn.place.later ++ at.others)) in
    let own : length (turn.place.phase ∷ (turn.place.later ++ at.others)) ≡ suc (length (turn.place.later ++ at.others)) = refl in
    let two : length (turn.place.later ++ at.others) ≡ length turn.place.later + length at.others = length-append turn.place.later at.others in
    let more : 0 < length turn.place.later = turn.more in
    omega (arith, number, all, own, two, more)
