-- A replay goes on with events (IEEE 1364-2001, clause 5).
use Rattle.std.proofs.Common.{◌≡◌, ℕ, suc, ◌+◌, ◌*◌, ◌<◌, ◌≤◌, ◌^◌, List, [], ◌∷◌, ◌++◌, length, Bool, true, false, ◌&&◌, refl, sym, ap, subst, ◌∙◌, append_assoc, arith, inl, inr}
use Rattle.std.specs.Prelude.{Option, Some, None, slice_get, nat_lt}
use Rattle.std.proofs.lemmas.Bool.{lt-ltb, le-ltb}
use Rattle.v_design.specs.PlainDesigns.{design_of}
use Rattle.v_design.specs.Designs.{Machine}
use Rattle.v_design.specs.RulesHold.{rules_hold}
use Rattle.v_design.specs.WellFormed.{KeepsRules}
use Rattle.v_design.specs.States.{State, ProcessState, Event, Evaluation, NetUpdate, possible, after, idle_process, found_or, is_ready, is_any, first_update, step_of, write_of}
use Rattle.v_design.specs.Runs.{happened, work_of, only_if, most_steps}
use Rattle.v_design.specs.Grades.{Phase}
use Rattle.slot_record.specs.SlotRecords.{one_more, node_more}
use Rattle.order_laws.specs.Settling.{node_events, settling}
use Rattle.net_state.specs.States.{machine_in, values_in, nodes_in}
use Rattle.process_table.specs.Arranged.{table_of}
use Rattle.machine_events.specs.Parts.{IsAmid, IsInSlot, Leads}
use Rattle.machine_events.specs.PartLaws.{node-there}
use Rattle.machine_events.specs.There.{IsOfObjects, LaneIsThere, StepIsThere, found-holds}
use Rattle.race_laws.specs.Writes.{WritesAreOf, WritesStay, NextWritesAreOf}
use Rattle.cert_laws.specs.Replays.{Replay, with_events, stepped_on, step_on}
use Rattle.cert_replay.specs.declared.replaying.Replaying.{Replaying}
use Rattle.cert_replay.specs.declared.replaying.Stepper.{Stepper}
use Rattle.cert_replay.specs.declared.replaying.Stepper.TheVariants.{Process, Lane}
use Rattle.cert_replay.specs.Kept.{Keeps, IsReplaying, SameRun, Follows, ArePhasesFew, event_by, present_phase, time_kept}
use Rattle.cert_replay.specs.Deeds.{may_step, TakesStep, Settles, SettlesOne}
use Rattle.cert_replay.proofs.Words.{time-happened, happened-append, events-none, events-two}

pub same-run : (r : Replaying) → SameRun r r
same-run r = record { race = refl; bound = refl }

pub same-twice : (one mid other : Replaying) → SameRun one mid → SameRun mid other → SameRun one other
same-twice one mid other first second = record { race = second.race ∙ first.race; bound = second.bound ∙ first.bound }

-- the parts stand in a slot
pub in-slot : (r : Replaying) → IsReplaying r → IsInSlot r.nets r.table r.record
in-slot r is = record {
  machine = is.machine;
  first = is.keeps.first;
  before = is.keeps.before;
  phase = present_phase is.keeps.turn is.replay;
  log = r.log;
  is = is.keeps.amid;
}

-- what is kept stands for each replay that differs in its moves alone
pub keeps-alike : (machine : Machine) (one other : Replay) (r : Replaying) → other.begins ≡ one.begins → other.events ≡ one.events → other.now ≡ one.now → other.number ≡ one.number →
    other.steps ≡ one.steps → Keeps machine one r → Keeps machine other r
keeps-alike machine one other r begins events now number steps k = record {
  first = k.first;
  before = k.before;
  turn = k.turn;
  amid = subst (λ (p : Phase). IsAmid machine k.first k.before p r.nets r.table r.record r.log) (sym (λ i. record { turn = k.turn; begins = begins i; events = events i })) k.amid;
  now_is = now ∙ k.now_is ∙ sym (λ i. happened machine (begins i) (events i));
  number_is = number ∙ k.number_is;
  steps_is = steps ∙ k.steps_is;
  graph_is = k.graph_is;
  writes = subst (WritesAreOf machine.design) (sym begins) k.writes;
  most = k.most;
  few = subst (λ (s : State). ArePhasesFew (length k.before) other.steps s) (sym now) (subst (λ n. ArePhasesFew (length k.before) n one.now) (sym steps) k.few);
  clear = k.clear;
}

-- events in two parts
pub keeps-joined : (machine : Machine) (replay : Replay) (events more : List Event) (r : Replaying) → Keeps machine (with_events machine more (with_events machine events replay)) r →
    Keeps machine (with_events machine (events ++ more) replay) r
keeps-joined machine replay events more r k =
    keeps-alike machine (with_events machine more (with_events machine events replay)) (with_events machine (events ++ more) replay) r refl
    (sym (append_assoc replay.events events more)) (happened-append machine replay.now events more) refl refl k

-- no event more
pub keeps-nothing : (machine : Machine) (replay : Replay) (r : Replaying) → Keeps machine replay r → Keeps machine (with_events machine [] replay) r
keeps-nothing machine replay r k = keeps-alike machine replay (with_events machine [] replay) r refl (append-nothing replay.events) refl refl refl k
  where
    append-nothing : (xs : List Event) → xs ++ [] ≡ xs
    append-nothing [] = refl
    append-nothing (x ∷ xs) = ap (λ ys. x ∷ ys) (append-nothing xs)

-- where the parts lead on by some events, the replay goes on by them
pub keeps-on : (machine : Machine) (replay : Replay) (events : List Event) (old new : Replaying) (k : Keeps machine replay old) →
    IsAmid machine k.first k.before (present_phase k.turn (with_events machine events replay)) new.nets new.table new.record new.log →
    design_of new.graph.now.design.now ≡ design_of old.graph.now.design.now → new.steps ≡ old.steps → SameRun old new →
    ArePhasesFew (length k.before) replay.steps (happened machine replay.now events) → Keeps machine (with_events machine events replay) new
keeps-on machine replay events old new k amid graph steps same few = record {
  first = k.first;
  before = k.before;
  turn = k.turn;
  amid = amid;
  now_is = ap (λ s. happened machine s events) k.now_is ∙ sym (happened-append machine replay.begins replay.events events);
  number_is = k.number_is;
  steps_is = k.steps_is ∙ sym steps;
  graph_is = graph ∙ k.graph_is;
  writes = k.writes;
  most = subst (λ n. n ≤ 100000) (sym steps) k.most;
  few = few;
  clear = λ none. k.clear (sym same.race ∙ none);
}

-- Steps

-- whether a step is possible in the present state
pub may-is : (machine : Machine) (replay : Replay) (r : Replaying) (stepper : Stepper) (process : ℕ) → Keeps machine replay r →
    may_step (table_of r.table) stepper process ≡ possible replay.now (event_by stepper process)
may-is machine replay r Process process k =
    ap (λ (ps : List ProcessState). is_ready (found_or idle_process (slice_get ps process)).activity) (k.amid.both.table_is.processes ∙ ap (λ (s : State). s.processes) (sym k.now_is))
may-is machine replay r Lane process k =
    ap (λ (ps : List ProcessState). is_any (found_or idle_process (slice_get ps process)).lane) (k.amid.both.table_is.processes ∙ ap (λ (s : State). s.processes) (sym k.now_is))

-- the time that is kept is that of the replay
pub time-is : (machine : Machine) (replay : Replay) (r : Replaying) → Keeps machine replay r → time_kept r ≡ replay.now.time
time-is machine replay r k = k.amid.both.table_is.time ∙ ap (λ (s : State). s.time) (sym k.now_is)

-- What is written

-- the design keeps its rules
pub rules-kept : (machine : Machine) (replay : Replay) (r : Replaying) → Keeps machine replay r → KeepsRules machine.design
rules-kept machine replay r k =
    subst (λ (m : Machine). KeepsRules m.design) k.amid.both.machine_is
    (rules_hold (design_of r.nets.objects.settle.graph.now.design.now) r.nets.objects.settle.graph.now.design.now.rules)

-- what is still to be written is of the design
pub writes-now : WritesStay → (machine : Machine) (replay : Replay) (r : Replaying) → Keeps machine replay r → WritesAreOf machine.design replay.now
writes-now law machine replay r k =
    subst (WritesAreOf machine.design) (sym k.now_is) (law.after_events machine replay.begins replay.events (rules-kept machine replay r k) k.writes)

-- there is a value for each object
count-kept : (machine : Machine) (replay : Replay) (r : Replaying) → Keeps machine replay r → length machine.design.objects ≡ length (values_in r.nets)
count-kept machine replay r k = ap (λ (m : Machine). length m.design.objects) (sym k.amid.both.machine_is) ∙ sym r.nets.objects.are.count

-- the first update of a lane is of an object that has a value
pub lane-writes : WritesStay → NextWritesAreOf → (r : Replaying) (is : IsReplaying r) (process : ℕ) → LaneIsThere process r.nets r.table
lane-writes law next r is process =
    let k = is.keeps in
    let now = is.replay.now in
    let same : (table_of r.table).processes ≡ now.processes = k.amid.both.table_is.processes ∙ ap (λ (s : State). s.processes) (sym k.now_is) in
    found-holds (IsOfObjects (length (values_in r.nets))) _
    (λ update e. subst (λ n. update.object < n) (count-kept is.machine is.replay r k)
    (next.lane is.machine.design now process update (writes-now law is.machine is.replay r k)
    (ap (λ (ps : List ProcessState). first_update (found_or idle_process (slice_get ps process)).lane) (sym same) ∙ e)))

-- so is the update that a step writes
pub step-writes : WritesStay → NextWritesAreOf → (r : Replaying) (is : IsReplaying r) (process : ℕ) → StepIsThere process r.nets r.table
step-writes law next r is process machine state both =
    let k = is.keeps in
    let now = is.replay.now in
    let same_machine : machine ≡ is.machine = sym both.machine_is ∙ k.amid.both.machine_is in
    let same : state ≡ now =
    (λ i. record {
      time = (sym both.table_is.time ∙ k.amid.both.table_is.time) i;
      values = (sym both.nets_are.values ∙ k.amid.both.nets_are.values) i;
      nodes = (sym both.nets_are.nodes ∙ k.amid.both.nets_are.nodes) i;
      processes = (sym both.table_is.processes ∙ k.amid.both.table_is.processes) i;
    }) ∙ sym k.now_is in
    found-holds (IsOfObjects (length (values_in r.nets))) _
    (λ update e. subst (λ n. update.object < n) (count-kept is.machine is.replay r k)
    (next.step is.machine now process update (rules-kept is.machine is.replay r k) (writes-now law is.machine is.replay r k)
    ((λ i. write_of (step_of (sym same_machine i) (sym same i) process).action) ∙ e)))

-- a step that the parts took
pub takes-on : (event : Event) (old new : Replaying) → Leads (one_more event) old.nets new.nets old.table new.table old.record new.record → new.log ≡ old.log →
    design_of new.graph.now.design.now ≡ design_of old.graph.now.design.now → new.steps ≡ old.steps → SameRun old new → TakesStep event old new
takes-on event old new leads log graph steps same = record {
  same = same;
  steps_are = steps;
  takes = λ machine replay k few.
      keeps-on machine replay (event ∷ []) old new k
      (subst (λ l. IsAmid machine k.first k.before (present_phase k.turn (with_events machine (event ∷ []) replay)) new.nets new.table new.record l) (sym log)
      (leads machine k.first k.before (present_phase k.turn replay) old.log k.amid)) graph steps same (inl few);
}

-- the steps of the slot are counted
counted-few : (ended steps : ℕ) (state : State) → ArePhasesFew ended steps state → ended ≤ steps + 1
counted-few ended steps state (inl h) = omega (arith, h)
counted-few ended steps state (inr h) = h.0

-- with one step more no more phases ended than the slot has steps
abbrev pub Counted : Machine → Replay → Replaying → Type 0
Counted machine replay r = (k : Keeps machine replay r) × (length k.before ≤ replay.steps)

pub counted-on : (machine : Machine) (replay : Replay) (r : Replaying) → r.steps < 100000 → Keeps machine replay r →
    Counted machine (record replay { steps = replay.steps + 1 }) (record r { steps = r.steps + 1 })
counted-on machine replay r room k =
    let few : length k.before ≤ replay.steps + 1 = counted-few (length k.before) replay.steps replay.now k.few in (
      record {
        first = k.first;
        before = k.before;
        turn = k.turn;
        amid = k.amid;
        now_is = k.now_is;
        number_is = k.number_is;
        steps_is = ap (λ n. n + 1) k.steps_is;
        graph_is = k.graph_is;
        writes = k.writes;
        most = omega (arith, room);
        few = inl few;
        clear = k.clear;
      },
      few,
    )

-- a step that is possible and within the slot's steps, and all node events after it
pub steps-on : (stepper : Stepper) (process : ℕ) (old mid new : Replaying) → old.steps < 100000 → may_step (table_of old.table) stepper process ≡ true →
    TakesStep (event_by stepper process) (record old { steps = old.steps + 1 }) mid → Settles mid new → SameRun old new →
    Follows (λ machine replay. step_on machine (event_by stepper process) replay) true old new
steps-on stepper process old mid new room may takes settles same = record {
  same = same;
  goes_on = λ machine replay k.
      let event = event_by stepper process in
      let next : Replay = record replay { steps = replay.steps + 1 } in
      let counted = counted-on machine replay old room k in
      let one = takes.takes machine next counted.0 counted.1 in
      let all = settles.settles machine (with_events machine (event ∷ []) next) one in
      let allowed : (possible replay.now event && nat_lt replay.steps most_steps) ≡ true =
      (λ i. (sym (may-is machine replay old stepper process k) ∙ may) i && lt-ltb replay.steps 100000 (subst (λ n. n < 100000) (sym k.steps_is) room) i) in (
        stepped_on machine event replay,
        ap (λ b. only_if b (stepped_on machine event replay)) allowed,
        keeps-alike machine (with_events machine (settling machine (after machine replay.now event)) (with_events machine (event ∷ []) next)) (stepped_on machine event replay) new refl
            (sym (append_assoc replay.events (event ∷ []) (settling machine (after machine replay.now event)))) refl refl refl all,
      );
}

-- a step moves no time
pub step-time : (event : Event) (old new : Replaying) → IsReplaying old → Follows (λ machine replay. step_on machine event replay) true old new → time_kept new ≡ time_kept old
step-time event old new is f =
    let o = f.goes_on is.machine is.replay is.keeps in
    let events : List Event = event ∷ settling is.machine (after is.machine is.replay.now event) in
    time-is is.machine o.0 new o.2
    ∙ ap (λ (r : Replay). r.now.time) (sym (only-is (possible is.replay.now event && nat_lt is.replay.steps most_steps) (stepped_on is.machine event is.replay) o.0 o.1))
    ∙ time-happened is.machine is.replay.now events
    ∙ sym (time-is is.machine is.replay old is.keeps)
  where
    only-is : (b : Bool) (x y : Replay) → only_if b x ≡ Some y → x ≡ y
    only-is true x y e = cc
    only-is false x y e = cc

-- no step more
pub full-fails : (stepper : Stepper) (process : ℕ) (old : Replaying) → 100000 ≤ old.steps → Follows (λ machine replay. step_on machine (event_by stepper process) replay) false old old
full-fails stepper process old full = record {
  same = same-run old;
  goes_on = λ machine replay k.
      none (possible replay.now (event_by stepper process)) (nat_lt replay.steps most_steps) (le-ltb replay.steps 100000 (subst (λ n. 100000 ≤ n) (sym k.steps_is) full))
      (stepped_on machine (event_by stepper process) replay);
}
  where
    none : (a b : Bool) → b ≡ false → (next : Replay) → only_if (a && b) next ≡ None
    none true b e next = ap (λ c. only_if c next) e
    none false b e next = refl

-- a step that isn't possible
pub stuck-fails : (stepper : Stepper) (process : ℕ) (old new : Replaying) → may_step (table_of old.table) stepper process ≡ false → SameRun old new →
    Follows (λ machine replay. step_on machine (event_by stepper process) replay) false old new
stuck-fails stepper process old new stuck same = record {
  same = same;
  goes_on = λ machine replay k.
      ap (λ b. only_if (b && nat_lt replay.steps most_steps) (stepped_on machine (event_by stepper process) replay)) (sym (may-is machine replay old stepper process k) ∙ stuck);
}

-- Node events

-- the work that the nets tell is that of the present state
work-now : (machine : Machine) (replay : Replay) (r : Replaying) → Keeps machine replay r → (found : Option Event) → work_of 0 (nodes_in r.nets) ≡ found → work_of 0 replay.now.nodes ≡ found
work-now machine replay r k found work = ap (work_of 0) (ap (λ (s : State). s.nodes) k.now_is ∙ sym k.amid.both.nets_are.nodes) ∙ work

-- where a node has work no step comes first, so that what holds of the phases stays
few-stays : (ended steps : ℕ) (state next : State) (event : Event) → work_of 0 state.nodes ≡ Some event → ArePhasesFew ended steps state → ArePhasesFew ended steps next
few-stays ended steps state next event work (inl h) = inl h
few-stays ended steps state next event work (inr h) = absurd (let no : None ≡ Some event = sym h.1.1 ∙ work in cc)

-- the work on a node that the parts did
pub works-on : (node : ℕ) (old mid new : Replaying) → work_of 0 (nodes_in old.nets) ≡ Some (Evaluation node) → node < length (nodes_in old.nets) →
    ((machine : Machine) (replay : Replay) → Keeps machine replay old → Keeps machine replay mid) →
    Leads (node_more node) mid.nets new.nets mid.table new.table mid.record new.record → new.log ≡ mid.log →
    design_of new.graph.now.design.now ≡ design_of mid.graph.now.design.now → new.steps ≡ mid.steps → SameRun old mid → SameRun mid new → SettlesOne true old new
works-on node old mid new work low stays leads log graph steps before after = record {
  same = same-twice old mid new before after;
  settles = λ machine replay k.
      let there = node-there old.nets node low in
      let m = stays machine replay k in (
        node,
        there.0,
        work-now machine replay old k (Some (Evaluation node)) work,
        subst (λ (d : Machine). slice_get d.design.nodes node ≡ Some there.0) k.amid.both.machine_is there.1,
        keeps-on machine replay (Evaluation node ∷ NetUpdate node ∷ []) mid new m
            (subst (λ es. IsAmid machine m.first m.before (record { turn = m.turn; begins = replay.begins; events = es }) new.nets new.table new.record new.log)
            (append_assoc replay.events (Evaluation node ∷ []) (NetUpdate node ∷ []))
            (subst (λ l. IsAmid machine m.first m.before (node_more node (present_phase m.turn replay)) new.nets new.table new.record l) (sym log)
            (leads machine m.first m.before (present_phase m.turn replay) mid.log m.amid))) graph steps after
            (few-stays (length m.before) replay.steps replay.now (happened machine replay.now (Evaluation node ∷ NetUpdate node ∷ [])) (Evaluation node)
            (work-now machine replay old k (Some (Evaluation node)) work) m.few),
      );
}

-- no node has work
pub works-none : (old new : Replaying) → work_of 0 (nodes_in old.nets) ≡ None → ((machine : Machine) (replay : Replay) → Keeps machine replay old → Keeps machine replay new) → SameRun old new →
    SettlesOne false old new
works-none old new work stays same = record {
  same = same;
  settles = λ machine replay k. (work-now machine replay old k None work, stays machine replay k);
}

-- where the values and the nodes are told to be the same, the replay stays
pub stays-on : (old new : Replaying) → machine_in new.nets ≡ machine_in old.nets → values_in new.nets ≡ values_in old.nets → nodes_in new.nets ≡ nodes_in old.nets →
    new ≡ record old { nets = new.nets } → (machine : Machine) (replay : Replay) → Keeps machine replay old → Keeps machine replay new
stays-on old new machine values nodes is k replay keeps = subst (Keeps k replay) (sym is) (record {
  first = keeps.first;
  before = keeps.before;
  turn = keeps.turn;
  amid = record {
    both = record {
      machine_is = machine ∙ keeps.amid.both.machine_is;
      nets_are = record { values = values ∙ keeps.amid.both.nets_are.values; nodes = nodes ∙ keeps.amid.both.nets_are.nodes };
      table_is = keeps.amid.both.table_is;
    };
    arranged = keeps.amid.arranged;
    recorded = keeps.amid.recorded;
  };
  now_is = keeps.now_is;
  number_is = keeps.number_is;
  steps_is = keeps.steps_is;
  graph_is = keeps.graph_is;
  writes = keeps.writes;
  most = keeps.most;
  few = keeps.few;
  clear = keeps.clear;
})

-- some node events are done, and so many nodes may still have work
pub record Settling (machine : Machine) (replay : Replay) (left : ℕ) (r : Replaying) : Type 0 where
  pub done : List Event
  pub rest_is : settling machine replay.now ≡ done ++ node_events (2 * left) machine (happened machine replay.now done)
  pub keeps : Keeps machine (with_events machine done replay) r

pub settling-begins : (machine : Machine) (replay : Replay) (left : ℕ) (r : Replaying) → left ≡ length machine.design.nodes → Keeps machine replay r → Settling machine replay left r
settling-begins machine replay left r count k = record {
  done = [];
  rest_is = ap (λ n. node_events (2 * n) machine replay.now) (sym count);
  keeps = keeps-nothing machine replay r k;
}

-- one node more
pub settling-goes : (machine : Machine) (replay : Replay) (left less : ℕ) (old new : Replaying) → left ≡ less + 1 → SettlesOne true old new → Settling machine replay left old →
    Settling machine replay less new
settling-goes machine replay left less old new is one s =
    let o = one.settles machine (with_events machine s.done replay) s.keeps in
    let pair : List Event = Evaluation o.0 ∷ NetUpdate o.0 ∷ [] in
    let state : State = happened machine replay.now s.done in
    record {
      done = s.done ++ pair;
      rest_is = s.rest_is
          ∙ ap (λ es. s.done ++ es) ((let z : 2 * left ≡ suc (suc (2 * less)) = omega (arith, is) in ap (λ n. node_events n machine state) z) ∙ events-two (2 * less) machine state o.0 o.1 o.2 o.3)
          ∙ sym (append_assoc s.done pair (node_events (2 * less) machine (happened machine state pair)))
          ∙ ap (λ t. (s.done ++ pair) ++ node_events (2 * less) machine t) (sym (happened-append machine replay.now s.done pair));
      keeps = keeps-joined machine replay s.done pair new o.4;
    }

append-nothing : (xs : List Event) → xs ++ [] ≡ xs
append-nothing [] = refl
append-nothing (x ∷ xs) = ap (λ ys. x ∷ ys) (append-nothing xs)

-- none is left
pub settling-ends : (machine : Machine) (replay : Replay) (left : ℕ) (r new : Replaying) → (s : Settling machine replay left r) →
    node_events (2 * left) machine (happened machine replay.now s.done) ≡ [] →
    Keeps machine (with_events machine s.done replay) new → Keeps machine (with_events machine (settling machine replay.now) replay) new
settling-ends machine replay left r new s none k =
    let all : settling machine replay.now ≡ s.done = s.rest_is ∙ ap (λ es. s.done ++ es) none ∙ append-nothing s.done in
    subst (λ es. Keeps machine (with_events machine es replay) new) (sym all) k

pub settling-stops : (machine : Machine) (replay : Replay) (left : ℕ) (old new : Replaying) → SettlesOne false old new → Settling machine replay left old →
    Keeps machine (with_events machine (settling machine replay.now) replay) new
settling-stops machine replay left old new one s =
    let o = one.settles machine (with_events machine s.done replay) s.keeps in
    settling-ends machine replay left old new s (events-none (2 * left) machine (happened machine replay.now s.done) o.0) o.1

pub settling-over : (machine : Machine) (replay : Replay) (left : ℕ) (r : Replaying) → left ≡ 0 → Settling machine replay left r →
    Keeps machine (with_events machine (settling machine replay.now) replay) r
settling-over machine replay left r over s = settling-ends machine replay left r r s (ap (λ n. node_events (2 * n) machine (happened machine replay.now s.done)) over) s.keeps
