-- A runner takes an event, and tells it (IEEE 1364-2001, clause 5).
use Rattle.std.proofs.Common.{◌≡◌, ℕ, zero, suc, ◌+◌, ◌-◌, ◌<◌, ◌≤◌, List, [], ◌∷◌, ◌++◌, length, map, take, Bool, true, false}
use Rattle.std.proofs.Common.{◌||◌, refl, sym, ap, subst, ◌∙◌, arith, append_assoc, append-nil}
use Rattle.std.specs.Prelude.{Some, None, slice_get, nat_lt}
use Rattle.std.specs.List.{All}
use Rattle.std.proofs.lemmas.List.{map-append, length-map}
use Rattle.std.proofs.lemmas.Bool.{ltb-true, ltb-false}
use Rattle.vf_base.specs.Base.{object_number, process_number}
use Rattle.vf_base.specs.Lists.{has}
use Rattle.vf_base.specs.declared.ids.ProcId.{ProcId}
use Rattle.v_design.specs.Designs.{FlatDesign, FlatNode, Machine}
use Rattle.v_design.specs.Assignments.{node_outputs}
use Rattle.v_design.specs.States.{State, Event, Step, LaneStep, Evaluation, NetUpdate, after, evaluated, is_process_event}
use Rattle.v_design.specs.Runs.{happened, work_of, first_event, or_event, named_event}
use Rattle.v_design.specs.PhaseLogs.{is_step_of, is_lane_of}
use Rattle.causal_monitor.specs.Notes.{noted_access}
use Rattle.causal_monitor.specs.declared.noted.Noted.{Noted}
use Rattle.value_change.specs.declared.change.Change.{Change}
use Rattle.machine_laws.specs.SlotLoop.{NotesGoOn, NoNodeWorks, first_lane, first_ready, steps_of}
use Rattle.machine_laws.proofs.Places.{updates}
use Rattle.copy_laws.specs.Beside.{AreFirst}
use Rattle.copy_laws.specs.Moves.{ChangesOnly, EventsChangeOnly, parts_of}
use Rattle.order_laws.proofs.ToFront.{happened-append}
use Rattle.net_state.specs.Held.{node_marked}
use Rattle.net_state.specs.States.{machine_in, values_in, nodes_in}
use Rattle.process_table.specs.Arranged.{IsKept, table_of}
use Rattle.machine_events.specs.declared.told.Told.{Told}
use Rattle.machine_events.specs.Parts.{FitsDesign, AreBothOf}
use Rattle.machine_events.specs.PartLaws.{table-count, node-there}
use Rattle.machine_events.specs.Alone.{NodeHappens}
use Rattle.block_events.specs.declared.runner.Runner.{Runner}
use Rattle.block_told.specs.declared.told.BlockTold.{BlockTold}
use Rattle.block_events.specs.Runners.{machine_of, state_of, IsWhole}
use Rattle.block_told.specs.Tells.{access_seen, write_seen, noted_seen, is_lane, TellsBlock, TellsStepOf, TellsNodeOf}
use Rattle.block_events.specs.Going.{node_events, TellsMore, WorksOn}
use Rattle.block_told.specs.Running.{running_of}
use Rattle.block_told.specs.Prefixes.{first-append, all-append, take-left, take-right, length-append}
use Rattle.block_told.specs.EventTells.{TellsEvent, AreCounted, evaluation-tells, update-tells}
use Rattle.block_told.specs.TellsMore.{Adds, tells-more}

-- The state of a runner

-- its values, nodes and processes are of its state
pub both-of : (runner : Runner) → IsWhole runner → AreBothOf (machine_of runner) (state_of runner) runner.nets runner.table
both-of runner whole = record { machine_is = refl; nets_are = record { values = refl; nodes = refl }; table_is = record { design = whole.design; time = refl; processes = refl } }

-- and the state is the one that they are of
pub state-is : (machine : Machine) (state : State) (runner : Runner) → AreBothOf machine state runner.nets runner.table → state_of runner ≡ state
state-is machine state runner both = λ i. record { time = both.table_is.time i; values = both.nets_are.values i; nodes = both.nets_are.nodes i; processes = both.table_is.processes i }

pub object-count : (runner : Runner) → length (state_of runner).values ≡ length (machine_of runner).design.objects
object-count runner = runner.nets.objects.are.count

pub node-count : (runner : Runner) → length (state_of runner).nodes ≡ length (machine_of runner).design.nodes
node-count runner = omega (arith, length-map runner.nets.objects.settle.marks.items node_marked, runner.nets.objects.settle.sized)

pub process-count : (runner : Runner) → IsWhole runner → length (state_of runner).processes ≡ length (machine_of runner).design.processes
process-count runner whole = table-count runner.table whole.kept ∙ ap (λ (d : FlatDesign). length d.processes) whole.design

-- what an event tells names processes of the design
pub told-ended : (runner : Runner) (event : Told) → IsWhole runner → FitsDesign (table_of runner.table).design event →
    All (λ (process : ProcId). process_number process < length (machine_of runner).design.processes) event.ended.items
told-ended runner event whole fits =
    subst (λ (d : FlatDesign). All (λ (process : ProcId). process_number process < length d.processes) event.ended.items) whole.design fits.ended

-- What is added

seen-each : (accesses : List Noted) → map noted_seen accesses ≡ map access_seen (map noted_access accesses)
seen-each [] = refl
seen-each (a ∷ accesses) = ap (λ l. access_seen (noted_access a) ∷ l) (seen-each accesses)

net-objects : (changes : List Change) → map object_number (map (λ (change : Change). change.object) changes) ≡ map (λ (change : Change). object_number change.object) changes
net-objects [] = refl
net-objects (c ∷ changes) = ap (λ l. object_number c.object ∷ l) (net-objects changes)

or-false : (b : Bool) → b ≡ (b || false)
or-false true = refl
or-false false = refl

-- a process or lane step, with what is told of its process
pub adds-step : (event : Event) (told : Told) (old middle new : BlockTold) → TellsStepOf told middle new → middle.accesses.items ≡ old.accesses.items → middle.changed.items ≡ old.changed.items →
    middle.ended.items ≡ old.ended.items →
    ((process : ℕ) → has (map process_number middle.stepped.items) process ≡ (has (map process_number old.stepped.items) process || is_step_of process event)) →
    ((process : ℕ) → is_lane middle.lane process ≡ (is_lane old.lane process || is_lane_of process event)) → middle.steps ≡ old.steps + steps_of event →
    Adds event (map access_seen (map noted_access told.accesses.items)) (map object_number told.changed.items) (map process_number told.ended.items) old new
adds-step event told old middle new adds accesses changed ended stepped lane count = record {
  accesses = ap (map noted_seen) (adds.accesses ∙ ap (λ l. l ++ told.accesses.items) accesses)
      ∙ map-append noted_seen old.accesses.items told.accesses.items ∙ ap (λ l. map noted_seen old.accesses.items ++ l) (seen-each told.accesses.items);
  changed_more = ap (map object_number) (adds.changed ∙ ap (λ l. l ++ told.changed.items) changed) ∙ map-append object_number old.changed.items told.changed.items;
  ended_more = ap (map process_number) (adds.ended ∙ ap (λ l. l ++ told.ended.items) ended) ∙ map-append process_number old.ended.items told.ended.items;
  stepped = λ process. ap (λ l. has (map process_number l) process) adds.stepped ∙ stepped process;
  lane = λ process. ap (λ l. is_lane l process) adds.lane ∙ lane process;
  count = adds.steps ∙ count;
}

-- the evaluation of a node adds nothing
adds-evaluation : (node : ℕ) (told : BlockTold) → Adds (Evaluation node) [] [] [] told told
adds-evaluation node told = record {
  accesses = sym (append-nil (map noted_seen told.accesses.items));
  changed_more = sym (append-nil (map object_number told.changed.items));
  ended_more = sym (append-nil (map process_number told.ended.items));
  stepped = λ process. or-false (has (map process_number told.stepped.items) process);
  lane = λ process. or-false (is_lane told.lane process);
  count = let e : told.steps ≡ told.steps + 0 = omega arith in e;
}

adds-update : (node : ℕ) (event : Told) (old new : BlockTold) → TellsNodeOf event old new →
    Adds (NetUpdate node) (map write_seen event.net_changes.items ++ map access_seen (map noted_access event.accesses.items))
    (map (λ (change : Change). object_number change.object) event.net_changes.items) (map process_number event.ended.items) old new
adds-update node event old new adds =
    record {
      accesses = adds.accesses ∙ append_assoc (map noted_seen old.accesses.items) (map write_seen event.net_changes.items) (map noted_seen event.accesses.items)
          ∙ ap (λ l. map noted_seen old.accesses.items ++ (map write_seen event.net_changes.items ++ l)) (seen-each event.accesses.items);
      changed_more = ap (map object_number) adds.changed ∙ map-append object_number old.changed.items (map (λ (change : Change). change.object) event.net_changes.items)
          ∙ ap (λ l. map object_number old.changed.items ++ l) (net-objects event.net_changes.items);
      ended_more = ap (map process_number) adds.ended ∙ map-append process_number old.ended.items event.ended.items;
      stepped = λ process. ap (λ l. has (map process_number l) process) adds.stepped ∙ or-false (has (map process_number old.stepped.items) process);
      lane = λ process. ap (λ l. is_lane l process) adds.lane ∙ or-false (is_lane old.lane process);
      count = adds.steps ∙ (let e : old.steps ≡ old.steps + 0 = omega arith in e);
    }

-- Work on a node

-- the event that the first order takes where nodes have work
pub work-first : (state : State) (event : Event) → work_of 0 state.nodes ≡ Some event → first_event state ≡ Some event
work-first state event work = ap (λ w. or_event w (or_event (named_event LaneStep (first_lane state)) (named_event Step (first_ready state)))) work

-- a node that is evaluated is to be updated next
update-next : (machine : Machine) (state : State) (node : ℕ) (text : FlatNode) → slice_get machine.design.nodes node ≡ Some text → work_of 0 state.nodes ≡ Some (Evaluation node) →
    work_of 0 (after machine state (Evaluation node)).nodes ≡ Some (NetUpdate node)
update-next machine state node text is work =
    let same : 0 + node ≡ node = omega arith in
    ap (λ f. work_of 0 (evaluated machine node f state).nodes) is
    ∙ updates 0 state.nodes node (node_outputs machine node text state.values) (work ∙ ap (λ k. Some (Evaluation k)) (sym same)) ∙ ap (λ k. Some (NetUpdate k)) same

pub has-work : (state : State) (event : Event) → work_of 0 state.nodes ≡ Some event → NoNodeWorks state → ⊥
has-work state event is none = let z : Some event ≡ None = sym is ∙ none in cc

pub node-works : NotesGoOn → EventsChangeOnly → (old new : Runner) (node : ℕ) (event : Told) (told_old told_new : BlockTold) → IsWhole old →
    work_of 0 (state_of old).nodes ≡ Some (Evaluation node) → node < length (nodes_in old.nets) → NodeHappens node old.nets new.nets old.table new.table event →
    TellsNodeOf event told_old told_new → new.running ≡ old.running → WorksOn (node_events node) old new told_old told_new
node-works notes law old new node event told_old told_new whole work low happens adds same = record {
  takes = record { in_order = (work-first state (Evaluation node) work, (work-first mid (NetUpdate node) next, tt)); whole = happens.one; machine_is = both.machine_is; state_is = new_state };
  of_nodes = (refl, (refl, tt));
  busy = busy;
  running = λ i. running_of (same i).items;
  stepped = adds.stepped;
  steps = adds.steps;
  tells = tells;
}
  where
    machine : Machine
    machine = machine_of old

    state : State
    state = state_of old

    mid : State
    mid = after machine state (Evaluation node)

    both : AreBothOf machine (after machine mid (NetUpdate node)) new.nets new.table
    both = happens.both machine state (both-of old whole)

    new_state : state_of new ≡ after machine mid (NetUpdate node)
    new_state = state-is machine (after machine mid (NetUpdate node)) new both

    next : work_of 0 mid.nodes ≡ Some (NetUpdate node)
    next = (let there = node-there old.nets node low in update-next machine state node there.0 there.1 work)

    busy : (count : ℕ) → count < 2 → NoNodeWorks (happened machine state (take count (node_events node))) → ⊥
    busy zero few none = has-work state (Evaluation node) work none
    busy (suc zero) few none = has-work mid (NetUpdate node) next none
    busy (suc (suc count)) few none = absurd (omega (arith, few))

    evaluated-only : ChangesOnly (parts_of machine state (Evaluation node)) state mid
    evaluated-only = law machine state (Evaluation node) (node-count old)

    counted : AreCounted machine mid (NetUpdate node) event.ended.items
    counted = record {
      objects = evaluated-only.value_count ∙ object-count old;
      objects_after = sym (ap (λ (s : State). length s.values) new_state) ∙ object-count new ∙ ap (λ (m : Machine). length m.design.objects) both.machine_is;
      processes = evaluated-only.process_count ∙ process-count old whole;
      processes_after = sym (ap (λ (s : State). length s.processes) new_state) ∙ process-count new happens.one ∙ ap (λ (m : Machine). length m.design.processes) both.machine_is;
      told = told-ended old event whole happens.fits;
    }

    Told_at : State → Type 0
    Told_at s = TellsEvent machine s (NetUpdate node) (map write_seen event.net_changes.items ++ map access_seen (map noted_access event.accesses.items))
        (map (λ (change : Change). object_number change.object) event.net_changes.items) (map process_number event.ended.items)

    told : Told_at mid
    told = update-tells machine mid node event.net_changes.items (map noted_access event.accesses.items) event.ended.items (happens.tells machine state (both-of old whole)) counted

    tells : TellsMore machine state (node_events node) told_old told_new
    tells begins events is before =
        let here : happened machine begins (events ++ Evaluation node ∷ []) ≡ mid = happened-append machine begins events (Evaluation node ∷ []) ∙ ap (λ s. after machine s (Evaluation node)) is in
        let first = tells-more notes law machine begins events (Evaluation node) [] [] [] told_old told_old (ap (λ (s : State). length s.nodes) is ∙ node-count old)
        (evaluation-tells machine (happened machine begins events) node) (adds-evaluation node told_old) before in
        subst (λ es. TellsBlock machine begins es told_new) (append_assoc events (Evaluation node ∷ []) (NetUpdate node ∷ []))
        (tells-more notes law machine begins (events ++ Evaluation node ∷ []) (NetUpdate node) _ _ _ told_old told_new
        (ap (λ (s : State). length s.nodes) here ∙ evaluated-only.node_count ∙ node-count old)
        (subst Told_at (sym here) told) (adds-update node event told_old told_new adds) first)

-- Work on nodes one after the other

-- nothing is done
pub nothing-works : (runner : Runner) (told : BlockTold) → IsWhole runner → WorksOn [] runner runner told told
nothing-works runner told whole = record {
  takes = record { in_order = tt; whole = whole; machine_is = refl; state_is = refl };
  of_nodes = tt;
  busy = λ count few none. absurd (omega (arith, few));
  running = refl;
  stepped = refl;
  steps = refl;
  tells = λ begins events is before. subst (λ es. TellsBlock (machine_of runner) begins es told) (sym (append-nil events)) before;
}

-- and a node after some
pub works-more : (first middle last : Runner) (us ws : List Event) (told_first told_middle told_last : BlockTold) → WorksOn us first middle told_first told_middle →
    WorksOn ws middle last told_middle told_last → WorksOn (us ++ ws) first last told_first told_last
works-more first middle last us ws told_first told_middle told_last one other = record {
  takes = record {
    in_order = first-append machine state us ws one.takes.in_order here;
    whole = other.takes.whole;
    machine_is = other.takes.machine_is ∙ one.takes.machine_is;
    state_is = other.takes.state_is ∙ (λ i. happened (one.takes.machine_is i) (one.takes.state_is i) ws) ∙ sym (happened-append machine state us ws);
  };
  of_nodes = all-append (λ event. is_process_event event ≡ false) us ws one.of_nodes other.of_nodes;
  busy = busy;
  running = other.running ∙ one.running;
  stepped = other.stepped ∙ one.stepped;
  steps = other.steps ∙ one.steps;
  tells = λ begins events is before.
      subst (λ es. TellsBlock machine begins es told_last) (append_assoc events us ws)
      (subst (λ m. TellsBlock m begins ((events ++ us) ++ ws) told_last) one.takes.machine_is
      (other.tells begins (events ++ us)
      ((λ i. happened (one.takes.machine_is i) begins (events ++ us)) ∙ happened-append machine begins events us ∙ ap (λ s. happened machine s us) is ∙ sym one.takes.state_is)
      (subst (λ m. TellsBlock m begins (events ++ us) told_middle) (sym one.takes.machine_is) (one.tells begins events is before))));
}
  where
    machine : Machine
    machine = machine_of first

    state : State
    state = state_of first

    here : AreFirst machine (happened machine state us) ws
    here = subst (λ s. AreFirst machine s ws) one.takes.state_is (subst (λ m. AreFirst m (state_of middle) ws) one.takes.machine_is other.takes.in_order)

    busy : (count : ℕ) → count < length (us ++ ws) → NoNodeWorks (happened machine state (take count (us ++ ws))) → ⊥
    busy count few none = go (nat_lt count (length us)) refl
      where
        go : (b : Bool) → nat_lt count (length us) ≡ b → ⊥
        go true e =
            let low : count < length us = ltb-true _ _ e in
            one.busy count low (subst (λ es. NoNodeWorks (happened machine state es)) (take-left count us ws (omega (arith, low))) none)
        go false e =
            let past : length us ≤ count = ltb-false _ _ e in
            let split : count ≡ length us + (count - length us) = omega (arith, past) in
            let less : count - length us < length ws = omega (arith, past, few, length-append us ws) in
            other.busy (count - length us) less
            (subst NoNodeWorks
            (ap (λ n. happened machine state (take n (us ++ ws))) split ∙ ap (happened machine state) (take-right (count - length us) us ws)
            ∙ happened-append machine state us (take (count - length us) ws)
            ∙ sym (λ i. happened (one.takes.machine_is i) (one.takes.state_is i) (take (count - length us) ws)))
            none)

-- where the least node is looked for, all stays
pub record StaysSame (old new : Runner) : Type 0 where
  pub machine : machine_in new.nets ≡ machine_in old.nets
  pub values : values_in new.nets ≡ values_in old.nets
  pub nodes : nodes_in new.nets ≡ nodes_in old.nets
  pub table : new.table ≡ old.table
  pub running : new.running ≡ old.running

pub same-state : (old new : Runner) → StaysSame old new → state_of new ≡ state_of old
same-state old new same = λ i. record { time = (table_of (same.table i)).time; values = same.values i; nodes = same.nodes i; processes = (table_of (same.table i)).processes }

pub same-whole : (old new : Runner) → StaysSame old new → IsWhole old → IsWhole new
same-whole old new same whole = record {
  kept = subst IsKept (sym same.table) whole.kept;
  design = ap (λ t. (table_of t).design) same.table ∙ whole.design ∙ ap (λ (m : Machine). m.design) (sym same.machine);
}

pub stays-works : (first middle last : Runner) (events : List Event) (told_first told_middle : BlockTold) → WorksOn events first middle told_first told_middle → StaysSame middle last →
    WorksOn events first last told_first told_middle
stays-works first middle last events told_first told_middle works same = record {
  takes = record {
    in_order = works.takes.in_order;
    whole = same-whole middle last same works.takes.whole;
    machine_is = same.machine ∙ works.takes.machine_is;
    state_is = same-state middle last same ∙ works.takes.state_is;
  };
  of_nodes = works.of_nodes;
  busy = works.busy;
  running = (λ i. running_of (same.running i).items) ∙ works.running;
  stepped = works.stepped;
  steps = works.steps;
  tells = works.tells;
}

-- some nodes were worked on, with as many events at least as turns were made
pub record NodesSoFar (first now : Runner) (told_first told_now : BlockTold) (worked : ℕ) : Type 0 where
  pub events : List Event
  pub works : WorksOn events first now told_first told_now
  pub many : worked ≤ length events

pub nodes-begin : (runner : Runner) (told : BlockTold) → IsWhole runner → NodesSoFar runner runner told told 0
nodes-begin runner told whole = record { events = []; works = nothing-works runner told whole; many = omega arith }

pub nodes-more : (first now next last : Runner) (told_first told_now told_last : BlockTold) (worked node : ℕ) → NodesSoFar first now told_first told_now worked → StaysSame now next →
    WorksOn (node_events node) next last told_now told_last → NodesSoFar first last told_first told_last (worked + 1)
nodes-more first now next last told_first told_now told_last worked node so_far same works = record {
  events = so_far.events ++ node_events node;
  works = works-more first next last so_far.events (node_events node) told_first told_now told_last (stays-works first now next so_far.events told_first told_now so_far.works same) works;
  many = (let two : length (node_events node) ≡ 2 = refl in omega (arith, so_far.many, length-append so_far.events (node_events node), two));
}
