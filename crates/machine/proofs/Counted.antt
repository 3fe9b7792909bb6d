-- A counter goes on with the moves of a slot, whichever way its steps are made (slots by IEEE 1364-2001, clause 5; steps by clause 9).
use Rattle.std.proofs.Common.{◌≡◌, ℕ, suc, ◌+◌, ◌-◌, ◌<◌, ◌≤◌, List, [], ◌∷◌, length, true, false, refl, sym, ap, subst, ◌∙◌, arith}
use Rattle.std.specs.Prelude.{Option, Some, None, nat_eq, find}
use Rattle.vf_base.specs.Lists.{AllHold}
use Rattle.v_design.specs.Designs.{FlatDesign, Machine, good_machine}
use Rattle.v_design.specs.Grades.{Phase}
use Rattle.v_design.specs.OwnSteps.{phases_if, slot_beside}
use Rattle.v_design.specs.Runs.{FirstSlot, most_steps}
use Rattle.v_design.specs.States.{State, ProcessState, Event, Step, LaneStep, Evaluation, NetUpdate, TurnKind, process_at, is_ready, idle_process}
use Rattle.causal_monitor.specs.declared.slot.Turn.{Turn}
use Rattle.causal_monitor.specs.declared.slot.SlotLog.{SlotLog}
use Rattle.machine_laws.specs.SlotLoop.{Moment, ComesTo, StepsGoOn, NoNodeWorks, first_lane, first_ready, first_moment, slot_from, after_event, after_events, after_node, after_turn}
use Rattle.net_state.specs.declared.state.NetState.{NetState}
use Rattle.net_state.specs.States.{values_in}
use Rattle.own_slots.specs.Again.{IsNoStep}
use Rattle.own_slots.specs.Slots.{WereTried}
use Rattle.good_runs.specs.declared.tried.TriedStep.{TriedStep}
use Rattle.window_runs.specs.OfSlot.{TellsSlot}
use Rattle.window_runs.specs.declared.slot.SlotRuns.{SlotRuns}
use Rattle.process_table.specs.Arranged.{table_of}
use Rattle.process_table.specs.declared.table.ProcessTable.{ProcessTable}
use Rattle.machine_events.specs.PartLaws.{table-count}
use Rattle.runs_beside.specs.Runs.{HasBegun}
use Rattle.runs_beside.specs.Beside.{IsNextHere, RunsGoBeside, StaysOf}
use Rattle.runs_beside.specs.declared.beside.RunsBeside.{RunsBeside}
use Rattle.machine.specs.declared.guide.Guide.{Guide}
use Rattle.machine.specs.declared.guide.Guide.TheVariants.{Alone, Beside}
use Rattle.machine.specs.declared.parts.Machine.{Machine as Simulated}
use Rattle.machine.specs.Standing.{machine_kept, state_kept}
use Rattle.machine.specs.Moments.{IsAt, IsMoving, IsMovingIn, StaysAt}
use Rattle.machine.specs.Ticks.{raised_by, process_steps, steps_so_far, raised-sum}
use Rattle.machine.specs.Guides.{MayStep, StepsBy, StaysGuide, Counts, CountsOn, IsMovingBy, IsMovingInBy, HasCounted}
use Rattle.machine.specs.BesideRuns.{TicksAtMostOwn}
use Rattle.machine.proofs.Places.{placed}
use Rattle.machine.proofs.Moved.{both-at}
use Rattle.machine.proofs.Events.{rules-at, step-comes, ready-there}
use Rattle.machine.proofs.Ticks.{so-far-event, so-far-turn, ends-steps}

-- The way

pub same-guide : (guide : Guide) → StaysGuide guide guide
same-guide Alone = tt
same-guide (Beside kept) = record { goods_are = refl; tried_are = refl }

pub guides-stay : (one other last : Guide) → StaysGuide one other → StaysGuide other last → StaysGuide one last
guides-stay Alone Alone Alone s t = tt
guides-stay Alone Alone (Beside last) s t = absurd t
guides-stay Alone (Beside other) last s t = absurd s
guides-stay (Beside one) Alone last s t = absurd s
guides-stay (Beside one) (Beside other) Alone s t = absurd t
guides-stay (Beside one) (Beside other) (Beside last) s t = record { goods_are = t.goods_are ∙ s.goods_are; tried_are = t.tried_are ∙ s.tried_are }

pub step-stays : (old new : Guide) (table : ProcessTable) (nets : NetState) (number process before now : ℕ) → StepsBy old new table nets number process before now → StaysGuide old new
step-stays Alone Alone table nets number process before now s = tt
step-stays Alone (Beside new) table nets number process before now s = absurd s
step-stays (Beside old) Alone table nets number process before now s = absurd s
step-stays (Beside old) (Beside new) table nets number process before now s = s.0

-- Moving

pub by-in : (guide : Guide) (now : ℕ) (m : Simulated) (log : SlotLog) → IsMovingInBy guide now m log → IsMovingBy guide now m
by-in guide now m log moving = record { first = moving.first; at = moving.at; log = log; is = moving.is; few = moving.few; before = moving.before; counts = moving.counts }

pub moving-in : (guide : Guide) (now : ℕ) (m : Simulated) (log : SlotLog) → IsMovingInBy guide now m log → IsMovingIn m log
moving-in guide now m log moving = record { first = moving.first; at = moving.at; is = moving.is }

pub moving-by : (guide : Guide) (now : ℕ) (m : Simulated) → IsMovingBy guide now m → IsMoving m
moving-by guide now m moving = record { first = moving.first; at = moving.at; log = moving.log; is = moving.is }

pub stays-by : (guide : Guide) (now : ℕ) (old new : Simulated) (log : SlotLog) → StaysAt old new → IsMovingInBy guide now old log → IsMovingInBy guide now new log
stays-by guide now old new log stays moving = record {
  first = moving.first;
  at = moving.at;
  is = subst (λ k. IsAt k moving.first moving.at new log) (sym stays.machine_is) (stays.at (machine_kept old) moving.first moving.at log moving.is);
  few = moving.few;
  before = moving.before;
  counts = subst (λ k. Counts guide k moving.at moving.before now) (sym stays.machine_is) moving.counts;
}

-- Events that are no steps of processes

counts-pass : RunsGoBeside → (guide : Guide) (machine : Machine) (events : List Event) (at : Moment) (before now : ℕ) → AllHold IsNoStep events → ComesTo machine (after_events machine events at) →
    steps_so_far (after_events machine events at) ≡ steps_so_far at → Counts guide machine at before now → Counts guide machine (after_events machine events at) before now
counts-pass law Alone machine events at before now none comes same counts = counts ∙ ap (λ n. raised_by n before) (sym same)
counts-pass law (Beside kept) machine events at before now none comes same counts = law.passes machine events at kept before now none comes counts

pub counts-node : RunsGoBeside → (guide : Guide) (machine : Machine) (node : ℕ) (at : Moment) (before now : ℕ) → ComesTo machine (after_node machine node at) → Counts guide machine at before now →
    Counts guide machine (after_node machine node at) before now
counts-node law guide machine node at before now comes counts =
    counts-pass law guide machine (Evaluation node ∷ NetUpdate node ∷ []) at before now ((λ p. refl), ((λ p. refl), tt)) comes ticks counts
  where
    ticks : steps_so_far (after_node machine node at) ≡ steps_so_far at
    ticks = so-far-event machine (NetUpdate node) (after_event machine (Evaluation node) at) ∙ ap (λ n. n + 0) (so-far-event machine (Evaluation node) at) ∙ none (steps_so_far at)
      where
        none : (n : ℕ) → n + 0 + 0 ≡ n
        none n = omega arith

pub counts-lane : RunsGoBeside → (guide : Guide) (machine : Machine) (process : ℕ) (at : Moment) (before now : ℕ) → ComesTo machine (after_event machine (LaneStep process) at) →
    Counts guide machine at before now → Counts guide machine (after_event machine (LaneStep process) at) before now
counts-lane law guide machine process at before now comes counts =
    counts-pass law guide machine (LaneStep process ∷ []) at before now ((λ p. refl), tt) comes (so-far-event machine (LaneStep process) at ∙ none (steps_so_far at)) counts
  where
    none : (n : ℕ) → n + 0 ≡ n
    none n = omega arith

-- Turns

pub counts-turn : RunsGoBeside → (guide : Guide) (machine : Machine) (turn : TurnKind) (at : Moment) (before now : ℕ) → ComesTo machine (after_turn turn at) → Counts guide machine at before now →
    Counts guide machine (after_turn turn at) before now
counts-turn law Alone machine turn at before now comes counts = counts ∙ ap (λ n. raised_by n before) (sym (so-far-turn turn at))
counts-turn law (Beside kept) machine turn at before now comes counts = law.turns machine turn at kept before now comes counts

-- Steps

counts-step : RunsGoBeside → (old new : Guide) (machine : Machine) (at : Moment) (table : ProcessTable) (nets : NetState) (number process before now after : ℕ) →
    StepsBy old new table nets number process now after → IsNextHere machine at table (number - 1) process → at.state.values ≡ values_in nets →
    Counts old machine at before now → Counts new machine (after_event machine (Step process) at) before after
counts-step law Alone Alone machine at table nets number process before now after steps here values counts =
    steps ∙ ap (raised_by 1) counts ∙ sym (raised-sum (steps_so_far at) 1 before) ∙ ap (λ n. raised_by n before) (sym (so-far-event machine (Step process) at))
counts-step law Alone (Beside new) machine at table nets number process before now after steps here values counts = absurd steps
counts-step law (Beside old) Alone machine at table nets number process before now after steps here values counts = absurd steps
counts-step law (Beside old) (Beside new) machine at table nets number process before now after steps here values counts =
    law.steps machine at old new table nets (number - 1) process before now after steps.0 steps.1 here values counts

-- the least ready process takes the next step
pub next-here : StepsGoOn → (machine : Machine) (first : Turn) (at : Moment) (m : Simulated) (log : SlotLog) (number process : ℕ) → IsAt machine first at m log → at.steps ≤ most_steps →
    NoNodeWorks (state_kept m) → first_lane (state_kept m) ≡ None → first_ready (state_kept m) ≡ Some process → number ≡ m.record.number → IsNextHere machine at m.table (number - 1) process
next-here law machine first at m log number process is few nodes lanes ready numbered =
    let counted : number ≡ length at.ended + 1 = numbered ∙ is.recorded.numbered in
    record {
      table_is = (both-at machine first at m log is).table_is;
      phase_is = omega (arith, counted);
      there =
          subst (λ n. process < n)
          (table-count m.table is.parts.table ∙ ap (λ (d : FlatDesign). length d.processes) is.parts.design ∙ ap (λ (k : Machine). length k.design.processes) is.machine_is)
          (placed (λ (p : ProcessState). is_ready p.activity) idle_process (state_kept m).processes process ready).1;
      ready = subst (λ s. is_ready (process_at s process).activity ≡ true) is.state_is (ready-there m process ready);
      few = few;
      comes = is.comes;
      comes_on = step-comes law machine first at m log process is few nodes lanes ready;
      rules = rules-at machine first at m log is;
    }

pub values-here : (machine : Machine) (first : Turn) (at : Moment) (m : Simulated) (log : SlotLog) → IsAt machine first at m log → at.state.values ≡ values_in m.nets
values-here machine first at m log is = sym (both-at machine first at m log is).nets_are.values

pub may-step : (guide : Guide) (machine : Machine) (at : Moment) (table : ProcessTable) (nets : NetState) (number process before now : ℕ) → Counts guide machine at before now →
    IsNextHere machine at table (number - 1) process → at.state.values ≡ values_in nets → MayStep guide table nets number process
may-step Alone machine at table nets number process before now counts here values = tt
may-step (Beside kept) machine at table nets number process before now counts here values =
    let goes = counts.each counts.some counts.may in
    record { some = record { machine = machine; others = counts.some; at = at; ticked = goes.0; goes = goes.2; here = here }; values_are = values }

pub steps-count : RunsGoBeside → StepsGoOn → (old new : Guide) (now after : ℕ) (m : Simulated) (number process : ℕ) → NoNodeWorks (state_kept m) → first_lane (state_kept m) ≡ None →
    first_ready (state_kept m) ≡ Some process → number ≡ m.record.number → StepsBy old new m.table m.nets number process now after →
    CountsOn (λ machine at. after_event machine (Step process) at) old new now after m
steps-count law goes old new now after m number process nodes lanes ready numbered steps = λ machine first at log before is few counts.
    counts-step law old new machine at m.table m.nets number process before now after steps (next-here goes machine first at m log number process is few nodes lanes ready numbered)
    (values-here machine first at m log is) counts

-- The end

-- a counter of a slot whose steps are all taken
pub alone-counted : (guide : Guide) (machine : Machine) (begins : State) (before now : ℕ) → StaysGuide Alone guide → HasCounted machine begins guide before now →
    now ≡ raised_by (process_steps (slot_from machine begins)) before
alone-counted Alone machine begins before now stays h =
    h.counts ∙ ap (λ n. raised_by n before) (sym (ends-steps machine h.hyper h.at h.ends) ∙ ap (λ (s : State). process_steps (slot_from machine s)) h.begins_is)
alone-counted (Beside kept) machine begins before now stays h = absurd stays

-- and of one that went beside the good machine's
pub beside-counted : RunsGoBeside → (guide : Guide) (machine : Machine) (begins : State) (before now : ℕ) (begun : RunsBeside) (goods : SlotRuns) (tried : List TriedStep) →
    StaysGuide (Beside begun) guide → begun.goods ≡ goods → begun.tried.now ≡ tried → HasCounted machine begins guide before now → (good_slots : List FirstSlot) (found : Option FirstSlot) →
    find (λ (other : FirstSlot). nat_eq other.begins.time begins.time) good_slots ≡ found →
    TellsSlot machine.design begins.time (phases_if (good_machine machine.design) found) goods →
    WereTried (good_machine machine.design) machine (phases_if (good_machine machine.design) found) begins tried →
    TicksAtMostOwn (slot_beside (good_machine machine.design) machine good_slots (slot_from machine begins)) (length tried) before now
beside-counted law Alone machine begins before now begun goods tried stays are same h good_slots found is tells were = absurd stays
beside-counted law (Beside kept) machine begins before now begun goods tried stays are same h good_slots found is tells were =
    let had : kept.goods ≡ goods = stays.goods_are ∙ are in
    let list : kept.tried.now ≡ tried = stays.tried_are ∙ same in
    let phases : List Phase = phases_if (good_machine machine.design) found in
    let told : TellsSlot machine.design h.at.begins.time phases kept.goods =
    subst (TellsSlot machine.design h.at.begins.time phases) (sym had) (subst (λ (s : State). TellsSlot machine.design s.time phases goods) (sym h.begins_is) tells) in
    let tries : WereTried (good_machine machine.design) machine phases h.at.begins kept.tried.now =
    subst (WereTried (good_machine machine.design) machine phases h.at.begins) (sym list) (subst (λ (s : State). WereTried (good_machine machine.design) machine phases s tried) (sym h.begins_is) were) in
    let end = law.ends machine h.hyper h.at kept before now good_slots found h.comes h.ends
    (ap (λ (s : State). find (λ (other : FirstSlot). nat_eq other.begins.time s.time) good_slots) h.begins_is ∙ is) (record { tells = told; were = tries }) h.counts in
    subst (λ (l : List TriedStep). TicksAtMostOwn (slot_beside (good_machine machine.design) machine good_slots (slot_from machine begins)) (length l) before now) list
    (subst (λ (s : State). TicksAtMostOwn (slot_beside (good_machine machine.design) machine good_slots (slot_from machine s)) (length kept.tried.now) before now) h.begins_is end)

-- The beginning

pub beside-begins : RunsGoBeside → (machine : Machine) (begins : State) (goods : SlotRuns) (tried : List TriedStep) (kept : RunsBeside) (others : List Phase) (counter : ℕ) →
    TellsSlot machine.design begins.time others goods × WereTried (good_machine machine.design) machine others begins tried → HasBegun (length machine.design.processes) goods tried kept →
    Counts (Beside kept) machine (first_moment begins) counter counter
beside-begins law machine begins goods tried kept others counter may begun = law.begins machine begins goods tried kept others counter (record { tells = may.0; were = may.1 }) begun
