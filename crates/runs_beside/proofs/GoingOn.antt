-- A slot goes on beside the good machine's.
use Rattle.std.proofs.Common.{◌≡◌, ℕ, ◌+◌, ◌<◌, ◌≤◌, Bool, false, List, [], ◌∷◌, ◌++◌, length, refl, sym, ap, subst, ◌∙◌, arith}
use Rattle.std.specs.Prelude.{Option, Some, nat_eq, find, slice_get}
use Rattle.std.proofs.lemmas.List.{length_push}
use Rattle.vf_base.specs.Lists.{AllHold}
use Rattle.v_design.specs.Designs.{Machine, good_machine}
use Rattle.v_design.specs.Grades.{Phase}
use Rattle.v_design.specs.OwnSteps.{ProcessRun, phases_if, process_runs, slot_beside}
use Rattle.v_design.specs.Runs.{FirstSlot}
use Rattle.v_design.specs.States.{State, TurnKind, Event, Step}
use Rattle.copy_laws.specs.OwnRuns.{RunsGrow, StepsGrow}
use Rattle.machine_laws.specs.SlotLoop.{Moment, ComesTo, EndsAt, after_event, after_events, after_turn, first_moment, present_phase, slot_from}
use Rattle.machine_events.specs.Steps.{raised_by, raised-sum}
use Rattle.net_state.specs.declared.state.NetState.{NetState}
use Rattle.net_state.specs.States.{values_in}
use Rattle.own_counts.specs.Counts.{AtMostOwn}
use Rattle.good_runs.specs.declared.tried.TriedStep.{TriedStep}
use Rattle.own_slots.specs.Again.{IsAgain, IsNoStep, SecondRuns}
use Rattle.own_slots.specs.Slots.{WereTried}
use Rattle.process_table.specs.declared.table.ProcessTable.{ProcessTable}
use Rattle.window_runs.specs.declared.slot.SlotRuns.{SlotRuns}
use Rattle.window_runs.specs.OfSlot.{TellsSlot}
use Rattle.runs_beside.specs.Beside.{GoesBeside, IsNextHere, MayServe, RoseBeside, RunsGoBeside, StaysOf, Steps, counted_at, followed_at}
use Rattle.runs_beside.specs.Runs.{HasBegun, IsRunSoFar, Rests, kept_in, no_run, run_at}
use Rattle.runs_beside.specs.declared.beside.RunsBeside.{RunsBeside}
use Rattle.runs_beside.specs.declared.run.RunSoFar.{RunSoFar}
use Rattle.runs_beside.proofs.Kept.{begins-none, get-low, kept-now}
use Rattle.runs_beside.proofs.Phases.{runs-same}

-- The beginning of a phase

-- where no run is kept of a process, none is in the midst and none ended
none-so-far : (goods own : List ProcessRun) (phase : ℕ) (run : RunSoFar) → run ≡ no_run phase → IsRunSoFar goods own [] run
none-so-far goods own phase run is = subst (IsRunSoFar goods own []) (sym is) (Rests refl refl refl)

none-few : (phase steps : ℕ) (run : RunSoFar) → run ≡ no_run phase → run.number + run.taken ≤ steps
none-few phase steps run is = subst (λ (r : RunSoFar). r.number + r.taken ≤ steps) (sym is) (omega arith)

-- The slot begins

module _ (law : SecondRuns) (machine : Machine) (begins : State) (goods : SlotRuns) (tried : List TriedStep) (kept : RunsBeside) (begun : HasBegun (length machine.design.processes) goods tried kept) where
  begun-at : (process : ℕ) → process < length machine.design.processes → run_at 0 kept.runs.items process ≡ no_run 0
  begun-at process low =
      let there = get-low kept.runs.items process (subst (λ (n : ℕ). process < n) (sym begun.count) low) in
      let same : there.0 ≡ no_run 0 = begun.each process there.0 there.1 in
      ap (kept_in 0) there.1 ∙ kept-now 0 there.0 (ap (λ (r : RunSoFar). r.phase) same) ∙ same

  begins-goes : (others : List Phase) → MayServe machine begins others kept.goods kept.tried.now → GoesBeside machine others (first_moment begins) 0 kept
  begins-goes others may = record {
    tells = may.tells;
    again = subst (λ (n : ℕ). IsAgain (good_machine machine.design) machine others kept.tried.now (first_moment begins) n 0) (sym begun.none)
        (law.begins (good_machine machine.design) machine others begins kept.tried.now may.were);
    count = begun.count;
    early = λ process run is. let z : run.phase ≡ 0 = ap (λ (r : RunSoFar). r.phase) (begun.each process run is) in omega (arith, z);
    each = λ process low.
        none-so-far (followed_at machine others (first_moment begins) process) (counted_at machine others (first_moment begins) process) 0 (run_at 0 kept.runs.items process) (begun-at process low);
    few = λ process low. none-few 0 0 (run_at 0 kept.runs.items process) (begun-at process low);
  }

  begins-rose : (some : List Phase) (counter : ℕ) → MayServe machine begins some goods tried → RoseBeside machine (first_moment begins) kept counter counter
  begins-rose some counter may = record {
    some = some;
    may = record {
      tells = subst (TellsSlot machine.design begins.time some) (sym begun.goods_are) may.tells;
      were = subst (WereTried (good_machine machine.design) machine some begins) (sym begun.tried_are) may.were;
    };
    each = λ others serves. (0, refl, begins-goes others serves);
  }

-- Events that are no steps

-- what is kept of each process, without what came again
record IsKeptSo (machine : Machine) (others : List Phase) (at : Moment) (kept : RunsBeside) : Type 0 where
  tells : TellsSlot machine.design at.begins.time others kept.goods
  count : length kept.runs.items ≡ length machine.design.processes
  early : (process : ℕ) (run : RunSoFar) → slice_get kept.runs.items process ≡ Some run → run.phase ≤ length at.ended
  each : (process : ℕ) → process < length machine.design.processes →
      IsRunSoFar (followed_at machine others at process) (counted_at machine others at process) (process_runs machine process (present_phase at)) (run_at (length at.ended) kept.runs.items process)
  few : (process : ℕ) → process < length machine.design.processes →
      (run_at (length at.ended) kept.runs.items process).number + (run_at (length at.ended) kept.runs.items process).taken ≤ at.steps

kept-so : (machine : Machine) (others : List Phase) (at : Moment) (ticked : ℕ) (kept : RunsBeside) → GoesBeside machine others at ticked kept → IsKeptSo machine others at kept
kept-so machine others at ticked kept goes = record { tells = goes.tells; count = goes.count; early = goes.early; each = goes.each; few = goes.few }

with-again : (machine : Machine) (others : List Phase) (at : Moment) (ticked : ℕ) (kept : RunsBeside) → IsAgain (good_machine machine.design) machine others kept.tried.now at kept.next ticked →
    IsKeptSo machine others at kept → GoesBeside machine others at ticked kept
with-again machine others at ticked kept again so = record { tells = so.tells; again = again; count = so.count; early = so.early; each = so.each; few = so.few }

begins-same : (machine : Machine) (events : List Event) (at : Moment) → (after_events machine events at).begins ≡ at.begins
begins-same machine [] at = refl
begins-same machine (event ∷ events) at = begins-same machine events (after_event machine event at)

module _ (law : SecondRuns) (steps_grow : StepsGrow) (runs_grow : RunsGrow) where
  pass-one : (machine : Machine) (others : List Phase) (at : Moment) (event : Event) (kept : RunsBeside) → IsNoStep event → IsKeptSo machine others at kept →
      IsKeptSo machine others (after_event machine event at) kept
  pass-one machine others at event kept none so = record {
    tells = so.tells;
    count = so.count;
    early = so.early;
    each = λ process low.
        subst (λ (l : List ProcessRun). IsRunSoFar (followed_at machine others at process) (counted_at machine others at process) l (run_at (length at.ended) kept.runs.items process))
        (sym (runs-same steps_grow runs_grow machine process (present_phase at) event (none process))) (so.each process low);
    few = λ process low. let had = so.few process low in omega (arith, had);
  }

  pass-all : (machine : Machine) (others : List Phase) (events : List Event) (at : Moment) (kept : RunsBeside) → AllHold IsNoStep events → IsKeptSo machine others at kept →
      IsKeptSo machine others (after_events machine events at) kept
  pass-all machine others [] at kept none so = so
  pass-all machine others (event ∷ events) at kept none so =
      pass-all machine others events (after_event machine event at) kept none.1 (pass-one machine others at event kept none.0 so)

  passes : (machine : Machine) (events : List Event) (at : Moment) (kept : RunsBeside) (before now : ℕ) → AllHold IsNoStep events → ComesTo machine (after_events machine events at) →
      RoseBeside machine at kept before now → RoseBeside machine (after_events machine events at) kept before now
  passes machine events at kept before now none comes rose =
      let same = begins-same machine events at in
      record {
        some = rose.some;
        may = subst (λ (s : State). MayServe machine s rose.some kept.goods kept.tried.now) (sym same) rose.may;
        each = λ others serves.
            let had = rose.each others (subst (λ (s : State). MayServe machine s others kept.goods kept.tried.now) same serves) in (
              had.0,
              had.1,
              with-again machine others (after_events machine events at) had.0 kept
                  (law.passes (good_machine machine.design) machine others kept.tried.now at events kept.next had.0 none comes had.2.again)
                  (pass-all machine others events at kept none (kept-so machine others at had.0 kept had.2)),
            );
      }

-- A step

steps-on : (machine : Machine) (at : Moment) (old new : RunsBeside) (table : ProcessTable) (nets : NetState) (phase process before now after : ℕ) → StaysOf old new →
    Steps old new table nets phase process now after → IsNextHere machine at table phase process → at.state.values ≡ values_in nets → RoseBeside machine at old before now →
    RoseBeside machine (after_event machine (Step process) at) new before after
steps-on machine at old new table nets phase process before now after stays steps here values rose = record {
  some = rose.some;
  may = record {
    tells = subst (TellsSlot machine.design at.begins.time rose.some) (sym stays.goods_are) rose.may.tells;
    were = subst (WereTried (good_machine machine.design) machine rose.some at.begins) (sym stays.tried_are) rose.may.were;
  };
  each = λ others serves.
      let had = rose.each others (record {
        tells = subst (TellsSlot machine.design at.begins.time others) stays.goods_are serves.tells;
        were = subst (WereTried (good_machine machine.design) machine others at.begins) stays.tried_are serves.were;
      }) in
      let stepped = steps machine others at had.0 had.2 here values in
      (had.0 + stepped.more, stepped.rose ∙ ap (raised_by stepped.more) had.1 ∙ sym (raised-sum had.0 stepped.more before), stepped.goes);
}

-- A turn

turn-goes : (machine : Machine) (others : List Phase) (at : Moment) (turn : TurnKind) (ticked : ℕ) (kept : RunsBeside) → GoesBeside machine others at ticked kept →
    IsAgain (good_machine machine.design) machine others kept.tried.now (after_turn turn at) kept.next ticked → GoesBeside machine others (after_turn turn at) ticked kept
turn-goes machine others at turn ticked kept goes again =
    let longer : length (at.ended ++ present_phase at ∷ []) ≡ length at.ended + 1 = length_push at.ended (present_phase at) in
    let none = begins-none (length (at.ended ++ present_phase at ∷ [])) kept.runs.items (λ process run is. let had = goes.early process run is in omega (arith, had, longer)) in
    record {
      tells = goes.tells;
      again = again;
      count = goes.count;
      early = λ process run is. let had = goes.early process run is in omega (arith, had, longer);
      each = λ process low.
          none-so-far (followed_at machine others (after_turn turn at) process) (counted_at machine others (after_turn turn at) process) (length (at.ended ++ present_phase at ∷ []))
          (run_at (length (at.ended ++ present_phase at ∷ [])) kept.runs.items process) (none process);
      few = λ process low. none-few (length (at.ended ++ present_phase at ∷ [])) at.steps (run_at (length (at.ended ++ present_phase at ∷ [])) kept.runs.items process) (none process);
    }

turns : SecondRuns → (machine : Machine) (turn : TurnKind) (at : Moment) (kept : RunsBeside) (before now : ℕ) → ComesTo machine (after_turn turn at) → RoseBeside machine at kept before now →
    RoseBeside machine (after_turn turn at) kept before now
turns law machine turn at kept before now comes rose = record {
  some = rose.some;
  may = rose.may;
  each = λ others serves.
      let had = rose.each others serves in (
        had.0,
        had.1,
        turn-goes machine others at turn had.0 kept had.2
            (law.turns (good_machine machine.design) machine others kept.tried.now at turn kept.next had.0 comes had.2.again),
      );
}

-- The end

ends : SecondRuns → (machine : Machine) (hyper : Bool) (at : Moment) (kept : RunsBeside) (before now : ℕ) (good_slots : List FirstSlot) (found : Option FirstSlot) → ComesTo machine at →
    EndsAt machine hyper at → find (λ (other : FirstSlot). nat_eq other.begins.time at.begins.time) good_slots ≡ found →
    MayServe machine at.begins (phases_if (good_machine machine.design) found) kept.goods kept.tried.now → RoseBeside machine at kept before now →
    (ticked : ℕ) × (now ≡ raised_by ticked before) × AtMostOwn (slot_beside (good_machine machine.design) machine good_slots (slot_from machine at.begins)) (ticked + length kept.tried.now)
ends law machine hyper at kept before now good_slots found comes end is serves rose =
    let had = rose.each (phases_if (good_machine machine.design) found) serves in (
      had.0,
      had.1,
      law.ends (good_machine machine.design) machine good_slots found kept.tried.now at hyper kept.next had.0 comes end is had.2.again,
    )

pub runs_go_beside : SecondRuns → StepsGrow → RunsGrow → RunsGoBeside
runs_go_beside law steps runs = record {
  begins = λ machine begins goods tried kept some counter may begun. begins-rose law machine begins goods tried kept begun some counter may;
  passes = λ machine events at kept before now none comes rose. passes law steps runs machine events at kept before now none comes rose;
  steps = steps-on;
  turns = λ machine turn at kept before now comes rose. turns law machine turn at kept before now comes rose;
  ends = λ machine hyper at kept before now good_slots found comes end is serves rose. ends law machine hyper at kept before now good_slots found comes end is serves rose;
}
