-- Moves of a slot (IEEE 1364-2001, clause 5).
use Rattle.std.proofs.Common.{◌≡◌, ℕ, ◌+◌, ◌-◌, ◌^◌, ◌<◌, ◌≤◌, Bool, true, false, None, cond, length, refl, sym, ap, subst, ◌∙◌, arith}
use Rattle.v_design.specs.Designs.{Machine}
use Rattle.v_design.specs.States.{State, Event, Step, LaneStep, Evaluation, NetUpdate, turn_of}
use Rattle.v_design.specs.Runs.{Happens, most_steps, turn_in_slot}
use Rattle.v_design.specs.OwnSteps.{is_process_step}
use Rattle.v_design.specs.WellFormed.{KeepsRules}
use Rattle.causal_monitor.specs.declared.slot.Turn.{Turn}
use Rattle.causal_monitor.specs.declared.slot.SlotLog.{SlotLog}
use Rattle.machine_laws.specs.SlotLoop.{Moment, ComesTo, EndsAt, after_event, after_node, steps_of, QuietSlotsEnd, HyperSlotsEnd, IsIdle, present_phase}
use Rattle.slot_record.specs.SlotRecords.{RecordsSlot}
use Rattle.run_record.specs.RunRecords.{RecordsRuns}
use Rattle.net_state.specs.States.{machine_in, values_in, nodes_in}
use Rattle.process_table.specs.Arranged.{IsKept, table_of}
use Rattle.v_design.specs.PlainDesigns.{design_of}
use Rattle.machine.specs.declared.parts.Machine.{Machine as Simulated}
use Rattle.machine.specs.Standing.{machine_kept, state_kept, notes_runs}
use Rattle.machine.specs.Moments.{IsAt, IsMoving, IsMovingIn, GoesOn, StaysAt, moves_so_far}
use Rattle.runs_beside.specs.Beside.{RunsGoBeside}
use Rattle.machine.specs.declared.guide.Guide.{Guide}
use Rattle.machine.specs.Guides.{Counts, CountsOn, IsMovingInBy, StaysGuide}
use Rattle.machine.specs.Phases.{Runs, IsQuiet, MakesMove, TurnsPhase, EndsSlot, EndsCounted, steps_made, moves_made}
use Rattle.machine.specs.declared.moves.Made.{Made}
use Rattle.machine.specs.declared.moves.Made.TheVariants as deed
use Rattle.machine.proofs.Counted.{same-guide, guides-stay, counts-node, counts-lane}
use Rattle.machine.proofs.MovesSoFar.{moves-event, moves-fit}
use Rattle.machine.proofs.Moved.{rules-of}

-- a machine that stands in a slot is moving
pub moving-any : (m : Simulated) (log : SlotLog) → IsMovingIn m log → IsMoving m
moving-any m log moving = record { first = moving.first; at = moving.at; log = log; is = moving.is }

-- an event made a move of so many process and lane steps
pub made-event : (step : Machine → Moment → Moment) (count : ℕ) (guide_old guide_new : Guide) (now after : ℕ) (old mid new : Simulated) (log : SlotLog) →
    ((machine : Machine) (at : Moment) → (step machine at).begins ≡ at.begins) → ((machine : Machine) (at : Moment) → (step machine at).steps ≡ at.steps + count) →
    ((machine : Machine) (at : Moment) → moves_so_far at + 1 ≤ moves_so_far (step machine at)) → StaysAt old mid → GoesOn step mid new → CountsOn step guide_old guide_new now after mid →
    (machine : Machine) (first : Turn) (begins : State) (steps before moves : ℕ) →
    Runs machine first begins steps guide_old before now moves old log → steps ≤ most_steps → Runs machine first begins (steps + count) guide_new before after (moves + 1) new log
made-event step count guide_old guide_new now after old mid new log same counted moved stays goes counts machine first begins steps before moves runs few =
    let still = stays.at machine first runs.at log runs.is in
    let low = subst (λ n. n ≤ most_steps) (sym runs.steps_is) few in
    record {
      at = step machine runs.at;
      is = goes.leads machine first runs.at log still low;
      begins_is = same machine runs.at ∙ runs.begins_is;
      steps_is = counted machine runs.at ∙ ap (λ n. n + count) runs.steps_is;
      counts = counts machine first runs.at log before still low runs.counts;
      moves_are = (let more = moved machine runs.at in let had : moves ≤ moves_so_far runs.at = runs.moves_are in omega (arith, more, had));
    }

-- an event that is no process step leaves the counter where the first order comes to the moment behind it
pub passes-on : (step : Machine → Moment → Moment) (guide : Guide) (now : ℕ) (mid new : Simulated) →
    ((machine : Machine) (at : Moment) (before : ℕ) → ComesTo machine (step machine at) → Counts guide machine at before now → Counts guide machine (step machine at) before now) →
    GoesOn step mid new → CountsOn step guide guide now now mid
passes-on step guide now mid new passes goes = λ machine first at log before is few counts. passes machine at before (goes.leads machine first at log is few).comes counts

-- a machine that stays stands in the slot as before
pub stays-runs : (guide : Guide) (now : ℕ) (old new : Simulated) (log : SlotLog) → StaysAt old new → (machine : Machine) (first : Turn) (begins : State) (steps before moves : ℕ) →
    Runs machine first begins steps guide before now moves old log → Runs machine first begins steps guide before now moves new log
stays-runs guide now old new log stays machine first begins steps before moves runs =
    record { at = runs.at; is = stays.at machine first runs.at log runs.is; begins_is = runs.begins_is; steps_is = runs.steps_is; counts = runs.counts; moves_are = runs.moves_are }

-- where the values and the nodes are told to be the same, the machine stays
pub stays-nets : (old new : Simulated) → machine_in new.nets ≡ machine_in old.nets → values_in new.nets ≡ values_in old.nets → nodes_in new.nets ≡ nodes_in old.nets → new.table ≡ old.table →
    new.record ≡ old.record →
    design_of new.graph.now.design.now ≡ design_of old.graph.now.design.now → new.runs ≡ old.runs → notes_runs new ≡ notes_runs old → StaysAt old new
stays-nets old new machine values nodes table kept graph runs notes =
    let state : state_kept new ≡ state_kept old =
    λ i. record { time = (table_of (table i)).time; values = values i; nodes = nodes i; processes = (table_of (table i)).processes } in
    record {
      machine_is = machine;
      state_is = state;
      notes_are = notes;
      at = λ k first at log is. record {
        machine_is = machine ∙ is.machine_is;
        comes = is.comes;
        state_is = state ∙ is.state_is;
        recorded = subst (λ r. RecordsSlot k first at.ended (present_phase at) r log) (sym kept) is.recorded;
        parts = record {
          table = subst IsKept (sym table) is.parts.table;
          design = ap (λ t. (table_of t).design) table ∙ is.parts.design ∙ ap (λ (m : Machine). m.design) (sym machine);
          graph = graph ∙ is.parts.graph ∙ ap (λ (m : Machine). m.design) (sym machine);
          values = ap length values ∙ is.parts.values ∙ ap (λ (m : Machine). length m.design.objects) (sym machine);
        };
        in_time = is.in_time;
        writes = is.writes;
        runs = λ on. subst (RecordsRuns k at.ended (present_phase at)) (sym runs) (is.runs (sym notes ∙ on));
      };
    }

-- The end of a slot

-- where neither an event nor a turn within the slot is possible, the slot is at its end
pub ends-quiet : QuietSlotsEnd → (machine : Machine) (first : Turn) (begins : State) (steps : ℕ) (guide : Guide) (before now moves : ℕ) (m : Simulated) (log : SlotLog) →
    Runs machine first begins steps guide before now moves m log → steps ≤ most_steps → IsQuiet (state_kept m) → EndsCounted machine first begins false guide before now m log
ends-quiet law machine first begins steps guide before now moves m log runs few quiet =
    let idle : IsIdle runs.at.state = subst IsIdle runs.is.state_is quiet.idle in
    let no_turn : turn_in_slot (turn_of runs.at.state) ≡ None = subst (λ s. turn_in_slot (turn_of s) ≡ None) runs.is.state_is quiet.no_turn in
    record {
      ends = record {
        at = runs.at;
        is = runs.is;
        begins_is = runs.begins_is;
        ends = law machine runs.at runs.is.comes (subst (λ n. n ≤ most_steps) (sym runs.steps_is) few) idle no_turn;
        idle = λ e. idle;
        no_turn = λ e. no_turn;
      };
      counts = runs.counts;
    }

-- and where too many steps were taken, it is, and is hyperactive
pub ends-hyper : HyperSlotsEnd → (machine : Machine) (first : Turn) (begins : State) (steps : ℕ) (guide : Guide) (before now moves : ℕ) (m : Simulated) (log : SlotLog) →
    Runs machine first begins steps guide before now moves m log → steps ≡ most_steps + 1 → EndsCounted machine first begins true guide before now m log
ends-hyper law machine first begins steps guide before now moves m log runs many = record {
  ends = record {
    at = runs.at;
    is = runs.is;
    begins_is = runs.begins_is;
    ends = law machine runs.at runs.is.comes (runs.steps_is ∙ many);
    idle = λ e. cc;
    no_turn = λ e. cc;
  };
  counts = runs.counts;
}

-- Moves so far

-- from wherever the machine stood at the beginning of a slot, it made so many process and lane steps of it, and a counter went on
pub record HasRun (guide_old guide_new : Guide) (before after : ℕ) (old new : Simulated) (log_old log_new : SlotLog) (taken moves : ℕ) : Type 0 where
  pub stays : StaysGuide guide_old guide_new
  pub runs : (machine : Machine) (first : Turn) (begins : State) → Runs machine first begins 0 guide_old before before 0 old log_old →
      Runs machine first begins taken guide_new before after moves new log_new

pub no-moves : (guide : Guide) (counter : ℕ) (m : Simulated) (log : SlotLog) → HasRun guide guide counter counter m m log log 0 0
no-moves guide counter m log = record { stays = same-guide guide; runs = λ machine first begins runs. runs }

pub more-moves : (made : Made) (count : ℕ) (guide_old guide_mid guide_new : Guide) (before counter after : ℕ) (old mid new : Simulated) (begun log logged : SlotLog) (taken moves : ℕ) →
    HasRun guide_old guide_mid before counter old mid begun log taken moves → MakesMove made guide_mid guide_new counter after mid new log logged → count ≡ steps_made made → taken ≤ most_steps →
    HasRun guide_old guide_new before after old new begun logged (taken + count) (moves + moves_made made)
more-moves made count guide_old guide_mid guide_new before counter after old mid new begun log logged taken moves has makes many few = record {
  stays = guides-stay guide_old guide_mid guide_new has.stays makes.stays;
  runs = λ machine first begins runs.
      subst (λ n. Runs machine first begins (taken + n) guide_new before after (moves + moves_made made) new logged) (sym many)
      (makes.goes_on machine first begins taken before moves (has.runs machine first begins runs) few);
}

-- so many moves aren't made
pub moves-end : (machine : Machine) (first : Turn) (begins : State) (steps : ℕ) (guide : Guide) (before now moves : ℕ) (m : Simulated) (log : SlotLog) →
    Runs machine first begins steps guide before now moves m log → moves < 2 ^ 64 - 1
moves-end machine first begins steps guide before now moves m log runs =
    let fit : moves_so_far runs.at < 2 ^ 64 - 1 = moves-fit machine runs.at (subst (λ (k : Machine). KeepsRules k.design) runs.is.machine_is (rules-of m)) runs.is.comes in
    let had : moves ≤ moves_so_far runs.at = runs.moves_are in
    omega (arith, fit, had)

-- so is one of which a counter tells
pub runs-moving : (machine : Machine) (first : Turn) (begins : State) (steps : ℕ) (guide : Guide) (before now moves : ℕ) (m : Simulated) (log : SlotLog) →
    Runs machine first begins steps guide before now moves m log → steps ≤ most_steps → IsMovingInBy guide now m log
runs-moving machine first begins steps guide before now moves m log runs few = record {
  first = first;
  at = runs.at;
  is = subst (λ k. IsAt k first runs.at m log) (sym runs.is.machine_is) runs.is;
  few = subst (λ n. n ≤ most_steps) (sym runs.steps_is) few;
  before = before;
  counts = subst (λ k. Counts guide k runs.at before now) (sym runs.is.machine_is) runs.counts;
}

-- Which move is made

-- a machine that stays makes the move of the machine that it is then
pub move-after : (made : Made) (guide_old guide_new : Guide) (now after : ℕ) (old mid new : Simulated) (log logged : SlotLog) → StaysAt old mid →
    MakesMove made guide_old guide_new now after mid new log logged → MakesMove made guide_old guide_new now after old new log logged
move-after made guide_old guide_new now after old mid new log logged stays makes = record {
  goes_on = λ machine first begins steps before moves runs few.
      makes.goes_on machine first begins steps before moves (stays-runs guide_old now old mid log stays machine first begins steps before moves runs) few;
  stays = makes.stays;
  quiet = makes.quiet;
  notes_are = makes.notes_are ∙ stays.notes_are;
}

-- an event that isn't counted, one that is, and a turn
pub node-made : RunsGoBeside → (guide : Guide) (now node : ℕ) (old mid new : Simulated) (log : SlotLog) → StaysAt old mid → GoesOn (λ machine at. after_node machine node at) mid new →
    MakesMove deed.Uncounted guide guide now now old new log log
node-made law guide now node old mid new log stays goes = record {
  goes_on = made-event (λ machine at. after_node machine node at) 0 guide guide now now old mid new log (λ machine at. refl) (λ machine at. omega arith) node-moves stays goes
      (passes-on (λ machine at. after_node machine node at) guide now mid new (λ machine at before comes counts. counts-node law guide machine node at before now comes counts) goes);
  stays = same-guide guide;
  quiet = tt;
  notes_are = goes.notes_are ∙ stays.notes_are;
}
  where
    node-moves : (machine : Machine) (at : Moment) → moves_so_far at + 1 ≤ moves_so_far (after_node machine node at)
    node-moves machine at =
        let first : moves_so_far (after_event machine (Evaluation node) at) ≡ moves_so_far at + 1 = moves-event machine (Evaluation node) at in
        let second : moves_so_far (after_node machine node at) ≡ moves_so_far (after_event machine (Evaluation node) at) + 1 =
        moves-event machine (NetUpdate node) (after_event machine (Evaluation node) at) in
        omega (arith, first, second)

-- a step of a process or of a lane
step-goes : (event : Event) (guide_old guide_new : Guide) (now after : ℕ) (old new : Simulated) (log : SlotLog) → GoesOn (λ machine at. after_event machine event at) old new →
    CountsOn (λ machine at. after_event machine event at) guide_old guide_new now after old → (machine : Machine) (first : Turn) (begins : State) (steps before moves : ℕ) →
    Runs machine first begins steps guide_old before now moves old log → steps ≤ most_steps → Runs machine first begins (steps + steps_of event) guide_new before after (moves + 1) new log
step-goes event guide_old guide_new now after old new log goes counts machine first begins steps before moves runs few =
    let low = subst (λ n. n ≤ most_steps) (sym runs.steps_is) few in
    record {
      at = after_event machine event runs.at;
      is = goes.leads machine first runs.at log runs.is low;
      begins_is = runs.begins_is;
      steps_is = ap (λ n. n + steps_of event) runs.steps_is;
      counts = counts machine first runs.at log before runs.is low runs.counts;
      moves_are = (let more : moves_so_far (after_event machine event runs.at) ≡ moves_so_far runs.at + 1 = moves-event machine event runs.at in
          let had : moves ≤ moves_so_far runs.at = runs.moves_are in omega (arith, more, had));
    }

pub process-made : (process : ℕ) (guide_old guide_new : Guide) (now after : ℕ) (old new : Simulated) (log : SlotLog) → GoesOn (λ machine at. after_event machine (Step process) at) old new →
    CountsOn (λ machine at. after_event machine (Step process) at) guide_old guide_new now after old → StaysGuide guide_old guide_new →
    MakesMove deed.ProcessStep guide_old guide_new now after old new log log
process-made process guide_old guide_new now after old new log goes counts stays =
    record { goes_on = step-goes (Step process) guide_old guide_new now after old new log goes counts; stays = stays; quiet = tt; notes_are = goes.notes_are }

pub lane-made : RunsGoBeside → (process : ℕ) (guide : Guide) (now : ℕ) (old new : Simulated) (log : SlotLog) → GoesOn (λ machine at. after_event machine (LaneStep process) at) old new →
    MakesMove deed.LaneStep guide guide now now old new log log
lane-made law process guide now old new log goes = record {
  goes_on = step-goes (LaneStep process) guide guide now now old new log goes
      (passes-on (λ machine at. after_event machine (LaneStep process) at) guide now old new (λ machine at before comes counts. counts-lane law guide machine process at before now comes counts) goes);
  stays = same-guide guide;
  quiet = tt;
  notes_are = goes.notes_are;
}

-- where no step is made, as many were made
none-more : (machine : Machine) (first : Turn) (begins : State) (steps : ℕ) (guide : Guide) (before now moves : ℕ) (m : Simulated) (log : SlotLog) →
    Runs machine first begins steps guide before now moves m log → Runs machine first begins (steps + 0) guide before now moves m log
none-more machine first begins steps guide before now moves m log runs =
    record { at = runs.at; is = runs.is; begins_is = runs.begins_is; steps_is = runs.steps_is ∙ plus-none steps; counts = runs.counts; moves_are = runs.moves_are }
  where
    plus-none : (n : ℕ) → n ≡ n + 0
    plus-none n = omega arith

pub turn-made : (guide : Guide) (now : ℕ) (old new : Simulated) (log logged : SlotLog) → TurnsPhase old new log logged → MakesMove deed.Uncounted guide guide now now old new log logged
turn-made guide now old new log logged turns = record {
  goes_on = λ machine first begins steps before moves runs few.
      none-more machine first begins steps guide before now (moves + 1) new logged (turns.leads machine first begins steps guide before now moves runs few);
  stays = same-guide guide;
  quiet = tt;
  notes_are = turns.notes_are;
}

pub nothing-made : (guide : Guide) (now : ℕ) (m : Simulated) (log : SlotLog) → IsQuiet (state_kept m) → MakesMove deed.Nothing guide guide now now m m log log
nothing-made guide now m log quiet = record {
  goes_on = λ machine first begins steps before moves runs few. none-more machine first begins steps guide before now (moves + 0) m log (record {
    at = runs.at;
    is = runs.is;
    begins_is = runs.begins_is;
    steps_is = runs.steps_is;
    counts = runs.counts;
    moves_are = (let had : moves ≤ moves_so_far runs.at = runs.moves_are in omega (arith, had));
  });
  stays = same-guide guide;
  quiet = quiet;
  notes_are = refl;
}
