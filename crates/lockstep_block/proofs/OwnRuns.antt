-- The runs of a block of its own that a fault takes, beside the good machine's.
use Rattle.std.proofs.Common.{◌≡◌, ℕ, zero, suc, ◌+◌, ◌<◌, ◌≤◌, ◌^◌, Bool, true, false, List, [], ◌∷◌, ◌++◌, length, map, get_or, refl, sym, ap, subst, ◌∙◌, append_assoc, append-nil, arith}
use Rattle.std.specs.Prelude.{Option, Some, None, nat_eq, slice_get, sum_by}
use Rattle.std.proofs.lemmas.Bool.{eq-eqb}
use Rattle.std.proofs.lemmas.List.{length-append}
use Rattle.std.proofs.lemmas.List.Sums.{length-filter}
use Rattle.vf_base.specs.Lists.{AllHold}
use Rattle.v_design.specs.Designs.{FlatDesign, Machine, StuckAt, TestPlan, good_machine, faulty_machine}
use Rattle.v_design.specs.Grades.{Phase, phases}
use Rattle.v_design.specs.OwnSteps.{ProcessRun, StepSeen, good_runs, process_runs, run_before, runs_if, runs_of, same_kind, same_turn, seen_if, seen_step, steps_in}
use Rattle.v_design.specs.PhaseLogs.{is_step_of}
use Rattle.v_design.specs.Processes.{Activity}
use Rattle.v_design.specs.Runs.{happened, most_steps}
use Rattle.v_design.specs.States.{State, TurnKind, PostponedTurn, UpdatesTurn, TimeTurn, Event, Step, LaneStep, Evaluation, NetUpdate, after, is_ready, process_at, source_at}
use Rattle.machine_events.specs.Steps.{event_steps, phase_steps, step_of, steps-cons}
use Rattle.machine_laws.specs.SlotLoop.{Moment, ComesTo, EventsGoOn, after_event, after_events, present_phase, steps_of}
use Rattle.copy_laws.specs.Beside.{AreFirst}
use Rattle.copy_laws.specs.OwnRuns.{EventsTakeNoTime}
use Rattle.copy_laws.specs.SharedRuns.{IsRunFrom, PhaseRunsAreRuns}
use Rattle.phase_blocks.specs.Blocks.{BlocksJoin, IsBetweenRuns, RunsOfBlocks}
use Rattle.block_told.specs.Blocks.{AreBlock}
use Rattle.own_blocks.specs.Whole.{RunBlocksAreWhole}
use Rattle.run_ends.specs.RunEnds.{enders_in}
use Rattle.boundary_ends.proofs.Counts.{enders-run}
use Rattle.window_runs.specs.OfPhase.{TellsRuns}
use Rattle.own_counts.specs.Slots.{NumbersAre, NumbersGoOn, OwnStepsOfSlots}
use Rattle.own_slots.specs.Slots.{OwnSoFar, TriedStepsGoOn, WereTried}
use Rattle.good_runs.specs.Kept.{Keeps}
use Rattle.good_runs.specs.declared.tried.TriedStep.{TriedStep}
use Rattle.run_numbers.specs.Numbers.{AreNumbers, good_more, own_more, times_of}
use Rattle.run_numbers.specs.declared.numbers.RunApart.{RunApart}
use Rattle.slot_steps.specs.Laws.{SlotStepsGoOn}
use Rattle.faulty_block.specs.block_events.declared.runner.Runner.{Runner}
use Rattle.faulty_block.specs.block_events.Runners.{machine_of, state_of}
use Rattle.faulty_block.specs.block_runner.Beside.{AreFew, TellsBeside}
use Rattle.faulty_block.specs.block_runner.declared.goods.GoodPhase.{GoodPhase}
use Rattle.faulty_block.specs.lockstep_copy.declared.own.LockstepCopy.{LockstepCopy}
use Rattle.faulty_block.specs.lockstep_room.declared.counts.Counts.{Counts}
use Rattle.good_moment.specs.moment_laws.Shown.{MomentKept}
use Rattle.lockstep_steps.specs.lockstep_slots.Places.{Place, state_there, behind_events}
use Rattle.race_notes.specs.Notes.{NotesKept}
use Rattle.lockstep_block.specs.Blocks.{IsPhaseBeside, TriedInSlot, passed_phase}
use Rattle.lockstep_block.specs.Own.{MayRunOwn}
use Rattle.lockstep_block.specs.Runs.{IsGoodPhase, NotesEnded}
use Rattle.lockstep_block.proofs.KeptBehind.{keeps-behind}
use Rattle.lockstep_block.proofs.TriedThere.{kept-to}

-- Lists

pub at-length : {A : Type 0} (first : List A) (one : A) (rest : List A) → slice_get (first ++ one ∷ rest) (length first) ≡ Some one
at-length [] one rest = refl
at-length (x ∷ first) one rest = at-length first one rest

-- Turns

same-kinds : (kind : TurnKind) → same_kind kind kind ≡ true
same-kinds PostponedTurn = refl
same-kinds UpdatesTurn = refl
same-kinds (TimeTurn time) = eq-eqb time time refl

same-turns : (turn : Option TurnKind) → same_turn turn turn ≡ true
same-turns None = refl
same-turns (Some kind) = same-kinds kind

pub behind-turn : (machine : Machine) (events : List Event) (at : Moment) → (after_events machine events at).turn ≡ at.turn
behind-turn machine [] at = refl
behind-turn machine (event ∷ events) at = behind-turn machine events (after_event machine event at)

pub behind-events : (machine : Machine) (events : List Event) (at : Moment) → (after_events machine events at).events ≡ at.events ++ events
behind-events machine [] at = sym (append-nil at.events)
behind-events machine (event ∷ events) at = behind-events machine events (after_event machine event at) ∙ append_assoc at.events (event ∷ []) events

pub behind-phase : (machine : Machine) (events : List Event) (at : Moment) → (after_events machine events at).phase_begins ≡ at.phase_begins
behind-phase machine [] at = refl
behind-phase machine (event ∷ events) at = behind-phase machine events (after_event machine event at)

-- Few runs

before-few : (goes_on : Bool) (first : Activity × StepSeen) (runs : List ProcessRun) → length (run_before goes_on first runs) ≤ suc (length runs)
before-few false first runs = omega arith
before-few true first [] = omega arith
before-few true first (run ∷ runs) = omega arith

runs-few : (steps : List (Activity × StepSeen)) → length (runs_of steps) ≤ length steps
runs-few [] = omega arith
runs-few (first ∷ rest) =
    let one = before-few (is_ready first.1.step.next) first (runs_of rest) in
    let more = runs-few rest in
    omega (arith, one, more)

seen-few : (b : Bool) (event : Event) (seen : Activity × StepSeen) (rest : List (Activity × StepSeen)) → (b ≡ true → step_of event ≡ 1) → length (seen_if b seen rest) ≤ step_of event + length rest
seen-few true event seen rest one = let is = one refl in omega (arith, is)
seen-few false event seen rest one = omega arith

is-step : (process : ℕ) (event : Event) → is_step_of process event ≡ true → step_of event ≡ 1
is-step process (Step other) is = refl
is-step process (LaneStep other) is = cc
is-step process (Evaluation node) is = cc
is-step process (NetUpdate node) is = cc

steps-few-in : (machine : Machine) (process : ℕ) (state : State) (events : List Event) → length (steps_in machine process state events) ≤ event_steps events
steps-few-in machine process state [] = omega arith
steps-few-in machine process state (event ∷ events) =
    let one = seen-few (is_step_of process event) event ((process_at state process).activity, seen_step machine state process) (steps_in machine process (after machine state event) events) (is-step process event) in
    let rest = steps-few-in machine process (after machine state event) events in
    let all = steps-cons event events in
    omega (arith, one, rest, all)

-- How many runs ended

pub ended-good : (machine : Machine) (state : State) (process : ℕ) (events : List Event) (ended : List ℕ) → IsBetweenRuns machine state events → ended ≡ enders_in machine state events →
    times_of process ended ≡ length (runs_of (steps_in machine process state events))
ended-good machine state process events ended between are =
    ap (times_of process) are ∙ sym (length-filter (λ (other : ℕ). nat_eq other process) (enders_in machine state events)) ∙ enders-run machine state process events (between.runs process)

-- runs behind others, of a phase between runs
runs-more : RunsOfBlocks → (machine : Machine) (process : ℕ) (begins : State) (before events : List Event) → IsBetweenRuns machine begins before →
    length (runs_of (steps_in machine process begins (before ++ events)))
    ≡ length (runs_of (steps_in machine process begins before)) + length (runs_of (steps_in machine process (happened machine begins before) events))
runs-more law machine process begins before events between =
    ap length (law machine process begins before events between)
    ∙ length-append (runs_of (steps_in machine process begins before)) (runs_of (steps_in machine process (happened machine begins before) events))

-- A block

pub record RunLaws : Type 0 where
  pub time : EventsTakeNoTime
  pub runs : RunsOfBlocks
  pub join : BlocksJoin
  pub whole : RunBlocksAreWhole
  pub are : PhaseRunsAreRuns
  pub steps : SlotStepsGoOn
  pub slots : OwnStepsOfSlots
  pub numbers : NumbersGoOn
  pub tried : TriedStepsGoOn
  pub event : EventsGoOn

module _ {design : FlatDesign} {plan : TestPlan} {fault : StuckAt} {from until : ℕ} {runner : Runner} {before behind : MomentKept} {counts : Counts} {notes : NotesKept} {own : LockstepCopy}
    {spare : ℕ} {tried : List TriedStep} {apart : List RunApart} (of : MayRunOwn design plan fault from until runner before behind counts notes own spare tried apart) (laws : RunLaws) where
  -- the good machine's runs of the phase, and how many of each process ended in the faulty machine's
  abbrev pub goods : ℕ → List ProcessRun
  goods process = process_runs (good_machine design) process of.place.phase

  abbrev pub numbers : ℕ → ℕ
  numbers process = length (process_runs (faulty_machine design fault) process (present_phase of.goes.at))

  state-is : of.goes.at.state ≡ happened (faulty_machine design fault) of.goes.at.phase_begins of.goes.at.events
  state-is = of.goes.going.stands.lockstep.own_comes.happened_so_far

  time-is : (state_of runner).time ≡ of.place.phase.begins.time
  time-is = ap (λ (s : State). s.time) of.beside.runs.state_is ∙ laws.time (good_machine design) of.place.phase.begins of.place.passed

  -- they are few
  numbers-few : (process : ℕ) → numbers process < 2 ^ 32
  numbers-few process =
      let at = of.goes.at in
      let machine = faulty_machine design fault in
      let runs = runs-few (steps_in machine process at.phase_begins at.events) in
      let steps = steps-few-in machine process at.phase_begins at.events in
      let so_far : phase_steps at.ended + event_steps at.events ≤ at.steps = laws.steps.counted machine at of.goes.going.stands.lockstep.own_comes in
      let room = of.goes.going.room in
      omega (arith, runs, steps, so_far, room)

  -- what is handed to the block tells of them
  pub tells-goods : (kept : GoodPhase) → IsGoodPhase design of.place before apart kept → TellsBeside (machine_of runner) (state_of runner) goods numbers kept
  tells-goods kept is =
      let machine : machine_of runner ≡ good_machine design = of.beside.runs.machine_is in
      let same : (machine_of runner).design ≡ design = ap (λ (m : Machine). m.design) machine in
      record {
        tells = subst (λ t. TellsRuns (machine_of runner).design t goods kept.goods) (sym time-is) (subst (λ (d : FlatDesign). TellsRuns d of.place.phase.begins.time goods kept.goods) (sym same) is.tells);
        each = λ process low.
            subst (λ t. AllHold (IsRunFrom (source_at (machine_of runner) process) t) (goods process)) (sym time-is)
            (subst (λ (m : Machine). AllHold (IsRunFrom (source_at m process) of.place.phase.begins.time) (goods process)) (sym machine) (laws.are (good_machine design) process of.place.phase));
        are = record {
          each = λ process low.
              let there : process < length design.processes = subst (λ n. process < n) (ap length is.ran_is ∙ of.beside.before_at.shows.counts.ran) low in
              let numbered = of.goes.beside.numbers process in
              let ran = ap (λ (l : List ℕ). get_or l process 0) is.ran_is ∙ of.beside.before_at.counts.ran process there in
              let own_listed = ap (λ (l : List RunApart). own_more l process) is.apart_is in
              let good_listed = ap (λ (l : List RunApart). good_more l process) is.apart_is in
              omega (arith, numbered, ran, own_listed, good_listed);
          few = λ process low. numbers-few process;
        };
        count = ap length is.ran_is ∙ of.beside.before_at.shows.counts.ran ∙ sym (ap (λ (d : FlatDesign). length d.processes) same);
      }

  pub few-goods : (kept : GoodPhase) → IsGoodPhase design of.place before apart kept → AreFew (machine_of runner) kept spare
  few-goods kept is other others process low =
      let tells = tells-goods kept is in
      let there : process < length kept.numbers.ran.now = subst (λ n. process < n) (sym tells.count) low in
      let one = tells.are.each process there in
      let same = others.each process there in
      let at = of.goes.at in
      let machine = faulty_machine design fault in
      let runs = runs-few (steps_in machine process at.phase_begins at.events) in
      let steps = steps-few-in machine process at.phase_begins at.events in
      let so_far : phase_steps at.ended + event_steps at.events ≤ at.steps = laws.steps.counted machine at of.goes.going.stands.lockstep.own_comes in
      let room = of.goes.going.room in
      omega (arith, one, same, runs, steps, so_far, room)

  -- they are those beside which the slot counts
  other-is : slice_get (phases (good_machine design) of.slot) (length of.goes.at.ended) ≡ Some of.place.phase
  other-is =
      (λ i. slice_get (of.goes.going.stands.place_is.phases_are i) (of.goes.beside.number_is i)) ∙ at-length of.place.ended of.place.phase of.place.later

  goods-are : (process : ℕ) → good_runs (good_machine design) process of.goes.at.turn (slice_get (phases (good_machine design) of.slot) (length of.goes.at.ended)) ≡ goods process
  goods-are process =
      (λ i. good_runs (good_machine design) process (of.goes.beside.turn_is i) (other-is i))
      ∙ ap (λ (b : Bool). runs_if b (goods process)) (same-turns of.place.phase.turn)

  -- what is kept of the block is kept of the phase
  kept-here : (kept : GoodPhase) (events : List Event) (more : List TriedStep) → IsGoodPhase design of.place before apart kept →
      Keeps goods numbers (faulty_machine design fault) kept.phase of.goes.at.state [] events more →
      Keeps (λ process. good_runs (good_machine design) process of.goes.at.turn (slice_get (phases (good_machine design) of.slot) (length of.goes.at.ended))) (λ process. 0) (faulty_machine design fault)
      (length of.goes.at.ended) of.goes.at.phase_begins of.goes.at.events events more
  kept-here kept events more is keeps =
      let at = of.goes.at in
      let machine = faulty_machine design fault in
      let number : kept.phase ≡ length at.ended = is.phase_is ∙ sym of.goes.beside.number_is in
      let here : Keeps goods numbers machine (length at.ended) (happened machine at.phase_begins at.events) [] events more =
      subst (λ n. Keeps goods numbers machine n (happened machine at.phase_begins at.events) [] events more) number
      (subst (λ (s : State). Keeps goods numbers machine kept.phase s [] events more) state-is keeps) in
      let behind_all = keeps-behind machine goods numbers (length at.ended) at.phase_begins at.events laws.time laws.runs of.goes.beside.between (λ process. refl) [] events more here in
      subst (λ (g : ℕ → List ProcessRun). Keeps g (λ process. 0) machine (length at.ended) at.phase_begins at.events events more) (λ i. λ process. sym (goods-are process) i)
      (subst (λ (l : List Event). Keeps goods (λ process. 0) machine (length at.ended) at.phase_begins l events more) (append-nil at.events) behind_all)

  -- so these are own steps of the slot so far
  pub so-far-behind : (kept : GoodPhase) (events : List Event) (more : List TriedStep) → IsGoodPhase design of.place before apart kept →
      Keeps goods numbers (faulty_machine design fault) kept.phase of.goes.at.state [] events more →
      OwnSoFar (good_machine design) (faulty_machine design fault) (phases (good_machine design) of.slot) (after_events (faulty_machine design fault) events of.goes.at) (tried ++ more)
  so-far-behind kept events more is keeps =
      laws.tried.goes (good_machine design) (faulty_machine design fault) (phases (good_machine design) of.slot) of.goes.at events tried more of.goes.so_far (kept-here kept events more is keeps)

  -- also where the block was given up
  pub tried-behind : (kept : GoodPhase) (events : List Event) (more : List TriedStep) → IsGoodPhase design of.place before apart kept → AreFirst (faulty_machine design fault) of.goes.at.state events →
      sum_by steps_of events ≤ spare + 1 → Keeps goods numbers (faulty_machine design fault) kept.phase of.goes.at.state [] events more →
      TriedInSlot design fault of.slot of.begins (tried ++ more)
  tried-behind kept events more is first few keeps =
      let stands = of.goes.going.stands in
      let room = of.goes.going.room in
      subst (λ (s : State). TriedInSlot design fault of.slot s (tried ++ more)) stands.own_begins
      (kept-to (good_machine design) (faulty_machine design fault) (phases (good_machine design) of.slot) stands.good_slot.rules laws.event laws.tried of.goes.at events tried more
      stands.lockstep.own_comes first (omega (arith, room, few)) of.goes.so_far (kept-here kept events more is keeps))

  -- and the phase goes on beside the good machine's
  module _ (events : List Event) (block : AreBlock (faulty_machine design fault) of.goes.at.state events) (own_ended good_ended : List ℕ)
      (own_is : (process : ℕ) → length (runs_of (steps_in (faulty_machine design fault) process of.goes.at.state events)) ≡ times_of process own_ended)
      (good_is : good_ended ≡ enders_in (good_machine design) (state_there (good_machine design) of.place) of.block) (later : List RunApart) (noted : NotesEnded apart later own_ended good_ended) where
    abbrev machine : Machine
    machine = faulty_machine design fault

    ends : IsBetweenRuns machine (happened machine of.goes.at.phase_begins of.goes.at.events) events
    ends = subst (λ (s : State). IsBetweenRuns machine s events) state-is (laws.whole.blocks machine of.goes.at.state events block).ends

    own-more : (process : ℕ) → length (process_runs machine process (present_phase (after_events machine events of.goes.at)))
        ≡ length (process_runs machine process (present_phase of.goes.at)) + times_of process own_ended
    own-more process =
        let at = of.goes.at in
        (λ i. length (runs_of (steps_in machine process (behind-phase machine events at i) (behind-events machine events at i))))
        ∙ runs-more laws.runs machine process at.phase_begins at.events events of.goes.beside.between
        ∙ ap (λ n. length (process_runs machine process (present_phase at)) + n)
        (ap (λ (s : State). length (runs_of (steps_in machine process s events))) (sym state-is) ∙ own_is process)

    good-more : (process : ℕ) → length (process_runs (good_machine design) process (passed_phase (behind_events of.block of.rest of.place)))
        ≡ length (process_runs (good_machine design) process (passed_phase of.place)) + times_of process good_ended
    good-more process =
        runs-more laws.runs (good_machine design) process of.place.phase.begins of.place.passed of.block of.goes.going.stands.between
        ∙ ap (λ n. length (process_runs (good_machine design) process (passed_phase of.place)) + n)
        (sym (ended-good (good_machine design) (state_there (good_machine design) of.place) process of.block good_ended of.beside.whole.ends good_is))

    pub phase-beside : IsPhaseBeside design fault (behind_events of.block of.rest of.place) (after_events machine events of.goes.at) later
    phase-beside =
        let at = of.goes.at in
        record {
          number_is = ap length (laws.slots.ended machine events at) ∙ of.goes.beside.number_is;
          turn_is = behind-turn machine events at ∙ of.goes.beside.turn_is;
          between =
              subst (λ (s : State). IsBetweenRuns machine s (after_events machine events at).events) (sym (behind-phase machine events at))
              (subst (IsBetweenRuns machine at.phase_begins) (sym (behind-events machine events at))
              ((laws.join machine at.phase_begins at.events events of.goes.beside.between).0 ends));
          numbers =
              laws.numbers.same (good_machine design) machine (passed_phase (behind_events of.block of.rest of.place)) (present_phase (after_events machine events at))
              (λ process. own_more apart process + times_of process own_ended) (λ process. good_more apart process + times_of process good_ended) (own_more later) (good_more later)
              (λ process. sym (noted process))
              (laws.numbers.blocks (good_machine design) machine (passed_phase of.place) (present_phase at) (passed_phase (behind_events of.block of.rest of.place))
              (present_phase (after_events machine events at)) (own_more apart) (good_more apart) (λ process. times_of process own_ended) (λ process. times_of process good_ended) own-more good-more
              of.goes.beside.numbers);
        }
