-- The block that a faulty machine took.
use Rattle.std.proofs.Common.{◌≡◌, ℕ, ◌+◌, ◌<◌, ◌≤◌, ◌^◌, Bool, true, false, List, [], cond, length, ap, sym, subst, ◌∙◌, refl, arith}
use Rattle.std.specs.Prelude.{Option, Some, None, IfSome, IsSome, sum_by}
use Rattle.vf_base.specs.Lists.{AllHold}
use Rattle.v_design.specs.Designs.{FlatDesign, Machine, StuckAt, faulty_machine}
use Rattle.v_design.specs.OwnSteps.{ProcessRun, StepSeen, runs_of, steps_in}
use Rattle.v_design.specs.Processes.{Activity}
use Rattle.v_design.specs.Runs.{happened, work_of}
use Rattle.v_design.specs.States.{State, ProcessState, Event, process_at, source_at}
use Rattle.v_design.specs.Writers.{process_objects}
use Rattle.machine_laws.specs.SlotLoop.{NoNodeWorks, first_lane, steps_of}
use Rattle.copy_laws.specs.Beside.{AreFirst}
use Rattle.copy_laws.specs.OwnRuns.{StepsGrow}
use Rattle.copy_laws.specs.SharedRuns.{IsRunFrom}
use Rattle.race_laws.specs.Writes.{WritesAreOf}
use Rattle.lockstep_laws.specs.Lockstep.{LockstepIsBeside, StandBeside}
use Rattle.block_compare.specs.block_events.declared.runner.Runner.{Runner}
use Rattle.block_compare.specs.block_events.Runners.{machine_of, state_of}
use Rattle.block_runner.specs.Beside.{TellsBeside}
use Rattle.block_runner.specs.Ends.{EndsSo, GoesOn}
use Rattle.block_runner.specs.declared.goods.GoodPhase.{GoodPhase}
use Rattle.window_runs.specs.OfPhase.{TellsRuns}
use Rattle.run_numbers.specs.Numbers.{times_of}
use Rattle.good_runs.specs.Kept.{Keeps}
use Rattle.good_runs.specs.declared.tried.TriedStep.{TriedStep}
use Rattle.block_runner.specs.declared.blocks.BlockEnd.{BlockEnd}
use Rattle.block_runner.specs.declared.blocks.BlockEnd.TheVariants.{Ran}
use Rattle.block_told.specs.declared.told.BlockTold.{BlockTold}
use Rattle.block_told.specs.Blocks.{AreBlock}
use Rattle.block_told.specs.Tells.{TellsBlock, parts_told}
use Rattle.unseen_writes.specs.Unseen.{AreAlike, IsAlike, StepsLane, WritesAreUnseen}
use Rattle.block_compare.specs.lockstep_copy.Kept.{kept_by}
use Rattle.block_compare.specs.lockstep_copy.declared.own.LockstepCopy.{LockstepCopy}
use Rattle.block_compare.specs.lockstep_exchange.Exchange.{ArePutFor, MayPutIn}
use Rattle.block_compare.specs.lockstep_slots.Kept.{kept_within}
use Rattle.block_compare.specs.moment_shown.declared.shown.ShownBlock.{ShownBlock}
use Rattle.faulty_block.specs.Runs.{MayRun, RanBlock, StepsWithin, acts_in}
use Rattle.faulty_block.proofs.KeptAlike.{GoAlike, begin-alike, keeps-alike, steps-alike}
use Rattle.faulty_block.proofs.Lanes.{steps-lane}

-- The state that is put in

module _ (side : LockstepIsBeside) (law : WritesAreUnseen) (runner begins : Runner) (own : LockstepCopy) (block : ShownBlock) (of : MayRun (acts_in block) own runner)
    (put : ArePutFor (acts_in block) (state_of runner) of.put.faulty (state_of begins)) where
  stand : StandBeside (kept_within (kept_by own) (state_of runner)) (state_of runner) of.put.faulty
  stand = side (kept_within (kept_by own) (state_of runner)) (state_of runner) of.put.faulty of.put.makes.lockstep

  -- it is the faulty state but for what processes have yet to write
  pub alike : AreAlike (acts_in block) of.put.faulty (state_of begins)
  alike = record {
    time = ap (λ (s : State). s.time) put.rest;
    values = ap (λ (s : State). s.values) put.rest;
    nodes = ap (λ (s : State). s.nodes) put.rest;
    count = put.count ∙ sym of.put.makes.lockstep.within.process_count;
    each = λ process. one process (acts_in block process) refl;
  }
    where
      one : (process : ℕ) (acts : Bool) → acts_in block process ≡ acts → IsAlike (acts_in block process) (process_at of.put.faulty process) (process_at (state_of begins) process)
      one process true acting =
          let is : process_at (state_of begins) process ≡ process_at of.put.faulty process =
          put.processes process ∙ ap (λ (b : Bool). cond b (process_at of.put.faulty process) (process_at (state_of runner) process)) acting in
          record { activity = ap (λ (p : ProcessState). p.activity) is; lane = ap (λ (p : ProcessState). length p.lane) is; kept = λ e. is }
      one process false none =
          let is : process_at (state_of begins) process ≡ process_at (state_of runner) process =
          put.processes process ∙ ap (λ (b : Bool). cond b (process_at of.put.faulty process) (process_at (state_of runner) process)) none in
          let writes = stand.processes process in
          record {
            activity = ap (λ (p : ProcessState). p.activity) is ∙ sym writes.activity;
            lane = ap (λ (p : ProcessState). length p.lane) is ∙ sym writes.lane;
            kept = λ acting. let wrong : true ≡ false = sym acting ∙ none in cc;
          }

  lane-same : first_lane (state_of begins) ≡ first_lane (state_of runner)
  lane-same = law.lanes (state_of runner) (state_of begins) put.count (λ process. (alike.each process).lane ∙ (stand.processes process).lane)

  pub put-rests : NoNodeWorks (state_of begins)
  put-rests = ap (work_of 0) alike.nodes ∙ of.rests

  pub put-time : (state_of begins).time ≤ 2 ^ 63
  put-time = subst (λ (t : ℕ). t ≤ 2 ^ 63) (sym alike.time) of.time

  -- what its processes are still to write is of the design, whose ever it is
  pub put-writes : WritesAreOf (machine_of runner).design (state_of begins)
  put-writes = record { objects = λ process. one process (acts_in block process) refl }
    where
      one : (process : ℕ) (acts : Bool) → acts_in block process ≡ acts →
          AllHold (λ object. object < length (machine_of runner).design.objects) (process_objects (process_at (state_of begins) process))
      one process true acting =
          subst (λ (p : ProcessState). AllHold (λ object. object < length (machine_of runner).design.objects) (process_objects p)) (sym (put.processes process ∙ ap (λ (b : Bool). cond b (process_at of.put.faulty process) (process_at (state_of runner) process)) acting)) (of.writes.objects process)
      one process false none =
          subst (λ (p : ProcessState). AllHold (λ object. object < length (machine_of runner).design.objects) (process_objects p)) (sym (put.processes process ∙ ap (λ (b : Bool). cond b (process_at of.put.faulty process) (process_at (state_of runner) process)) none)) (of.good_writes.objects process)

  -- the lanes that step are those of processes that act
  steps-acting : (events : List Event) → (IsSome (first_lane (state_of begins)) → sum_by steps_of events ≡ 1) → AreFirst (machine_of begins) (state_of begins) events →
      AllHold (StepsLane (acts_in block)) events
  steps-acting events one first =
      steps-lane (machine_of begins) (acts_in block) (state_of begins) events put-rests (λ process is. of.lane process (sym lane-same ∙ is)) one first

  module _ (grow : StepsGrow) (new : Runner) (fault : StuckAt) (most : ℕ) (end : BlockEnd) (told : BlockTold) (runs : ℕ → List ProcessRun) (numbers : ℕ → ℕ) (phase : ℕ) (more : List TriedStep)
      (machine : machine_of begins ≡ faulty_machine (machine_of runner).design fault) (goes : GoesOn (machine_of begins) (state_of begins) most end new told)
      (one : IsSome (first_lane (state_of begins)) → told.steps ≡ 1) (keeps : Keeps runs numbers (machine_of begins) phase (state_of begins) [] goes.events more) where
    may : AllHold (StepsLane (acts_in block)) goes.events
    may = steps-acting goes.events (λ some. sym goes.tells.count ∙ one some) goes.in_order

    go : GoAlike grow law (machine_of begins) (acts_in block) of.put.faulty (state_of begins) []
    go = begin-alike grow law (machine_of begins) (acts_in block) of.put.faulty (state_of begins) alike

    -- the same steps are kept of the faulty machine's own block
    kept : Keeps runs numbers (machine_of begins) phase of.put.faulty [] goes.events more
    kept = keeps-alike grow law (machine_of begins) (acts_in block) of.put.faulty (state_of begins) runs numbers phase alike.time [] goes.events more go may keeps

    -- the block that it took is one of the faulty machine
    pub ran-block : (taken : ℕ) (ended : List ℕ) → end ≡ Ran → told.steps ≡ taken →
        ((process : ℕ) → length (runs_of (steps_in (machine_of begins) process (state_of begins) goes.events)) ≡ times_of process ended) →
        RanBlock (faulty_machine (machine_of runner).design fault) (acts_in block) of.put.faulty (state_of runner) runs numbers phase taken new told ended more
    ran-block taken ended ran steps counted =
        let next : AreAlike (acts_in block) (happened (machine_of begins) of.put.faulty goes.events) (happened (machine_of begins) (state_of begins) goes.events) =
        (law.events (machine_of begins) (acts_in block) of.put.faulty (state_of begins) goes.events alike may goes.in_order).1 in
        let whole : AreBlock (machine_of begins) (state_of begins) goes.events = subst (EndsSo (machine_of begins) (state_of begins) most goes.events) ran goes.ends in
        subst (λ (m : Machine). RanBlock m (acts_in block) of.put.faulty (state_of runner) runs numbers phase taken new told ended more) machine
        (record {
          events = goes.events;
          block = law.block (machine_of begins) (acts_in block) of.put.faulty (state_of begins) goes.events alike may whole;
          whole = goes.whole;
          machine_is = goes.machine_is;
          rest =
              goes.state_is
              ∙ (λ i. record { time = next.time i; values = next.values i; nodes = next.nodes i; processes = sym (ap (λ (s : State). s.processes) goes.state_is) i });
          count = ap (λ (s : State). length s.processes) goes.state_is ∙ next.count;
          processes = λ process acts. ap (λ (s : State). process_at s process) goes.state_is ∙ (next.each process).kept acts;
          others = λ process acts none.
              ap (λ (s : State). process_at s process) goes.state_is ∙ goes.tells.changes.processes process none ∙ put.processes process
              ∙ ap (λ (b : Bool). cond b (process_at of.put.faulty process) (process_at (state_of runner) process)) acts;
          tells = law.tells (machine_of begins) (acts_in block) of.put.faulty (state_of begins) goes.events told alike may goes.tells;
          steps_are = steps;
          keeps = kept;
          ended_are = λ process.
              sym (ap (λ (l : List (Activity × StepSeen)). length (runs_of l)) (steps-alike grow law (machine_of begins) (acts_in block) of.put.faulty (state_of begins) [] goes.events go may process))
              ∙ counted process;
        })

    -- also where it was given up
    pub ran-within : told.steps ≤ most + 1 → StepsWithin (faulty_machine (machine_of runner).design fault) of.put.faulty runs numbers phase most more
    ran-within few =
        subst (λ (m : Machine). StepsWithin m of.put.faulty runs numbers phase most more) machine
        (record {
          events = goes.events;
          in_order = (law.events (machine_of begins) (acts_in block) of.put.faulty (state_of begins) goes.events alike may goes.in_order).0;
          few = (let count : told.steps ≡ sum_by steps_of goes.events = goes.tells.count in omega (arith, count, few));
          keeps = kept;
        })

-- what is told beside the good machine is told beside the faulty one
pub tells-put : (runner begins : Runner) (fault : StuckAt) (runs : ℕ → List ProcessRun) (numbers : ℕ → ℕ) (kept : GoodPhase) → machine_of begins ≡ faulty_machine (machine_of runner).design fault →
    (state_of begins).time ≡ (state_of runner).time → TellsBeside (machine_of runner) (state_of runner) runs numbers kept → TellsBeside (machine_of begins) (state_of begins) runs numbers kept
tells-put runner begins fault runs numbers kept machine time of =
    let design : (machine_of begins).design ≡ (machine_of runner).design = ap (λ (m : Machine). m.design) machine in
    record {
      tells = subst (λ t. TellsRuns (machine_of begins).design t runs kept.goods) (sym time) (subst (λ (d : FlatDesign). TellsRuns d (state_of runner).time runs kept.goods) (sym design) of.tells);
      each = λ process low.
          subst (λ t. AllHold (IsRunFrom (source_at (machine_of begins) process) t) (runs process)) (sym time)
          (subst (λ (m : Machine). AllHold (IsRunFrom (source_at m process) (state_of runner).time) (runs process)) (sym machine)
          (of.each process (subst (λ (d : FlatDesign). process < length d.processes) design low)));
      are = of.are;
      count = of.count ∙ sym (ap (λ (d : FlatDesign). length d.processes) design);
    }

-- where it was run to its end
pub ran-some : (runner new : Runner) (own : LockstepCopy) (block : ShownBlock) (fault : StuckAt) (end : BlockEnd) (told : BlockTold) (found : Option ℕ) (good : GoodPhase) (phase : ℕ) (ended : List ℕ)
    (more : List TriedStep) →
    ((of : MayRun (acts_in block) own runner) (runs : ℕ → List ProcessRun) (numbers : ℕ → ℕ) → TellsBeside (machine_of runner) (state_of runner) runs numbers good → (taken : ℕ) → end ≡ Ran →
    told.steps ≡ taken → RanBlock (faulty_machine (machine_of runner).design fault) (acts_in block) of.put.faulty (state_of runner) runs numbers phase taken new told ended more) →
    IfSome found (λ taken. end ≡ Ran) → IfSome found (λ taken. told.steps ≡ taken) →
    IfSome found (λ taken.
    (of : MayRun (acts_in block) own runner) (runs : ℕ → List ProcessRun) (numbers : ℕ → ℕ) → TellsBeside (machine_of runner) (state_of runner) runs numbers good →
    RanBlock (faulty_machine (machine_of runner).design fault) (acts_in block) of.put.faulty (state_of runner) runs numbers phase taken new told ended more)
ran-some runner new own block fault end told None good phase ended more block-is ran steps = tt
ran-some runner new own block fault end told (Some taken) good phase ended more block-is ran steps = λ of runs numbers tells. block-is of runs numbers tells taken ran steps
