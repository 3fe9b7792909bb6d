-- A block run beside the good machine's phase, to its end (IEEE 1364-2001, clause 5).
use Rattle.std.proofs.Common.{◌≡◌, ℕ, ◌+◌, ◌<◌, ◌≤◌, Bool, true, false, List, [], ◌∷◌, ◌++◌, drop, length, map, refl, sym, ap, subst, ◌∙◌, arith, append-nil}
use Rattle.std.specs.Prelude.{Option, Some, None}
use Rattle.std.specs.Option.{IsSome}
use Rattle.vf_base.specs.Base.{process_number}
use Rattle.vf_base.specs.declared.ids.ProcId.{ProcId}
use Rattle.v_design.specs.Designs.{Machine}
use Rattle.v_design.specs.OwnSteps.{ProcessRun, runs_of, steps_in}
use Rattle.v_design.specs.Runs.{happened}
use Rattle.v_design.specs.States.{State, ProcessState, Event, Step, after, idle_process, is_ready}
use Rattle.machine_events.specs.Steps.{raised_by}
use Rattle.machine_laws.specs.SlotLoop.{IsIdle, NoNodeWorks, first_lane, first_ready}
use Rattle.machine_laws.proofs.Places.{placed}
use Rattle.machine_events.specs.PartLaws.{passes-there}
use Rattle.present_runs.specs.PresentRuns.{PresentRunsLead}
use Rattle.good_runs.specs.Kept.{Keeps}
use Rattle.good_runs.specs.declared.tried.TriedStep.{TriedStep}
use Rattle.block_events.proofs.Nodes.{process-count}
use Rattle.block_events.specs.Going.{StepsOn, Settles}
use Rattle.block_events.specs.declared.runner.Runner.{Runner}
use Rattle.block_events.specs.Runners.{machine_of, state_of, IsWhole}
use Rattle.block_told.specs.Blocks.{AreBlock, IsBetweenRuns}
use Rattle.block_told.specs.Tells.{IsUntold}
use Rattle.block_told.specs.TellsMore.{tells-nothing}
use Rattle.block_told.specs.declared.told.BlockTold.{BlockTold}
use Rattle.run_numbers.specs.Numbers.{times_of}
use Rattle.block_runner.specs.declared.blocks.BlockEnd.{BlockEnd}
use Rattle.block_runner.specs.declared.blocks.BlockEnd.TheVariants.{Idle, Ran, GivenUp}
use Rattle.block_runner.specs.declared.goods.GoodPhase.{GoodPhase}
use Rattle.block_runner.specs.declared.rows.ProcessBeside.{ProcessBeside}
use Rattle.block_runner.specs.Beside.{AreFew, MayGoBeside, fresh, row_at}
use Rattle.block_runner.specs.Ends.{GoesOn, LaneRan, RanBeside, TicksTried}
use Rattle.block_runner.specs.Next.{MayStepBeside, StepsBeside}
use Rattle.block_runner.proofs.BesideSoFar.{BesideSoFar, beside-begins, beside-more, ended-are, keeps-behind, may-step, ticks-tried}
use Rattle.block_runner.proofs.Keeping.{behind-old, keeps-none}
use Rattle.block_runner.proofs.Runs.{RunsSoFar, all_events, one-more, runs-begin, runs-given_up, runs-more, runs-over, runs-ran}

-- A process that steps is there

pub chosen-there : (runner : Runner) (p : ℕ) → IsWhole runner → first_ready (state_of runner) ≡ Some p → p < length (state_of runner).processes
chosen-there runner p whole chosen =
    passes-there (λ (s : ProcessState). is_ready s.activity) idle_process (state_of runner).processes p refl
    (placed (λ (s : ProcessState). is_ready s.activity) idle_process (state_of runner).processes p chosen)

-- a block ends between runs
block-ends : (machine : Machine) (begins : State) (events : List Event) → AreBlock machine begins events → IsBetweenRuns machine begins events
block-ends machine begins events block = subst (IsBetweenRuns machine begins) (sym block.are) block.block.ends

-- The loop

-- what was taken and told so far, beside the good machine's phase
pub record LoopBeside (machine : Machine) (begins : State) (kept : GoodPhase) (now : Runner) (told : BlockTold) (taken : ℕ) (rows : List ProcessBeside) (ended : List ProcId)
    (tried_old tried : List TriedStep) (ticks_old ticks : ℕ) : Type 0 where
  pub so_far : RunsSoFar machine begins now told taken
  pub beside : BesideSoFar machine begins kept so_far.events taken rows ended tried_old tried ticks_old ticks

pub loop-begins : (machine : Machine) (begins : State) (kept : GoodPhase) (runner : Runner) (told : BlockTold) (rows : List ProcessBeside) (ended : List ProcId) (tried : List TriedStep) (ticks : ℕ) →
    IsWhole runner → machine_of runner ≡ machine → state_of runner ≡ begins → NoNodeWorks begins → first_lane begins ≡ None → IsSome (first_ready begins) → runner.running.items ≡ [] →
    IsUntold told → length machine.design.processes ≤ length rows → ((process : ℕ) → row_at rows process ≡ fresh) → ended ≡ [] →
    LoopBeside machine begins kept runner told 0 rows ended tried tried ticks ticks
loop-begins machine begins kept runner told rows ended tried ticks whole one same quiet lanes some none untold there clean no_ends = go (first_ready begins) refl some
  where
    go : (found : Option ℕ) → first_ready begins ≡ found → IsSome found → LoopBeside machine begins kept runner told 0 rows ended tried tried ticks ticks
    go None e is = (let z : false ≡ true = is in absurd (cc))
    go (Some first) e is = record {
      so_far = runs-begin machine begins runner told first whole one same quiet lanes e none untold;
      beside = beside-begins machine begins kept rows ended tried ticks there clean no_ends;
    }

module _ (lead : PresentRunsLead) (machine : Machine) (begins : State) (kept : GoodPhase) (now : Runner) (told : BlockTold) (taken : ℕ) (rows : List ProcessBeside) (ended : List ProcId)
    (tried_old tried : List TriedStep) (ticks_old ticks : ℕ) (loop : LoopBeside machine begins kept now told taken rows ended tried_old tried ticks_old ticks) (may : MayGoBeside machine begins kept)
  where
    -- the next step may be taken
    pub loop-there : (process : ℕ) → first_ready (state_of now) ≡ Some process → process < length machine.design.processes
    loop-there process chosen =
        subst (λ (n : ℕ). process < n) (process-count now loop.so_far.going.whole ∙ ap (λ (m : Machine). length m.design.processes) loop.so_far.going.machine_is)
        (chosen-there now process loop.so_far.going.whole chosen)

    pub loop-may : (process most : ℕ) → first_ready (state_of now) ≡ Some process → AreFew machine kept most → taken ≤ most →
        MayStepBeside (machine_of now) (state_of now) process kept (row_at rows process)
    loop-may process most chosen few less =
        subst (λ (m : Machine). MayStepBeside m (state_of now) process kept (row_at rows process)) (sym loop.so_far.going.machine_is)
        (subst (λ (s : State). MayStepBeside machine s process kept (row_at rows process)) (sym loop.so_far.going.state_is)
        (may-step lead machine begins kept loop.so_far.events taken rows ended tried_old tried ticks_old ticks loop.beside process most may few (loop-there process chosen) less))

    -- too many steps were taken
    pub loop-over : (most : ℕ) → most + 1 ≤ taken → RanBeside machine begins most kept GivenUp now told ended (drop (length tried_old) tried)
    loop-over most past = record {
      goes = runs-over machine begins now told taken loop.so_far most past;
      keeps = keeps-behind lead machine begins kept loop.so_far.events taken rows ended tried_old tried ticks_old ticks loop.beside;
      ended_are = λ e. absurd (cc);
    }

    pub loop-ticks : TicksTried tried_old tried ticks_old ticks
    loop-ticks = ticks-tried lead machine begins kept loop.so_far.events taken rows ended tried_old tried ticks_old ticks loop.beside

    -- a step is taken
    module _ (process : ProcId) (stepped settled : Runner) (told_stepped told_settled : BlockTold) (chosen : first_ready (state_of now) ≡ Some (process_number process))
        (steps : StepsOn (process_number process) now stepped told told_stepped) (quiet : Bool) (settles : Settles quiet stepped settled told_stepped told_settled) (rows1 : List ProcessBeside)
        (ended1 : List ProcId) (tried1 : List TriedStep) (ticks1 : ℕ)
        (besides : StepsBeside (machine_of now) (state_of now) (state_of stepped) process kept rows rows1 ended ended1 tried tried1 ticks ticks1)
      where
        besides-at : StepsBeside machine (happened machine begins loop.so_far.events) (after machine (happened machine begins loop.so_far.events) (Step (process_number process))) process kept rows rows1
            ended ended1 tried tried1 ticks ticks1
        besides-at =
            subst (λ (m : Machine). StepsBeside m (happened machine begins loop.so_far.events) (after m (happened machine begins loop.so_far.events) (Step (process_number process))) process kept rows
            rows1 ended ended1 tried tried1 ticks ticks1) loop.so_far.going.machine_is
            (subst (λ (s : State). StepsBeside (machine_of now) s (after (machine_of now) s (Step (process_number process))) process kept rows rows1 ended ended1 tried tried1 ticks ticks1)
            loop.so_far.going.state_is
            (subst (λ (s : State). StepsBeside (machine_of now) (state_of now) s process kept rows rows1 ended ended1 tried tried1 ticks ticks1) steps.takes.state_is besides))

        more : BesideSoFar machine begins kept ((loop.so_far.events ++ Step (process_number process) ∷ []) ++ settles.events) (taken + 1) rows1 ended1 tried_old tried1 ticks_old ticks1
        more =
            beside-more lead machine begins kept loop.so_far.events taken rows ended tried_old tried ticks_old ticks loop.beside process (loop-there (process_number process) chosen) rows1 ended1 tried1
            ticks1 besides-at settles.events settles.works.of_nodes

        pub loop-given_up : (most : ℕ) → quiet ≡ false → RanBeside machine begins most kept GivenUp settled told_settled ended1 (drop (length tried_old) tried1)
        loop-given_up most fails = record {
          goes = runs-given_up machine begins now told taken loop.so_far (process_number process) stepped settled told_stepped told_settled chosen steps quiet settles most fails;
          keeps = keeps-behind lead machine begins kept _ (taken + 1) rows1 ended1 tried_old tried1 ticks_old ticks1 more;
          ended_are = λ e. absurd (cc);
        }

        pub loop-ran : (most : ℕ) → quiet ≡ true → settled.running.items ≡ [] → RanBeside machine begins most kept Ran settled told_settled ended1 (drop (length tried_old) tried1)
        loop-ran most holds none =
            let goes : GoesOn machine begins most Ran settled told_settled =
            runs-ran machine begins now told taken loop.so_far (process_number process) stepped settled told_stepped told_settled chosen steps quiet settles most holds none in
            record {
              goes = runs-ran machine begins now told taken loop.so_far (process_number process) stepped settled told_stepped told_settled chosen steps quiet settles most holds none;
              keeps = keeps-behind lead machine begins kept _ (taken + 1) rows1 ended1 tried_old tried1 ticks_old ticks1 more;
              ended_are = λ e. ended-are lead machine begins kept _ (taken + 1) rows1 ended1 tried_old tried1 ticks_old ticks1 more may (block-ends machine begins _ goes.ends);
            }

        pub loop-more : quiet ≡ true → (settled.running.items ≡ [] → ⊥) → LoopBeside machine begins kept settled told_settled (taken + 1) rows1 ended1 tried_old tried1 ticks_old ticks1
        loop-more holds running = record {
          so_far = runs-more machine begins now told taken loop.so_far (process_number process) stepped settled told_stepped told_settled chosen steps quiet settles holds running;
          beside = more;
        }

        pub loop-ticks-more : TicksTried tried_old tried1 ticks_old ticks1
        loop-ticks-more = ticks-tried lead machine begins kept _ (taken + 1) rows1 ended1 tried_old tried1 ticks_old ticks1 more

        pub loop-one : told_settled.steps ≡ taken + 1
        loop-one = one-more machine begins now told taken loop.so_far (process_number process) stepped settled told_stepped told_settled chosen steps quiet settles

-- Blocks without steps of processes

-- no block but one that a lane begins is said to have one
pub no_lane-one : (state : State) (steps : ℕ) → first_lane state ≡ None → IsSome (first_lane state) → steps ≡ 1
no_lane-one state steps none some = let not : false ≡ true = subst IsSome none some in absurd (cc)

nothing-more : {A : Type 0} (xs : List A) → drop (length xs) xs ≡ []
nothing-more xs = behind-old xs xs [] (sym (append-nil xs))

pub no-ticks : (tried : List TriedStep) (ticks : ℕ) → TicksTried tried tried ticks ticks
no-ticks tried ticks = record {
  more = sym (append-nil tried) ∙ ap (λ (l : List TriedStep). tried ++ l) (sym (nothing-more tried));
  ticks = ap (λ (l : List TriedStep). raised_by (length l) ticks) (sym (nothing-more tried));
}

-- of a lane
pub lane-beside : (machine : Machine) (begins : State) (process most : ℕ) (kept : GoodPhase) (end : BlockEnd) (new : Runner) (told : BlockTold) (ended : List ProcId) (tried : List TriedStep) →
    ended ≡ [] → LaneRan machine begins process most end new told → RanBeside machine begins most kept end new told ended (drop (length tried) tried)
lane-beside machine begins process most kept end new told ended tried none ran = record {
  goes = ran.goes;
  keeps = λ runs numbers tells.
      subst (Keeps runs numbers machine kept.phase begins [] ran.goes.events) (sym (nothing-more tried)) (keeps-none runs numbers machine kept.phase begins [] ran.goes.events);
  ended_are = λ e p. ap (λ s. length (runs_of s)) (ran.no_steps p) ∙ sym (ap (λ (l : List ProcId). times_of p (map process_number l)) none);
}

-- or none at all
pub idle-beside : (machine : Machine) (begins : State) (most : ℕ) (kept : GoodPhase) (runner : Runner) (told : BlockTold) (ended : List ProcId) (tried : List TriedStep) →
    IsWhole runner → machine_of runner ≡ machine → state_of runner ≡ begins → IsUntold told → IsIdle begins → RanBeside machine begins most kept Idle runner told ended (drop (length tried) tried)
idle-beside machine begins most kept runner told ended tried whole one same untold idle = record {
  goes = record {
    events = [];
    in_order = tt;
    whole = whole;
    machine_is = one;
    state_is = same;
    tells = tells-nothing machine begins told untold;
    ends = (refl, idle);
  };
  keeps = λ runs numbers tells. subst (Keeps runs numbers machine kept.phase begins [] []) (sym (nothing-more tried)) tt;
  ended_are = λ e. absurd (cc);
}
