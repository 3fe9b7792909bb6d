-- The next step of a process, as a run of the good machine tells it.
use Rattle.std.proofs.Common.{◌≡◌, ◌∙◌, ℕ, zero, suc, ◌+◌, ◌<◌, Bool, true, false, List, [], ◌∷◌, ◌++◌, length, refl, sym, ap, subst, arith}
use Rattle.std.specs.Prelude.{Option, Some, None, IfSome, MatchOption, is_some, slice_get}
use Rattle.std.specs.Option.{option_map}
use Rattle.vf_base.specs.Lists.{AllHold}
use Rattle.v_design.specs.Designs.{Machine}
use Rattle.v_design.specs.OwnSteps.{ProcessRun, seen_step}
use Rattle.v_design.specs.States.{State, found_or, source_at, step_of}
use Rattle.process_code.specs.RunEnds.{ActTold, RunTold, act_by, told_by}
use Rattle.process_code.specs.declared.code.Code.{Code}
use Rattle.process_code.specs.declared.state.RunEnd.{RunEnd}
use Rattle.process_code.specs.declared.state.StepTaken.{StepTaken}
use Rattle.process_table.specs.Deeds.{read_of}
use Rattle.process_table.specs.Known.{read_told}
use Rattle.process_table.proofs.Known.{told-action}
use Rattle.run_ends.specs.RunEnds.{IsCodeAt, told_of}
use Rattle.copy_laws.specs.SharedRuns.{IsRunFrom}
use Rattle.copy_overlay.specs.Statuses.{AllCount}
use Rattle.known_steps.specs.Beside.{FollowsSoFar, KnownStepsGoOn, TellsRunHere, run_behind}
use Rattle.known_steps.specs.Known.{IsKnownAt, PartsAt}
use Rattle.known_steps.specs.declared.known.KnownStep.{KnownStep}
use Rattle.window_runs.specs.OfPhase.{TellsGoodRun}
use Rattle.block_runner.specs.declared.goods.GoodPhase.{GoodPhase}
use Rattle.block_runner.specs.declared.rows.RunBeside.{RunBeside}
use Rattle.block_runner.specs.Beside.{TellsBeside}
use Rattle.block_runner.specs.Next.{FollowsAt, GoesSo, IsAtRun, IsBesideRun, IsKnownHere, TellsNext, TookBeside}

-- In a run that was found

module _ (laws : KnownStepsGoOn) (machine : Machine) (state : State) (p : ℕ) (found : RunEnd) (place : ℕ) (good run : ProcessRun) (is : IsBesideRun machine state p good found place run)
    (follows : FollowsSoFar (Some good) run)
  where
    -- what the step of the place reads is what the process reads next
    pub read-there : (one : StepTaken) (limit : ℕ) → slice_get found.steps place ≡ Some one → IfSome (read_of (step_of machine state p).action) (λ (object : ℕ). object < limit) →
        IfSome (read_told (act_by one.act)) (λ (object : ℕ). object < limit)
    read-there one limit there below =
        let at : slice_get found.steps (length run.steps) ≡ Some one = ap (slice_get found.steps) (sym is.place_is) ∙ there in
        subst (λ (read : Option ℕ). IfSome read (λ (object : ℕ). object < limit))
        (sym (ap read_told (laws.acts machine state p run good found one is.tells is.in_run follows at) ∙ told-action state.time (step_of machine state p).action)) below

    -- it is known, or the run is own
    pub tells-next : (result : Option KnownStep) → MatchOption result (PartsAt state.values found place) (λ known. IsKnownAt state.values found place known.line known.act known.next.now) →
        TellsNext machine state p (Some good) run result
    tells-next None parts =
        laws.parts machine state p run good found is.tells is.in_run follows (subst (λ (n : ℕ). PartsAt state.values found n) is.place_is parts)
    tells-next (Some known) at =
        let law = laws.known machine state p run good found known.line known.act known.next.now is.tells is.in_run follows
        (subst (λ (n : ℕ). IsKnownAt state.values found n known.line known.act known.next.now) is.place_is at) in
        record { known = law.0; stands = law.1; follows = law.2 }

-- a known step is one that the process takes next
pub known-here : (machine : Machine) (state : State) (p : ℕ) (good : Option ProcessRun) (run : ProcessRun) (known : Option KnownStep) → TellsNext machine state p good run known →
    IfSome known (IsKnownHere machine state p)
known-here machine state p good run None next = tt
known-here machine state p good run (Some known) next = (next.known, next.stands)

-- so the step is taken
pub took-told : (machine : Machine) (state : State) (p : ℕ) (good : Option ProcessRun) (run : ProcessRun) (known : Option KnownStep) → TellsNext machine state p good run known →
    (follows : Bool) → follows ≡ is_some known → TookBeside machine state p good run follows
took-told machine state p good run None next follows e = subst (TookBeside machine state p good run) (sym e) next
took-told machine state p good run (Some known) next follows e = subst (TookBeside machine state p good run) (sym e) next.follows

-- Among the runs of a phase

hold-at : {A : Type 0} (P : A → Type 0) (xs : List A) (n : ℕ) (x : A) → AllHold P xs → slice_get xs n ≡ Some x → P x
hold-at P [] n x all is = absurd (cc)
hold-at P (y ∷ xs) zero x all is = subst P (let same : y ≡ x = cc in same) all.0
hold-at P (y ∷ xs) (suc n) x all is = hold-at P xs n x all.1 is

-- all steps of the run are own already
pub own-next : (laws : KnownStepsGoOn) (machine : Machine) (state : State) (p : ℕ) (good : Option ProcessRun) (going : Option RunBeside) (run : ProcessRun) → FollowsAt going None →
    IsAtRun machine state p good going run → AllCount good (run_behind machine state p run)
own-next laws machine state p good going run own at =
    let goes : GoesSo good (Some own.0) run = subst (λ (g : Option RunBeside). GoesSo good g run) own.1 at.goes in
    laws.stays good run (seen_step machine state p ∷ []) (goes.3 own.2)

module _ (laws : KnownStepsGoOn) (machine : Machine) (state : State) (p number : ℕ) (kept : GoodPhase) (runs : ℕ → List ProcessRun) (numbers : ℕ → ℕ) (tells : TellsBeside machine state runs numbers kept)
    (there : p < length machine.design.processes) (code : Code) (at : IsCodeAt machine.design p code)
  where
    no-run : (good : Option ProcessRun) → None ≡ option_map (told_of state.time) good → good ≡ None
    no-run None e = refl
    no-run (Some one) e = absurd (cc)

    a-run : (good : Option ProcessRun) (told : RunTold) → Some told ≡ option_map (told_of state.time) good → (one : ProcessRun) × (good ≡ Some one)
    a-run None told e = absurd (cc)
    a-run (Some one) told e = (one, refl)

    -- the good machine has no run of the number
    pub none-next : (run : ProcessRun) → TellsGoodRun machine.design state.time p (slice_get (runs p) number) None → AllCount (slice_get (runs p) number) (run_behind machine state p run)
    none-next run told =
        subst (λ (good : Option ProcessRun). AllCount good (run_behind machine state p run)) (sym (no-run (slice_get (runs p) number) (told.told code at))) (laws.alone (run_behind machine state p run))

    -- or this one
    module _ (found : RunEnd) (told : TellsGoodRun machine.design state.time p (slice_get (runs p) number) (Some found)) where
      pub one-found : (one : ProcessRun) × (slice_get (runs p) number ≡ Some one)
      one-found = a-run (slice_get (runs p) number) (told_by code found) (told.told code at)

      some-told : (one other : RunTold) → Some one ≡ Some other → one ≡ other
      some-told one other e = cc

      pub found-beside : (place : ℕ) (going : Option RunBeside) (run : ProcessRun) → FollowsAt going (Some place) → IsAtRun machine state p (slice_get (runs p) number) going run →
          IsBesideRun machine state p one-found.0 found place run
      found-beside place going run follows is = record {
        tells = record {
          code = code;
          is_code = at;
          told = λ other at_other. some-told (told_by other found) (told_of state.time one-found.0) (told.told other at_other ∙ ap (option_map (told_of state.time)) one-found.1);
          stand = λ other at_other. told.stand other found at_other refl;
          of_text = hold-at (IsRunFrom (source_at machine p) state.time) (runs p) number one-found.0 (tells.each p there) one-found.1;
        };
        in_run = is.in_run;
        place_is = place-at place going follows is.goes;
        so_far = λ some. so-far place going follows is.goes some;
      }
        where
          place-at : (place : ℕ) (going : Option RunBeside) → FollowsAt going (Some place) → GoesSo (slice_get (runs p) number) going run → place ≡ length run.steps
          place-at place None follows goes = follows ∙ sym (ap length goes)
          place-at place (Some one) follows goes = follows.0 ∙ goes.0

          so-far : (place : ℕ) (going : Option RunBeside) → FollowsAt going (Some place) → GoesSo (slice_get (runs p) number) going run → 0 < place → FollowsSoFar (Some one-found.0) run
          so-far place None follows goes some = absurd (omega (arith, some, follows))
          so-far place (Some one) follows goes some = subst (λ (good : Option ProcessRun). FollowsSoFar good run) one-found.1 (goes.2 follows.1)

      pub found-next : (run : ProcessRun) (result : Option KnownStep) → TellsNext machine state p (Some one-found.0) run result → TellsNext machine state p (slice_get (runs p) number) run result
      found-next run result next = subst (λ (good : Option ProcessRun). TellsNext machine state p good run result) (sym one-found.1) next
