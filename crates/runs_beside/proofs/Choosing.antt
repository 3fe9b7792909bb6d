-- Which run of the good machine goes beside a process's present run.
use Rattle.std.proofs.Common.{◌≡◌, ℕ, ◌+◌, ◌<◌, Bool, true, false, List, [], ◌∷◌, ◌++◌, length, refl, sym, ap, subst, ◌∙◌, arith}
use Rattle.std.specs.Prelude.{Option, Some, None, IfSome, MatchOption, slice_get}
use Rattle.std.specs.Option.{option_map}
use Rattle.std.proofs.lemmas.Bool.{true≢false}
use Rattle.std.proofs.lemmas.List.{length_push}
use Rattle.v_design.specs.Designs.{FlatDesign, FlatProcess, Machine, good_machine}
use Rattle.v_design.specs.Grades.{Phase}
use Rattle.v_design.specs.OwnSteps.{ProcessRun, process_runs, seen_step}
use Rattle.v_design.specs.Places.{PlacesDiffer}
use Rattle.v_design.specs.Processes.{Action, ReadsObject, WritesObject, AppendsUpdate, TouchesNothing}
use Rattle.v_design.specs.States.{ProcessState, Step, found_or, idle_process, process_at, step_of}
use Rattle.v_design.specs.Trees.{Statement, Null}
use Rattle.v_design.specs.Plain.{process_of}
use Rattle.process_code.specs.Points.{activity_of}
use Rattle.process_code.specs.RunEnds.{act_by, act_of}
use Rattle.process_code.specs.StatesOf.{IsStateOf}
use Rattle.process_code.specs.declared.code.Code.{Code}
use Rattle.process_code.specs.declared.state.ProcState.{ProcState}
use Rattle.process_code.specs.declared.state.RunEnd.{RunEnd}
use Rattle.process_code.specs.declared.state.StepAct.{StepAct}
use Rattle.process_code.specs.declared.state.StepTaken.{StepTaken}
use Rattle.run_ends.specs.RunEnds.{IsCodeAt}
use Rattle.copy_laws.specs.OwnRuns.{EventsTakeNoTime, RunsGrow, StepsGrow, is_going, last_goes_on}
use Rattle.copy_laws.specs.SharedRuns.{PhaseRunsAreRuns}
use Rattle.copy_overlay.specs.Statuses.{AllCount}
use Rattle.present_runs.specs.PresentRuns.{PresentRunsLead}
use Rattle.machine_laws.specs.SlotLoop.{Moment, ComesTo, present_phase}
use Rattle.own_counts.specs.Counts.{OwnLast, OwnStepsCount, behind_event}
use Rattle.machine_events.specs.PartLaws.{table-count}
use Rattle.net_state.specs.declared.state.NetState.{NetState}
use Rattle.net_state.specs.States.{values_in}
use Rattle.process_table.specs.Arranged.{IsKept, table_of}
use Rattle.process_table.specs.Deeds.{read_of}
use Rattle.process_table.specs.Known.{IsKnownStep, read_told}
use Rattle.process_table.specs.Tables.{process_in}
use Rattle.process_table.specs.Waited.{body_of}
use Rattle.process_table.specs.declared.table.ProcessTable.{ProcessTable}
use Rattle.window_runs.specs.OfPhase.{TellsGoodRun}
use Rattle.window_runs.specs.OfSlot.{TellsSlot, run_in}
use Rattle.known_steps.specs.Known.{IsKnownAt, PartsAt}
use Rattle.known_steps.specs.declared.known.KnownStep.{KnownStep}
use Rattle.known_steps.specs.Beside.{FollowsSoFar, KnownStepsGoOn, run_behind}
use Rattle.runs_beside.specs.Beside.{GoesBeside, FollowsOn, IsAloneHere, IsBesideHere, IsKnownHere, IsNextHere, IsOwnHere, RunHere, counted_at, followed_at}
use Rattle.runs_beside.specs.Choice.{BeginsAlike, BeginsOtherwise, HasNone, Differs}
use Rattle.runs_beside.specs.Runs.{IsRunSoFar, Rests, Follows, Owns, run_at, runs_in}
use Rattle.runs_beside.specs.declared.beside.RunsBeside.{RunsBeside}
use Rattle.runs_beside.specs.declared.run.RunSoFar.{RunSoFar}
use Rattle.runs_beside.proofs.Grown.{going-some, own-last}
use Rattle.runs_beside.proofs.Kept.{holds-at}
use Rattle.runs_beside.proofs.Next.{IsFound, behind-new, behind-on, found-here, in-run-on, new_run, none-here, own-behind}

-- The laws that serve
pub record Serve : Type 0 where
  pub known : KnownStepsGoOn
  pub steps : StepsGrow
  pub runs : RunsGrow
  pub texts : PhaseRunsAreRuns
  pub counts : OwnStepsCount
  pub time : EventsTakeNoTime

-- what the good machine's run of a number is told to be, wherever the slot was
abbrev pub TellsNumber : RunsBeside → ℕ → ℕ → ℕ → Option RunEnd → Type 0
TellsNumber kept phase process number found =
    (design : FlatDesign) (time : ℕ) (phases : List Phase) → TellsSlot design time phases kept.goods →
    TellsGoodRun design time process (run_in (good_machine design) (slice_get phases phase) process number) found

-- the code of a process of a table
abbrev pub HasCode : ProcessTable → ℕ → Type 0
HasCode table process = (code : Code) × IsCodeAt (table_of table).design process code

-- the body of a process that is there
abbrev body_or : Option FlatProcess → Statement
body_or o = (found_or (record { always = false; body = Null; place = record { line = 0; column = 0 } }) o).body

module _ (serve : Serve) (machine : Machine) (others : List Phase) (at : Moment) (ticked : ℕ) (kept : RunsBeside) (goes : GoesBeside machine others at ticked kept) (table : ProcessTable)
    (phase process : ℕ) (here : IsNextHere machine at table phase process) (run : RunSoFar) (is_run : run ≡ run_at phase kept.runs.items process)
  where
    abbrev pub good : Machine
    good = good_machine machine.design

    abbrev pub other : Option Phase
    other = slice_get others (length at.ended)

    abbrev pub runs : List ProcessRun
    runs = process_runs machine process (present_phase at)

    abbrev pub behind : List ProcessRun
    behind = process_runs machine process (behind_event (present_phase at) (Step process))

    pub so-far : IsRunSoFar (followed_at machine others at process) (counted_at machine others at process) runs run
    so-far =
        subst (IsRunSoFar (followed_at machine others at process) (counted_at machine others at process) runs)
        (ap (λ (n : ℕ). run_at n kept.runs.items process) (sym here.phase_is) ∙ sym is_run) (goes.each process here.there)

    told-here : (found : Option RunEnd) → TellsNumber kept phase process run.number found → TellsGoodRun machine.design at.begins.time process (run_in good other process run.number) found
    told-here found tells =
        subst (λ (n : ℕ). TellsGoodRun machine.design at.begins.time process (run_in good (slice_get others n) process run.number) found) here.phase_is
        (tells machine.design at.begins.time others goes.tells)

    timed : (one : Phase) → other ≡ Some one → one.begins.time ≡ at.begins.time
    timed one is = holds-at (λ (p : Phase). p.begins.time ≡ at.begins.time) others (length at.ended) one goes.tells.at_time is

    code-here : (code : Code) → IsCodeAt (table_of table).design process code → IsCodeAt machine.design process code
    code-here code is = subst (λ (d : FlatDesign). IsCodeAt d process code) here.table_is.design is

    -- what the process does
    does-here : (process_in (table_of table) process).activity ≡ (process_at at.state process).activity
    does-here = ap (λ (l : List ProcessState). (found_or idle_process (slice_get l process)).activity) here.table_is.processes

    found-run : HasCode table process → (found : RunEnd) → TellsNumber kept phase process run.number (Some found) → IsFound machine at process run.number other found
    found-run coded found tells =
        found-here serve.texts machine at here.comes process run.number other coded.0 (code-here coded.0 coded.1) timed found (told-here (Some found) tells)

    -- all steps of the run count
    counts : (before : List ProcessRun) (own : ProcessRun) → behind ≡ before ++ own ∷ [] → length before ≡ run.number → AllCount (slice_get (followed_at machine others at process) run.number) own →
        OwnLast (counted_at machine others at process) behind
    counts before own are number all = own-behind serve.counts.last serve.known.alone good process at.turn other run.number before own behind are number all

    counts-none : HasCode table process → (before : List ProcessRun) (own : ProcessRun) → behind ≡ before ++ own ∷ [] → length before ≡ run.number → TellsNumber kept phase process run.number None →
        OwnLast (counted_at machine others at process) behind
    counts-none coded before own are number tells =
        counts before own are number
        (subst (λ (g : Option ProcessRun). AllCount g own)
        (sym (none-here machine.design at.begins.time process run.number good other coded.0 (code-here coded.0 coded.1) (told-here None tells))) (serve.known.alone own))

    -- A run that is to begin

    rests : IsRunSoFar (followed_at machine others at process) (counted_at machine others at process) runs run → run.taken ≡ 0 → (last_goes_on runs ≡ false) × (length runs ≡ run.number)
    rests (Rests none number taken) zero_is = (none, number)
    rests (Follows before own are going number taken follows goes_so) zero_is = absurd (going-some own.steps going (taken ∙ zero_is))
    rests (Owns before own are going number taken follows own_so) zero_is = absurd (going-some own.steps going (taken ∙ zero_is))

    module _ (coded : HasCode table process) (zero_is : run.taken ≡ 0) where
      behind-first : behind ≡ runs ++ run_behind machine at.state process (new_run at.state process) ∷ []
      behind-first = behind-new serve.steps serve.runs machine at here.comes process (rests so-far zero_is).0

      pub begin-none : TellsNumber kept phase process run.number None → OwnLast (counted_at machine others at process) behind
      begin-none tells = counts-none coded runs (run_behind machine at.state process (new_run at.state process)) behind-first (rests so-far zero_is).1 tells

      -- it begins otherwise
      places : (code : Code) → IsCodeAt machine.design process code → PlacesDiffer (body_of machine.design process)
      places code is =
          subst (λ (o : Option FlatProcess). PlacesDiffer (body_or o)) (sym is.process_is)
          (holds-at (λ (p : FlatProcess). PlacesDiffer p.body) machine.design.processes process (process_of code.process.now) here.rules.places is.process_is)

      begin-differs : (found : RunEnd) (f : IsFound machine at process run.number other found) → BeginsOtherwise table process found →
          AllCount (Some f.good) (run_behind machine at.state process (new_run at.state process))
      begin-differs found f (HasNone none) = serve.known.stepless machine at.state process (new_run at.state process) f.good found f.tells none
      begin-differs found f (Differs one there differs) =
          serve.known.stays (Some f.good) (new_run at.state process) (seen_step machine at.state process ∷ [])
          (serve.known.other f.good (new_run at.state process)
          (λ same.
          let code = coded.0 in
          let is_code = code-here coded.0 coded.1 in
          let begins = serve.known.first machine at.state process f.good found one f.tells there code is_code in
          differs code coded.1 (subst (λ (d : FlatDesign). PlacesDiffer (body_of d process)) (sym here.table_is.design) (places code is_code)) begins.1 (does-here ∙ sym same ∙ sym begins.0)))

      pub begin-otherwise : (found : RunEnd) → TellsNumber kept phase process run.number (Some found) → BeginsOtherwise table process found → OwnLast (counted_at machine others at process) behind
      begin-otherwise found tells otherwise =
          let f = found-run coded found tells in
          counts runs (run_behind machine at.state process (new_run at.state process)) behind-first (rests so-far zero_is).1
          (subst (λ (g : Option ProcessRun). AllCount g (run_behind machine at.state process (new_run at.state process))) (sym f.is) (begin-differs found f otherwise))

      pub begin-alike : (found : RunEnd) → TellsNumber kept phase process run.number (Some found) → BeginsAlike table process found → RunHere machine others at process run found
      begin-alike found tells alike =
          let f = found-run coded found tells in
          let begins = serve.known.first machine at.state process f.good found alike.one f.tells alike.at coded.0 (code-here coded.0 coded.1) in
          record {
            good = f.good;
            good_is = f.is;
            tells = f.tells;
            before = runs;
            run = new_run at.state process;
            in_run = refl;
            behind = behind-first;
            number = (rests so-far zero_is).1;
            taken = sym zero_is;
            follows = record { one = f.good; is = refl; begins = sym begins.0 ∙ sym (alike.same coded.0 coded.1) ∙ does-here; later = f.good.steps; steps = refl };
          }

    -- A run that goes on

    module _ (leads : PresentRunsLead) (amid : 0 < run.taken) where
      own-on : IsRunSoFar (followed_at machine others at process) (counted_at machine others at process) runs run → run.follows ≡ false → OwnLast (counted_at machine others at process) behind
      own-on (Rests none number taken) off = absurd (omega (arith, amid, taken))
      own-on (Follows before own are going number taken follows goes_so) off = absurd (true≢false (sym follows ∙ off))
      own-on (Owns before own are going number taken follows own_so) off =
          let is : behind ≡ before ++ run_behind machine at.state process own ∷ [] = behind-on serve.steps serve.runs machine at here.comes process before own are going in
          subst (OwnLast (counted_at machine others at process)) (sym is)
          (serve.counts.last (counted_at machine others at process) before (run_behind machine at.state process own)
          (serve.known.stays (slice_get (counted_at machine others at process) (length before)) own (seen_step machine at.state process ∷ [])
          (own-last (counted_at machine others at process) before own (subst (OwnLast (counted_at machine others at process)) are own_so))))

      pub goes-own : run.follows ≡ false → OwnLast (counted_at machine others at process) behind
      goes-own off = own-on so-far off

      follow-none : HasCode table process → IsRunSoFar (followed_at machine others at process) (counted_at machine others at process) runs run → run.follows ≡ true →
          TellsNumber kept phase process run.number None → OwnLast (counted_at machine others at process) behind
      follow-none coded (Rests none number taken) on tells = absurd (omega (arith, amid, taken))
      follow-none coded (Owns before own are going number taken follows own_so) on tells = absurd (true≢false (sym on ∙ follows))
      follow-none coded (Follows before own are going number taken follows goes_so) on tells =
          counts-none coded before (run_behind machine at.state process own) (behind-on serve.steps serve.runs machine at here.comes process before own are going) number tells

      pub goes-none : HasCode table process → run.follows ≡ true → TellsNumber kept phase process run.number None → OwnLast (counted_at machine others at process) behind
      goes-none coded on tells = follow-none coded so-far on tells

      follow-some : HasCode table process → IsRunSoFar (followed_at machine others at process) (counted_at machine others at process) runs run → run.follows ≡ true → (found : RunEnd) →
          TellsNumber kept phase process run.number (Some found) → RunHere machine others at process run found
      follow-some coded (Rests none number taken) on found tells = absurd (omega (arith, amid, taken))
      follow-some coded (Owns before own are going number taken follows own_so) on found tells = absurd (true≢false (sym on ∙ follows))
      follow-some coded (Follows before own are going number taken follows goes_so) on found tells =
          let f = found-run coded found tells in
          record {
            good = f.good;
            good_is = f.is;
            tells = f.tells;
            before = before;
            run = own;
            in_run = in-run-on leads machine at here.comes process before own are going;
            behind = behind-on serve.steps serve.runs machine at here.comes process before own are going;
            number = number;
            taken = taken;
            follows = subst (λ (g : Option ProcessRun). FollowsSoFar g own) f.is goes_so;
          }

      pub goes-on : HasCode table process → run.follows ≡ true → (found : RunEnd) → TellsNumber kept phase process run.number (Some found) → RunHere machine others at process run found
      goes-on coded on found tells = follow-some coded so-far on found tells

    -- Behind the step

    pub parts-own : (found : RunEnd) (r : RunHere machine others at process run found) → PartsAt at.state.values found run.taken → OwnLast (counted_at machine others at process) behind
    parts-own found r parts =
        counts r.before (run_behind machine at.state process r.run) r.behind r.number
        (subst (λ (g : Option ProcessRun). AllCount g (run_behind machine at.state process r.run)) (sym r.good_is)
        (serve.known.parts machine at.state process r.run r.good found r.tells r.in_run r.follows (subst (PartsAt at.state.values found) (sym r.taken) parts)))

    pub known-here : (found : RunEnd) (r : RunHere machine others at process run found) (line : ℕ) (act : StepAct) (next : ProcState) → IsKnownAt at.state.values found run.taken line act next →
        IsKnownStep machine at.state process line act next × ((code : Code) → IsCodeAt machine.design process code → IsStateOf code next) × FollowsOn (followed_at machine others at process) behind run
    known-here found r line act next is =
        let k = serve.known.known machine at.state process r.run r.good found line act next r.tells r.in_run r.follows
        (subst (λ (n : ℕ). IsKnownAt at.state.values found n line act next) (sym r.taken) is) in (
          k.0,
          k.1,
          record {
            before = r.before;
            run = run_behind machine at.state process r.run;
            are = r.behind;
            number = r.number;
            taken = length_push r.run.steps (seen_step machine at.state process) ∙ ap (λ (n : ℕ). n + 1) r.taken;
            follows = subst (λ (g : Option ProcessRun). FollowsSoFar g (run_behind machine at.state process r.run)) (sym r.good_is) k.2;
          },
        )

-- What is read is there

read-of : (time : ℕ) (action : Action) → read_told (act_of time action) ≡ read_of action
read-of time (ReadsObject object) = refl
read-of time (WritesObject update) = refl
read-of time (AppendsUpdate delay update) = refl
read-of time TouchesNothing = refl

pub reads-there : (serve : Serve) (machine : Machine) (others : List Phase) (at : Moment) (process : ℕ) (run : RunSoFar) (found : RunEnd) (r : RunHere machine others at process run found) (limit objects : ℕ) →
    limit ≡ objects → IfSome (read_of (step_of machine at.state process).action) (λ object. object < objects) → (one : StepTaken) → slice_get found.steps run.taken ≡ Some one →
    IfSome (read_told (act_by one.act)) (λ object. object < limit)
reads-there serve machine others at process run found r limit objects same below one there =
    subst (λ (n : ℕ). IfSome (read_told (act_by one.act)) (λ object. object < n)) (sym same)
    (subst (λ (o : Option ℕ). IfSome o (λ object. object < objects))
    (sym (ap read_told (serve.known.acts machine at.state process r.run r.good found one r.tells r.in_run r.follows (subst (λ (n : ℕ). slice_get found.steps n ≡ Some one) (sym r.taken) there))
    ∙ read-of at.state.time (step_of machine at.state process).action)) below)

-- there are as many processes as the design has
pub low-here : (machine : Machine) (at : Moment) (table : ProcessTable) (phase process : ℕ) → IsKept table → IsNextHere machine at table phase process → process < length (table_of table).processes
low-here machine at table phase process arranged here =
    subst (λ (n : ℕ). process < n) (sym (table-count table arranged ∙ ap (λ (d : FlatDesign). length d.processes) here.table_is.design)) here.there

-- whichever run is found
pub follow-found : {A : Type 0} (now : A → RunEnd) (serve : Serve) (leads : PresentRunsLead) (kept : RunsBeside) (table : ProcessTable) (phase process : ℕ) (run : RunSoFar) →
    run ≡ run_at phase kept.runs.items process → 0 < run.taken → HasCode table process → run.follows ≡ true → (found : Option A) →
    TellsNumber kept phase process run.number (option_map now found) → MatchOption found (IsAloneHere kept table phase process) (λ r. IsBesideHere kept table phase process run (now r))
follow-found now serve leads kept table phase process run is_run amid coded on None tells = λ machine others at ticked goes here.
    goes-none serve machine others at ticked kept goes table phase process here run is_run leads amid coded on tells
follow-found now serve leads kept table phase process run is_run amid coded on (Some r) tells = λ machine others at ticked goes here.
    goes-on serve machine others at ticked kept goes table phase process here run is_run leads amid coded on (now r) tells

-- whether its step is known or not
pub match-known : (serve : Serve) (kept : RunsBeside) (table : ProcessTable) (nets : NetState) (phase process : ℕ) (run : RunSoFar) → run ≡ run_at phase kept.runs.items process →
    (found : RunEnd) → IsBesideHere kept table phase process run found → (result : Option KnownStep) →
    MatchOption result (PartsAt (values_in nets) found run.taken) (λ known. IsKnownAt (values_in nets) found run.taken known.line known.act known.next.now) →
    MatchOption result (IsOwnHere kept table nets phase process) (λ known. IsKnownHere kept table nets phase process run known)
match-known serve kept table nets phase process run is_run found beside None parts = λ machine others at ticked goes here values.
    parts-own serve machine others at ticked kept goes table phase process here run is_run found (beside machine others at ticked goes here)
    (subst (λ v. PartsAt v found run.taken) (sym values) parts)
match-known serve kept table nets phase process run is_run found beside (Some known) is = λ machine others at ticked goes here values.
    known-here serve machine others at ticked kept goes table phase process here run is_run found (beside machine others at ticked goes here) known.line known.act known.next.now
    (subst (λ v. IsKnownAt v found run.taken known.line known.act known.next.now) (sym values) is)
