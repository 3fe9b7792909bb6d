-- A process has taken the next step, and the slot goes on.
use Rattle.std.proofs.Common.{◌≡◌, ℕ, ◌+◌, ◌<◌, ◌≤◌, ◌^◌, Bool, true, false, List, [], ◌∷◌, ◌++◌, length, refl, sym, ap, subst, ◌∙◌, inl, inr, arith}
use Rattle.std.specs.Prelude.{Option, Some, None, slice_get, slice_set}
use Rattle.std.proofs.lemmas.Bool.{cases_eq, ne_eqb}
use Rattle.std.proofs.lemmas.List.{length_push}
use Rattle.std.proofs.lemmas.Option.{same_Some}
use Rattle.vf_base.specs.Base.{process_number}
use Rattle.v_design.specs.Designs.{FlatDesign, FlatProcess, Machine, good_machine}
use Rattle.v_design.specs.Grades.{Phase}
use Rattle.v_design.specs.OwnSteps.{ProcessRun, StepSeen, process_runs, seen_step}
use Rattle.v_design.specs.Processes.{Activity, Ready, Waiting, Asleep, Postponed, Done, ProcessStep}
use Rattle.v_design.specs.Runs.{happened, most_steps}
use Rattle.v_design.specs.States.{State, ProcessState, Step, activity_step, found_or, idle_process, is_ready, next_activity, process_at, source_at, step_of}
use Rattle.v_design.specs.Trees.{Null}
use Rattle.process_code.specs.Points.{activity_of}
use Rattle.process_code.specs.RunEnds.{act_by, act_of}
use Rattle.process_code.specs.StatesOf.{IsStateOf}
use Rattle.process_code.specs.declared.code.Code.{Code}
use Rattle.process_code.specs.declared.state.ProcState.{ProcState}
use Rattle.process_code.specs.declared.state.StepAct.{StepAct}
use Rattle.run_ends.specs.RunEnds.{IsCodeAt}
use Rattle.copy_laws.specs.OwnRuns.{grow, grown, is_going, last_goes_on}
use Rattle.copy_laws.specs.SharedRuns.{step_from}
use Rattle.machine_laws.specs.SlotLoop.{Moment, ComesTo, after_event, present_phase}
use Rattle.own_counts.specs.Counts.{OwnLast, behind_event}
use Rattle.good_runs.specs.Kept.{KeptAt, StepPlace, next_place, place_of}
use Rattle.good_runs.specs.declared.tried.TriedStep.{TriedStep}
use Rattle.own_slots.specs.Again.{ComesAgain, IsAgain, IsNextPlace, SecondRuns}
use Rattle.process_table.specs.Arranged.{table_of}
use Rattle.process_table.specs.Known.{IsKnownStep}
use Rattle.process_table.specs.Tables.{IsTableOf, TableState}
use Rattle.process_table.specs.declared.table.ProcessTable.{ProcessTable}
use Rattle.window_runs.specs.OfSlot.{TellsSlot}
use Rattle.known_steps.specs.Beside.{run_behind}
use Rattle.runs_beside.specs.Beside.{FollowsOn, GoesBeside, HasPlace, IsNextHere, counted_at, followed_at}
use Rattle.runs_beside.specs.Choice.{ComesLater, ComesNext}
use Rattle.runs_beside.specs.Runs.{IsRunSoFar, Rests, Follows, Owns, behind_step, kept_in, run_at}
use Rattle.runs_beside.specs.declared.beside.RunsBeside.{RunsBeside}
use Rattle.runs_beside.specs.declared.run.RunSoFar.{RunSoFar}
use Rattle.runs_beside.proofs.Choosing.{Serve, so-far}
use Rattle.runs_beside.proofs.Grown.{going-push, last-going, place-new, place-on}
use Rattle.runs_beside.proofs.Kept.{kept-now, kept-phase, set-here, set-length, set-there, step-phase}
use Rattle.runs_beside.proofs.Next.{behind-new, behind-on, new_run}
use Rattle.runs_beside.proofs.Phases.{runs-grow, runs-same, step_more}

-- A step is known of every state with the same processes and values

-- the text of a process
abbrev text_in : FlatDesign → ℕ → FlatProcess
text_in design process = found_or (record { always = false; body = Null; place = record { line = 0; column = 0 } }) (slice_get design.processes process)

text-step : (machine : Machine) (state : State) (process : ℕ) (activity : Activity) → activity_step machine state process activity ≡ step_from (text_in machine.design process) state.time activity
text-step machine state process (Ready tasks operands) = refl
text-step machine state process (Waiting place entries tasks) = refl
text-step machine state process (Asleep wakes tasks) = refl
text-step machine state process (Postponed tasks) = refl
text-step machine state process Done = refl

-- the step by a table
table-step : (machine : Machine) (state : State) (process : ℕ) (table : TableState) → IsTableOf machine state table →
    step_of machine state process ≡ step_from (text_in table.design process) table.time (found_or idle_process (slice_get table.processes process)).activity
table-step machine state process table of =
    text-step machine state process (process_at state process).activity ∙ ap (λ (d : FlatDesign). step_from (text_in d process) state.time (process_at state process).activity) (sym of.design)
    ∙ ap (λ (t : ℕ). step_from (text_in table.design process) t (process_at state process).activity) (sym of.time)
    ∙ ap (λ (l : List ProcessState). step_from (text_in table.design process) table.time (found_or idle_process (slice_get l process)).activity) (sym of.processes)

pub known-moves : (one other : Machine) (first state : State) (process : ℕ) (table : TableState) → IsTableOf one first table → IsTableOf other state table → state.values ≡ first.values →
    (line : ℕ) (act : StepAct) (next : ProcState) → IsKnownStep one first process line act next → IsKnownStep other state process line act next
known-moves one other first state process table of_one of_other values line act next known =
    let same : step_of one first process ≡ step_of other state process = table-step one first process table of_one ∙ sym (table-step other state process table of_other) in
    record {
      line = known.line ∙ ap (λ (s : ProcessStep). s.line) same;
      act = known.act ∙ ap (λ (s : ProcessStep). act_of first.time s.action) same ∙ ap (λ (t : ℕ). act_of t (step_of other state process).action) (sym of_one.time ∙ of_other.time);
      does = λ code at.
          known.does code (subst (λ (d : FlatDesign). IsCodeAt d process code) (sym of_other.design ∙ of_one.design) at)
          ∙ ap (λ (s : ProcessStep). next_activity first.values s.action s.next) same
          ∙ ap (λ v. next_activity v (step_of other state process).action (step_of other state process).next) (sym values);
    }

-- Whether the run goes on

last-cons : (run first : ProcessRun) (runs : List ProcessRun) → last_goes_on (run ∷ first ∷ runs) ≡ last_goes_on (first ∷ runs)
last-cons run first runs = refl

grown-ready : (going : Bool) (run : ProcessRun) (step : Activity × StepSeen) → last_goes_on (grown going run step) ≡ is_ready step.1.step.next
grown-ready true run step = going-push run.steps step.1
grown-ready false run step = refl

grow-ready : (runs : List ProcessRun) (step : Activity × StepSeen) → last_goes_on (grow runs step) ≡ is_ready step.1.step.next
grow-ready [] step = refl
grow-ready (run ∷ []) step = grown-ready (is_going run.steps) run step
grow-ready (run ∷ next ∷ []) step = over (is_going next.steps)
  where
    over : (going : Bool) → last_goes_on (run ∷ grown going next step) ≡ is_ready step.1.step.next
    over true = going-push next.steps step.1
    over false = refl
grow-ready (run ∷ next ∷ after ∷ runs) step = grow-ready (next ∷ after ∷ runs) step

module _ (serve : Serve) (machine : Machine) (others : List Phase) (at : Moment) (ticked : ℕ) (old : RunsBeside) (goes : GoesBeside machine others at ticked old) (table : ProcessTable)
    (phase process : ℕ) (here : IsNextHere machine at table phase process) (run : RunSoFar) (is_run : run ≡ run_at phase old.runs.items process)
  where
    abbrev pub good : Machine
    good = good_machine machine.design

    abbrev pub runs : List ProcessRun
    runs = process_runs machine process (present_phase at)

    abbrev pub behind : List ProcessRun
    behind = process_runs machine process (behind_event (present_phase at) (Step process))

    so_far : IsRunSoFar (followed_at machine others at process) (counted_at machine others at process) runs run
    so_far = so-far serve machine others at ticked old goes table phase process here run is_run

    -- it goes on where the process is ready
    pub ready-behind : last_goes_on behind ≡ is_ready (step_of machine at.state process).next
    ready-behind =
        subst (λ (s : State). last_goes_on behind ≡ is_ready (step_of machine s process).next) (sym here.comes.happened_so_far)
        (ap last_goes_on (runs-grow serve.steps serve.runs machine process (present_phase at)) ∙ grow-ready runs (step_more serve.steps serve.runs machine process (present_phase at)))

    -- Places

    place-of : IsRunSoFar (followed_at machine others at process) (counted_at machine others at process) runs run → next_place 0 runs ≡ record { number = run.number; taken = run.taken }
    place-of (Rests none number taken) =
        place-new 0 runs none
        ∙ (let e : 0 + length runs ≡ run.number = omega (arith, number) in λ i. record { number = e i; taken = sym taken i })
    place-of (Follows before own are going number taken follows goes_so) =
        ap (next_place 0) are ∙ place-on 0 before own going
        ∙ (let e : 0 + length before ≡ run.number = omega (arith, number) in λ i. record { number = e i; taken = taken i })
    place-of (Owns before own are going number taken follows own_so) =
        ap (next_place 0) are ∙ place-on 0 before own going
        ∙ (let e : 0 + length before ≡ run.number = omega (arith, number) in λ i. record { number = e i; taken = taken i })

    to-place : (one : TriedStep) → HasPlace phase process run one → IsNextPlace machine at process one
    to-place one has = record {
      phase_is = has.phase_is ∙ here.phase_is;
      process_is = has.process_is;
      place = (λ i. record { number = has.number_is i; taken = has.taken_is i }) ∙ sym (place-of so_far);
    }

    from-place : (one : TriedStep) → IsNextPlace machine at process one → HasPlace phase process run one
    from-place one is = record {
      phase_is = is.phase_is ∙ sym here.phase_is;
      process_is = is.process_is;
      number_is = ap (λ (p : StepPlace). p.number) (is.place ∙ place-of so_far);
      taken_is = ap (λ (p : StepPlace). p.taken) (is.place ∙ place-of so_far);
    }

    -- What is kept of the process behind the step

    record IsLast : Type 0 where
      before : List ProcessRun
      own : ProcessRun
      are : behind ≡ before ++ own ∷ []
      number : length before ≡ run.number
      taken : length own.steps ≡ run.taken + 1

    last-of : IsRunSoFar (followed_at machine others at process) (counted_at machine others at process) runs run → IsLast
    last-of (Rests none number taken) = record {
      before = runs;
      own = run_behind machine at.state process (new_run at.state process);
      are = behind-new serve.steps serve.runs machine at here.comes process none;
      number = number;
      taken = omega (arith, taken);
    }
    last-of (Follows before own are going number taken follows goes_so) = record {
      before = before;
      own = run_behind machine at.state process own;
      are = behind-on serve.steps serve.runs machine at here.comes process before own are going;
      number = number;
      taken = length_push own.steps (seen_step machine at.state process) ∙ ap (λ (n : ℕ). n + 1) taken;
    }
    last-of (Owns before own are going number taken follows own_so) = record {
      before = before;
      own = run_behind machine at.state process own;
      are = behind-on serve.steps serve.runs machine at here.comes process before own are going;
      number = number;
      taken = length_push own.steps (seen_step machine at.state process) ∙ ap (λ (n : ℕ). n + 1) taken;
    }

    -- it rests
    rests-now : (before : List ProcessRun) (own : ProcessRun) → behind ≡ before ++ own ∷ [] → length before ≡ run.number → (follows : Bool) → last_goes_on behind ≡ false →
        IsRunSoFar (followed_at machine others at process) (counted_at machine others at process) behind (behind_step run false follows)
    rests-now before own are number follows none = Rests none (ap length are ∙ length_push before own ∙ ap (λ (n : ℕ). n + 1) number) refl

    pub kept-own : (ready : Bool) → last_goes_on behind ≡ ready → OwnLast (counted_at machine others at process) behind →
        IsRunSoFar (followed_at machine others at process) (counted_at machine others at process) behind (behind_step run ready false)
    kept-own true is counts =
        let l = last-of so_far in
        Owns l.before l.own l.are (sym (last-going l.before l.own) ∙ ap last_goes_on (sym l.are) ∙ is) l.number l.taken refl counts
    kept-own false is counts = let l = last-of so_far in rests-now l.before l.own l.are l.number false is

    pub kept-follows : (ready : Bool) → last_goes_on behind ≡ ready → FollowsOn (followed_at machine others at process) behind run →
        IsRunSoFar (followed_at machine others at process) (counted_at machine others at process) behind (behind_step run ready true)
    kept-follows true is f = Follows f.before f.run f.are (sym (last-going f.before f.run) ∙ ap last_goes_on (sym f.are) ∙ is) f.number f.taken refl f.follows
    kept-follows false is f = rests-now f.before f.run f.are f.number true is

    -- there is room for it
    few-now : run.number + run.taken ≤ at.steps
    few-now =
        subst (λ (r : RunSoFar). r.number + r.taken ≤ at.steps) (ap (λ (n : ℕ). run_at n old.runs.items process) (sym here.phase_is) ∙ sym is_run) (goes.few process here.there)

    pub number-fits : run.number + 1 < 2 ^ 32
    number-fits = let few : at.steps ≤ 100000 = here.few in let own = few-now in omega (arith, few, own)

    pub taken-fits : run.taken + 1 < 2 ^ 32
    taken-fits = let few : at.steps ≤ 100000 = here.few in let own = few-now in omega (arith, few, own)

    pub in-room : process < length old.runs.items
    in-room = subst (λ (n : ℕ). process < n) (sym goes.count) here.there

    run-phase : run.phase ≡ phase
    run-phase = ap (λ (r : RunSoFar). r.phase) is_run ∙ kept-phase phase (slice_get old.runs.items process)

    few-behind : (ready follows : Bool) → (behind_step run ready follows).number + (behind_step run ready follows).taken ≤ at.steps + 1
    few-behind true follows = let own = few-now in omega (arith, own)
    few-behind false follows = let own = few-now in omega (arith, own)

    -- The slot goes on

    module _ (new : RunsBeside) (ready follows : Bool) (goods : new.goods ≡ old.goods) (items : new.runs.items ≡ slice_set old.runs.items process (behind_step run ready follows)) where
      entry-now : run_at (length at.ended) new.runs.items process ≡ behind_step run ready follows
      entry-now =
          ap (λ (l : List RunSoFar). run_at (length at.ended) l process) items
          ∙ ap (kept_in (length at.ended)) (set-here old.runs.items process (behind_step run ready follows) in-room)
          ∙ kept-now (length at.ended) (behind_step run ready follows) (step-phase run ready follows ∙ run-phase ∙ here.phase_is)

      entry-there : (q : ℕ) → (q ≡ process → ⊥) → slice_get new.runs.items q ≡ slice_get old.runs.items q
      entry-there q ne = ap (λ (l : List RunSoFar). slice_get l q) items ∙ set-there old.runs.items process q (behind_step run ready follows) ne

      pub goes-behind : (now : ℕ) → IsAgain good machine others new.tried.now (after_event machine (Step process) at) new.next now →
          IsRunSoFar (followed_at machine others at process) (counted_at machine others at process) behind (behind_step run ready follows) →
          GoesBeside machine others (after_event machine (Step process) at) now new
      goes-behind now again own = record {
        tells = subst (TellsSlot machine.design at.begins.time others) (sym goods) goes.tells;
        again = again;
        count = ap length items ∙ set-length old.runs.items process (behind_step run ready follows) ∙ goes.count;
        early = λ q one is. elim (cases_eq q process) [
          | inl e ↦
              let same : behind_step run ready follows ≡ one =
              same_Some (behind_step run ready follows) one
              (sym (set-here old.runs.items process (behind_step run ready follows) in-room) ∙ ap (λ (l : List RunSoFar). slice_get l process) (sym items) ∙ ap (slice_get new.runs.items) (sym e) ∙ is) in
              let here_is : one.phase ≡ length at.ended = ap (λ (r : RunSoFar). r.phase) (sym same) ∙ step-phase run ready follows ∙ run-phase ∙ here.phase_is in
              omega (arith, here_is)
          | inr ne ↦ goes.early q one (sym (entry-there q ne) ∙ is)
        ];
        each = λ q low. elim (cases_eq q process) [
          | inl e ↦
              subst
              (λ (n : ℕ). IsRunSoFar (followed_at machine others at n) (counted_at machine others at n) (process_runs machine n (behind_event (present_phase at) (Step process)))
              (run_at (length at.ended) new.runs.items n)) (sym e)
              (subst (IsRunSoFar (followed_at machine others at process) (counted_at machine others at process) behind) (sym entry-now) own)
          | inr ne ↦
              subst
              (λ (l : List ProcessRun). IsRunSoFar (followed_at machine others at q) (counted_at machine others at q) l (run_at (length at.ended) new.runs.items q))
              (sym (runs-same serve.steps serve.runs machine q (present_phase at) (Step process) (ne_eqb q process ne)))
              (subst (λ (o : Option RunSoFar). IsRunSoFar (followed_at machine others at q) (counted_at machine others at q) (process_runs machine q (present_phase at)) (kept_in (length at.ended) o))
              (sym (entry-there q ne)) (goes.each q low))
        ];
        few = λ q low. elim (cases_eq q process) [
          | inl e ↦
              subst (λ (n : ℕ). (run_at (length at.ended) new.runs.items n).number + (run_at (length at.ended) new.runs.items n).taken ≤ at.steps + 1) (sym e)
              (subst (λ (r : RunSoFar). r.number + r.taken ≤ at.steps + 1) (sym entry-now) (few-behind ready follows))
          | inr ne ↦
              let had : (kept_in (length at.ended) (slice_get new.runs.items q)).number + (kept_in (length at.ended) (slice_get new.runs.items q)).taken ≤ at.steps =
              subst (λ (o : Option RunSoFar). (kept_in (length at.ended) o).number + (kept_in (length at.ended) o).taken ≤ at.steps) (sym (entry-there q ne)) (goes.few q low) in
              omega (arith, had)
        ];
      }

    -- A step that comes again

    pub comes-again : SecondRuns → (one : TriedStep) → ComesNext old.tried.now old.next phase process run one → ComesAgain good machine others old.tried.now at process old.next ticked one
    comes-again law one next = law.tells good machine others old.tried.now at process old.next ticked one here.comes_on next.at (to-place one next.place) goes.again

    pub again-known : (one : TriedStep) → ComesAgain good machine others old.tried.now at process old.next ticked one → IsKnownStep machine at.state process one.line one.act one.state
    again-known one comes =
        let kept = comes.kept in
        let known : IsKnownStep machine (happened machine at.phase_begins at.events) process one.line one.act one.state = record {
          line = kept.line;
          act = kept.act ∙ ap (λ (t : ℕ). act_of t (step_of machine (happened machine at.phase_begins at.events) process).action) (sym (serve.time machine at.phase_begins at.events));
          does = kept.does;
        } in
        subst (λ (s : State). IsKnownStep machine s process one.line one.act one.state) (sym here.comes.happened_so_far) known

    pub again-own : (one : TriedStep) → ComesAgain good machine others old.tried.now at process old.next ticked one → OwnLast (counted_at machine others at process) behind
    again-own one comes = comes.kept.own

    -- a step that isn't the next one of those

    pub is-other : ComesLater old.tried.now old.next phase process run → (one : TriedStep) → slice_get old.tried.now old.next ≡ Some one → IsNextPlace machine at process one → ⊥
    is-other later one is place = later one is (from-place one place)
