-- A block beside the good machine's phase, step by step (steps and runs by IEEE 1364-2001, clause 9).
use Rattle.std.proofs.Common.{◌≡◌, ℕ, ◌+◌, ◌<◌, ◌≤◌, Bool, true, false, List, [], ◌∷◌, ◌++◌, cond, drop, length, map, refl, sym, ap, subst, ◌∙◌, arith, nat_eq, append-nil, append_assoc, length-append}
use Rattle.std.specs.Prelude.{◌≢◌, Option, Some, None, is_some, set, slice_get}
use Rattle.std.proofs.lemmas.Bool.{eqb-true, eqb-false}
use Rattle.std.proofs.lemmas.List.{length-set}
use Rattle.vf_base.specs.Base.{process_number}
use Rattle.vf_base.specs.Counts.{raised}
use Rattle.vf_base.specs.Lists.{AllHold}
use Rattle.vf_base.specs.declared.ids.ProcId.{ProcId}
use Rattle.v_design.specs.Designs.{Machine}
use Rattle.v_design.specs.OwnSteps.{ProcessRun, runs_of, seen_step, steps_in}
use Rattle.v_design.specs.Runs.{happened}
use Rattle.v_design.specs.States.{State, Event, Step, after, is_process_event, is_ready, process_at, source_at, step_of}
use Rattle.process_code.specs.RunEnds.{act_of}
use Rattle.machine_events.specs.Steps.{raised_by, raised-sum}
use Rattle.copy_laws.specs.OwnRuns.{grow, last_goes_on}
use Rattle.copy_laws.specs.SharedRuns.{IsRunFrom}
use Rattle.copy_laws.proofs.Growth.{events_take_no_time}
use Rattle.copy_overlay.specs.Statuses.{AllCount}
use Rattle.own_counts.specs.Counts.{OwnLast}
use Rattle.own_counts.proofs.Processes.{own-last}
use Rattle.present_runs.specs.PresentRuns.{PresentRunsLead}
use Rattle.good_runs.specs.Kept.{KeptAt, Keeps, StepPlace, next_place}
use Rattle.good_runs.specs.declared.tried.TriedStep.{TriedStep}
use Rattle.known_steps.specs.Beside.{run_behind}
use Rattle.run_numbers.specs.Numbers.{AreNumbers, times_of}
use Rattle.window_runs.specs.OfPhase.{TellsRuns}
use Rattle.block_events.specs.Going.{StepsOn, Settles}
use Rattle.block_events.specs.declared.runner.Runner.{Runner}
use Rattle.block_events.specs.Runners.{machine_of, state_of}
use Rattle.block_told.specs.Blocks.{IsBetweenRuns, in_run, in_run_after}
use Rattle.block_told.specs.Prefixes.{in-run-append, in-run-more}
use Rattle.block_told.specs.declared.told.BlockTold.{BlockTold}
use Rattle.block_runner.specs.declared.goods.GoodPhase.{GoodPhase}
use Rattle.block_runner.specs.declared.rows.ProcessBeside.{ProcessBeside}
use Rattle.block_runner.specs.declared.rows.RunBeside.{RunBeside}
use Rattle.block_runner.specs.Beside.{AreFew, AreListed, IsBeside, MayGoBeside, TellsBeside, TellsRow, fresh, row_at, taken_of}
use Rattle.block_runner.specs.Ends.{TicksTried}
use Rattle.block_runner.specs.Next.{IsAtRun, IsTried, MayStepBeside, StepsBeside, TookBeside, TriesSo, ended_behind, row_behind}
use Rattle.block_runner.proofs.Growing.{nodes-more, other-more, own-more, ready-behind, slice-drop}
use Rattle.block_runner.proofs.Keeping.{behind-old, keeps-append, keeps-none, keeps-one}
use Rattle.block_runner.proofs.Listed.{listed-more, row-other, row-own}
use Rattle.block_runner.proofs.Runs.{nodes-quiet}
use Rattle.block_runner.proofs.AtRuns.{RowRun, row-run, tells-behind}

-- the same of a later state of the present time
pub tells-later : (machine : Machine) (begins state : State) (runs : ℕ → List ProcessRun) (numbers : ℕ → ℕ) (kept : GoodPhase) → begins.time ≡ state.time →
    TellsBeside machine begins runs numbers kept → TellsBeside machine state runs numbers kept
tells-later machine begins state runs numbers kept time tells = record {
  tells = subst (λ (t : ℕ). TellsRuns machine.design t runs kept.goods) time tells.tells;
  each = λ process there. subst (λ (t : ℕ). AllHold (IsRunFrom (source_at machine process) t) (runs process)) time (tells.each process there);
  are = tells.are;
  count = tells.count;
}

-- some events of a block were taken beside the good machine's phase
pub record BesideSoFar (machine : Machine) (begins : State) (kept : GoodPhase) (events : List Event) (taken : ℕ) (rows : List ProcessBeside) (ended : List ProcId)
    (tried_old tried : List TriedStep) (ticks_old ticks : ℕ) : Type 0 where
  pub beside : (runs : ℕ → List ProcessRun) (numbers : ℕ → ℕ) → TellsBeside machine begins runs numbers kept → IsBeside machine begins runs numbers events rows
  pub more : List TriedStep
  pub tried_is : tried ≡ tried_old ++ more
  pub ticks_are : ticks ≡ raised_by (length more) ticks_old
  pub keeps : (runs : ℕ → List ProcessRun) (numbers : ℕ → ℕ) → TellsBeside machine begins runs numbers kept → Keeps runs numbers machine kept.phase begins [] events more
  pub running : (process : ℕ) → in_run machine begins events process ≡ is_some (row_at rows process).going
  pub listed : AreListed rows ended taken
  pub there : length machine.design.processes ≤ length rows

-- a step of a process is kept, or isn't
record KeepsOne (machine : Machine) (begins : State) (kept : GoodPhase) (events : List Event) (p : ℕ) (tried tried1 : List TriedStep) (ticks ticks1 : ℕ) : Type 0 where
  one : List TriedStep
  tried_is : tried1 ≡ tried ++ one
  ticks_are : ticks1 ≡ raised_by (length one) ticks
  keeps : (runs : ℕ → List ProcessRun) (numbers : ℕ → ℕ) → TellsBeside machine begins runs numbers kept → Keeps runs numbers machine kept.phase begins events (Step p ∷ []) one

-- none yet
pub beside-begins : (machine : Machine) (begins : State) (kept : GoodPhase) (rows : List ProcessBeside) (ended : List ProcId) (tried : List TriedStep) (ticks : ℕ) →
    length machine.design.processes ≤ length rows → ((process : ℕ) → row_at rows process ≡ fresh) → ended ≡ [] → BesideSoFar machine begins kept [] 0 rows ended tried tried ticks ticks
beside-begins machine begins kept rows ended tried ticks there clean none = record {
  beside = λ runs numbers tells. record { each = λ q. subst (λ (row : ProcessBeside). TellsRow (runs q) (numbers q) [] row.ended row.going) (sym (clean q)) (refl, refl) };
  more = [];
  tried_is = sym (append-nil tried);
  ticks_are = refl;
  keeps = λ runs numbers tells. tt;
  running = λ q. sym (ap (λ (row : ProcessBeside). is_some row.going) (clean q));
  listed = record {
    times = λ q. ap (λ (row : ProcessBeside). row.ended) (clean q) ∙ sym (ap (λ (l : List ProcId). times_of q (map process_number l)) none);
    few = λ q. subst (λ (row : ProcessBeside). row.ended ≤ 0) (sym (clean q)) (omega arith);
    short = λ q. subst (λ (row : ProcessBeside). taken_of row.going ≤ 0) (sym (clean q)) (omega arith);
  };
  there = there;
}

module _ (lead : PresentRunsLead) (machine : Machine) (begins : State) (kept : GoodPhase) (events : List Event) (taken : ℕ) (rows : List ProcessBeside) (ended : List ProcId)
    (tried_old tried : List TriedStep) (ticks_old ticks : ℕ) (so_far : BesideSoFar machine begins kept events taken rows ended tried_old tried ticks_old ticks)
  where
    -- the run with the next step of a process
    pub at-row : (p : ℕ) (runs : ℕ → List ProcessRun) (numbers : ℕ → ℕ) → TellsBeside machine begins runs numbers kept →
        RowRun machine (happened machine begins events) p (numbers p) (slice_get (runs p) (numbers p + (row_at rows p).ended)) (runs_of (steps_in machine p begins events)) (row_at rows p).ended
        (row_at rows p).going
    at-row p runs numbers tells = row-run lead machine begins events p (runs p) (numbers p) (row_at rows p).ended (row_at rows p).going ((so_far.beside runs numbers tells).each p)

    time : begins.time ≡ (happened machine begins events).time
    time = sym (events_take_no_time machine begins events)

    -- so a process may take its next step beside
    pub may-step : (p most : ℕ) → MayGoBeside machine begins kept → AreFew machine kept most → p < length machine.design.processes → taken ≤ most →
        MayStepBeside machine (happened machine begins events) p kept (row_at rows p)
    may-step p most may few there less = record {
      runs = may.runs;
      numbers = may.numbers;
      run = (at-row p may.runs may.numbers may.tells).run;
      tells = tells-later machine begins (happened machine begins events) may.runs may.numbers kept time may.tells;
      few = omega (arith, few may.numbers may.tells.are p there, so_far.listed.few p, less);
      is = (at-row p may.runs may.numbers may.tells).at;
    }

    -- it takes it
    module _ (process : ProcId) (there : process_number process < length machine.design.processes) (rows1 : List ProcessBeside) (ended1 : List ProcId) (tried1 : List TriedStep) (ticks1 : ℕ)
        (steps : StepsBeside machine (happened machine begins events) (after machine (happened machine begins events) (Step (process_number process))) process kept rows rows1 ended ended1 tried tried1
        ticks ticks1)
      where
        low : process_number process < length rows
        low = omega (arith, there, so_far.there)

        -- with it the run goes as the good machine's, or is own
        took-beside : (runs : ℕ → List ProcessRun) (numbers : ℕ → ℕ) (tells : TellsBeside machine begins runs numbers kept) →
            TookBeside machine (happened machine begins events) (process_number process)
            (slice_get (runs (process_number process)) (numbers (process_number process) + (row_at rows (process_number process)).ended)) (at-row (process_number process) runs numbers tells).run
            steps.follows
        took-beside runs numbers tells =
            steps.took runs numbers (at-row (process_number process) runs numbers tells).run (tells-later machine begins (happened machine begins events) runs numbers kept time tells)
            (at-row (process_number process) runs numbers tells).at

        -- the step is kept where its run is own
        kept-at : (runs : ℕ → List ProcessRun) (numbers : ℕ → ℕ) (tells : TellsBeside machine begins runs numbers kept) (one : TriedStep) →
            IsTried machine (happened machine begins events) (process_number process) kept.phase steps.number (taken_of (row_at rows (process_number process)).going) one →
            AllCount (slice_get (runs (process_number process)) (numbers (process_number process) + (row_at rows (process_number process)).ended))
            (run_behind machine (happened machine begins events) (process_number process) (at-row (process_number process) runs numbers tells).run) →
            KeptAt runs numbers machine kept.phase begins events (process_number process) one
        kept-at runs numbers tells one is all =
            let row = at-row (process_number process) runs numbers tells in
            let behind : ProcessRun = run_behind machine (happened machine begins events) (process_number process) row.run in
            let goods : List ProcessRun = drop (numbers (process_number process)) (runs (process_number process)) in
            record {
              there = there;
              own = subst (OwnLast goods) (sym (own-more machine begins events (process_number process) ∙ row.grows))
                  (own-last goods row.before behind
                  (subst (λ (good : Option ProcessRun). AllCount good behind)
                  (sym (slice-drop (numbers (process_number process)) (runs (process_number process)) (length row.before)
                  ∙ ap (λ (n : ℕ). slice_get (runs (process_number process)) (numbers (process_number process) + n)) row.count)) all));
              phase_is = is.phase_is;
              process_is = is.process_is;
              place = (λ i. record { number = (is.number ∙ steps.number_is numbers tells.are) i; taken = is.taken i }) ∙ sym row.place;
              line = is.line;
              act = is.act ∙ ap (λ (t : ℕ). act_of t (step_of machine (happened machine begins events) (process_number process)).action) (sym time);
              stands = is.stands;
              does = is.does;
            }

        one-kept : (follows : Bool) → TriesSo machine (happened machine begins events) (process_number process) kept.phase steps.number (taken_of (row_at rows (process_number process)).going) tried tried1
            ticks ticks1 follows →
            ((runs : ℕ → List ProcessRun) (numbers : ℕ → ℕ) (tells : TellsBeside machine begins runs numbers kept) →
            TookBeside machine (happened machine begins events) (process_number process)
            (slice_get (runs (process_number process)) (numbers (process_number process) + (row_at rows (process_number process)).ended)) (at-row (process_number process) runs numbers tells).run follows) →
            KeepsOne machine begins kept events (process_number process) tried tried1 ticks ticks1
        one-kept true tries took = record { one = []; tried_is = tries.0 ∙ sym (append-nil tried); ticks_are = tries.1; keeps = λ runs numbers tells. tt }
        one-kept false tries took = record {
          one = tries.one ∷ [];
          tried_is = tries.more;
          ticks_are = tries.ticks;
          keeps = λ runs numbers tells.
              keeps-one runs numbers machine kept.phase begins events (process_number process) tries.one (kept-at runs numbers tells tries.one tries.is (took runs numbers tells));
        }

        -- what is kept of each process behind it
        each-behind : (runs : ℕ → List ProcessRun) (numbers : ℕ → ℕ) → TellsBeside machine begins runs numbers kept → (q : ℕ) →
            TellsRow (runs q) (numbers q) (runs_of (steps_in machine q begins (events ++ Step (process_number process) ∷ []))) (row_at rows1 q).ended (row_at rows1 q).going
        each-behind runs numbers tells q = go (nat_eq q (process_number process)) refl
          where
            own : TellsRow (runs (process_number process)) (numbers (process_number process))
                (runs_of (steps_in machine (process_number process) begins (events ++ Step (process_number process) ∷ []))) (row_at rows1 (process_number process)).ended
                (row_at rows1 (process_number process)).going
            own =
                subst (λ (row : ProcessBeside). TellsRow (runs (process_number process)) (numbers (process_number process))
                (runs_of (steps_in machine (process_number process) begins (events ++ Step (process_number process) ∷ []))) row.ended row.going)
                (sym (ap (λ (rs : List ProcessBeside). row_at rs (process_number process)) steps.rows ∙ row-own rows process (row_behind (row_at rows (process_number process)) steps.follows (is_ready (process_at (after machine (happened machine begins events) (Step (process_number process))) (process_number process)).activity)) low))
                (subst (λ (rs : List ProcessRun). TellsRow (runs (process_number process)) (numbers (process_number process)) rs (row_behind (row_at rows (process_number process)) steps.follows (is_ready (process_at (after machine (happened machine begins events) (Step (process_number process))) (process_number process)).activity)).ended (row_behind (row_at rows (process_number process)) steps.follows (is_ready (process_at (after machine (happened machine begins events) (Step (process_number process))) (process_number process)).activity)).going) (sym (own-more machine begins events (process_number process)))
                (tells-behind machine (happened machine begins events) (process_number process) (runs (process_number process)) (numbers (process_number process))
                (runs_of (steps_in machine (process_number process) begins events)) (row_at rows (process_number process)) steps.follows (is_ready (process_at (after machine (happened machine begins events) (Step (process_number process))) (process_number process)).activity)
                (at-row (process_number process) runs numbers tells) (took-beside runs numbers tells) (ready-behind machine (happened machine begins events) (process_number process))))

            go : (b : Bool) → nat_eq q (process_number process) ≡ b →
                TellsRow (runs q) (numbers q) (runs_of (steps_in machine q begins (events ++ Step (process_number process) ∷ []))) (row_at rows1 q).ended (row_at rows1 q).going
            go true e =
                subst (λ (n : ℕ). TellsRow (runs n) (numbers n) (runs_of (steps_in machine n begins (events ++ Step (process_number process) ∷ []))) (row_at rows1 n).ended (row_at rows1 n).going)
                (sym (eqb-true q (process_number process) e)) own
            go false e =
                let apart : q ≢ process_number process = eqb-false q (process_number process) e in
                subst (λ (row : ProcessBeside). TellsRow (runs q) (numbers q) (runs_of (steps_in machine q begins (events ++ Step (process_number process) ∷ []))) row.ended row.going)
                (sym (ap (λ (rs : List ProcessBeside). row_at rs q) steps.rows ∙ row-other rows process (row_behind (row_at rows (process_number process)) steps.follows (is_ready (process_at (after machine (happened machine begins events) (Step (process_number process))) (process_number process)).activity)) low q apart))
                (subst (λ steps_more. TellsRow (runs q) (numbers q) (runs_of steps_more) (row_at rows q).ended (row_at rows q).going)
                (sym (other-more machine begins events q (process_number process) apart)) ((so_far.beside runs numbers tells).each q))

        going-behind : (row : ProcessBeside) (follows ready : Bool) → ready ≡ is_some (row_behind row follows ready).going
        going-behind row follows true = refl
        going-behind row follows false = refl

        running-behind : (q : ℕ) →
            in_run_after machine (happened machine begins events) (Step (process_number process)) q (in_run machine begins events q) ≡ is_some (row_at rows1 q).going
        running-behind q = go (nat_eq q (process_number process)) refl
          where
            go : (b : Bool) → nat_eq q (process_number process) ≡ b →
                cond b (is_ready (process_at (after machine (happened machine begins events) (Step (process_number process))) q).activity) (in_run machine begins events q)
                ≡ is_some (row_at rows1 q).going
            go true e =
                let same : q ≡ process_number process = eqb-true q (process_number process) e in
                ap (λ (n : ℕ). is_ready (process_at (after machine (happened machine begins events) (Step (process_number process))) n).activity) same
                ∙ going-behind (row_at rows (process_number process)) steps.follows (is_ready (process_at (after machine (happened machine begins events) (Step (process_number process))) (process_number process)).activity)
                ∙ sym (ap (λ (row : ProcessBeside). is_some row.going) (ap (λ (rs : List ProcessBeside). row_at rs (process_number process)) steps.rows ∙ row-own rows process (row_behind (row_at rows (process_number process)) steps.follows (is_ready (process_at (after machine (happened machine begins events) (Step (process_number process))) (process_number process)).activity)) low))
                ∙ sym (ap (λ (n : ℕ). is_some (row_at rows1 n).going) same)
            go false e =
                let apart : q ≢ process_number process = eqb-false q (process_number process) e in
                so_far.running q
                ∙ sym (ap (λ (row : ProcessBeside). is_some row.going) (ap (λ (rs : List ProcessBeside). row_at rs q) steps.rows ∙ row-other rows process (row_behind (row_at rows (process_number process)) steps.follows (is_ready (process_at (after machine (happened machine begins events) (Step (process_number process))) (process_number process)).activity)) low q apart))

        -- behind the step and the work on nodes
        pub beside-more : (nodes : List Event) → AllHold (λ (event : Event). is_process_event event ≡ false) nodes →
            BesideSoFar machine begins kept ((events ++ Step (process_number process) ∷ []) ++ nodes) (taken + 1) rows1 ended1 tried_old tried1 ticks_old ticks1
        beside-more nodes of =
            let one = one-kept steps.follows steps.tries took-beside in
            record {
              beside = λ runs numbers tells. record {
                each = λ q.
                    subst (λ steps_more. TellsRow (runs q) (numbers q) (runs_of steps_more) (row_at rows1 q).ended (row_at rows1 q).going)
                    (sym (nodes-more machine q begins (events ++ Step (process_number process) ∷ []) nodes of)) (each-behind runs numbers tells q);
              };
              more = so_far.more ++ one.one;
              tried_is = one.tried_is ∙ ap (λ (l : List TriedStep). l ++ one.one) so_far.tried_is ∙ append_assoc tried_old so_far.more one.one;
              ticks_are = one.ticks_are ∙ ap (raised_by (length one.one)) so_far.ticks_are ∙ sym (raised-sum (length so_far.more) (length one.one) ticks_old)
                  ∙ ap (λ (n : ℕ). raised_by n ticks_old) (sym (length-append so_far.more one.one));
              keeps = λ runs numbers tells.
                  subst (Keeps runs numbers machine kept.phase begins [] ((events ++ Step (process_number process) ∷ []) ++ nodes)) (append-nil (so_far.more ++ one.one))
                  (keeps-append runs numbers machine kept.phase begins [] (events ++ Step (process_number process) ∷ []) nodes (so_far.more ++ one.one) []
                  (keeps-append runs numbers machine kept.phase begins [] events (Step (process_number process) ∷ []) so_far.more one.one (so_far.keeps runs numbers tells) (one.keeps runs numbers tells))
                  (keeps-none runs numbers machine kept.phase begins (events ++ Step (process_number process) ∷ []) nodes));
              running = λ q.
                  in-run-append machine begins (events ++ Step (process_number process) ∷ []) nodes q false
                  ∙ nodes-quiet machine (happened machine begins (events ++ Step (process_number process) ∷ [])) nodes of q (in_run machine begins (events ++ Step (process_number process) ∷ []) q)
                  ∙ in-run-more machine begins events (Step (process_number process)) q ∙ running-behind q;
              listed = subst (λ (rs : List ProcessBeside). AreListed rs ended1 (taken + 1)) (sym steps.rows)
                  (subst (λ (l : List ProcId). AreListed (set rows (process_number process) (row_behind (row_at rows (process_number process)) steps.follows (is_ready (process_at (after machine (happened machine begins events) (Step (process_number process))) (process_number process)).activity))) l (taken + 1)) (sym steps.ended)
                  (listed-more rows ended taken process steps.follows (is_ready (process_at (after machine (happened machine begins events) (Step (process_number process))) (process_number process)).activity) low so_far.listed));
              there = subst (λ (n : ℕ). length machine.design.processes ≤ n) (sym (ap length steps.rows ∙ length-set rows (process_number process) (row_behind (row_at rows (process_number process)) steps.follows (is_ready (process_at (after machine (happened machine begins events) (Step (process_number process))) (process_number process)).activity)))) so_far.there;
            }

    -- what was tried ticked
    pub ticks-tried : TicksTried tried_old tried ticks_old ticks
    ticks-tried =
        let behind : drop (length tried_old) tried ≡ so_far.more = behind-old tried_old tried so_far.more so_far.tried_is in
        record {
          more = so_far.tried_is ∙ ap (λ (l : List TriedStep). tried_old ++ l) (sym behind);
          ticks = so_far.ticks_are ∙ ap (λ (l : List TriedStep). raised_by (length l) ticks_old) (sym behind);
        }

    pub keeps-behind : (runs : ℕ → List ProcessRun) (numbers : ℕ → ℕ) → TellsBeside machine begins runs numbers kept →
        Keeps runs numbers machine kept.phase begins [] events (drop (length tried_old) tried)
    keeps-behind runs numbers tells =
        subst (Keeps runs numbers machine kept.phase begins [] events) (sym (behind-old tried_old tried so_far.more so_far.tried_is)) (so_far.keeps runs numbers tells)

    -- at a moment between runs each run that ended is listed
    pub ended-are : MayGoBeside machine begins kept → IsBetweenRuns machine begins events → (p : ℕ) → length (runs_of (steps_in machine p begins events)) ≡ times_of p (map process_number ended)
    ended-are may between p =
        go (row_at rows p).going (sym (so_far.running p) ∙ between.runs p) ((so_far.beside may.runs may.numbers may.tells).each p) ∙ so_far.listed.times p
      where
        go : (going : Option RunBeside) → is_some going ≡ false → TellsRow (may.runs p) (may.numbers p) (runs_of (steps_in machine p begins events)) (row_at rows p).ended going →
            length (runs_of (steps_in machine p begins events)) ≡ (row_at rows p).ended
        go None none tells = tells.1
        go (Some run) none tells = absurd (cc)
