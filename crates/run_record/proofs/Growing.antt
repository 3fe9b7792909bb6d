-- How the runs of a process grow by an event, and the runs that end in a slot (steps by IEEE 1364-2001, clause 9).
use Rattle.std.proofs.Common.{◌≡◌, ℕ, suc, ◌+◌, List, [], ◌∷◌, ◌++◌, map, length, Bool, true, false, refl, sym, ap, subst, ◌∙◌, append_assoc, append-nil, arith}
use Rattle.std.proofs.lemmas.Bool.{eq-eqb}
use Rattle.std.proofs.lemmas.List.{map-append}
use Rattle.vf_base.specs.Lists.{joined, map_numbered}
use Rattle.v_design.specs.Designs.{Machine}
use Rattle.v_design.specs.Processes.{Activity}
use Rattle.v_design.specs.States.{State, Event, Step, after, process_at, is_ready}
use Rattle.v_design.specs.Runs.{happened}
use Rattle.v_design.specs.PhaseLogs.{is_step_of}
use Rattle.v_design.specs.Grades.{Phase}
use Rattle.v_design.specs.OwnSteps.{StepSeen, ProcessRun, seen_step, seen_if, steps_in, runs_of, process_runs}
use Rattle.process_code.specs.RunEnds.{RunTold, StepTold}
use Rattle.copy_laws.specs.OwnRuns.{is_going, last_goes_on, grown, grow, StepsGrow, RunsGrow, RunsGoOnReady, EventsTakeNoTime}
use Rattle.copy_laws.specs.SharedRuns.{activity_after, activity_at_end, appended_by, written_by}
use Rattle.present_runs.specs.PresentRuns.{PresentRunsLead}
use Rattle.slot_record.specs.SlotRecords.{one_more, state_in}
use Rattle.run_ends.specs.RunEnds.{step_told, steps_told, told_of, Ender, ender_of, enders_in, phase_enders, slot_enders}
use Rattle.run_record.specs.Notes.{run_unless, ended_runs, steps_if, present_steps, told_if, present_told}

-- the laws on which all rests
pub record Laws : Type 0 where
  pub steps : StepsGrow
  pub runs : RunsGrow
  pub ready : RunsGoOnReady
  pub time : EventsTakeNoTime
  pub leads : PresentRunsLead

-- Lists

-- what a list with one element more gives
pub joined-last : {A B : Type 0} (f : A → List B) (xs : List A) (x : A) → joined (map f (xs ++ x ∷ [])) ≡ joined (map f xs) ++ f x
joined-last f [] x = append-nil (f x)
joined-last f (y ∷ xs) x = ap (λ rest. f y ++ rest) (joined-last f xs x) ∙ sym (append_assoc (f y) (joined (map f xs)) (f x))

numbered-last : {A B : Type 0} (f : ℕ → A → List B) (n : ℕ) (xs : List A) (x : A) → joined (map_numbered f n (xs ++ x ∷ [])) ≡ joined (map_numbered f n xs) ++ f (n + length xs) x
numbered-last f n [] x = append-nil (f n x) ∙ ap (λ k. f k x) (plus-none n)
  where
    plus-none : (n : ℕ) → n ≡ n + 0
    plus-none n = omega arith
numbered-last f n (y ∷ xs) x =
    ap (λ rest. f n y ++ rest) (numbered-last f (n + 1) xs x ∙ ap (λ k. joined (map_numbered f (n + 1) xs) ++ f k x) (shifted n (length xs)))
    ∙ sym (append_assoc (f n y) (joined (map_numbered f (n + 1) xs)) (f (n + length (y ∷ xs)) x))
  where
    shifted : (n m : ℕ) → n + 1 + m ≡ n + suc m
    shifted n m = omega arith

-- One step more

going-last : (steps : List StepSeen) (seen : StepSeen) → is_going (steps ++ seen ∷ []) ≡ is_ready seen.step.next
going-last [] seen = refl
going-last (x ∷ []) seen = refl
going-last (x ∷ y ∷ steps) seen = going-last (y ∷ steps) seen

end-last : (activity : Activity) (steps : List StepSeen) (seen : StepSeen) → activity_at_end activity (steps ++ seen ∷ []) ≡ activity_after seen
end-last activity [] seen = refl
end-last activity (x ∷ steps) seen = end-last (activity_after x) steps seen

-- what they tell
told-push : (time : ℕ) (activity : Activity) (steps : List StepSeen) (seen : StepSeen) →
    steps_told time activity (steps ++ seen ∷ []) ≡ steps_told time activity steps ++ step_told time (activity_at_end activity steps) seen ∷ []
told-push time activity [] seen = refl
told-push time activity (x ∷ steps) seen = ap (λ rest. step_told time activity x ∷ rest) (told-push time (activity_after x) steps seen)

-- where the process does what they left it doing
told-next : (time : ℕ) (begins : Activity) (steps : List StepSeen) (step : Activity × StepSeen) → activity_at_end begins steps ≡ step.0 →
    steps_told time begins (steps ++ step.1 ∷ []) ≡ steps_told time begins steps ++ step_told time step.0 step.1 ∷ []
told-next time begins steps step leads = told-push time begins steps step.1 ∙ ap (λ a. steps_told time begins steps ++ step_told time a step.1 ∷ []) leads

-- what a run tells that ends with a step
abbrev pub told_after : ℕ → List StepTold → List StepSeen → Activity × StepSeen → RunTold
told_after time told steps step =
    record {
      activity = activity_after step.1;
      later = appended_by time (steps ++ step.1 ∷ []);
      writes = written_by (steps ++ step.1 ∷ []);
      steps = told ++ step_told time step.0 step.1 ∷ [];
    }

told-last : (time : ℕ) (begins : Activity) (steps : List StepSeen) (step : Activity × StepSeen) → activity_at_end begins steps ≡ step.0 →
    told_of time (record { begins = begins; steps = steps ++ step.1 ∷ [] }) ≡ told_after time (steps_told time begins steps) steps step
told-last time begins steps step leads =
    λ i. record {
      activity = end-last begins steps step.1 i;
      later = appended_by time (steps ++ step.1 ∷ []);
      writes = written_by (steps ++ step.1 ∷ []);
      steps = told-next time begins steps step leads i;
    }

-- a run that goes on leads to what its process does
abbrev pub LeadTo : List ProcessRun → Activity → Type 0
LeadTo [] activity = Unit {0}
LeadTo (run ∷ []) activity = is_going run.steps ≡ true → activity_at_end run.begins run.steps ≡ activity
LeadTo (run ∷ next ∷ rest) activity = LeadTo (next ∷ rest) activity

lead-behind : (before runs all : List ProcessRun) (activity : Activity) → all ≡ before ++ runs →
    ((ahead : List ProcessRun) (run : ProcessRun) → all ≡ ahead ++ run ∷ [] → is_going run.steps ≡ true → activity ≡ activity_at_end run.begins run.steps) → LeadTo runs activity
lead-behind before [] all activity are law = tt
lead-behind before (run ∷ []) all activity are law = λ goes. sym (law before run are goes)
lead-behind before (run ∷ next ∷ rest) all activity are law =
    lead-behind (before ++ run ∷ []) (next ∷ rest) all activity (are ∙ sym (append_assoc before (run ∷ []) (next ∷ rest))) law

-- there is a first run
pub record HasFirst (runs : List ProcessRun) : Type 0 where
  pub first : ProcessRun
  pub others : List ProcessRun
  pub are : runs ≡ first ∷ others

grown-first : (runs : List ProcessRun) (step : Activity × StepSeen) → HasFirst (grow runs step)
grown-first [] step = record { first = record { begins = step.0; steps = step.1 ∷ [] }; others = []; are = refl }
grown-first (run ∷ []) step = go (is_going run.steps)
  where
    go : (b : Bool) → HasFirst (grown b run step)
    go true = record { first = record { begins = run.begins; steps = run.steps ++ step.1 ∷ [] }; others = []; are = refl }
    go false = record { first = run; others = record { begins = step.0; steps = step.1 ∷ [] } ∷ []; are = refl }
grown-first (run ∷ next ∷ rest) step = record { first = run; others = grow (next ∷ rest) step; are = refl }

ended-behind : (run : ProcessRun) (runs : List ProcessRun) → HasFirst runs → ended_runs (run ∷ runs) ≡ run ∷ ended_runs runs
ended-behind run runs has = subst (λ rs. ended_runs (run ∷ rs) ≡ run ∷ ended_runs rs) (sym has.are) refl

present-behind : (run : ProcessRun) (runs : List ProcessRun) → HasFirst runs → present_steps (run ∷ runs) ≡ present_steps runs
present-behind run runs has = subst (λ rs. present_steps (run ∷ rs) ≡ present_steps rs) (sym has.are) refl

told-behind : (time : ℕ) (run : ProcessRun) (runs : List ProcessRun) → HasFirst runs → present_told time (run ∷ runs) ≡ present_told time runs
told-behind time run runs has = subst (λ rs. present_told time (run ∷ rs) ≡ present_told time rs) (sym has.are) refl

-- a step that leaves its process ready
pub record GoesOn (time : ℕ) (runs more : List ProcessRun) (step : Activity × StepSeen) : Type 0 where
  pub ended : ended_runs more ≡ ended_runs runs
  pub present : present_steps more ≡ present_steps runs ++ step.1 ∷ []
  pub told : present_told time more ≡ present_told time runs ++ step_told time step.0 step.1 ∷ []

pub goes-on : (time : ℕ) (runs : List ProcessRun) (step : Activity × StepSeen) → LeadTo runs step.0 → is_ready step.1.step.next ≡ true → GoesOn time runs (grow runs step) step
goes-on time [] step leads ready = record {
  ended = ap (λ g. run_unless g (record { begins = step.0; steps = step.1 ∷ [] })) ready;
  present = ap (λ g. steps_if g (step.1 ∷ [])) ready;
  told = ap (λ g. told_if g (step_told time step.0 step.1 ∷ [])) ready;
}
goes-on time (run ∷ []) step leads ready = go (is_going run.steps) refl
  where
    go : (b : Bool) → is_going run.steps ≡ b → GoesOn time (run ∷ []) (grown b run step) step
    go true is = record {
      ended = ap (λ g. run_unless g (record { begins = run.begins; steps = run.steps ++ step.1 ∷ [] })) (going-last run.steps step.1 ∙ ready) ∙ sym (ap (λ g. run_unless g run) is);
      present = ap (λ g. steps_if g (run.steps ++ step.1 ∷ [])) (going-last run.steps step.1 ∙ ready) ∙ sym (ap (λ g. steps_if g run.steps ++ step.1 ∷ []) is);
      told =
          ap (λ g. told_if g (steps_told time run.begins (run.steps ++ step.1 ∷ []))) (going-last run.steps step.1 ∙ ready) ∙ told-next time run.begins run.steps step (leads is)
          ∙ sym (ap (λ g. told_if g (steps_told time run.begins run.steps) ++ step_told time step.0 step.1 ∷ []) is);
    }
    go false is = record {
      ended = ap (λ g. run ∷ run_unless g (record { begins = step.0; steps = step.1 ∷ [] })) ready ∙ sym (ap (λ g. run_unless g run) is);
      present = ap (λ g. steps_if g (step.1 ∷ [])) ready ∙ sym (ap (λ g. steps_if g run.steps ++ step.1 ∷ []) is);
      told =
          ap (λ g. told_if g (step_told time step.0 step.1 ∷ [])) ready
          ∙ sym (ap (λ g. told_if g (steps_told time run.begins run.steps) ++ step_told time step.0 step.1 ∷ []) is);
    }
goes-on time (run ∷ next ∷ rest) step leads ready =
    let more = goes-on time (next ∷ rest) step leads ready in
    let first = grown-first (next ∷ rest) step in
    record {
      ended = ended-behind run (grow (next ∷ rest) step) first ∙ ap (λ rs. run ∷ rs) more.ended;
      present = present-behind run (grow (next ∷ rest) step) first ∙ more.present;
      told = told-behind time run (grow (next ∷ rest) step) first ∙ more.told;
    }

-- and one that doesn't
pub record Ends (time : ℕ) (runs more : List ProcessRun) (step : Activity × StepSeen) : Type 0 where
  pub ended : map (told_of time) (ended_runs more) ≡ map (told_of time) (ended_runs runs) ++ told_after time (present_told time runs) (present_steps runs) step ∷ []
  pub present : present_steps more ≡ []
  pub told : present_told time more ≡ []

pub ends : (time : ℕ) (runs : List ProcessRun) (step : Activity × StepSeen) → LeadTo runs step.0 → is_ready step.1.step.next ≡ false → Ends time runs (grow runs step) step
ends time [] step leads stops = record {
  ended = ap (λ g. map (told_of time) (run_unless g (record { begins = step.0; steps = step.1 ∷ [] }))) stops;
  present = ap (λ g. steps_if g (step.1 ∷ [])) stops;
  told = ap (λ g. told_if g (step_told time step.0 step.1 ∷ [])) stops;
}
ends time (run ∷ []) step leads stops = go (is_going run.steps) refl
  where
    go : (b : Bool) → is_going run.steps ≡ b → Ends time (run ∷ []) (grown b run step) step
    go true is = record {
      ended =
          ap (λ g. map (told_of time) (run_unless g (record { begins = run.begins; steps = run.steps ++ step.1 ∷ [] }))) (going-last run.steps step.1 ∙ stops)
          ∙ ap (λ told. told ∷ []) (told-last time run.begins run.steps step (leads is))
          ∙ sym (ap (λ g. map (told_of time) (run_unless g run) ++ told_after time (told_if g (steps_told time run.begins run.steps)) (steps_if g run.steps) step ∷ []) is);
      present = ap (λ g. steps_if g (run.steps ++ step.1 ∷ [])) (going-last run.steps step.1 ∙ stops);
      told = ap (λ g. told_if g (steps_told time run.begins (run.steps ++ step.1 ∷ []))) (going-last run.steps step.1 ∙ stops);
    }
    go false is = record {
      ended =
          ap (λ g. told_of time run ∷ map (told_of time) (run_unless g (record { begins = step.0; steps = step.1 ∷ [] }))) stops
          ∙ sym (ap (λ g. map (told_of time) (run_unless g run) ++ told_after time (told_if g (steps_told time run.begins run.steps)) (steps_if g run.steps) step ∷ []) is);
      present = ap (λ g. steps_if g (step.1 ∷ [])) stops;
      told = ap (λ g. told_if g (step_told time step.0 step.1 ∷ [])) stops;
    }
ends time (run ∷ next ∷ rest) step leads stops =
    let more = ends time (next ∷ rest) step leads stops in
    let first = grown-first (next ∷ rest) step in
    record {
      ended = ap (map (told_of time)) (ended-behind run (grow (next ∷ rest) step) first) ∙ ap (λ told. told_of time run ∷ told) more.ended;
      present = present-behind run (grow (next ∷ rest) step) first ∙ more.present;
      told = told-behind time run (grow (next ∷ rest) step) first ∙ more.told;
    }

-- where no run goes on, all have ended
pub all-ended : (runs : List ProcessRun) → last_goes_on runs ≡ false → ended_runs runs ≡ runs
all-ended [] none = refl
all-ended (run ∷ []) none = ap (λ g. run_unless g run) none
all-ended (run ∷ next ∷ rest) none = ap (λ rs. run ∷ rs) (all-ended (next ∷ rest) none)

pub none-present : (runs : List ProcessRun) → last_goes_on runs ≡ false → present_steps runs ≡ []
none-present [] none = refl
none-present (run ∷ []) none = ap (λ g. steps_if g run.steps) none
none-present (run ∷ next ∷ rest) none = none-present (next ∷ rest) none

pub none-told : (time : ℕ) (runs : List ProcessRun) → last_goes_on runs ≡ false → present_told time runs ≡ []
none-told time [] none = refl
none-told time (run ∷ []) none = ap (λ g. told_if g (steps_told time run.begins run.steps)) none
none-told time (run ∷ next ∷ rest) none = none-told time (next ∷ rest) none

-- One event more in a phase

-- what is seen of the next step of a process
abbrev pub next_seen : Machine → Phase → ℕ → Activity × StepSeen
next_seen machine phase process = ((process_at (state_in machine phase) process).activity, seen_step machine (state_in machine phase) process)

pub own-step : Laws → (machine : Machine) (process : ℕ) (phase : Phase) → process_runs machine process (one_more (Step process) phase) ≡ grow (process_runs machine process phase)
    (next_seen machine phase process)
own-step laws machine process phase =
    ap runs_of
    (laws.steps machine process phase.begins phase.events (Step process)
    ∙ ap (λ own. steps_in machine process phase.begins phase.events ++ seen_if own (next_seen machine phase process) []) (eq-eqb process process refl))
    ∙ laws.runs (steps_in machine process phase.begins phase.events) (next_seen machine phase process)

-- and it begins with what the present run, if there is one, leads to
pub phase-leads : Laws → (machine : Machine) (process : ℕ) (phase : Phase) → LeadTo (process_runs machine process phase) (next_seen machine phase process).0
phase-leads laws machine process phase =
    lead-behind [] (process_runs machine process phase) (process_runs machine process phase) (next_seen machine phase process).0 refl
    (λ ahead run are goes. laws.leads machine process phase.begins phase.events ahead run are goes)

pub other-step : Laws → (machine : Machine) (process : ℕ) (phase : Phase) (event : Event) → is_step_of process event ≡ false →
    process_runs machine process (one_more event phase) ≡ process_runs machine process phase
other-step laws machine process phase event other =
    ap runs_of
    (laws.steps machine process phase.begins phase.events event
    ∙ ap (λ own. steps_in machine process phase.begins phase.events ++ seen_if own (next_seen machine phase process) []) other
    ∙ append-nil (steps_in machine process phase.begins phase.events))

-- The runs that end

enders-last : (machine : Machine) (state : State) (events : List Event) (event : Event) → enders_in machine state (events ++ event ∷ []) ≡ enders_in machine state events
    ++ ender_of machine (happened machine state events) event
enders-last machine state [] event = append-nil (ender_of machine state event)
enders-last machine state (x ∷ events) event =
    ap (λ rest. ender_of machine state x ++ rest) (enders-last machine (after machine state x) events event)
    ∙ sym (append_assoc (ender_of machine state x) (enders_in machine (after machine state x) events) (ender_of machine (happened machine (after machine state x) events) event))

-- a process's run ends in the phase of a number
abbrev pub ender : ℕ → ℕ → Ender
ender number process = record { phase = number; process = process }

-- one phase more
pub enders-phase : (machine : Machine) (before : List Phase) (phase : Phase) → slot_enders machine (before ++ phase ∷ []) ≡ slot_enders machine before ++ phase_enders machine (length before + 1) phase
enders-phase machine before phase =
    numbered-last (phase_enders machine) 1 before phase ∙ ap (λ n. slot_enders machine before ++ phase_enders machine n phase) (swapped (length before))
  where
    swapped : (n : ℕ) → 1 + n ≡ n + 1
    swapped n = omega arith

-- one event more in the last one
pub enders-event : (machine : Machine) (before : List Phase) (phase : Phase) (event : Event) →
    slot_enders machine (before ++ one_more event phase ∷ []) ≡ slot_enders machine (before ++ phase ∷ []) ++ map (ender (length before + 1)) (ender_of machine (state_in machine phase) event)
enders-event machine before phase event =
    enders-phase machine before (one_more event phase)
    ∙ ap (λ told. slot_enders machine before ++ told)
    (ap (map (ender (length before + 1))) (enders-last machine phase.begins phase.events event)
    ∙ map-append (ender (length before + 1)) (enders_in machine phase.begins phase.events) (ender_of machine (state_in machine phase) event))
    ∙ sym (append_assoc (slot_enders machine before) (phase_enders machine (length before + 1) phase) (map (ender (length before + 1)) (ender_of machine (state_in machine phase) event)))
    ∙ ap (λ told. told ++ map (ender (length before + 1)) (ender_of machine (state_in machine phase) event)) (sym (enders-phase machine before phase))
