-- Notes of process runs go on with the events of a slot (phases by IEEE 1364-2001, clause 5; processes by clause 9).
use Rattle.std.proofs.Common.{◌≡◌, ℕ, zero, suc, ◌+◌, ◌<◌, List, [], ◌∷◌, ◌++◌, map, length, get_or, set, Bool, true, false, ◌&&◌, ◌⊎◌, inl, inr, refl, sym, ap, subst, ◌∙◌, append-nil}
use Rattle.std.proofs.Common.{length-append, arith}
use Rattle.std.specs.Prelude.{◌≢◌, Some, cond, nat_eq, slice_get}
use Rattle.std.specs.List.{All}
use Rattle.std.specs.Option.{option_to_list}
use Rattle.std.proofs.lemmas.Bool.{eqb-true, eq-eqb}
use Rattle.std.proofs.lemmas.List.{map_push, get_or-set_same, get_or-set_other, length-set}
use Rattle.std.proofs.lemmas.List.Elements.{All-nil, All-push, filter-append}
use Rattle.std.proofs.lemmas.Option.{slice_get_within}
use Rattle.vf_base.specs.Base.{process_number}
use Rattle.v_design.specs.Designs.{FlatDesign, Machine}
use Rattle.v_design.specs.Processes.{Action, ReadsObject, WritesObject, AppendsUpdate, TouchesNothing}
use Rattle.v_design.specs.States.{State, Event, Step, LaneStep, Evaluation, NetUpdate, appended, write_of, step_of, is_ready}
use Rattle.v_design.specs.Runs.{Happens}
use Rattle.v_design.specs.PhaseLogs.{is_step_of}
use Rattle.v_design.specs.Grades.{Phase}
use Rattle.v_design.specs.OwnSteps.{StepSeen, ProcessRun, is_process_step, seen_step, process_runs}
use Rattle.process_code.specs.Points.{activity_of}
use Rattle.process_code.specs.RunEnds.{StepsStandIn, act_by, act_of, step_told_by, told_by}
use Rattle.process_code.specs.StatesOf.{IsStateOf}
use Rattle.process_code.specs.declared.code.Code.{Code}
use Rattle.process_code.specs.declared.state.ProcState.{ProcState}
use Rattle.process_code.specs.declared.state.RunEnd.{RunEnd}
use Rattle.process_code.specs.declared.state.StepTaken.{StepTaken}
use Rattle.copy_laws.specs.OwnRuns.{last_goes_on, grow}
use Rattle.copy_laws.specs.SharedRuns.{appended_by, written_by, read-next}
use Rattle.slot_record.specs.SlotRecords.{one_more, state_in}
use Rattle.run_ends.specs.RunEnds.{IsCodeAt, step_told, told_of, is_end_of, ends_of, ender_of, ender_if, ender_told, slot_enders}
use Rattle.run_record.specs.Notes.{ended_runs, present_steps, present_told, SoFar, nothing_so_far, appends_told, writes_told, with_step, IsSoFar, StepSays, StandsAfter, IsNotedIn, AreNotes}
use Rattle.run_record.specs.RunRecords.{runs_so_far, IsEndOf, EventsNoteNothing, NoneReady, PhasesNoteNothing, SlotsBeginNotes, SlotsEndNotes}
use Rattle.run_record.proofs.Growing.{Laws, joined-last, told_after, GoesOn, goes-on, Ends, ends, all-ended, none-present, next_seen, own-step, phase-leads, other-step, ender, enders-phase, enders-event}

-- Tests

not-true : (b : Bool) → (b ≡ true → ⊥) → b ≡ false
not-true true never = absurd (never refl)
not-true false never = refl

unequal : (m n : ℕ) → (m ≡ n → ⊥) → nat_eq m n ≡ false
unequal m n never = not-true (nat_eq m n) (λ e. never (eqb-true m n e))

-- what holds of a process and of all others
each-process : (P : ℕ → Type 0) (process : ℕ) → P process → ((other : ℕ) → nat_eq other process ≡ false → P other) → (any : ℕ) → P any
each-process P process own others any = go (nat_eq any process) refl
  where
    go : (b : Bool) → nat_eq any process ≡ b → P any
    go true is = subst P (sym (eqb-true any process is)) own
    go false is = others any is

apart : (other process : ℕ) → nat_eq other process ≡ false → other ≢ process
apart other process is e = let no : true ≡ false = sym (eq-eqb other process e) ∙ is in cc

-- an element of a list with one more
at-last : {A : Type 0} (xs : List A) (x y : A) (n : ℕ) → slice_get (xs ++ x ∷ []) n ≡ Some y → (slice_get xs n ≡ Some y) ⊎ ((n ≡ length xs) × (x ≡ y))
at-last [] x y zero e = inr (refl, cc)
at-last [] x y (suc n) e = cc
at-last (z ∷ xs) x y zero e = inl e
at-last (z ∷ xs) x y (suc n) e = elim (at-last xs x y n e) [ inl h ↦ inl h | inr h ↦ inr (ap suc h.0, h.1) ]

-- The ends of one more run

-- the end of a run of another phase, of another process, and of this one
ends-behind : (number process : ℕ) (ended : List RunEnd) (run : RunEnd) → is_end_of number process run ≡ false → ends_of number process (ended ++ run ∷ []) ≡ ends_of number process ended
ends-behind number process ended run fails =
    filter-append (is_end_of number process) ended (run ∷ []) ∙ ap (λ b. ends_of number process ended ++ cond b (run ∷ []) []) fails ∙ append-nil (ends_of number process ended)

ends-own : (number process : ℕ) (ended : List RunEnd) (run : RunEnd) → is_end_of number process run ≡ true → ends_of number process (ended ++ run ∷ []) ≡ ends_of number process ended ++ run ∷ []
ends-own number process ended run passes = filter-append (is_end_of number process) ended (run ∷ []) ∙ ap (λ b. ends_of number process ended ++ cond b (run ∷ []) []) passes

and-false : (a b : Bool) → b ≡ false → (a && b) ≡ false
and-false true b e = e
and-false false b e = refl

other-phase : (number process : ℕ) (run : RunEnd) → (run.phase ≡ number → ⊥) → is_end_of number process run ≡ false
other-phase number process run never = ap (λ b. b && nat_eq (process_number run.process) process) (unequal run.phase number never)

-- no run ended in a later phase
none-later : (design : FlatDesign) (most number process : ℕ) (ended : List RunEnd) → All (IsNotedIn design most) ended → most < number → ends_of number process ended ≡ []
none-later design most number process [] within low = refl
none-later design most number process (run ∷ ended) within low =
    let here : IsNotedIn design most run = within 0 run (omega arith) in
    ap (λ b. cond b (run ∷ ends_of number process ended) (ends_of number process ended)) (other-phase number process run (λ e. omega (arith, here.last, low, e)))
    ∙ none-later design most number process ended (λ k d there. within (suc k) d (omega (arith, there))) low

-- What a step more tells

appends-of : (time : ℕ) (action : Action) → appends_told (act_of time action) ≡ appended time action
appends-of time (ReadsObject object) = refl
appends-of time (WritesObject update) = refl
appends-of time (AppendsUpdate delay update) = refl
appends-of time TouchesNothing = refl

writes-of : (time : ℕ) (action : Action) → writes_told (act_of time action) ≡ option_to_list (write_of action)
writes-of time (ReadsObject object) = refl
writes-of time (WritesObject update) = refl
writes-of time (AppendsUpdate delay update) = refl
writes-of time TouchesNothing = refl

-- a step of a phase did this
act-said : Laws → (machine : Machine) (phase : Phase) (process : ℕ) (step : StepTaken) → StepSays machine (state_in machine phase) process step →
    act_by step.act ≡ act_of phase.begins.time (step_of machine (state_in machine phase) process).action
act-said laws machine phase process step says =
    says.act_is ∙ ap (λ time. act_of time (step_of machine (state_in machine phase) process).action) (laws.time machine phase.begins phase.events)

-- and tells this
step-said : Laws → (machine : Machine) (phase : Phase) (process : ℕ) (step : StepTaken) (code : Code) → IsCodeAt machine.design process code →
    StepSays machine (state_in machine phase) process step →
    step_told_by code step ≡ step_told phase.begins.time (next_seen machine phase process).0 (next_seen machine phase process).1
step-said laws machine phase process step code at says =
    λ i. record { stands = says.activity code at i; line = says.line_is i; act = act-said laws machine phase process step says i; read = says.read_is i }

-- so the steps so far, with this one, have appended and written this, and tell this
module _ (laws : Laws) (machine : Machine) (phase : Phase) (process : ℕ) (runs : List ProcessRun) (kept : SoFar) (step : StepTaken)
    (had : IsSoFar machine.design process phase.begins.time runs kept) (says : StepSays machine (state_in machine phase) process step) where
  abbrev time : ℕ
  time = phase.begins.time

  abbrev seen : StepSeen
  seen = seen_step machine (state_in machine phase) process

  later-more : (with_step step kept).later ≡ appended_by time (present_steps runs ++ seen ∷ [])
  later-more =
      (λ i. had.later_is i ++ appends_told (act-said laws machine phase process step says i)) ∙ ap (λ l. appended_by time (present_steps runs) ++ l) (appends-of time seen.step.action)
      ∙ sym (joined-last (λ (s : StepSeen). appended time s.step.action) (present_steps runs) seen)

  writes-more : (with_step step kept).writes ≡ written_by (present_steps runs ++ seen ∷ [])
  writes-more =
      (λ i. had.writes_are i ++ writes_told (act-said laws machine phase process step says i)) ∙ ap (λ l. written_by (present_steps runs) ++ l) (writes-of time seen.step.action)
      ∙ sym (joined-last (λ (s : StepSeen). option_to_list (write_of s.step.action)) (present_steps runs) seen)

  told-more : (code : Code) → IsCodeAt machine.design process code →
      map (step_told_by code) (kept.steps ++ step ∷ []) ≡ present_told time runs ++ step_told time (next_seen machine phase process).0 seen ∷ []
  told-more code at = map_push (step_told_by code) kept.steps step ∙ λ i. had.told code at i ++ step-said laws machine phase process step code at says i ∷ []

  stand-more : (code : Code) → IsCodeAt machine.design process code → StepsStandIn code (kept.steps ++ step ∷ [])
  stand-more code at = All-push (λ (s : StepTaken). IsStateOf code s.state) kept.steps step (had.stand code at) (says.state_of code at)

  -- where the run goes on, all this is kept
  step-more : (more : List ProcessRun) → GoesOn time runs more (next_seen machine phase process) → IsSoFar machine.design process time more (with_step step kept)
  step-more more goes = record {
    later_is = later-more ∙ ap (appended_by time) (sym goes.present);
    writes_are = writes-more ∙ ap written_by (sym goes.present);
    count =
        length-append kept.steps (step ∷ []) ∙ ap (λ n. n + 1) had.count ∙ sym (length-append (present_steps runs) (seen ∷ [])) ∙ ap (λ (l : List StepSeen). length l) (sym goes.present);
    told = λ code at. told-more code at ∙ sym goes.told;
    stand = stand-more;
  }

-- nothing is kept where no run is present
none-so-far : (design : FlatDesign) (process time : ℕ) (runs : List ProcessRun) → present_steps runs ≡ [] → present_told time runs ≡ [] → IsSoFar design process time runs nothing_so_far
none-so-far design process time runs none told = record {
  later_is = ap (appended_by time) (sym none);
  writes_are = ap written_by (sym none);
  count = ap (λ (l : List StepSeen). length l) (sym none);
  told = λ code at. sym told;
  stand = λ code at. All-nil (λ (s : StepTaken). IsStateOf code s.state);
}

-- and nothing else
kept-none : (design : FlatDesign) (process time : ℕ) (runs : List ProcessRun) (kept : SoFar) → present_steps runs ≡ [] → IsSoFar design process time runs kept → kept ≡ nothing_so_far
kept-none design process time runs kept none had =
    λ i. record {
      later = (had.later_is ∙ ap (appended_by time) none) i;
      writes = (had.writes_are ∙ ap written_by none) i;
      steps = no-steps kept.steps (had.count ∙ ap (λ (l : List StepSeen). length l) none) i;
    }
  where
    no-steps : (steps : List StepTaken) → length steps ≡ 0 → steps ≡ []
    no-steps [] e = refl
    no-steps (step ∷ steps) e = cc

-- An event that is no process step

quiet-event : Laws → (machine : Machine) (before : List Phase) (phase : Phase) (event : Event) (present : List SoFar) (ended : List RunEnd) → ((process : ℕ) → is_step_of process event ≡ false) →
    ender_of machine (state_in machine phase) event ≡ [] → AreNotes machine before phase present ended → AreNotes machine before (one_more event phase) present ended
quiet-event laws machine before phase event present ended others none notes = record {
  count = notes.count;
  present_are = λ process low.
      subst (λ runs. IsSoFar machine.design process phase.begins.time runs (get_or present process nothing_so_far)) (sym (other-step laws machine process phase event (others process)))
      (notes.present_are process low);
  within = notes.within;
  order =
      notes.order
      ∙ sym (enders-event machine before phase event ∙ ap (λ l. slot_enders machine (before ++ phase ∷ []) ++ map (ender (length before + 1)) l) none
      ∙ append-nil (slot_enders machine (before ++ phase ∷ [])));
  told_before = notes.told_before;
  told_now = λ process code at. notes.told_now process code at ∙ ap (λ runs. map (told_of phase.begins.time) (ended_runs runs)) (sym (other-step laws machine process phase event (others process)));
}

-- it is no process's step, and ends no run
never-own : (event : Event) → is_process_step (Happens event) ≡ false → (process : ℕ) → is_step_of process event ≡ false
never-own (Step own) quiet process = cc
never-own (LaneStep own) quiet process = refl
never-own (Evaluation node) quiet process = refl
never-own (NetUpdate node) quiet process = refl

never-ends : (machine : Machine) (state : State) (event : Event) → is_process_step (Happens event) ≡ false → ender_of machine state event ≡ []
never-ends machine state (Step own) quiet = cc
never-ends machine state (LaneStep own) quiet = refl
never-ends machine state (Evaluation node) quiet = refl
never-ends machine state (NetUpdate node) quiet = refl

pub events-note-nothing : Laws → EventsNoteNothing
events-note-nothing laws machine before phase event kept quiet notes =
    quiet-event laws machine before phase event (runs_so_far kept) kept.ended.items (never-own event quiet) (never-ends machine (state_in machine phase) event quiet) notes

-- A process step

-- the runs so far where that of one process is set
module _ (laws : Laws) (machine : Machine) (before : List Phase) (phase : Phase) (process : ℕ) (present : List SoFar) (ended : List RunEnd) (there : process < length present)
    (notes : AreNotes machine before phase present ended) where
  -- what is kept of a process's present run with the step
  abbrev KeptWith : List SoFar → ℕ → Type 0
  KeptWith runs any = IsSoFar machine.design any phase.begins.time (process_runs machine any (one_more (Step process) phase)) (get_or runs any nothing_so_far)

  -- the runs of another process stay
  others-present : (told : SoFar) (other : ℕ) → nat_eq other process ≡ false → other < length (set present process told) → KeptWith (set present process told) other
  others-present told other is low =
      subst (λ runs. IsSoFar machine.design other phase.begins.time runs (get_or (set present process told) other nothing_so_far))
      (sym (other-step laws machine other phase (Step process) is))
      (subst (IsSoFar machine.design other phase.begins.time (process_runs machine other phase))
      (sym (get_or-set_other present process other told nothing_so_far (apart other process is)))
      (notes.present_are other (subst (λ n. other < n) (length-set present process told) low)))

  -- that of the process is told
  all-present : (told : SoFar) → IsSoFar machine.design process phase.begins.time (process_runs machine process (one_more (Step process) phase)) told → (any : ℕ) →
      any < length (set present process told) → KeptWith (set present process told) any
  all-present told is =
      each-process (λ any. any < length (set present process told) → KeptWith (set present process told) any) process
      (λ low.
      subst (IsSoFar machine.design process phase.begins.time (process_runs machine process (one_more (Step process) phase)))
      (sym (get_or-set_same present process told nothing_so_far there)) is)
      (λ other no low. others-present told other no low)

  -- a step after which the process is ready
  pub step-noted : (step : StepTaken) → StepSays machine (state_in machine phase) process step → is_ready (step_of machine (state_in machine phase) process).next ≡ true →
      AreNotes machine before (one_more (Step process) phase) (set present process (with_step step (get_or present process nothing_so_far))) ended
  step-noted step says ready =
      let old = get_or present process nothing_so_far in
      let told : SoFar = with_step step old in
      let runs = process_runs machine process phase in
      let own : process_runs machine process (one_more (Step process) phase) ≡ grow runs (next_seen machine phase process) = own-step laws machine process phase in
      let goes : GoesOn phase.begins.time runs (grow runs (next_seen machine phase process)) (next_seen machine phase process) =
      goes-on phase.begins.time runs (next_seen machine phase process) (phase-leads laws machine process phase) ready in
      record {
        count = length-set present process told ∙ notes.count;
        present_are = all-present told
            (subst (λ rs. IsSoFar machine.design process phase.begins.time rs told) (sym own)
            (step-more laws machine phase process runs old step (notes.present_are process there) says (grow runs (next_seen machine phase process)) goes));
        within = notes.within;
        order =
            notes.order
            ∙ sym (enders-event machine before phase (Step process)
            ∙ ap (λ b. slot_enders machine (before ++ phase ∷ []) ++ map (ender (length before + 1)) (ender_if b process)) ready ∙ append-nil (slot_enders machine (before ++ phase ∷ [])));
        told_before = notes.told_before;
        told_now = λ any.
            each-process
            (λ q. (code : Code) → IsCodeAt machine.design q code →
            map (told_by code) (ends_of (length before + 1) q ended) ≡ map (told_of phase.begins.time) (ended_runs (process_runs machine q (one_more (Step process) phase)))) process
            (λ code at.
            notes.told_now process code at ∙ ap (map (told_of phase.begins.time)) (sym goes.ended) ∙ ap (λ runs. map (told_of phase.begins.time) (ended_runs runs)) (sym own))
            (λ other no code at. notes.told_now other code at ∙ ap (λ runs. map (told_of phase.begins.time) (ended_runs runs)) (sym (other-step laws machine other phase (Step process) no))) any;
      }

  -- the end of the run that the step ends
  module _ (step : StepTaken) (stands : ProcState) (run : RunEnd) (says : StepSays machine (state_in machine phase) process step)
      (stops : is_ready (step_of machine (state_in machine phase) process).next ≡ false) (after : StandsAfter machine (state_in machine phase) process stands)
      (end : IsEndOf (length before + 1) process stands (with_step step (get_or present process nothing_so_far)) run) where
    abbrev runs : List ProcessRun
    runs = process_runs machine process phase

    abbrev old : SoFar
    old = get_or present process nothing_so_far

    -- it tells of the run
    run-told : (code : Code) → IsCodeAt machine.design process code →
        told_by code run ≡ told_after phase.begins.time (present_told phase.begins.time runs) (present_steps runs) (next_seen machine phase process)
    run-told code at =
        let had = notes.present_are process there in
        λ i. record {
          activity = (ap (activity_of code) end.state_is ∙ after.activity code at
              ∙ read-next (state_in machine phase) (step_of machine (state_in machine phase) process).action (step_of machine (state_in machine phase) process).next) i;
          later = (end.later_is ∙ later-more laws machine phase process runs old step had says) i;
          writes = (end.writes_are ∙ writes-more laws machine phase process runs old step had says) i;
          steps = (ap (map (step_told_by code)) end.steps_are ∙ told-more laws machine phase process runs old step had says code at) i;
        }

    own-test : is_end_of (length before + 1) process run ≡ true
    own-test = λ i. eq-eqb run.phase (length before + 1) end.phase_is i && eq-eqb (process_number run.process) process end.process_is i

    other-test : (other : ℕ) → nat_eq other process ≡ false → is_end_of (length before + 1) other run ≡ false
    other-test other differs =
        and-false (nat_eq run.phase (length before + 1)) (nat_eq (process_number run.process) other)
        (unequal (process_number run.process) other (λ e. apart other process differs (sym e ∙ end.process_is)))

    low : process < length machine.design.processes
    low = subst (λ n. process < n) notes.count there

    noted-in : IsNotedIn machine.design (length before + 1) run
    noted-in = record {
      first = omega (arith, end.phase_is);
      last = omega (arith, end.phase_is);
      process = subst (λ q. q < length machine.design.processes) (sym end.process_is) low;
      state = λ code at. subst (IsStateOf code) (sym end.state_is) (after.state_of code (subst (λ q. IsCodeAt machine.design q code) end.process_is at));
      steps = λ code at.
          subst (StepsStandIn code) (sym end.steps_are)
          (stand-more laws machine phase process runs old step (notes.present_are process there) says code (subst (λ q. IsCodeAt machine.design q code) end.process_is at));
    }

    pub end-noted : AreNotes machine before (one_more (Step process) phase) (set present process nothing_so_far) (ended ++ run ∷ [])
    end-noted =
        let more = grow runs (next_seen machine phase process) in
        let own : process_runs machine process (one_more (Step process) phase) ≡ more = own-step laws machine process phase in
        let stopped : Ends phase.begins.time runs more (next_seen machine phase process) =
        ends phase.begins.time runs (next_seen machine phase process) (phase-leads laws machine process phase) stops in
        record {
          count = length-set present process nothing_so_far ∙ notes.count;
          present_are = all-present nothing_so_far
              (subst (λ rs. IsSoFar machine.design process phase.begins.time rs nothing_so_far) (sym own)
              (none-so-far machine.design process phase.begins.time more stopped.present stopped.told));
          within = All-push (IsNotedIn machine.design (length before + 1)) ended run notes.within noted-in;
          order =
              map_push ender_told ended run ∙ ap (λ l. l ++ ender_told run ∷ []) notes.order
              ∙ ap (λ e. slot_enders machine (before ++ phase ∷ []) ++ e ∷ []) (λ i. record { phase = end.phase_is i; process = end.process_is i })
              ∙ sym (enders-event machine before phase (Step process) ∙ ap (λ b. slot_enders machine (before ++ phase ∷ []) ++ map (ender (length before + 1)) (ender_if b process)) stops);
          told_before = λ number q one code stood at.
              ap (map (told_by code))
              (ends-behind (number + 1) q ended run (other-phase (number + 1) q run (λ e. omega (arith, slice_get_within before number one stood, end.phase_is, e))))
              ∙ notes.told_before number q one code stood at;
          told_now = λ any.
              each-process
              (λ q. (code : Code) → IsCodeAt machine.design q code →
              map (told_by code) (ends_of (length before + 1) q (ended ++ run ∷ [])) ≡ map (told_of phase.begins.time) (ended_runs (process_runs machine q (one_more (Step process) phase)))) process
              (λ code at.
              ap (map (told_by code)) (ends-own (length before + 1) process ended run own-test) ∙ map_push (told_by code) (ends_of (length before + 1) process ended) run
              ∙ ap (λ l. l ++ told_by code run ∷ []) (notes.told_now process code at)
              ∙ ap (λ t. map (told_of phase.begins.time) (ended_runs (process_runs machine process phase)) ++ t ∷ []) (run-told code at)
              ∙ sym stopped.ended ∙ ap (λ runs. map (told_of phase.begins.time) (ended_runs runs)) (sym own))
              (λ other no code at.
              ap (map (told_by code)) (ends-behind (length before + 1) other ended run (other-test other no)) ∙ notes.told_now other code at
              ∙ ap (λ runs. map (told_of phase.begins.time) (ended_runs runs)) (sym (other-step laws machine other phase (Step process) no))) any;
        }

-- The end of a phase

-- where no process is ready, no run goes on
none-goes : Laws → (machine : Machine) (phase : Phase) (process : ℕ) → NoneReady (state_in machine phase) → last_goes_on (process_runs machine process phase) ≡ false
none-goes laws machine phase process none =
    not-true (last_goes_on (process_runs machine process phase)) (λ goes. let no : true ≡ false = sym (laws.ready machine process phase.begins phase.events goes) ∙ none process in cc)

-- so that all that is told is told of whole runs
all-told : Laws → (machine : Machine) (before : List Phase) (phase : Phase) (present : List SoFar) (ended : List RunEnd) → NoneReady (state_in machine phase) →
    AreNotes machine before phase present ended →
    (number process : ℕ) (one : Phase) (code : Code) → slice_get (before ++ phase ∷ []) number ≡ Some one → IsCodeAt machine.design process code →
    map (told_by code) (ends_of (number + 1) process ended) ≡ map (told_of one.begins.time) (process_runs machine process one)
all-told laws machine before phase present ended none notes number process one code stands at =
    elim (at-last before phase one number stands) [
      | inl earlier ↦ notes.told_before number process one code earlier at
      | inr here ↦
          subst (λ (x : Phase). map (told_by code) (ends_of (number + 1) process ended) ≡ map (told_of x.begins.time) (process_runs machine process x)) here.1
          (ap (λ n. map (told_by code) (ends_of (n + 1) process ended)) here.0 ∙ notes.told_now process code at
          ∙ ap (map (told_of phase.begins.time)) (all-ended (process_runs machine process phase) (none-goes laws machine phase process none)))
    ]

-- and nothing of a present run
none-kept : Laws → (machine : Machine) (before : List Phase) (phase : Phase) (present : List SoFar) (ended : List RunEnd) → NoneReady (state_in machine phase) →
    AreNotes machine before phase present ended →
    (process : ℕ) → process < length present → get_or present process nothing_so_far ≡ nothing_so_far
none-kept laws machine before phase present ended none notes process low =
    kept-none machine.design process phase.begins.time (process_runs machine process phase) (get_or present process nothing_so_far)
    (none-present (process_runs machine process phase) (none-goes laws machine phase process none)) (notes.present_are process low)

longer : (before : List Phase) (phase : Phase) → length (before ++ phase ∷ []) ≡ length before + 1
longer before phase = length-append before (phase ∷ [])

pub phases-note-nothing : Laws → PhasesNoteNothing
phases-note-nothing laws machine before phase turn begins kept none notes =
    let present = runs_so_far kept in
    let ended = kept.ended.items in
    let next : Phase = record { turn = turn; begins = begins; events = [] } in
    record {
      count = notes.count;
      present_are = λ process low.
          subst (IsSoFar machine.design process next.begins.time []) (sym (none-kept laws machine before phase present ended none notes process low))
          (none-so-far machine.design process next.begins.time [] refl refl);
      within = λ k d low.
          let h = notes.within k d low in
          record { first = h.first; last = omega (arith, h.last, longer before phase); process = h.process; state = h.state; steps = h.steps };
      order = notes.order ∙ sym (enders-phase machine (before ++ phase ∷ []) next ∙ append-nil (slot_enders machine (before ++ phase ∷ [])));
      told_before = all-told laws machine before phase present ended none notes;
      told_now = λ process code at.
          ap (map (told_by code)) (none-later machine.design (length before + 1) (length (before ++ phase ∷ []) + 1) process ended notes.within (omega (arith, longer before phase)));
    }

-- A slot

pub slots-begin-notes : SlotsBeginNotes
slots-begin-notes machine begins kept rests none = record {
  count = rests.count;
  present_are = λ process low.
      subst (IsSoFar machine.design process begins.time []) (sym (rests.nothing process low)) (none-so-far machine.design process begins.time [] refl refl);
  within = subst (λ l. All (IsNotedIn machine.design 1) l) (sym none) (All-nil (IsNotedIn machine.design 1));
  order = ap (map ender_told) none;
  told_before = λ number process one code stands at. cc;
  told_now = λ process code at. ap (λ l. map (told_by code) (ends_of 1 process l)) none;
}

pub slots-end-notes : Laws → SlotsEndNotes
slots-end-notes laws machine before phase kept none notes = record {
  rests = record { count = notes.count; nothing = λ process low. none-kept laws machine before phase (runs_so_far kept) kept.ended.items none notes process low };
  ends = λ codes are. record {
    within = λ k d low.
        let h = notes.within k d low in
        record {
          first = h.first;
          last = omega (arith, h.last, longer before phase);
          process = omega (arith, h.process, are.count);
          state = λ code at. h.state code (are.each _ code at);
          steps = λ code at. h.steps code (are.each _ code at);
        };
    order = notes.order;
    told = λ number process one code stands at. all-told laws machine before phase (runs_so_far kept) kept.ended.items none notes number process one code stands (are.each process code at);
  };
}
