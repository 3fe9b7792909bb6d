-- A block event by event, with the runs that ended so far.
use Rattle.std.proofs.Common.{◌≡◌, ℕ, suc, ◌<◌, List, [], ◌∷◌, ◌++◌, length, Bool, true, false, ◌||◌, not, refl, sym, ap, subst, ◌∙◌, ◌⊎◌, inl, inr, arith}
use Rattle.std.specs.Prelude.{◌≢◌, Some, take, nat_eq}
use Rattle.std.proofs.lemmas.Bool.{eqb-true, eq-eqb, ne_eqb}
use Rattle.std.proofs.lemmas.List.{append_assoc, append-nil}
use Rattle.vf_base.specs.Lists.{has}
use Rattle.v_design.specs.Designs.{Machine}
use Rattle.v_design.specs.States.{State, Event, Step, LaneStep, Evaluation, NetUpdate, after, is_ready, step_of}
use Rattle.v_design.specs.Runs.{first_event, happened}
use Rattle.copy_laws.specs.Beside.{AreFirst}
use Rattle.run_ends.specs.RunEnds.{ender_if, ender_of, enders_in}
use Rattle.phase_blocks.specs.Blocks.{IsBetweenRuns, IsWholeBlock, is_step_from, begins_block, BlocksBegin}
use Rattle.phase_blocks.specs.Running.{IsInRun, RunsFillBlocks}
use Rattle.phase_blocks.proofs.Lists.{push-none, first-before, first-behind, length-more, take-whole}
use Rattle.block_ends.specs.Ends.{IsLastOf, EndsOfBlocks}

-- Lists

take-front : {A : Type 0} (xs ys : List A) → take (length xs) (xs ++ ys) ≡ xs
take-front [] ys = refl
take-front (x ∷ xs) ys = ap (λ l. x ∷ l) (take-front xs ys)

front-less : {A : Type 0} (xs : List A) (y : A) (ys : List A) → length xs < length (xs ++ y ∷ ys)
front-less [] y ys = omega arith
front-less (x ∷ xs) y ys = let less : length xs < length (xs ++ y ∷ ys) = front-less xs y ys in omega (arith, less)

has-neither : (xs ys : List ℕ) (n : ℕ) → has xs n ≡ false → has ys n ≡ false → has (xs ++ ys) n ≡ false
has-neither [] ys n none other = other
has-neither (x ∷ xs) ys n none other = go (nat_eq x n) (has xs n) none (λ rest. has-neither xs ys n rest other)
  where
    go : (b c : Bool) → (b || c) ≡ false → (c ≡ false → has (xs ++ ys) n ≡ false) → (b || has (xs ++ ys) n) ≡ false
    go true c e more = cc
    go false c e more = more e

-- Events

enders-append : (machine : Machine) (state : State) (xs ys : List Event) → enders_in machine state (xs ++ ys) ≡ enders_in machine state xs ++ enders_in machine (happened machine state xs) ys
enders-append machine state [] ys = refl
enders-append machine state (x ∷ xs) ys =
    ap (λ l. ender_of machine state x ++ l) (enders-append machine (after machine state x) xs ys)
    ∙ sym (append_assoc (ender_of machine state x) (enders_in machine (after machine state x) xs) (enders_in machine (happened machine (after machine state x) xs) ys))

enders-more : (machine : Machine) (state : State) (xs : List Event) (event : Event) →
    enders_in machine state (xs ++ event ∷ []) ≡ enders_in machine state xs ++ ender_of machine (happened machine state xs) event
enders-more machine state xs event =
    enders-append machine state xs (event ∷ []) ∙ ap (λ l. enders_in machine state xs ++ l) (append-nil (ender_of machine (happened machine state xs) event))

which : (process : ℕ) (event : Event) → (event ≡ Step process) ⊎ (event ≢ Step process)
which process (Step other) = go (nat_eq other process) refl
  where
    go : (b : Bool) → nat_eq other process ≡ b → (Step other ≡ Step process) ⊎ (Step other ≢ Step process)
    go true e = inl (ap Step (eqb-true other process e))
    go false e = inr (λ same. let is : other ≡ process = cc in let no : true ≡ false = sym (eq-eqb other process is) ∙ e in cc)
which process (LaneStep other) = inr (λ same. cc)
which process (Evaluation node) = inr (λ same. cc)
which process (NetUpdate node) = inr (λ same. cc)

-- another event doesn't end the process's run
ender-other : (machine : Machine) (state : State) (process : ℕ) (event : Event) → event ≢ Step process → has (ender_of machine state event) process ≡ false
ender-other machine state process (Step other) differs = go (is_ready (step_of machine state other).next)
  where
    go : (b : Bool) → has (ender_if b other) process ≡ false
    go true = refl
    go false = ap (λ b. b || false) (ne_eqb other process (λ same. differs (ap Step same)))
ender-other machine state process (LaneStep other) differs = refl
ender-other machine state process (Evaluation node) differs = refl
ender-other machine state process (NetUpdate node) differs = refl

-- nor does a step of it that leaves it ready
ender-ready : (machine : Machine) (state : State) (process : ℕ) → is_ready (step_of machine state process).next ≡ true → ender_of machine state (Step process) ≡ []
ender-ready machine state process ready = ap (λ b. ender_if b process) ready

ender-stops : (machine : Machine) (state : State) (process : ℕ) → is_ready (step_of machine state process).next ≡ false → ender_of machine state (Step process) ≡ process ∷ []
ender-stops machine state process ready = ap (λ b. ender_if b process) ready

-- no event of a whole block comes behind a moment between runs within it
none-behind : (machine : Machine) (begins : State) (all before : List Event) (event : Event) (more : List Event) → IsWholeBlock machine begins all → all ≡ before ++ event ∷ more →
    0 < length before → IsBetweenRuns machine begins before → ⊥
none-behind machine begins all before event more whole is some between =
    whole.none (length before) some (subst (λ l. length before < length l) (sym is) (front-less before event more))
    (subst (λ l. IsBetweenRuns machine begins l) (sym (ap (take (length before)) is ∙ take-front before (event ∷ more))) between)

more-some : (before : List Event) (event : Event) → 0 < length (before ++ event ∷ [])
more-some before event = let long : length (before ++ event ∷ []) ≡ suc (length before) = length-more before event in omega (arith, long)

-- the next event of a block
next-first : (machine : Machine) (begins : State) (all before : List Event) (event : Event) (more : List Event) → AreFirst machine begins all → all ≡ before ++ event ∷ more →
    first_event (happened machine begins before) ≡ Some event
next-first machine begins all before event more first is = (first-behind machine begins before (event ∷ more) (subst (λ l. AreFirst machine begins l) is first)).0

-- A process's block

go-on : RunsFillBlocks → (machine : Machine) (begins : State) (process : ℕ) (all before rest : List Event) → IsWholeBlock machine begins all → all ≡ before ++ rest →
    IsInRun machine begins process before → has (enders_in machine begins before) process ≡ false → IsLastOf process (enders_in machine begins all)
go-on fill machine begins process all before [] whole is run none =
    let same : all ≡ before = is ∙ append-nil before in
    absurd
    (run.block.none (length before) run.block.some (omega arith)
    (subst (λ l. IsBetweenRuns machine begins l) (same ∙ sym (take-whole (length before) before (omega arith))) whole.ends))
go-on fill machine begins process all before (event ∷ more) whole is run none =
    choose (which process event) (λ run_on none_on. go-on fill machine begins process all (before ++ event ∷ []) more whole longer run_on none_on)
  where
    longer : all ≡ (before ++ event ∷ []) ++ more
    longer = is ∙ sym (append_assoc before (event ∷ []) more)

    next : first_event (happened machine begins before) ≡ Some event
    next = next-first machine begins all before event more whole.first is

    at_end : (own : event ≡ Step process) → is_ready (step_of machine (happened machine begins before) process).next ≡ false → IsBetweenRuns machine begins (before ++ event ∷ [])
    at_end own ready = subst (λ e. IsBetweenRuns machine begins (before ++ e ∷ [])) (sym own) (fill.ends machine begins process before run (next ∙ ap Some own) ready).ends

    last : (rest : List Event) → all ≡ (before ++ event ∷ []) ++ rest → (own : event ≡ Step process) → is_ready (step_of machine (happened machine begins before) process).next ≡ false →
        IsLastOf process (enders_in machine begins all)
    last [] same own ready = record {
      others = enders_in machine begins before;
      are =
          ap (enders_in machine begins) (same ∙ append-nil (before ++ event ∷ [])) ∙ enders-more machine begins before event
          ∙ ap (λ e. enders_in machine begins before ++ ender_of machine (happened machine begins before) e) own
          ∙ ap (λ l. enders_in machine begins before ++ l) (ender-stops machine (happened machine begins before) process ready);
      once = none;
    }
    last (other ∷ others) same own ready =
        absurd (none-behind machine begins all (before ++ event ∷ []) other others whole same (more-some before event) (at_end own ready))

    own-step : (own : event ≡ Step process) → (b : Bool) → is_ready (step_of machine (happened machine begins before) process).next ≡ b →
        (IsInRun machine begins process (before ++ event ∷ []) → has (enders_in machine begins (before ++ event ∷ [])) process ≡ false → IsLastOf process (enders_in machine begins all)) →
        IsLastOf process (enders_in machine begins all)
    own-step own true ready further =
        further (subst (λ e. IsInRun machine begins process (before ++ e ∷ [])) (sym own) (fill.steps machine begins process before run (next ∙ ap Some own) ready))
        (ap (λ l. has l process)
        (enders-more machine begins before event ∙ ap (λ e. enders_in machine begins before ++ ender_of machine (happened machine begins before) e) own
        ∙ ap (λ l. enders_in machine begins before ++ l) (ender-ready machine (happened machine begins before) process ready) ∙ append-nil (enders_in machine begins before))
        ∙ none)
    own-step own false ready further = last more longer own ready

    choose : (event ≡ Step process) ⊎ (event ≢ Step process) →
        (IsInRun machine begins process (before ++ event ∷ []) → has (enders_in machine begins (before ++ event ∷ [])) process ≡ false → IsLastOf process (enders_in machine begins all)) →
        IsLastOf process (enders_in machine begins all)
    choose (inl own) further = own-step own (is_ready (step_of machine (happened machine begins before) process).next) refl further
    choose (inr other) further =
        further (fill.others machine begins process before event run next other)
        (ap (λ l. has l process) (enders-more machine begins before event)
        ∙ has-neither (enders_in machine begins before) (ender_of machine (happened machine begins before) event) process none
        (ender-other machine (happened machine begins before) process event other))

process-block : RunsFillBlocks → (machine : Machine) (begins : State) (process : ℕ) (events : List Event) → IsWholeBlock machine begins (Step process ∷ events) →
    IsLastOf process (enders_in machine begins (Step process ∷ events))
process-block fill machine begins process events whole = go (is_ready (step_of machine begins process).next) refl
  where
    sole : (rest : List Event) → events ≡ rest → is_ready (step_of machine begins process).next ≡ false → IsLastOf process (enders_in machine begins (Step process ∷ events))
    sole [] same ready = record {
      others = [];
      are = ap (λ l. enders_in machine begins (Step process ∷ l)) same ∙ ap (λ l. l ++ []) (ender-stops machine begins process ready);
      once = refl;
    }
    sole (other ∷ others) same ready =
        absurd
        (none-behind machine begins (Step process ∷ events) (Step process ∷ []) other others whole (ap (λ l. Step process ∷ l) same) (omega arith)
        (fill.sole machine begins process whole.first.0 ready).ends)

    go : (b : Bool) → is_ready (step_of machine begins process).next ≡ b → IsLastOf process (enders_in machine begins (Step process ∷ events))
    go true ready =
        go-on fill machine begins process (Step process ∷ events) (Step process ∷ []) events whole refl (fill.begins machine begins process whole.first.0 ready)
        (ap (λ l. has (l ++ []) process) (ender-ready machine begins process ready))
    go false ready = sole events refl ready

-- A lane's block

-- so far no process took a step
lane-on : BlocksBegin → (machine : Machine) (begins : State) (all before rest : List Event) → IsWholeBlock machine begins all → all ≡ before ++ rest → 0 < length before →
    ((event : Event) (process : ℕ) → event ≡ Step process → begins_block before event ≡ true) → enders_in machine begins before ≡ [] → enders_in machine begins all ≡ []
lane-on begin machine begins all before [] whole is some fresh none = ap (enders_in machine begins) (is ∙ append-nil before) ∙ none
lane-on begin machine begins all before (event ∷ more) whole is some fresh none =
    go event refl (λ fresh_on none_on. lane-on begin machine begins all (before ++ event ∷ []) more whole longer (more-some before event) fresh_on none_on)
  where
    longer : all ≡ (before ++ event ∷ []) ++ more
    longer = is ∙ sym (append_assoc before (event ∷ []) more)

    firsts : AreFirst machine begins (before ++ event ∷ [])
    firsts = first-before machine begins (before ++ event ∷ []) more (subst (λ l. AreFirst machine begins l) longer whole.first)

    ends : begins_block before event ≡ true → ⊥
    ends new = none-behind machine begins all before event more whole is some ((begin machine begins before event firsts).0 new)

    GoesOn : Type 0
    GoesOn =
        ((later : Event) (process : ℕ) → later ≡ Step process → begins_block (before ++ event ∷ []) later ≡ true) → enders_in machine begins (before ++ event ∷ []) ≡ [] →
        enders_in machine begins all ≡ []

    further : GoesOn → ((state : State) → ender_of machine state event ≡ []) → ((process : ℕ) → is_step_from process event ≡ false) → enders_in machine begins all ≡ []
    further on no_ender no_step =
        on
        (λ later process step. ap (λ e. begins_block (before ++ event ∷ []) e) step ∙ ap not (push-none (is_step_from process) before event (no_step process))
        ∙ fresh (Step process) process refl)
        (enders-more machine begins before event ∙ ap (λ l. enders_in machine begins before ++ l) (no_ender (happened machine begins before))
        ∙ append-nil (enders_in machine begins before) ∙ none)

    go : (e : Event) → event ≡ e → GoesOn → enders_in machine begins all ≡ []
    go (Step process) same on = absurd (ends (fresh event process same))
    go (LaneStep process) same on = absurd (ends (ap (begins_block before) same))
    go (Evaluation node) same on = further on (λ state. ap (ender_of machine state) same) (λ process. ap (is_step_from process) same)
    go (NetUpdate node) same on = further on (λ state. ap (ender_of machine state) same) (λ process. ap (is_step_from process) same)

pub ends_of_blocks : BlocksBegin → RunsFillBlocks → EndsOfBlocks
ends_of_blocks begin fill = record {
  runs = process-block fill;
  lanes = λ machine begins process events whole.
      lane-on begin machine begins (LaneStep process ∷ events) (LaneStep process ∷ []) events whole refl (omega arith)
      (λ event other step. ap (λ e. begins_block (LaneStep process ∷ []) e) step) refl;
}
