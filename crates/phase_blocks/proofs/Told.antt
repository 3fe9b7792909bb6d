-- Where blocks begin, told by the events of a phase, and what stands in a block.
use Rattle.std.proofs.Common.{◌≡◌, ℕ, suc, ◌+◌, ◌<◌, ◌≤◌, List, [], ◌∷◌, ◌++◌, length, Bool, true, false, not, ◌||◌, refl, sym, ap, subst, ◌∙◌, inl, inr, arith}
use Rattle.std.specs.Prelude.{Some, take}
use Rattle.std.proofs.lemmas.Bool.{cases_lt, le-leb, lt-leb}
use Rattle.std.proofs.lemmas.List.{append_assoc, length-append}
use Rattle.std.proofs.Math.Seq.{take-append_seam}
use Rattle.vf_base.specs.Lists.{AllHold}
use Rattle.v_design.specs.Designs.{Machine}
use Rattle.v_design.specs.States.{State, Event, Step, LaneStep, Evaluation, NetUpdate, process_at, is_ready, is_any, some_in}
use Rattle.v_design.specs.Runs.{first_event, happened}
use Rattle.copy_laws.specs.Beside.{AreFirst}
use Rattle.machine_laws.specs.SlotLoop.{NoNodeWorks}
use Rattle.block_causes.specs.Caused.{IsFollowing}
use Rattle.phase_blocks.specs.Blocks.{run_goes_on, IsBetweenRuns, IsWholeBlock, is_step_from, begins_block, BlocksBegin, PhasesEndBetweenRuns, BlocksFollow}
use Rattle.phase_blocks.proofs.Lists.{true-false, push-none, some_in-push, happened-append, first-before, first-behind, first-more}
use Rattle.phase_blocks.proofs.Taken.{takes-step, takes-lane, takes-node, ready-first, ready-none-below, ready-none, lane-first, least-ready}
use Rattle.phase_blocks.proofs.Going.{RunLaws, goes-from}
use Rattle.phase_blocks.proofs.Kept.{FollowsOrder, follows-order, over}

-- Where blocks begin

not-true : (b : Bool) → not b ≡ true → b ≡ false
not-true true e = cc
not-true false e = refl

pub blocks_begin : RunLaws → BlocksBegin
blocks_begin laws machine begins before event f = go event (first-behind machine begins before (event ∷ []) f).0
  where
    state : State
    state = happened machine begins before

    j : FollowsOrder machine begins before state
    j = follows-order laws machine begins before (first-before machine begins before (event ∷ []) f)

    -- before a step of a process
    step-runs : (r p : ℕ) (b : Bool) → first_event state ≡ Some (Step r) → some_in (is_step_from r) before ≡ false → run_goes_on machine begins before p ≡ b → b ≡ false
    step-runs r p false e none goes = refl
    step-runs r p true e none goes =
        true-false (some_in (is_step_from r) before)
        (goes-from machine begins before p r (least-ready state r p (takes-step state r e).2 (laws.ready machine p begins before goes)) goes) none

    step-back : (r : ℕ) (b : Bool) → first_event state ≡ Some (Step r) → some_in (is_step_from r) before ≡ b → IsBetweenRuns machine begins before → not b ≡ true
    step-back r false e some between = refl
    step-back r true e some between =
        true-false (is_ready (process_at state r).activity) (ready-first state r (takes-step state r e).2)
        ((j.rests r some (λ q h. between.runs q)).1 r (omega arith))

    -- before a step of a lane
    lane-runs : (r p : ℕ) (b : Bool) → first_event state ≡ Some (LaneStep r) → run_goes_on machine begins before p ≡ b → b ≡ false
    lane-runs r p false e goes = refl
    lane-runs r p true e goes =
        true-false (is_any (process_at state r).lane) (lane-first state r (takes-lane state r e).1) (j.lanes 0 (goes-from machine begins before p 0 (omega arith) goes) r)

    go : (event : Event) → first_event state ≡ Some event →
        (begins_block before event ≡ true → IsBetweenRuns machine begins before) × (IsBetweenRuns machine begins before → begins_block before event ≡ true)
    go (Step r) e = (
      λ told. record {
        nodes = (takes-step state r e).0;
        runs = λ p. step-runs r p (run_goes_on machine begins before p) e (not-true (some_in (is_step_from r) before) told) refl;
      },
      λ between. step-back r (some_in (is_step_from r) before) e refl between,
    )
    go (LaneStep r) e = (
      λ told. record { nodes = (takes-lane state r e).0; runs = λ p. lane-runs r p (run_goes_on machine begins before p) e refl },
      λ between. refl,
    )
    go (Evaluation number) e = (λ told. cc, λ between. absurd (takes-node state (Evaluation number) refl e between.nodes))
    go (NetUpdate number) e = (λ told. cc, λ between. absurd (takes-node state (NetUpdate number) refl e between.nodes))

pub phases_end_between : RunLaws → PhasesEndBetweenRuns
phases_end_between laws machine begins events idle = record { nodes = idle.0; runs = λ p. run p (run_goes_on machine begins events p) refl }
  where
    run : (p : ℕ) (b : Bool) → run_goes_on machine begins events p ≡ b → b ≡ false
    run p false e = refl
    run p true e =
        true-false (is_ready (process_at (happened machine begins events) p).activity) (laws.ready machine p begins events e) (ready-none (happened machine begins events) p idle.2)

-- What stands in a block

-- what is known of a block's events up to one of them
record IsPart (machine : Machine) (begins : State) (all done rest : List Event) : Type 0 where
  whole : IsWholeBlock machine begins all
  parts : all ≡ done ++ rest
  some : 0 < length done
  first : AreFirst machine begins done
  next : AreFirst machine (happened machine begins done) rest

-- they don't end between runs, where there are more
not-between : (machine : Machine) (begins : State) (all done : List Event) (event : Event) (rest : List Event) → IsPart machine begins all done (event ∷ rest) →
    IsBetweenRuns machine begins done → ⊥
not-between machine begins all done event rest part between =
    part.whole.none (length done) part.some
    (let a : length all ≡ length (done ++ event ∷ rest) = ap length part.parts in
    let b : length (done ++ event ∷ rest) ≡ length done + length (event ∷ rest) = length-append done (event ∷ rest) in
    let c : length (event ∷ rest) ≡ suc (length rest) = refl in
    omega (arith, a, b, c))
    (subst (IsBetweenRuns machine begins) (sym (ap (take (length done)) part.parts ∙ take-append_seam done (event ∷ rest))) between)

part-more : (machine : Machine) (begins : State) (all done : List Event) (event : Event) (rest : List Event) → IsPart machine begins all done (event ∷ rest) →
    IsPart machine begins all (done ++ event ∷ []) rest
part-more machine begins all done event rest part = record {
  whole = part.whole;
  parts = part.parts ∙ sym (append_assoc done (event ∷ []) rest);
  some = (let e : length (done ++ event ∷ []) ≡ length done + length (event ∷ []) = length-append done (event ∷ []) in let f : length (event ∷ []) ≡ 1 = refl in omega (arith, e, f));
  first = first-more machine begins done event part.first part.next.0;
  next = subst (λ s. AreFirst machine s rest) (sym (happened-append machine begins done (event ∷ []))) part.next.1;
}

-- in a block that a process step begins
run-follows : RunLaws → (machine : Machine) (begins : State) (p : ℕ) (all done rest : List Event) → first_event begins ≡ Some (Step p) → IsPart machine begins all done rest →
    some_in (is_step_from p) done ≡ true → some_in (is_step_from (suc p)) done ≡ false → AllHold (IsFollowing begins (Step p)) rest
run-follows laws machine begins p all done [] e part some within = tt
run-follows laws machine begins p all done (event ∷ rest) e part some within =
    go event part part.next.0 (λ more any none. run-follows laws machine begins p all (done ++ event ∷ []) rest e more any none)
  where
    state : State
    state = happened machine begins done

    -- all later events follow, where they do behind one event more
    Later : Event → Type 0
    Later event =
        IsPart machine begins all (done ++ event ∷ []) rest → some_in (is_step_from p) (done ++ event ∷ []) ≡ true → some_in (is_step_from (suc p)) (done ++ event ∷ []) ≡ false →
        AllHold (IsFollowing begins (Step p)) rest

    -- the process is in the midst of its run, so it is ready
    goes : (event : Event) (b : Bool) → IsPart machine begins all done (event ∷ rest) → run_goes_on machine begins done p ≡ b → b ≡ true
    goes event true part g = refl
    goes event false part g = absurd (not-between machine begins all done event rest part (over laws machine begins done p part.first some within g))

    ready : (event : Event) → IsPart machine begins all done (event ∷ rest) → is_ready (process_at state p).activity ≡ true
    ready event part = laws.ready machine p begins done (goes event (run_goes_on machine begins done p) part refl)

    later : (event : Event) → IsPart machine begins all done (event ∷ rest) → is_step_from (suc p) event ≡ false → Later event → AllHold (IsFollowing begins (Step p)) rest
    later event part low more =
        more (part-more machine begins all done event rest part) (some_in-push (is_step_from p) done event ∙ ap (λ b. b || is_step_from p event) some)
        (push-none (is_step_from (suc p)) done event low ∙ within)

    follows : (q : ℕ) → q ≤ p → IsFollowing begins (Step p) (Step q)
    follows q low = elim (cases_lt q p) [
      | inl less ↦ inr (ready-none-below begins p q (takes-step begins p e).2 less)
      | inr high ↦ (let same : p ≡ q = omega (arith, low, high) in inl (ap Step same))
    ]

    go : (event : Event) → IsPart machine begins all done (event ∷ rest) → first_event state ≡ Some event → Later event → AllHold (IsFollowing begins (Step p)) (event ∷ rest)
    go (Step q) part f more =
        let low : q ≤ p = least-ready state q p (takes-step state q f).2 (ready (Step q) part) in
        (follows q low, later (Step q) part (lt-leb (suc p) q (omega (arith, low))) more)
    go (LaneStep q) part f more =
        true-false (is_any (process_at state q).lane) (lane-first state q (takes-lane state q f).1)
        ((follows-order laws machine begins done part.first).lanes p some q)
    go (Evaluation number) part f more = (tt, later (Evaluation number) part refl more)
    go (NetUpdate number) part f more = (tt, later (NetUpdate number) part refl more)

-- in a block that a lane step begins there is no further step
lane-follows : (machine : Machine) (begins : State) (p : ℕ) (all done rest : List Event) → IsPart machine begins all done rest → some_in (is_step_from 0) done ≡ false →
    AllHold (IsFollowing begins (LaneStep p)) rest
lane-follows machine begins p all done [] part none = tt
lane-follows machine begins p all done (event ∷ rest) part none =
    go event part part.next.0 (λ more low. lane-follows machine begins p all (done ++ event ∷ []) rest more low)
  where
    state : State
    state = happened machine begins done

    Later : Event → Type 0
    Later event = IsPart machine begins all (done ++ event ∷ []) rest → some_in (is_step_from 0) (done ++ event ∷ []) ≡ false → AllHold (IsFollowing begins (LaneStep p)) rest

    runs : (q : ℕ) (b : Bool) → run_goes_on machine begins done q ≡ b → b ≡ false
    runs q false g = refl
    runs q true g = true-false (some_in (is_step_from 0) done) (goes-from machine begins done q 0 (omega arith) g) none

    never : {A : Type 0} (event : Event) → IsPart machine begins all done (event ∷ rest) → NoNodeWorks state → A
    never event part nodes =
        absurd (not-between machine begins all done event rest part (record { nodes = nodes; runs = λ q. runs q (run_goes_on machine begins done q) refl }))

    later : (event : Event) → IsPart machine begins all done (event ∷ rest) → is_step_from 0 event ≡ false → Later event → AllHold (IsFollowing begins (LaneStep p)) rest
    later event part low more = more (part-more machine begins all done event rest part) (push-none (is_step_from 0) done event low ∙ none)

    go : (event : Event) → IsPart machine begins all done (event ∷ rest) → first_event state ≡ Some event → Later event → AllHold (IsFollowing begins (LaneStep p)) (event ∷ rest)
    go (Step q) part f more = never (Step q) part (takes-step state q f).0
    go (LaneStep q) part f more = never (LaneStep q) part (takes-lane state q f).0
    go (Evaluation number) part f more = (tt, later (Evaluation number) part refl more)
    go (NetUpdate number) part f more = (tt, later (NetUpdate number) part refl more)

first-part : (machine : Machine) (begins : State) (first : Event) (events : List Event) → IsWholeBlock machine begins (first ∷ events) →
    IsPart machine begins (first ∷ events) (first ∷ []) events
first-part machine begins first events whole = record {
  whole = whole;
  parts = refl;
  some = (let e : length (first ∷ []) ≡ 1 = refl in omega (arith, e));
  first = (whole.first.0, tt);
  next = whole.first.1;
}

pub blocks_follow : RunLaws → BlocksFollow
blocks_follow laws machine begins (Step p) events rests whole = (
  refl,
  run-follows laws machine begins p (Step p ∷ events) (Step p ∷ []) events whole.first.0 (first-part machine begins (Step p) events whole)
      (ap (λ b. b || false) (le-leb p p (omega arith))) (ap (λ b. b || false) (lt-leb (suc p) p (omega arith))),
)
blocks_follow laws machine begins (LaneStep p) events rests whole = (
  refl,
  lane-follows machine begins p (LaneStep p ∷ events) (LaneStep p ∷ []) events (first-part machine begins (LaneStep p) events whole) refl,
)
blocks_follow laws machine begins (Evaluation number) events rests whole = absurd (takes-node begins (Evaluation number) refl whole.first.0 rests)
blocks_follow laws machine begins (NetUpdate number) events rests whole = absurd (takes-node begins (NetUpdate number) refl whole.first.0 rests)
