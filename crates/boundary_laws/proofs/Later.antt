-- Which processes are ready between runs, and which lanes have updates, by the blocks behind.
use Rattle.std.proofs.Common.{◌≡◌, ℕ, suc, ◌≤◌, List, [], ◌∷◌, ◌++◌, length, Bool, true, false, not, ◌&&◌, ◌||◌, refl, sym, ap, subst, ◌∙◌, inl, inr, arith}
use Rattle.std.specs.Prelude.{Some, count_by, nat_eq}
use Rattle.std.proofs.lemmas.Bool.{cases_eq, eq-eqb, lt-leb}
use Rattle.std.proofs.lemmas.List.{append-nil, append_assoc}
use Rattle.v_design.specs.Designs.{Machine}
use Rattle.v_design.specs.Assignments.{ValueUpdate}
use Rattle.v_design.specs.States.{State, Event, Step, LaneStep, Evaluation, NetUpdate, after, process_at, is_ready, is_any, rest_of, some_in}
use Rattle.v_design.specs.Runs.{first_event, happened}
use Rattle.v_design.specs.PhaseLogs.{is_step_of, is_lane_of}
use Rattle.copy_laws.specs.Beside.{AreFirst}
use Rattle.copy_laws.proofs.ReadRuns.{stays-ready, is-the-step}
use Rattle.machine_laws.specs.SlotLoop.{IsIdle}
use Rattle.phase_blocks.specs.Blocks.{is_step_from}
use Rattle.phase_blocks.proofs.Lists.{true-false, push-none, some-weaker, happened-append, first-before, first-behind}
use Rattle.phase_blocks.proofs.Taken.{takes-step, takes-lane, ready-first, ready-none, lane-first, lane-none, least-ready}
use Rattle.phase_blocks.proofs.Going.{RunLaws}
use Rattle.block_changes.specs.Changes.{ends_wait_of}
use Rattle.block_states.proofs.Woken.{stays-so}
use Rattle.boundary_laws.specs.Readiness.{BeginsOwnBlock, ReadyBeginBlocks, LanesAreTaken}
use Rattle.boundary_laws.proofs.Parts.{other-lane, own-lane}
use Rattle.boundary_laws.proofs.Pending.{count-first, is-the-lane}
use Rattle.boundary_laws.proofs.Steps.{own-from, rests-below, ready-waits-not}

-- From a ready process to its block

-- what the first order takes while a process is ready is no step of it or of a greater one, but for its own
other-lesser : (state : State) (p : ℕ) (event : Event) → is_ready (process_at state p).activity ≡ true → is_step_of p event ≡ false → first_event state ≡ Some event → is_step_from p event ≡ false
other-lesser state p (Step q) ready h e = elim (cases_eq q p) [
  | inl same ↦ true-false (nat_eq p q) (eq-eqb p q (sym same)) h
  | inr other ↦ (let low : q ≤ p = least-ready state q p (takes-step state q e).2 ready in lt-leb p q (omega (arith, other, low)))
]
other-lesser state p (LaneStep q) ready h e = refl
other-lesser state p (Evaluation number) ready h e = refl
other-lesser state p (NetUpdate number) ready h e = refl

-- from a moment on at which a process is ready, and neither it nor a greater one took a step
abbrev BeginsFrom : Machine → State → ℕ → List Event → List Event → Type 0
BeginsFrom machine begins p before behind =
    is_ready (process_at (happened machine begins before) p).activity ≡ true → some_in (is_step_from p) before ≡ false → AreFirst machine (happened machine begins before) behind →
    IsIdle (happened machine (happened machine begins before) behind) → BeginsOwnBlock machine begins before behind p

ready-begins : (machine : Machine) (begins : State) (p : ℕ) (before behind : List Event) → BeginsFrom machine begins p before behind
ready-begins machine begins p before [] ready none first idle =
    true-false (is_ready (process_at (happened machine begins before) p).activity) ready (ready-none (happened machine begins before) p idle.2)
ready-begins machine begins p before (event ∷ behind) ready none first idle = go (is_step_of p event) refl (ready-begins machine begins p (before ++ event ∷ []) behind)
  where
    state : State
    state = happened machine begins before

    next : happened machine begins (before ++ event ∷ []) ≡ after machine state event
    next = happened-append machine begins before (event ∷ [])

    more : BeginsOwnBlock machine begins (before ++ event ∷ []) behind p → BeginsOwnBlock machine begins before (event ∷ behind) p
    more own = record {
      earlier = event ∷ own.earlier;
      later = own.later;
      parts = ap (λ l. event ∷ l) own.parts;
      begins_there = ap (λ l. not (some_in (is_step_from p) l)) (sym (append_assoc before (event ∷ []) own.earlier)) ∙ own.begins_there;
      not_woken =
          ap (λ b. (b && is_ready (process_at (after machine state event) p).activity) || ends_wait_of machine (after machine state event) own.earlier p)
          (ready-waits-not (process_at state p).activity ready)
          ∙ ap (λ s. ends_wait_of machine s own.earlier p) (sym next) ∙ own.not_woken;
    }

    go : (b : Bool) → is_step_of p event ≡ b → BeginsFrom machine begins p (before ++ event ∷ []) behind → BeginsOwnBlock machine begins before (event ∷ behind) p
    go true h rest = record {
      earlier = [];
      later = behind;
      parts = ap (λ (e : Event). e ∷ behind) (is-the-step p event h);
      begins_there = ap (λ l. not (some_in (is_step_from p) l)) (append-nil before) ∙ ap not none;
      not_woken = refl;
    }
    go false h rest =
        more
        (rest (ap (λ (s : State). is_ready (process_at s p).activity) next ∙ ap is_ready (stays-ready machine state p event h ready) ∙ ready)
        (push-none (is_step_from p) before event (other-lesser state p event ready h first.0) ∙ none) (subst (λ s. AreFirst machine s behind) (sym next) first.1)
        (subst (λ s. IsIdle (happened machine s behind)) (sym next) idle))

-- And back

not-true : (b : Bool) → not b ≡ true → b ≡ false
not-true true e = cc
not-true false e = refl

or-right : (b : Bool) → (b || true) ≡ true
or-right true = refl
or-right false = refl

some-behind : {A : Type 0} (test : A → Bool) (xs ys : List A) → some_in test ys ≡ true → some_in test (xs ++ ys) ≡ true
some-behind test [] ys e = e
some-behind test (x ∷ xs) ys e = ap (λ b. test x || b) (some-behind test xs ys e) ∙ or-right (test x)

-- a process whose block begins behind some events took no step among the last of them
no-own-steps : (p : ℕ) (before earlier : List Event) (b : Bool) → some_in (is_step_from p) (before ++ earlier) ≡ false → some_in (is_step_of p) earlier ≡ b → b ≡ false
no-own-steps p before earlier false none e = refl
no-own-steps p before earlier true none e =
    true-false (some_in (is_step_from p) (before ++ earlier)) (some-behind (is_step_from p) before earlier (some-weaker (is_step_of p) (is_step_from p) earlier (own-from p) e)) none

block-ready : (machine : Machine) (begins : State) (p : ℕ) (before behind : List Event) → AreFirst machine begins (before ++ behind) → BeginsOwnBlock machine begins before behind p →
    is_ready (process_at (happened machine begins before) p).activity ≡ true
block-ready machine begins p before behind first own =
    ap is_ready (sym (stays-so machine (happened machine begins before) own.earlier p steps own.not_woken))
    ∙ ap (λ (s : State). is_ready (process_at s p).activity) (sym (happened-append machine begins before own.earlier)) ∙ ready-first at p (takes-step at p taken).2
  where
    at : State
    at = happened machine begins (before ++ own.earlier)

    taken : first_event at ≡ Some (Step p)
    taken =
        (first-behind machine begins (before ++ own.earlier) (Step p ∷ own.later)
        (subst (AreFirst machine begins) (ap (λ l. before ++ l) own.parts ∙ sym (append_assoc before own.earlier (Step p ∷ own.later))) first)).0

    steps : some_in (is_step_of p) own.earlier ≡ false
    steps = no-own-steps p before own.earlier (some_in (is_step_of p) own.earlier) (not-true (some_in (is_step_from p) (before ++ own.earlier)) own.begins_there) refl

pub ready_begin_blocks : RunLaws → ReadyBeginBlocks
ready_begin_blocks laws machine begins before behind p first between idle = (
  λ ready. ready-begins machine begins p before behind ready (none (some_in (is_step_from p) before) refl ready) (first-behind machine begins before behind first)
      (subst IsIdle (happened-append machine begins before behind) idle),
  block-ready machine begins p before behind first,
)
  where
    none : (b : Bool) → some_in (is_step_from p) before ≡ b → is_ready (process_at (happened machine begins before) p).activity ≡ true → b ≡ false
    none false e ready = refl
    none true e ready =
        true-false (is_ready (process_at (happened machine begins before) p).activity) ready
        (rests-below laws machine begins before p (first-before machine begins before behind first) between e)

-- Lanes

none-there : {A : Type 0} (xs : List A) → is_any xs ≡ false → length xs ≡ 0
none-there [] e = refl
none-there (x ∷ xs) e = cc

one-less : (lane : List ValueUpdate) → is_any lane ≡ true → length lane ≡ suc (length (rest_of lane))
one-less [] e = cc
one-less (update ∷ lane) e = refl

pub lanes_are_taken : LanesAreTaken
lanes_are_taken machine state [] p first idle = none-there (process_at state p).lane (lane-none state p idle.1)
lanes_are_taken machine state (event ∷ events) p first idle = go (is_lane_of p event) refl (lanes_are_taken machine (after machine state event) events p first.1 idle)
  where
    go : (b : Bool) → is_lane_of p event ≡ b → length (process_at (after machine state event) p).lane ≡ count_by (is_lane_of p) events →
        length (process_at state p).lane ≡ count_by (is_lane_of p) (event ∷ events)
    go true h rest =
        let taken : first_event state ≡ Some (LaneStep p) = first.0 ∙ ap Some (is-the-lane p event h) in
        let lane : (process_at (after machine state event) p).lane ≡ rest_of (process_at state p).lane =
        ap (λ (e : Event). (process_at (after machine state e) p).lane) (is-the-lane p event h) ∙ own-lane machine state p in
        one-less (process_at state p).lane (lane-first state p (takes-lane state p taken).1) ∙ ap suc (sym (ap length lane) ∙ rest) ∙ sym (count-first (is_lane_of p) event events true h)
    go false h rest = sym (ap length (other-lane machine state p event h)) ∙ rest ∙ sym (count-first (is_lane_of p) event events false h)
