-- A process or lane step that is possible in a run meets its like in the run without conflict.
use Rattle.std.proofs.Common.{◌≡◌, ℕ, zero, suc, ◌+◌, ◌<◌, ◌≤◌, List, [], ◌∷◌, length, Bool, true, false, not, ◌&&◌, refl, sym, ap, subst, ◌∙◌, ◌⊎◌, inl, inr, arith}
use Rattle.std.specs.Prelude.{◌≢◌, Option, Some, None, slice_get, nat_eq}
use Rattle.std.proofs.lemmas.Bool.{eqb-true, eq-eqb}
use Rattle.vf_base.specs.Lists.{has, joined, map_numbered}
use Rattle.four_value.specs.Values.{LogicValue, same_value, with_part}
use Rattle.v_design.specs.Trees.{Entry}
use Rattle.v_design.specs.Designs.{Machine, forced_variable}
use Rattle.v_design.specs.Assignments.{ValueUpdate, value_at}
use Rattle.v_design.specs.Processes.{Activity, Action, ReadsObject, WritesObject, AppendsUpdate, TouchesNothing}
use Rattle.v_design.specs.States.{State, ProcessState, Event, Step, LaneStep, Evaluation, NetUpdate, found_or, idle_process, process_at, is_ready, is_any, is_quiescent, has_event, has_work, some_in}
use Rattle.v_design.specs.States.{some_entry, entry_matches, value_written, written_if, with_process, write_of, first_update, woken}
use Rattle.v_design.specs.Runs.{happened}
use Rattle.v_design.specs.Paths.{is_wild}
use Rattle.v_design.specs.Accesses.{Writing, ObjectAccess, waiting_entries, waiting_line, ended_of, ended_by, ended_accesses, update_accesses, action_accesses, lane_accesses}
use Rattle.v_design.specs.Logs.{phase_changes}
use Rattle.v_design.specs.PhaseLogs.{log_of, may_cause, is_lane_of}
use Rattle.order_laws.proofs.Unaffected.{write_by}
use Rattle.order_laws.proofs.Clash.{write_stands, some_entry-true, true_is_false}
use Rattle.order_laws.proofs.MayCause.{activity_at, woken_if}
use Rattle.order_laws.proofs.PathLaws.{decided, true-false, or-neither}
use Rattle.order_laws.proofs.WritersStay.{NotNet, write-clear-of, bodies_clear}
use Rattle.order_laws.proofs.CountedChanges.{changed_in}
use Rattle.order_laws.proofs.RunStates.{state_at, at_next, at_past, bare, noted, cause_before, cause_at-place, cause_found, none_past}
use Rattle.order_laws.proofs.Woken.{changed_entry, unchanged_entry, entry-written, length-written, step_or_not, woken_if_process, lane_after_other}
use Rattle.order_laws.proofs.Touches.{unchanged_in, written-here, written-other}
use Rattle.order_laws.proofs.Cells.{Cell, le_or, below_or_same, Stays, NoneBetween, InOrder, in_order}
use Rattle.order_laws.proofs.Runs.{IsRun, clear_at, state_of_at, changes_there, past_same}
use Rattle.order_laws.proofs.FreeRuns.{IsFree, wild_in, tame_counted, Closed, IsOpen, ready_waits_not}
use Rattle.order_laws.proofs.Comparison.{on_event, process_there, lane_there, ProcessPart, LanePart, lane_part, CauseSame, Paired, Compared, cause_past, cause_untouched, process_stays, value_stays}
use Rattle.order_laws.proofs.Comparison.{there-how, wakes_there}
use Rattle.order_laws.proofs.WaitsAlike.{SameTests, waits_alike, value_in_order, tests-same}
use Rattle.order_laws.proofs.Meets.{ChangesAlike}

-- At a legal run's end nothing is ready

quiet-process : (xs : List ProcessState) (p : ℕ) → some_in has_event xs ≡ false → has_event (found_or idle_process (slice_get xs p)) ≡ false
quiet-process [] p h = refl
quiet-process (x ∷ xs) zero h = (or-neither (has_event x) (some_in has_event xs) h).0
quiet-process (x ∷ xs) (suc p) h = quiet-process xs p (or-neither (has_event x) (some_in has_event xs) h).1

pub ended_process : (s : State) (p : ℕ) → is_quiescent s ≡ true → (is_ready (activity_at s p) ≡ false) × (is_any (process_at s p).lane ≡ false)
ended_process s p h =
    or-neither (is_ready (activity_at s p)) (is_any (process_at s p).lane) (quiet-process s.processes p (not-left (some_in has_event s.processes) (some_in has_work s.nodes) h))
  where
    not-left : (b c : Bool) → (not b && not c) ≡ true → b ≡ false
    not-left true c e = cc
    not-left false c e = refl

-- The next step of a process

abbrev pub NextAt : (ℕ → Bool) → List Event → Event → ℕ → Type 0
NextAt touches first event k = (i : ℕ) × (k ≤ i) × (slice_get first i ≡ Some event) × NoneBetween touches k i

pub find_step : (machine : Machine) (state : State) (first : List Event) (p : ℕ) → IsFree machine state first → (fuel k : ℕ) → length first ≤ k + fuel →
    is_ready (activity_at (state_at machine state first k) p) ≡ true →
    NextAt (process_there machine state first p) first (Step p) k
find_step machine state first p r zero k h ready =
    true-false (is_ready (activity_at (state_at machine state first k) p)) ready
    (ap (λ s. is_ready (activity_at s p)) (at_past machine state first k (none_past first k (omega (arith, h)))) ∙ (ended_process (happened machine state first) p r.ends).0)
find_step machine state first p r (suc fuel) k h ready = go (slice_get first k) refl (λ ready'. find_step machine state first p r fuel (suc k) (omega (arith, h)) ready')
  where
    later : NextAt (process_there machine state first p) first (Step p) (suc k) → process_there machine state first p k ≡ false → NextAt (process_there machine state first p) first (Step p) k
    later x f = (
      x.0,
      (let z : suc k ≤ x.0 = x.1 in omega (arith, z)),
      x.2,
      λ l a b. elim (below_or_same k l (omega (arith, a))) [
        | inl low ↦ x.3 l (omega (arith, low)) b
        | inr same ↦ subst (λ m. process_there machine state first p m ≡ false) same f
      ],
    )

    ready-none : (act : Activity) (test : Entry → Bool) → is_ready act ≡ true → some_entry test (waiting_entries act) ≡ false
    ready-none act test h = elim (decided (some_entry test (waiting_entries act))) [
      | inl s ↦ (let m = some_entry-true test (waiting_entries act) s in absurd (ready_waits_not act m.0 h m.1))
      | inr f ↦ f
    ]

    go : (found : Option Event) → slice_get first k ≡ found → (is_ready (activity_at (state_at machine state first (suc k)) p) ≡ true →
        NextAt (process_there machine state first p) first (Step p) (suc k)) →
        NextAt (process_there machine state first p) first (Step p) k
    go None e rest =
        true-false (is_ready (activity_at (state_at machine state first k) p)) ready
        (ap (λ s. is_ready (activity_at s p)) (at_past machine state first k e) ∙ (ended_process (happened machine state first) p r.ends).0)
    go (Some event) e rest = elim (step_or_not p event) [
      | inl own ↦ (k, omega arith, e ∙ ap Some own, λ l a b. absurd (omega (arith, a, b)))
      | inr d ↦
          (let f : process_there machine state first p k ≡ false = elim (decided (process_there machine state first p k)) [
            | inr f ↦ f
            | inl t ↦ elim (there-how machine state first p k r.run t).2 [
              | inl own ↦ absurd (d (sym own ∙ ap (found_or event) (sym (there-how machine state first p k r.run t).1 ∙ e)))
              | inr wakes ↦ true_is_false (sym wakes.1 ∙ ready-none (activity_at (state_at machine state first k) p) _ ready)
            ]
          ] in
          later (rest (ap is_ready (ap (λ (x : ProcessPart). x.activity) (process_stays machine state first p r.run k f)) ∙ ready)) f)
    ]

pub lane_stays : (machine : Machine) (state : State) (first : List Event) (p : ℕ) → Stays (lane_there first p) (lane_part machine state first p)
lane_stays machine state first p k f = go (slice_get first k) refl
  where
    other : (event : Event) → is_lane_of p event ≡ false → LaneStep p ≢ event
    other event g same = true-false (is_lane_of p event) (subst (λ ev. is_lane_of p ev ≡ true) same (eq-eqb p p refl)) g

    go : (found : Option Event) → slice_get first k ≡ found → lane_part machine state first p (suc k) ≡ lane_part machine state first p k
    go None e = λ i. record { lane = ap (λ s. (process_at s p).lane) (past_same machine state first k e) i; cause = cause_past machine state first k (LaneStep p) e i }
    go (Some event) e =
        let g : is_lane_of p event ≡ false = sym (ap (on_event (is_lane_of p)) e) ∙ f in
        λ i. record {
          lane = (ap (λ s. (process_at s p).lane) (at_next machine state first k event e) ∙ lane_after_other machine (state_at machine state first k) event p (other event g)) i;
          cause = cause_untouched machine state first k event (LaneStep p) e g i;
        }

pub find_lane : (machine : Machine) (state : State) (first : List Event) (p : ℕ) → IsFree machine state first → (fuel k : ℕ) → length first ≤ k + fuel →
    is_any (process_at (state_at machine state first k) p).lane ≡ true →
    NextAt (lane_there first p) first (LaneStep p) k
find_lane machine state first p r zero k h ready =
    true-false (is_any (process_at (state_at machine state first k) p).lane) ready
    (ap (λ s. is_any (process_at s p).lane) (at_past machine state first k (none_past first k (omega (arith, h)))) ∙ (ended_process (happened machine state first) p r.ends).1)
find_lane machine state first p r (suc fuel) k h ready = go (decided (lane_there first p k)) (λ ready'. find_lane machine state first p r fuel (suc k) (omega (arith, h)) ready')
  where
    is_it : (event : Event) → is_lane_of p event ≡ true → event ≡ LaneStep p
    is_it (Step q) g = cc
    is_it (LaneStep q) g = ap LaneStep (sym (eqb-true p q g))
    is_it (Evaluation q) g = cc
    is_it (NetUpdate q) g = cc

    here : (found : Option Event) → slice_get first k ≡ found → on_event (is_lane_of p) found ≡ true → slice_get first k ≡ Some (LaneStep p)
    here None e t = cc
    here (Some event) e t = e ∙ ap Some (is_it event t)

    go : (lane_there first p k ≡ true) ⊎ (lane_there first p k ≡ false) → (is_any (process_at (state_at machine state first (suc k)) p).lane ≡ true →
        NextAt (lane_there first p) first (LaneStep p) (suc k)) →
        NextAt (lane_there first p) first (LaneStep p) k
    go (inl t) rest = (k, omega arith, here (slice_get first k) refl t, λ l a b. absurd (omega (arith, a, b)))
    go (inr f) rest =
        let x = rest (ap (λ (l : LanePart). is_any l.lane) (lane_stays machine state first p k f) ∙ ready) in (
          x.0,
          (let z : suc k ≤ x.0 = x.1 in omega (arith, z)),
          x.2,
          λ l a b. elim (below_or_same k l (omega (arith, a))) [
            | inl low ↦ x.3 l (omega (arith, low)) b
            | inr same ↦ subst (λ m. lane_there first p m ≡ false) same f
          ],
        )

-- What is done is closed under causes

some_eq : {A : Type 0} (x y : A) → Some x ≡ Some y → x ≡ y
some_eq x y e = ap (found_or x) e

pub closed_done : (machine : Machine) (state : State) (first events : List Event) (n : ℕ) (matched : ℕ → Option ℕ) (done : List ℕ) → Compared machine state first events n matched done →
    Closed (log_of machine state first) done
closed_done machine state first events n matched done c k l h e =
    let f = c.found k h in
    go f.0 (c.pairs f.0 k f.1) (c.pairs f.0 k f.1).cause
  where
    none_is : {B : Type 0} → None ≡ Some l → B
    none_is x = cc

    go : (j : ℕ) → (p : Paired machine state first events matched j k) → CauseSame matched (cause_before machine state events j p.event) (cause_before machine state first k p.event) →
        has done l ≡ true
    go j p (inl none) = none_is (sym none.1 ∙ sym (cause_at-place machine state first k p.event p.first_stands) ∙ e)
    go j p (inr s) =
        subst (λ x. has done x ≡ true) (some_eq s.1 l (sym s.3 ∙ sym (cause_at-place machine state first k p.event p.first_stands) ∙ e)) (c.listed s.0 s.1 s.4)

-- an event that comes next to be touched is open
pub opens_next : {X : Type 0} (machine : Machine) (state : State) (first events : List Event) (n : ℕ) (matched : ℕ → Option ℕ) (done : List ℕ) (touches : ℕ → Bool) (content : ℕ → X) (x : X) (i : ℕ)
    (event : Event) →
    Compared machine state first events n matched done → (cell : Cell touches content done x) → cell.place ≤ i → NoneBetween touches cell.place i → touches i ≡ true → slice_get first i ≡ Some event →
    ((k : ℕ) (other : Event) → slice_get first k ≡ Some other → may_cause machine event (bare (state_at machine state first k) other) ≡ true → touches k ≡ true) →
    IsOpen (log_of machine state first) done i
opens_next machine state first events n matched done touches content x i event c cell le none t e caused = record {
  closed = closed_done machine state first events n matched done c;
  cause_done = λ l h.
      let k = cause_found machine state first i event l (sym (cause_at-place machine state first i event e) ∙ h) in
      let tl : touches l ≡ true = caused l k.event k.stands k.may in
      elim (le_or cell.place l) [
        | inl past ↦ true-false (touches l) tl (none l past k.earlier)
        | inr early ↦ cell.known l tl early
      ];
  open_still = elim (decided (has done i)) [
    | inl h ↦ (let z : i < cell.place = cell.before i t h in absurd (omega (arith, z, le)))
    | inr f ↦ f
  ];
}

-- Writes of the same

-- a write gives the same of the same
pub written_same : (machine : Machine) (s t : State) (u : ValueUpdate) → value_at s.values u.object ≡ value_at t.values u.object → value_written machine s u ≡ value_written machine t u
written_same machine s t u e = ap (λ v. forced_variable machine.fault u.object (with_part v u.low u.value)) e

-- and matches the same entries
tests-written : (machine : Machine) (s t : State) (p : ℕ) (own own' : ProcessState → ProcessState) (w : Option ValueUpdate) →
    ((u : ValueUpdate) → w ≡ Some u → value_at s.values u.object ≡ value_at t.values u.object) →
    SameTests s (written_if machine w (with_process p own s)) t (written_if machine w (with_process p own' t))
tests-written machine s t p own own' None h entry = unchanged_entry s (with_process p own s) entry refl ∙ sym (unchanged_entry t (with_process p own' t) entry refl)
tests-written machine s t p own own' (Some u) h entry =
    sym (entry-written machine u.object (value_written machine s u) (with_process p own s) (length-written machine s u) entry)
    ∙ (λ i. entry_matches u.object (h u refl i) (written_same machine s t u (h u refl) i) entry)
    ∙ entry-written machine u.object (value_written machine t u) (with_process p own' t) (length-written machine t u) entry

pub woken_if-activity : (machine : Machine) (s : State) (w : Option ValueUpdate) (x : ProcessState) → (woken_if_process machine s w x).activity ≡ woken_if machine s w x.activity
woken_if-activity machine s None x = refl
woken_if-activity machine s (Some u) x = refl

pub woken_if-later : (machine : Machine) (s : State) (w : Option ValueUpdate) (x : ProcessState) → (woken_if_process machine s w x).later ≡ x.later
woken_if-later machine s None x = refl
woken_if-later machine s (Some u) x = refl

pub woken_if-lane : (machine : Machine) (s : State) (w : Option ValueUpdate) (x : ProcessState) → (woken_if_process machine s w x).lane ≡ x.lane
woken_if-lane machine s None x = refl
woken_if-lane machine s (Some u) x = refl

pub woken_if-same : (machine : Machine) (s t : State) (w : Option ValueUpdate) (act act' : Activity) → ((u : ValueUpdate) → w ≡ Some u → value_at s.values u.object ≡ value_at t.values u.object) →
    act ≡ act' →
    woken_if machine s w act ≡ woken_if machine t w act'
woken_if-same machine s t None act act' h e = e
woken_if-same machine s t (Some u) act act' h e = λ i. woken u.object (h u refl i) (written_same machine s t u (h u refl) i) (e i)

-- Accesses of the same

numbered-same : {A B : Type 0} (f : ℕ → A → B) (k : ℕ) (d : A) (xs ys : List A) → length xs ≡ length ys →
    ((j : ℕ) → f (k + j) (found_or d (slice_get xs j)) ≡ f (k + j) (found_or d (slice_get ys j))) →
    map_numbered f k xs ≡ map_numbered f k ys
numbered-same f k d [] [] e h = refl
numbered-same f k d [] (y ∷ ys) e h = absurd (omega (arith, e))
numbered-same f k d (x ∷ xs) [] e h = absurd (omega (arith, e))
numbered-same f k d (x ∷ xs) (y ∷ ys) e h =
    λ i. (ap (λ m. f m x) (let z : k ≡ k + 0 = omega arith in z) ∙ h 0 ∙ ap (λ m. f m y) (let z : k + 0 ≡ k = omega arith in z)) i
    ∷ numbered-same f (k + 1) d xs ys (omega (arith, e)) (λ j. ap (λ m. f m (found_or d (slice_get xs j))) (let z : k + 1 + j ≡ k + suc j = omega arith in z) ∙ h (suc j)
    ∙ ap (λ m. f m (found_or d (slice_get ys j))) (let z : k + suc j ≡ k + 1 + j = omega arith in z)) i

pub ended_same : (object : ℕ) (old new : LogicValue) (s t : State) → length s.processes ≡ length t.processes →
    ((q : ℕ) → ended_by object old new q (process_at s q) ≡ ended_by object old new q (process_at t q)) →
    ended_accesses object old new s ≡ ended_accesses object old new t
ended_same object old new s t e h =
    ap joined (numbered-same (ended_by object old new) 0 idle_process s.processes t.processes e
    (λ j. ap (λ m. ended_by object old new m (process_at s j)) (let z : 0 + j ≡ j = omega arith in z) ∙ h j
    ∙ ap (λ m. ended_by object old new m (process_at t j)) (let z : j ≡ 0 + j = omega arith in z)))

update-same : (machine : Machine) (p l : ℕ) (u : ValueUpdate) (s t : State) → value_at s.values u.object ≡ value_at t.values u.object →
    ended_accesses u.object (value_at t.values u.object) (value_written machine t u) s ≡ ended_accesses u.object (value_at t.values u.object) (value_written machine t u) t →
    update_accesses machine p l u s ≡ update_accesses machine p l u t
update-same machine p l u s t e h =
    (λ i. (let a : ObjectAccess = record { act = Writing (e i) (written_same machine s t u e i); object = u.object; process = p; line = l } in a)
    ∷ ended_accesses u.object (e i) (written_same machine s t u e i) s)
    ∙ ap (λ es. (let a : ObjectAccess = record { act = Writing (value_at t.values u.object) (value_written machine t u); object = u.object; process = p; line = l } in a) ∷ es) h

pub action-same : (machine : Machine) (p l : ℕ) (action : Action) (s t : State) →
    ((u : ValueUpdate) → write_of action ≡ Some u → (value_at s.values u.object ≡ value_at t.values u.object)
    × (ended_accesses u.object (value_at t.values u.object) (value_written machine t u) s ≡ ended_accesses u.object (value_at t.values u.object) (value_written machine t u) t)) →
    action_accesses machine p l action s ≡ action_accesses machine p l action t
action-same machine p l (ReadsObject object) s t h = refl
action-same machine p l (WritesObject u) s t h = update-same machine p l u s t (h u refl).0 (h u refl).1
action-same machine p l (AppendsUpdate delay u) s t h = refl
action-same machine p l TouchesNothing s t h = refl

pub lane-same : (machine : Machine) (p : ℕ) (lane : List ValueUpdate) (s t : State) →
    ((u : ValueUpdate) → first_update lane ≡ Some u → (value_at s.values u.object ≡ value_at t.values u.object)
    × (ended_accesses u.object (value_at t.values u.object) (value_written machine t u) s ≡ ended_accesses u.object (value_at t.values u.object) (value_written machine t u) t)) →
    lane_accesses machine p lane s ≡ lane_accesses machine p lane t
lane-same machine p [] s t h = refl
lane-same machine p (u ∷ rest) s t h = update-same machine p u.line u s t (h u refl).0 (h u refl).1

-- An event that writes the same, at its place in each run
module _ (machine : Machine) (state : State) (first events : List Event) (n : ℕ) (matched : ℕ → Option ℕ) (done : List ℕ) (i : ℕ) (event : Event) (p : ℕ) (own own' : ProcessState → ProcessState)
    (w : Option ValueUpdate)
    (r : IsFree machine state first) (run : IsRun machine state events) (c : Compared machine state first events n matched done) (o : IsOpen (log_of machine state first) done i)
    (stands : slice_get events n ≡ Some event) (first_stands : slice_get first i ≡ Some event)
    (here : state_at machine state events (suc n) ≡ written_if machine w (with_process p own (state_at machine state events n)))
    (there : state_at machine state first (suc i) ≡ written_if machine w (with_process p own' (state_at machine state first i)))
    (writes : write_by machine (state_at machine state first i) event ≡ w) where
  -- it writes no net
  not-net : (u : ValueUpdate) → w ≡ Some u → wild_in machine state first u.object ≡ false
  not-net u e =
      ap (λ b. b && is_wild machine.design (phase_changes machine.design (log_of machine state first)) u.object)
      (write-clear-of (NotNet machine) machine (state_at machine state first i) event u (bodies_clear machine r.run.rules) (clear_at machine state first i r.run) (writes ∙ e))

  -- and finds the same old value
  written-order : (u : ValueUpdate) → w ≡ Some u → InOrder (changes_there machine state first u.object) done i
  written-order u e =
      let x = write_stands machine (state_at machine state first i) (noted machine state first i event).process (noted machine state first i event).line event u (writes ∙ e) in
      value_in_order machine state first done i u.object _ r o (not-net u e) (tame_counted machine state first i event _ first_stands x.1 (not-net u e)) refl (λ old new. refl)

  pub old-same : (u : ValueUpdate) → w ≡ Some u → value_at (state_at machine state events n).values u.object ≡ value_at (state_at machine state first i).values u.object
  old-same u e =
      (in_order (changes_there machine state first u.object) (λ k. value_at (state_at machine state first k).values u.object) done (value_at (state_at machine state events n).values u.object) i
      (value_stays machine state first u.object) (c.values u.object (not-net u e)) (written-order u e)).0

  pub tests : SameTests (state_at machine state events n) (state_at machine state events (suc n)) (state_at machine state first i) (state_at machine state first (suc i))
  tests entry =
      ap (λ s. changed_entry (state_at machine state events n) s entry) here
      ∙ tests-written machine (state_at machine state events n) (state_at machine state first i) p own own' w old-same entry
      ∙ ap (λ s. changed_entry (state_at machine state first i) s entry) (sym there)

  object-other : (object : ℕ) → ((u : ValueUpdate) → w ≡ Some u → nat_eq u.object object ≡ false) →
      (changes_there machine state events object n ≡ false) × (changes_there machine state first object i ≡ false)
  object-other object h = (
    ap (λ s. changed_in (state_at machine state events n) s object) here
        ∙ unchanged_in (state_at machine state events n) (written_if machine w (with_process p own (state_at machine state events n))) object
        (written-other machine (state_at machine state events n) p own w object h),
    ap (λ s. changed_in (state_at machine state first i) s object) there
        ∙ unchanged_in (state_at machine state first i) (written_if machine w (with_process p own' (state_at machine state first i))) object
        (written-other machine (state_at machine state first i) p own' w object h),
  )

  new-same : (u : ValueUpdate) → w ≡ Some u → value_at (state_at machine state events (suc n)).values u.object ≡ value_at (state_at machine state first (suc i)).values u.object
  new-same u e =
      ap (λ s. value_at s.values u.object) (here ∙ ap (λ x. written_if machine x (with_process p own (state_at machine state events n))) e)
      ∙ written-here machine (state_at machine state events n) p own u
      ∙ written_same machine (state_at machine state events n) (state_at machine state first i) u (old-same u e)
      ∙ sym (ap (λ s. value_at s.values u.object) (there ∙ ap (λ x. written_if machine x (with_process p own' (state_at machine state first i))) e)
      ∙ written-here machine (state_at machine state first i) p own' u)

  pub objects : (object : ℕ) (tame : wild_in machine state first object ≡ false) → ChangesAlike machine state first events n i object (c.values object tame).place
  objects object tame = by w refl
    where
      at : (u : ValueUpdate) → w ≡ Some u → u.object ≡ object → ChangesAlike machine state first events n i object (c.values object tame).place
      at u e same =
          let before : value_at (state_at machine state events n).values object ≡ value_at (state_at machine state first i).values object =
          subst (λ x. value_at (state_at machine state events n).values x ≡ value_at (state_at machine state first i).values x) same (old-same u e) in
          let next : value_at (state_at machine state events (suc n)).values object ≡ value_at (state_at machine state first (suc i)).values object =
          subst (λ x. value_at (state_at machine state events (suc n)).values x ≡ value_at (state_at machine state first (suc i)).values x) same (new-same u e) in
          let alike : changes_there machine state events object n ≡ changes_there machine state first object i = λ k. not (same_value (before k) (next k)) in
          let order : InOrder (changes_there machine state first object) done i = subst (λ x. InOrder (changes_there machine state first x) done i) same (written-order u e) in
          elim (decided (changes_there machine state first object i)) [
            | inl t ↦ inr (
              alike ∙ t,
              t,
              next,
              (in_order (changes_there machine state first object) (λ k. value_at (state_at machine state first k).values object) done (value_at (state_at machine state events n).values object) i
                  (value_stays machine state first object) (c.values object tame) order).1 t,
            )
            | inr f ↦ inl (alike ∙ f, f)
          ]

      none_is : {B : Type 0} (u : ValueUpdate) → None ≡ Some u → B
      none_is u e = cc

      by : (x : Option ValueUpdate) → w ≡ x → ChangesAlike machine state first events n i object (c.values object tame).place
      by None e = inl (object-other object (λ u f. none_is u (sym e ∙ f)))
      by (Some u) e = elim (decided (nat_eq u.object object)) [
        | inl same ↦ at u e (eqb-true u.object object same)
        | inr apart ↦ inl (object-other object (λ v f. ap (λ (x : ValueUpdate). nat_eq x.object object) (some_eq v u (sym f ∙ e)) ∙ apart))
      ]

  -- the waits that it ends are the same
  pub ended-alike : ((q : ℕ) → Step q ≡ event → activity_at (state_at machine state events n) q ≡ activity_at (state_at machine state first i) q) → (u : ValueUpdate) → w ≡ Some u →
      ended_accesses u.object (value_at (state_at machine state first i).values u.object) (value_written machine (state_at machine state first i) u) (state_at machine state events n)
      ≡ ended_accesses u.object (value_at (state_at machine state first i).values u.object) (value_written machine (state_at machine state first i) u) (state_at machine state first i)
  ended-alike mine u e =
      ended_same u.object (value_at (state_at machine state first i).values u.object) (value_written machine (state_at machine state first i) u) (state_at machine state events n)
      (state_at machine state first i)
      ((state_of_at machine state events n run).processes ∙ sym (state_of_at machine state first i r.run).processes) each
    where
      test : Entry → Bool
      test = entry_matches u.object (value_at (state_at machine state first i).values u.object) (value_written machine (state_at machine state first i) u)

      ended : ℕ → Activity → List ObjectAccess
      ended q act = ended_of (some_entry (entry_matches u.object (value_at (state_at machine state first i).values u.object) (value_written machine (state_at machine state first i) u))
          (waiting_entries act))
          (entry_matches u.object (value_at (state_at machine state first i).values u.object) (value_written machine (state_at machine state first i) u)) q (waiting_line act) (waiting_entries act)

      none : (q : ℕ) (act : Activity) → some_entry (entry_matches u.object (value_at (state_at machine state first i).values u.object) (value_written machine (state_at machine state first i) u))
          (waiting_entries act) ≡ false →
          ended_of (some_entry (entry_matches u.object (value_at (state_at machine state first i).values u.object) (value_written machine (state_at machine state first i) u)) (waiting_entries act))
          (entry_matches u.object (value_at (state_at machine state first i).values u.object) (value_written machine (state_at machine state first i) u)) q (waiting_line act)
          (waiting_entries act) ≡ []
      none q act f = ap (λ b. ended_of b (entry_matches u.object (value_at (state_at machine state first i).values u.object) (value_written machine (state_at machine state first i) u)) q
          (waiting_line act) (waiting_entries act)) f

      same-test : (entry : Entry) → entry_matches u.object (value_at (state_at machine state first i).values u.object) (value_written machine (state_at machine state first i) u) entry
          ≡ changed_entry (state_at machine state first i) (state_at machine state first (suc i)) entry
      same-test entry =
          entry-written machine u.object (value_written machine (state_at machine state first i) u) (with_process p own' (state_at machine state first i))
          (length-written machine (state_at machine state first i) u) entry
          ∙ ap (λ s. changed_entry (state_at machine state first i) s entry) (sym (there ∙ ap (λ x. written_if machine x (with_process p own' (state_at machine state first i))) e))

      quiet-there : (q : ℕ) → Step q ≢ event → process_there machine state first q i ≡ false →
          some_entry (changed_entry (state_at machine state first i) (state_at machine state first (suc i))) (waiting_entries (activity_at (state_at machine state first i) q)) ≡ false
      quiet-there q d f = elim (decided (some_entry (changed_entry (state_at machine state first i) (state_at machine state first (suc i)))
          (waiting_entries (activity_at (state_at machine state first i) q)))) [
            | inl s ↦ true-false (process_there machine state first q i) (wakes_there machine state first q i event r.run first_stands d s) f
            | inr g ↦ g
          ]

      each : (q : ℕ) → ended_by u.object (value_at (state_at machine state first i).values u.object) (value_written machine (state_at machine state first i) u) q
          (process_at (state_at machine state events n) q)
          ≡ ended_by u.object (value_at (state_at machine state first i).values u.object) (value_written machine (state_at machine state first i) u) q (process_at (state_at machine state first i) q)
      each q = elim (step_or_not q event) [
        | inl same ↦ ap (ended q) (mine q (sym same))
        | inr d ↦ elim (waits_alike machine state first events n matched done i q event r o first_stands d (c.processes q) tests) [
          | inl woken ↦ ap (ended q) (ap (λ (x : ProcessPart). x.activity) woken.0.now)
          | inr quiet ↦
              none q (activity_at (state_at machine state events n) q)
              (tests-same test (changed_entry (state_at machine state events n) (state_at machine state events (suc n))) (waiting_entries (activity_at (state_at machine state events n) q))
              (λ entry. same-test entry ∙ sym (tests entry)) ∙ quiet.0)
              ∙ sym (none q (activity_at (state_at machine state first i) q)
              (tests-same test (changed_entry (state_at machine state first i) (state_at machine state first (suc i))) (waiting_entries (activity_at (state_at machine state first i) q)) same-test
              ∙ quiet-there q d quiet.1))
        ]
      ]
