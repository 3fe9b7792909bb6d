-- In a run without conflict: clashing accesses are ordered, a change settles the wild nets that it reaches, and no process ever waits on a wild net.
use Rattle.std.proofs.Common.{◌≡◌, ℕ, zero, suc, ◌+◌, ◌<◌, ◌≤◌, List, [], ◌∷◌, ◌++◌, map, length, Bool, true, false, ◌&&◌, ◌||◌, refl, sym, ap, subst, ◌∙◌, ◌⊎◌, inl, inr, arith, sum_by}
use Rattle.std.specs.Prelude.{◌≢◌, Option, Some, None, slice_get, nat_eq, filter}
use Rattle.std.proofs.lemmas.Bool.{eqb-true}
use Rattle.std.proofs.lemmas.List.Sums.{sum_by-cons}
use Rattle.vf_base.specs.Lists.{has, joined}
use Rattle.v_design.specs.Trees.{Entry}
use Rattle.v_design.specs.Designs.{FlatDesign, FlatNode, Machine}
use Rattle.v_design.specs.Assignments.{value_at}
use Rattle.v_design.specs.Processes.{Activity, Ready, Waiting, Asleep, Postponed, Done, Action, TouchesNothing}
use Rattle.v_design.specs.States.{State, ProcessState, Event, Step, LaneStep, Evaluation, NetUpdate, after, possible, found_or, is_quiescent, process_at, is_ready, some_entry, step_of, write_of}
use Rattle.v_design.specs.States.{next_activity, appended}
use Rattle.v_design.specs.Runs.{happened}
use Rattle.v_design.specs.Paths.{paths, net_pieces, class_of_paths, is_wild_class, is_wild}
use Rattle.v_design.specs.Accesses.{Writing, Awaiting, Holding, Settling, ObjectAccess, waiting_entries, waiting_line, action_accesses, await_accesses, held_by}
use Rattle.v_design.specs.Logs.{LoggedPhase, change_of, changes_of, phase_changes, is_write, orders, causes_from, cause_at, acts_clash, orders_others, least_pair}
use Rattle.v_design.specs.PhaseLogs.{NotedEvent, log_of, may_cause, changes_input, changes_one}
use Rattle.v_design.specs.WellFormed.{KeepsRules}
use Rattle.order_laws.proofs.Conflicts.{In, In-map}
use Rattle.order_laws.proofs.FreeLogs.{In-append}
use Rattle.order_laws.proofs.SwappedLogs.{accesses_at}
use Rattle.order_laws.proofs.Unaffected.{own_of, awaits_by}
use Rattle.order_laws.proofs.Clash.{await_stands, In-joined, true_is_false}
use Rattle.order_laws.proofs.MayCause.{activity_at}
use Rattle.order_laws.proofs.Notes.{new_notes, length-new_notes, later-orders-not}
use Rattle.order_laws.proofs.PairsOfRuns.{cause_at-new, backward-log}
use Rattle.order_laws.proofs.SwappedRuns.{length-map}
use Rattle.order_laws.proofs.PathLaws.{decided, true-false, or-either, reached}
use Rattle.order_laws.proofs.QuietNets.{event_changes, run_changes}
use Rattle.order_laws.proofs.CountedChanges.{changed_in}
use Rattle.order_laws.proofs.CleanNets.{same-changes, phase_changes-run}
use Rattle.order_laws.proofs.WaitsBegin.{activity-waits}
use Rattle.order_laws.proofs.RunStates.{state_at, at_start, at_next, possible_at, bare, noted, accesses_before, accesses_at-place, cause_before, cause_at-place, IsCause, cause_found, none_past}
use Rattle.order_laws.proofs.RunStates.{past_none}
use Rattle.order_laws.proofs.Woken.{changed_entry, unchanged_entry, none-passes, woken_by, woken_by-waits, woken_after, own_waits, own_step, woken_if_process, touches_process, touches-how}
use Rattle.order_laws.proofs.Woken.{untouched_process, step_or_not}
use Rattle.order_laws.proofs.Ordered.{counted_at, events_clash, held_clash, counts_in, counts-other, counts-tame, settles_in, in-filter}
use Rattle.order_laws.proofs.Touches.{unchanged_in, written-other, change_access, in_processes}
use Rattle.order_laws.proofs.Cells.{difference}
use Rattle.order_laws.proofs.Runs.{IsRun, follows_at, changes_there, past_same, reached_by}

-- a legal run of a phase without conflict
pub record IsFree (machine : Machine) (state : State) (first : List Event) : Type 0 where
  pub run : IsRun machine state first
  pub free : least_pair machine.design (log_of machine state first) ≡ None
  pub ends : is_quiescent (happened machine state first) ≡ true

-- whether an object is a wild net of the run
abbrev pub wild_in : Machine → State → List Event → ℕ → Bool
wild_in machine state first object = has (net_pieces machine.design) object && is_wild machine.design (phase_changes machine.design (log_of machine state first)) object

-- the accesses of an event that count
abbrev pub counted : Machine → State → List Event → ℕ → List ObjectAccess
counted machine state first place = counted_at machine.design (log_of machine state first) place

and-parts : (b c : Bool) → (b && c) ≡ true → (b ≡ true) × (c ≡ true)
and-parts true c e = (refl, e)
and-parts false c e = cc

pub stands_in : (machine : Machine) (state : State) (first : List Event) (k : ℕ) (event : Event) (x : ObjectAccess) → slice_get first k ≡ Some event →
    In x (accesses_before machine state first k event) →
    In x (accesses_at (log_of machine state first) k)
stands_in machine state first k event x e i = subst (λ xs. In x xs) (sym (accesses_at-place machine state first k event e)) i

-- an access that isn't a write counts
pub other_counted : (machine : Machine) (state : State) (first : List Event) (k : ℕ) (event : Event) (x : ObjectAccess) → slice_get first k ≡ Some event →
    In x (accesses_before machine state first k event) →
    is_write x.act ≡ false → In x (counted machine state first k)
other_counted machine state first k event x e i h =
    counts_in machine.design (log_of machine state first) k x (stands_in machine state first k event x e i)
    (counts-other machine.design (phase_changes machine.design (log_of machine state first)) x h)

pub tame_counted : (machine : Machine) (state : State) (first : List Event) (k : ℕ) (event : Event) (x : ObjectAccess) → slice_get first k ≡ Some event →
    In x (accesses_before machine state first k event) →
    wild_in machine state first x.object ≡ false → In x (counted machine state first k)
tame_counted machine state first k event x e i h =
    counts_in machine.design (log_of machine state first) k x (stands_in machine state first k event x e i) (counts-tame machine.design (phase_changes machine.design (log_of machine state first)) x h)

-- a change of a tame object is a write that counts
abbrev pub CountedWrite : Machine → State → List Event → ℕ → ℕ → Type 0
CountedWrite machine state first k object =
    (x : ObjectAccess) × In x (counted machine state first k) × (x.object ≡ object)
    × (x.act ≡ Writing (value_at (state_at machine state first k).values object) (value_at (state_at machine state first (suc k)).values object))

pub change_counted : (machine : Machine) (state : State) (first : List Event) (k : ℕ) (event : Event) (object : ℕ) → KeepsRules machine.design → slice_get first k ≡ Some event →
    wild_in machine state first object ≡ false → changes_there machine state first object k ≡ true → CountedWrite machine state first k object
change_counted machine state first k event object rules e tame t =
    let next = at_next machine state first k event e in
    let c = change_access machine (state_at machine state first k) event (noted machine state first k event).process (noted machine state first k event).line object rules
    (ap (λ s. changed_in (state_at machine state first k) s object) (sym next) ∙ t) in (
      c.0,
      tame_counted machine state first k event c.0 e c.1 (ap (wild_in machine state first) c.2 ∙ tame),
      c.2,
      c.3 ∙ ap (λ s. Writing (value_at (state_at machine state first k).values object) (value_at s.values object)) (sym next),
    )

-- Settlings

sum-some : (f : ℕ → ℕ) (xs : List ℕ) → 1 ≤ sum_by f xs → (x : ℕ) × In x xs × (1 ≤ f x)
sum-some f [] h = absurd (omega (arith, h))
sum-some f (x ∷ xs) h = sum-step f x xs h (f x) refl (λ g. sum-some f xs g)
  where
    sum-step : (f : ℕ → ℕ) (x : ℕ) (xs : List ℕ) → 1 ≤ sum_by f (x ∷ xs) → (n : ℕ) → f x ≡ n → (1 ≤ sum_by f xs → (y : ℕ) × In y xs × (1 ≤ f y)) → (y : ℕ) × In y (x ∷ xs) × (1 ≤ f y)
    sum-step f x xs h zero e rest =
        let s : sum_by f (x ∷ xs) ≡ f x + sum_by f xs = sum_by-cons f x xs in
        let r = rest (omega (arith, s, h, e)) in (r.0, inr r.1, r.2)
    sum-step f x xs h (suc n) e rest = (x, inl refl, omega (arith, e))

pub in_joined_back : {A B : Type 0} (f : A → List B) (xs : List A) (y : B) → In y (joined (map f xs)) → (x : A) × In x xs × In y (f x)
in_joined_back f [] y i = absurd i
in_joined_back f (x ∷ xs) y i = elim (In-append y (f x) (joined (map f xs)) i) [
  | inl j ↦ (x, inl refl, j)
  | inr j ↦ (let r = in_joined_back f xs y j in (r.0, inr r.1, r.2))
]

abbrev pub SettlesThere : Machine → State → List Event → ℕ → ℕ → Type 0
SettlesThere machine state first k object = (y : ObjectAccess) × In y (counted machine state first k) × (y.object ≡ object) × (y.act ≡ Settling)

pub settles_there : (machine : Machine) (state : State) (first : List Event) (k : ℕ) (event : Event) (object : ℕ) → slice_get first k ≡ Some event → wild_in machine state first object ≡ true →
    1 ≤ reached machine.design (event_changes machine (state_at machine state first k) event) object → SettlesThere machine state first k object
settles_there machine state first k event object e wild reach =
    let some = sum-some (λ source. paths machine.design source object) (event_changes machine (state_at machine state first k) event) reach in
    let accesses : List ObjectAccess = accesses_before machine state first k event in
    let i : In some.0 (changes_of machine.design (accesses_before machine state first k event)) =
    subst (λ cs. In some.0 cs) (sym (same-changes machine (state_at machine state first k) event (noted machine state first k event).process (noted machine state first k event).line)) some.1 in
    let x = in_joined_back (λ (access : ObjectAccess). change_of machine.design access.act access.object) (accesses_before machine state first k event) some.0 i in
    let both : (has (net_pieces machine.design) object ≡ true) × (is_wild machine.design (phase_changes machine.design (log_of machine state first)) object ≡ true) =
    and-parts (has (net_pieces machine.design) object) (is_wild machine.design (phase_changes machine.design (log_of machine state first)) object) wild in (
      record { act = Settling; object = object; process = x.0.process; line = x.0.line },
      settles_in machine.design (log_of machine state first) k x.0 some.0 object (stands_in machine state first k event x.0 e x.1) x.2 both.0 both.1
          (let p : 1 ≤ paths machine.design some.0 object = some.2 in omega (arith, p)),
      refl,
      refl,
    )

-- a wild net is reached twice at least
pub wild_reached : (machine : Machine) (state : State) (first : List Event) (object : ℕ) → wild_in machine state first object ≡ true →
    2 ≤ reached machine.design (run_changes machine state first) object
wild_reached machine state first object wild =
    subst (λ cs. 2 ≤ reached machine.design cs object) (phase_changes-run machine state first)
    (two (reached machine.design (phase_changes machine.design (log_of machine state first)) object)
    (and-parts (has (net_pieces machine.design) object) (is_wild machine.design (phase_changes machine.design (log_of machine state first)) object) wild).1)
  where
    two : (n : ℕ) → is_wild_class (class_of_paths n) ≡ true → 2 ≤ n
    two zero e = cc
    two (suc zero) e = cc
    two (suc (suc n)) e = omega arith

-- a tame net once at most
pub tame_reached : (machine : Machine) (state : State) (first : List Event) (object : ℕ) → has (net_pieces machine.design) object ≡ true → wild_in machine state first object ≡ false →
    reached machine.design (run_changes machine state first) object ≤ 1
tame_reached machine state first object net tame =
    subst (λ cs. reached machine.design cs object ≤ 1) (phase_changes-run machine state first)
    (one (reached machine.design (phase_changes machine.design (log_of machine state first)) object)
    (sym (ap (λ b. b && is_wild machine.design (phase_changes machine.design (log_of machine state first)) object) net) ∙ tame))
  where
    one : (n : ℕ) → is_wild_class (class_of_paths n) ≡ false → n ≤ 1
    one zero e = omega arith
    one (suc zero) e = omega arith
    one (suc (suc n)) e = cc

-- Orders

chain : (log : LoggedPhase) (w depth : ℕ) (start : Option ℕ) → has (causes_from depth log start) w ≡ true → (start ≡ Some w) ⊎ ((n : ℕ) × (cause_at log n ≡ Some w))
chain log w zero None h = cc
chain log w (suc depth) None h = cc
chain log w zero (Some c) h = elim (or-either (nat_eq c w) false h) [ inl e ↦ inl (ap Some (eqb-true c w e)) | inr nothing ↦ true-false false nothing refl ]
chain log w (suc depth) (Some c) h = elim (or-either (nat_eq c w) (has (causes_from depth log (cause_at log c)) w) h) [
  | inl e ↦ inl (ap Some (eqb-true c w e))
  | inr there ↦ elim (chain log w depth (cause_at log c) there) [ inl e ↦ inr (c, e) | inr r ↦ inr r ]
]

-- an event that is no event's cause orders itself alone
pub orders_itself : (log : LoggedPhase) (w k : ℕ) → ((n : ℕ) → cause_at log n ≡ Some w → ⊥) → orders log w k ≡ true → k ≡ w
orders_itself log w k none h = elim (chain log w (length log.events) (Some k) h) [ inl e ↦ ap (found_or k) e | inr r ↦ absurd (none r.0 r.1) ]

-- with each event that is done its cause is done
abbrev pub Closed : LoggedPhase → List ℕ → Type 0
Closed log done = (n c : ℕ) → has done n ≡ true → cause_at log n ≡ Some c → has done c ≡ true

pub in_chain : (log : LoggedPhase) (done : List ℕ) → Closed log done → (w depth : ℕ) (start : Option ℕ) → ((c : ℕ) → start ≡ Some c → has done c ≡ true) →
    has (causes_from depth log start) w ≡ true → has done w ≡ true
in_chain log done closed w zero None s h = cc
in_chain log done closed w (suc depth) None s h = cc
in_chain log done closed w zero (Some c) s h = elim (or-either (nat_eq c w) false h) [
  | inl e ↦ subst (λ n. has done n ≡ true) (eqb-true c w e)
      (s c refl)
  | inr nothing ↦ true-false false nothing refl
]
in_chain log done closed w (suc depth) (Some c) s h = elim (or-either (nat_eq c w) (has (causes_from depth log (cause_at log c)) w) h) [
  | inl e ↦ subst (λ n. has done n ≡ true) (eqb-true c w e) (s c refl)
  | inr there ↦ in_chain log done closed w depth (cause_at log c) (λ d e. closed c d (s c refl) e) there
]

-- an event that isn't done, while its cause is
pub record IsOpen (log : LoggedPhase) (done : List ℕ) (i : ℕ) : Type 0 where
  pub closed : Closed log done
  pub cause_done : (c : ℕ) → cause_at log i ≡ Some c → has done c ≡ true
  pub open_still : has done i ≡ false

-- what is ordered with it is done if it stands before, and not if it stands after
abbrev pub InOrderWith : List ℕ → ℕ → ℕ → Type 0
InOrderWith done i k = (k < i → has done k ≡ true) × (i < k → has done k ≡ true → ⊥)

pub ordered_with : (machine : Machine) (state : State) (first : List Event) (done : List ℕ) (i k : ℕ) → IsOpen (log_of machine state first) done i → k ≢ i →
    (orders (log_of machine state first) k i ≡ true) ⊎ (orders (log_of machine state first) i k ≡ true) → InOrderWith done i k
ordered_with machine state first done i k o d (inl before) = (
  λ low. elim (or-start (length (log_of machine state first).events) before) [
    | inl same ↦ absurd (d (sym same))
    | inr there ↦ there
  ],
  λ high h. true_is_false (sym before ∙ later-orders-not (log_of machine state first) (backward-log machine state first) k i high),
)
  where
    or-start : (depth : ℕ) → has (causes_from depth (log_of machine state first) (Some i)) k ≡ true → (i ≡ k) ⊎ (has done k ≡ true)
    or-start zero h = elim (or-either (nat_eq i k) false h) [ inl e ↦ inl (eqb-true i k e) | inr nothing ↦ true-false false nothing refl ]
    or-start (suc depth) h = elim (or-either (nat_eq i k) (has (causes_from depth (log_of machine state first) (cause_at (log_of machine state first) i)) k) h) [
      | inl e ↦ inl (eqb-true i k e)
      | inr there ↦ inr (in_chain (log_of machine state first) done o.closed k depth (cause_at (log_of machine state first) i) o.cause_done there)
    ]
ordered_with machine state first done i k o d (inr later) = (
  λ low. true_is_false (sym later ∙ later-orders-not (log_of machine state first) (backward-log machine state first) i k low),
  λ high h.
      true-false (has done i)
      (in_chain (log_of machine state first) done o.closed i (length (log_of machine state first).events) (Some k) (λ c e. subst (λ n. has done n ≡ true) (ap (found_or k) e) h) later) o.open_still,
)

-- and so is what clashes with it
pub clash_with : (machine : Machine) (state : State) (first : List Event) (done : List ℕ) (i k : ℕ) (x y : ObjectAccess) → IsFree machine state first → IsOpen (log_of machine state first) done i →
    k ≢ i →
    In x (counted machine state first k) → In y (counted machine state first i) → x.object ≡ y.object → acts_clash x.object x.act y.act ≡ true → InOrderWith done i k
clash_with machine state first done i k x y r o d a b same clash =
    ordered_with machine state first done i k o d
    (elim (events_clash machine.design (log_of machine state first) r.free k i x y d a b same clash) [
      | inl h ↦ inl (and-parts (orders_others x.act) (orders (log_of machine state first) k i) h).1
      | inr h ↦ inr (and-parts (orders_others y.act) (orders (log_of machine state first) i k) h).1
    ])

-- No process waits on a wild net

pub awaits-no-changes : (design : FlatDesign) (p l : ℕ) (entries : List Entry) →
    joined (map (λ (access : ObjectAccess). change_of design access.act access.object) (map
    (λ (entry : Entry). let a : ObjectAccess = record { act = Awaiting entry; object = entry.object; process = p; line = l } in a) entries)) ≡ []
awaits-no-changes design p l [] = refl
awaits-no-changes design p l (entry ∷ entries) = awaits-no-changes design p l entries

-- a step that begins a wait touches nothing
begins_wait : (machine : Machine) (state : State) (p : ℕ) (entry : Entry) → In entry (awaits_by machine state (Step p)) → (step_of machine state p).action ≡ TouchesNothing
begins_wait machine state p entry i = elim (activity-waits machine state p (process_at state p).activity) [
  | inl none ↦ absurd (subst (λ es. In entry es) none i)
  | inr nothing ↦ nothing
]

wait-no-changes : (machine : Machine) (state : State) (p : ℕ) (entry : Entry) → In entry (awaits_by machine state (Step p)) → event_changes machine state (Step p) ≡ []
wait-no-changes machine state p entry i =
    ap (λ action. changes_of machine.design (action_accesses machine p (step_of machine state p).line action state ++ await_accesses p (step_of machine state p).line (step_of machine state p).next))
    (begins_wait machine state p entry i)
    ∙ awaits-no-changes machine.design p (step_of machine state p).line (waiting_entries (step_of machine state p).next)

wait-values : (machine : Machine) (state : State) (p : ℕ) (entry : Entry) → In entry (awaits_by machine state (Step p)) → (x : ℕ) →
    value_at (after machine state (Step p)).values x ≡ value_at state.values x
wait-values machine state p entry i x =
    written-other machine state p (own_of machine state (Step p)) (write_of (step_of machine state p).action) x (λ u e. none_some u (sym (ap write_of (begins_wait machine state p entry i)) ∙ e))
  where
    none_some : {A B : Type 0} (u : A) → None ≡ Some u → B
    none_some u e = cc

none-changed : (before next : State) (objects : List ℕ) → ((x : ℕ) → value_at next.values x ≡ value_at before.values x) → changes_one before next objects ≡ false
none-changed before next [] h = refl
none-changed before next (x ∷ objects) h = λ i. unchanged_in before next x (h x) i || none-changed before next objects h i

pub ready_waits_not : (act : Activity) (entry : Entry) → is_ready act ≡ true → In entry (waiting_entries act) → ⊥
ready_waits_not (Ready tasks operands) entry r i = absurd i
ready_waits_not (Waiting place entries tasks) entry r i = cc
ready_waits_not (Asleep time tasks) entry r i = absurd i
ready_waits_not (Postponed tasks) entry r i = absurd i
ready_waits_not Done entry r i = absurd i

-- after the step the process waits
after-wait : (machine : Machine) (state : State) (p : ℕ) (entry : Entry) → possible state (Step p) ≡ true → In entry (awaits_by machine state (Step p)) →
    activity_at (after machine state (Step p)) p ≡ (step_of machine state p).next
after-wait machine state p entry r i =
    ap (λ (x : ProcessState). x.activity) (own_step machine state p r) ∙ ap left (begins_wait machine state p entry i)
  where
    left : Action → Activity
    left action = (woken_if_process machine state (write_of action)
        (record {
          activity = next_activity state.values action (step_of machine state p).next;
          later = (process_at state p).later ++ appended state.time action;
          lane = (process_at state p).lane;
        })).activity

-- while no event touches a process its activity stays
pub activity-stays : (machine : Machine) (state : State) (first : List Event) (p k : ℕ) → IsRun machine state first →
    ((event : Event) → slice_get first k ≡ Some event → touches_process machine p (state_at machine state first k) event ≡ false) →
    (activity_at (state_at machine state first (suc k)) p ≡ activity_at (state_at machine state first k) p)
    × ((process_at (state_at machine state first (suc k)) p).later ≡ (process_at (state_at machine state first k) p).later)
activity-stays machine state first p k r h = go (slice_get first k) refl
  where
    go : (found : Option Event) → slice_get first k ≡ found →
        (activity_at (state_at machine state first (suc k)) p ≡ activity_at (state_at machine state first k) p)
        × ((process_at (state_at machine state first (suc k)) p).later ≡ (process_at (state_at machine state first k) p).later)
    go None f = (ap (λ t. activity_at t p) (past_same machine state first k f), ap (λ t. (process_at t p).later) (past_same machine state first k f))
    go (Some event) f =
        let u = untouched_process machine p (state_at machine state first k) event r.rules (follows_at machine state first k r) (h event f) in (
          ap (λ t. activity_at t p) (at_next machine state first k event f) ∙ u.1,
          ap (λ t. (process_at t p).later) (at_next machine state first k event f) ∙ u.2,
        )

waits-on : (machine : Machine) (state : State) (first : List Event) (p w d : ℕ) → IsRun machine state first →
    ((l : ℕ) (other : Event) → w < l → l < suc w + d → slice_get first l ≡ Some other → touches_process machine p (state_at machine state first l) other ≡ false) →
    activity_at (state_at machine state first (suc w + d)) p ≡ activity_at (state_at machine state first (suc w)) p
waits-on machine state first p w zero r h = ap (λ k. activity_at (state_at machine state first k) p) (let z : suc w + 0 ≡ suc w = omega arith in z)
waits-on machine state first p w (suc d) r h =
    ap (λ k. activity_at (state_at machine state first k) p) (let z : suc w + suc d ≡ suc (suc w + d) = omega arith in z)
    ∙ (activity-stays machine state first p (suc w + d) r (λ event f. h (suc w + d) event (omega arith) (omega arith) f)).0
    ∙ waits-on machine state first p w d r (λ l other a b f. h l other a (omega (arith, b)) f)

-- a step that begins a wait is no event's cause: the process's next step would come before the wait's end
wait_causes_nothing : (machine : Machine) (state : State) (first : List Event) (w p : ℕ) (entry : Entry) → IsFree machine state first → slice_get first w ≡ Some (Step p) →
    In entry (awaits_by machine (state_at machine state first w) (Step p)) → (n : ℕ) (event : Event) → slice_get first n ≡ Some event → cause_before machine state first n event ≡ Some w → ⊥
wait_causes_nothing machine state first w p entry r e i n event g c = by event g (cause_found machine state first n event w c)
  where
    s : State
    s = state_at machine state first w

    unchanged : (x : ℕ) → value_at (after machine (state_at machine state first w) (Step p)).values x ≡ value_at (state_at machine state first w).values x
    unchanged = wait-values machine (state_at machine state first w) p entry i

    may : (event : Event) → (c : IsCause machine state first n event w) → may_cause machine event (bare (state_at machine state first w) (Step p)) ≡ true
    may event c = subst (λ ev. may_cause machine event (bare (state_at machine state first w) ev) ≡ true) (ap (found_or (Step p)) (sym c.stands ∙ e)) c.may

    net : (found : Option FlatNode) → changes_input machine found (bare (state_at machine state first w) (Step p)) ≡ false
    net None = refl
    net (Some node) = none-changed (state_at machine state first w) (after machine (state_at machine state first w) (Step p)) node.inputs
        (wait-values machine (state_at machine state first w) p entry i)

    number_of : Event → ℕ
    number_of (Step n) = n
    number_of (LaneStep n) = n
    number_of (Evaluation n) = n
    number_of (NetUpdate n) = n

    own : (q : ℕ) → p ≡ q → slice_get first n ≡ Some (Step q) → IsCause machine state first n (Step q) w → ⊥
    own q same g c =
        let c' : IsCause machine state first n (Step p) w = subst (λ k. IsCause machine state first n (Step k) w) (sym same) c in
        let d = difference (suc w) n (let b : w < n = c'.earlier in omega (arith, b)) in
        ready_waits_not (activity_at (state_at machine state first n) p) entry (possible_at machine state first n (Step p) r.run.possible (g ∙ ap (λ k. Some (Step k)) (sym same)))
        (subst (λ act. In entry (waiting_entries act))
        (sym (after-wait machine (state_at machine state first w) p entry (possible_at machine state first w (Step p) r.run.possible e) i)
        ∙ ap (λ t. activity_at t p) (sym (at_next machine state first w (Step p) e))
        ∙ sym (waits-on machine state first p w d.0 r.run (λ l other a b f. c'.latest l other a (let z : suc w + d.0 ≡ n = d.1 in omega (arith, b, z)) f))
        ∙ ap (λ k. activity_at (state_at machine state first k) p) d.1)
        i)

    by : (event : Event) → slice_get first n ≡ Some event → IsCause machine state first n event w → ⊥
    by (Step q) g c = elim (touches-how machine q (state_at machine state first w) (Step p) r.run.rules (follows_at machine state first w r.run) (may (Step q) c)) [
      | inl same ↦ own q (ap number_of same) g c
      | inr wakes ↦
          true-false (some_entry (changed_entry (state_at machine state first w) (after machine (state_at machine state first w) (Step p)))
          (waiting_entries (activity_at (state_at machine state first w) q))) wakes.1
          (none-passes (changed_entry (state_at machine state first w) (after machine (state_at machine state first w) (Step p))) (waiting_entries (activity_at (state_at machine state first w) q))
          (λ x. unchanged_entry (state_at machine state first w) (after machine (state_at machine state first w) (Step p)) x (unchanged x.object)))
    ]
    by (LaneStep q) g c = true-false false (may (LaneStep q) c) refl
    by (Evaluation m) g c = true-false (changes_input machine (slice_get machine.design.nodes m) (bare (state_at machine state first w) (Step p))) (may (Evaluation m) c)
        (net (slice_get machine.design.nodes m))
    by (NetUpdate m) g c = true-false (changes_input machine (slice_get machine.design.nodes m) (bare (state_at machine state first w) (Step p))) (may (NetUpdate m) c)
        (net (slice_get machine.design.nodes m))

cause-there : (machine : Machine) (state : State) (first : List Event) (n w : ℕ) → cause_at (log_of machine state first) n ≡ Some w → (event : Event) × (slice_get first n ≡ Some event)
cause-there machine state first n w e = go (slice_get first n) refl
  where
    none_some : {B : Type 0} → None ≡ Some w → B
    none_some f = cc

    past : slice_get first n ≡ None → cause_at (log_of machine state first) n ≡ None
    past f =
        cause_at-new machine state first n
        ∙ ap (found_or None) (none_past (map (λ (note : NotedEvent). note.cause) (new_notes machine [] state first)) n
        (let a : length first ≤ n = past_none first n f in
        let b : length (map (λ (note : NotedEvent). note.cause) (new_notes machine [] state first)) ≡ length (new_notes machine [] state first) =
        length-map (λ (note : NotedEvent). note.cause) (new_notes machine [] state first) in
        let c : length (new_notes machine [] state first) ≡ length first = length-new_notes machine [] state first in
        omega (arith, a, b, c)))

    go : (found : Option Event) → slice_get first n ≡ found → (event : Event) × (slice_get first n ≡ Some event)
    go None f = none_some (sym (past f) ∙ e)
    go (Some event) f = (event, f)

-- no step begins a wait on a wild net
no_wild_await : (machine : Machine) (state : State) (first : List Event) (w p : ℕ) (entry : Entry) → IsFree machine state first → slice_get first w ≡ Some (Step p) →
    In entry (awaits_by machine (state_at machine state first w) (Step p)) → wild_in machine state first entry.object ≡ true → ⊥
no_wild_await machine state first w p entry r e i wild =
    let b = reached_by machine state first entry.object (let z : 2 ≤ reached machine.design (run_changes machine state first) entry.object = wild_reached machine state first entry.object wild in
    omega (arith, z)) in
    let y = settles_there machine state first b.0 b.1 entry.object b.2 wild b.3 in
    let x = await_stands machine (state_at machine state first w) (noted machine state first w (Step p)).process (noted machine state first w (Step p)).line (Step p) entry i in
    let await : ObjectAccess = record { act = Awaiting entry; object = entry.object; process = p; line = x.0 } in
    let a : In await (counted machine state first w) = other_counted machine state first w (Step p) await e x.1 refl in
    let apart : w ≢ b.0 = λ same. none b.0 b.1 b.2 same b.3 in
    elim (events_clash machine.design (log_of machine state first) r.free w b.0 await y.0 apart a y.1 (sym y.2) (ap (acts_clash entry.object (Awaiting entry)) y.3)) [
      | inl o ↦ apart (sym (orders_itself (log_of machine state first) w b.0 no_cause o))
      | inr o ↦ true-false (orders_others y.0.act) (and-parts (orders_others y.0.act) (orders (log_of machine state first) b.0 w) o).0 (ap orders_others y.3)
    ]
  where
    no_cause : (n : ℕ) → cause_at (log_of machine state first) n ≡ Some w → ⊥
    no_cause n c =
        let d = cause-there machine state first n w c in
        wait_causes_nothing machine state first w p entry r e i n d.0 d.1 (sym (cause_at-place machine state first n d.0 d.1) ∙ c)

    none : (k : ℕ) (event : Event) → slice_get first k ≡ Some event → w ≡ k → 1 ≤ reached machine.design (event_changes machine (state_at machine state first k) event) entry.object → ⊥
    none k event f same h =
        let is : event ≡ Step p = ap (found_or event) (sym f ∙ ap (slice_get first) (sym same) ∙ e) in
        let z : event_changes machine (state_at machine state first k) event ≡ [] =
        (λ j. event_changes machine (state_at machine state first (sym same j)) (is j)) ∙ wait-no-changes machine (state_at machine state first w) p entry i in
        let q : reached machine.design (event_changes machine (state_at machine state first k) event) entry.object ≡ 0 = ap (λ cs. reached machine.design cs entry.object) z in
        omega (arith, h, q)

-- and none is carried into the phase
no_wild_hold : (machine : Machine) (state : State) (first : List Event) (p : ℕ) (entry : Entry) → IsFree machine state first → In entry (waiting_entries (activity_at state p)) →
    wild_in machine state first entry.object ≡ true → ⊥
no_wild_hold machine state first p entry r i wild =
    let b = reached_by machine state first entry.object (let z : 2 ≤ reached machine.design (run_changes machine state first) entry.object = wild_reached machine state first entry.object wild in
    omega (arith, z)) in
    let y = settles_there machine state first b.0 b.1 entry.object b.2 wild b.3 in
    let x = In-joined (held_by machine.design) (λ k. let a : ObjectAccess = record { act = Holding entry; object = entry.object; process = k; line = waiting_line (activity_at state p) } in a) 0
    state.processes (process_at state p)
    (in_processes state.processes p entry i)
    (λ k. In-map (λ (e : Entry). let a : ObjectAccess = record { act = Holding e; object = e.object; process = k; line = waiting_line (activity_at state p) } in a) entry
    (filter (λ (e : Entry). has (net_pieces machine.design) e.object) (waiting_entries (activity_at state p)))
    (in-filter (λ (e : Entry). has (net_pieces machine.design) e.object) (waiting_entries (activity_at state p)) entry i
    (and-parts (has (net_pieces machine.design) entry.object) (is_wild machine.design (phase_changes machine.design (log_of machine state first)) entry.object) wild).0)) in
    held_clash machine.design (log_of machine state first) r.free b.0 _ y.0 x.1 y.1 (sym y.2) (ap (acts_clash entry.object (Holding entry)) y.3)

-- so at no place does a process wait on one
pub waits_tame : (machine : Machine) (state : State) (first : List Event) (k p : ℕ) (entry : Entry) → IsFree machine state first →
    In entry (waiting_entries (activity_at (state_at machine state first k) p)) →
    wild_in machine state first entry.object ≡ false
waits_tame machine state first k p entry r i = elim (decided (wild_in machine state first entry.object)) [
  | inl wild ↦ absurd (never k i wild)
  | inr tame ↦ tame
]
  where
    step : (k : ℕ) → (In entry (waiting_entries (activity_at (state_at machine state first k) p)) → ⊥) → (found : Option Event) → slice_get first k ≡ found →
        In entry (waiting_entries (activity_at (state_at machine state first (suc k)) p)) → wild_in machine state first entry.object ≡ true → ⊥
    step k before None f j wild = before (subst (λ t. In entry (waiting_entries (activity_at t p))) (past_same machine state first k f) j)
    step k before (Some event) f j wild = elim (step_or_not p event) [
      | inl own ↦
          (let g : slice_get first k ≡ Some (Step p) = f ∙ ap Some own in
          no_wild_await machine state first k p entry r g
          (own_waits machine (state_at machine state first k) p entry (possible_at machine state first k (Step p) r.run.possible g)
          (subst (λ t. In entry (waiting_entries (activity_at t p))) (at_next machine state first k (Step p) g) j)) wild)
      | inr other ↦
          (let w : activity_at (state_at machine state first (suc k)) p ≡ woken_by (changed_entry (state_at machine state first k) (after machine (state_at machine state first k) event))
          (activity_at (state_at machine state first k) p) =
          ap (λ t. activity_at t p) (at_next machine state first k event f) ∙ woken_after machine (state_at machine state first k) event p r.run.rules (follows_at machine state first k r.run) other in
          let j' : In entry (waiting_entries (woken_by (changed_entry (state_at machine state first k) (after machine (state_at machine state first k) event))
          (activity_at (state_at machine state first k) p))) =
          subst (λ act. In entry (waiting_entries act)) w j in
          before (subst (λ act. In entry (waiting_entries act)) (woken_by-waits (changed_entry (state_at machine state first k) (after machine (state_at machine state first k) event))
          (activity_at (state_at machine state first k) p) entry j') j'))
    ]

    never : (k : ℕ) → In entry (waiting_entries (activity_at (state_at machine state first k) p)) → wild_in machine state first entry.object ≡ true → ⊥
    never zero j wild = no_wild_hold machine state first p entry r (subst (λ t. In entry (waiting_entries (activity_at t p))) (at_start machine state first) j) wild
    never (suc k) j wild = step k (λ h. never k h wild) (slice_get first k) refl j wild
