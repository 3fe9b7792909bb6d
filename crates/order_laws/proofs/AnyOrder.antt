-- Every legal order of a phase that has one without conflict has none: each access of the one is one of the other, at an event that stands for its own.
use Rattle.std.proofs.Common.{◌≡◌, ℕ, zero, suc, ◌+◌, ◌≤◌, List, [], ◌∷◌, map, length, Bool, true, false, not, ◌&&◌, ◌||◌, refl, sym, ap, subst, ◌∙◌, ◌⊎◌, inl, inr, arith, filter}
use Rattle.std.specs.Prelude.{◌≢◌, Option, Some, None, slice_get, nat_eq, nat_lt, cond}
use Rattle.std.proofs.lemmas.Bool.{eqb-true, eq-eqb}
use Rattle.four_value.specs.Values.{same_value, edge_matches, part_of}
use Rattle.vf_base.specs.Lists.{has, joined, map_numbered}
use Rattle.v_design.specs.Trees.{Entry}
use Rattle.v_design.specs.Designs.{FlatDesign, FlatNode, Machine}
use Rattle.v_design.specs.Assignments.{value_at}
use Rattle.v_design.specs.Paths.{paths, net_pieces, class_of_paths, is_wild_class, is_wild}
use Rattle.v_design.specs.States.{State, ProcessState, Event, Step, LaneStep, Evaluation, NetUpdate, after, found_or, idle_process, is_process_event, process_at, some_entry, entry_matches}
use Rattle.v_design.specs.Runs.{IsPhase}
use Rattle.v_design.specs.Accesses.{AccessAct, Reading, Writing, Awaiting, Ending, Holding, Settling, ObjectAccess, waiting_entries, waiting_line, ended_of, accesses_of, net_write}
use Rattle.v_design.specs.Accesses.{some_change_matches, net_ended_by, net_accesses, held_by, held_accesses}
use Rattle.v_design.specs.Logs.{LoggedEvent, LoggedPhase, PhaseAccess, change_of, phase_changes, is_write, counts, settles_of, counted_accesses, event_accesses, log_accesses, causes_from, cause_at}
use Rattle.v_design.specs.Logs.{orders, acts_clash, orders_others, access_orders, conflict}
use Rattle.v_design.specs.PhaseLogs.{NotedEvent, log_of}
use Rattle.v_design.specs.Laws.{RunsBeside, HasNoConflict}
use Rattle.order_laws.specs.EveryRun.{PhasesStayFree, FirstOrder, AnyOrder}
use Rattle.order_laws.proofs.PathLaws.{decided, true-false, or-either, reached}
use Rattle.order_laws.proofs.Conflicts.{In}
use Rattle.order_laws.proofs.FreeLogs.{In-append, Before-in, free-none, clash-symmetric}
use Rattle.order_laws.proofs.FreeWithoutNodes.{tagged, carried, In-map-back}
use Rattle.order_laws.proofs.SwappedLogs.{accesses_at}
use Rattle.order_laws.proofs.Clash.{true_is_false}
use Rattle.order_laws.proofs.MayCause.{activity_at}
use Rattle.order_laws.proofs.Ordered.{free_pair, counted_at, in_log, held_clash}
use Rattle.order_laws.proofs.RunStates.{state_at, at_next, accesses_before, accesses_at-place, none_past, past_none, found_below}
use Rattle.order_laws.proofs.Notes.{new_notes, length-new_notes}
use Rattle.order_laws.proofs.PairsOfRuns.{accesses_at-new}
use Rattle.order_laws.proofs.Woken.{changed_entry, touches_process, wakes-touches}
use Rattle.order_laws.proofs.Runs.{IsRun, follows_at, changes_there}
use Rattle.order_laws.proofs.FreeRuns.{wild_in, in_joined_back}
use Rattle.order_laws.proofs.Comparison.{Compared, Silent}
use Rattle.order_laws.proofs.SlotsEnd.{none_possible}
use Rattle.order_laws.proofs.FirstOrder.SlotMoves.{first_possible}
use Rattle.order_laws.proofs.Projection.{counted-same, whole, reaches_same, orders-alike, end_same}

-- What stands in the list of a log's accesses

in_events-back : (design : FlatDesign) (changes : List ℕ) (start : ℕ) (events : List LoggedEvent) (u : PhaseAccess) → In u (joined (map_numbered (event_accesses design changes) start events)) →
    (n : ℕ) × (x : ObjectAccess) × (u ≡ tagged (start + n) x) × In x (counted_accesses design changes (found_or [] (slice_get (map (λ (event : LoggedEvent). event.accesses) events) n)))
in_events-back design changes start [] u i = absurd i
in_events-back design changes start (event ∷ events) u i = elim (In-append u (event_accesses design changes start event) (joined (map_numbered (event_accesses design changes) (start + 1) events)) i) [
  | inl here ↦ (let r = In-map-back (tagged start) u (counted_accesses design changes event.accesses) here in
      (0, r.0, r.2 ∙ ap (λ k. tagged k r.0) (let e : start ≡ start + 0 = omega arith in e), r.1))
  | inr there ↦ (let r = in_events-back design changes (start + 1) events u there in (suc r.0, r.1, r.2 ∙ ap (λ k. tagged k r.1) (let e : start + 1 + r.0 ≡ start + suc r.0 = omega arith in e), r.3))
]

abbrev Stands : FlatDesign → LoggedPhase → PhaseAccess → Type 0
Stands design log u = ((x : ObjectAccess) × (u ≡ carried x) × In x log.held) ⊎ ((n : ℕ) × (x : ObjectAccess) × (u ≡ tagged n x) × In x (counted_at design log n))

in_log-back : (design : FlatDesign) (log : LoggedPhase) (u : PhaseAccess) → In u (log_accesses design log) → Stands design log u
in_log-back design log u i = elim (In-append u (map carried log.held) (joined (map_numbered (event_accesses design (phase_changes design log)) 0 log.events)) i) [
  | inl held ↦ (let r = In-map-back carried u log.held held in inl (r.0, r.2, r.1))
  | inr there ↦ (let r = in_events-back design (phase_changes design log) 0 log.events u there in inr (r.0, r.1, r.2 ∙ ap (λ k. tagged k r.1) (let e : 0 + r.0 ≡ r.0 = omega arith in e), r.3))
]

in-filter-back : {A : Type 0} (test : A → Bool) (xs : List A) (x : A) → In x (filter test xs) → In x xs × (test x ≡ true)
in-filter-back test [] x i = absurd i
in-filter-back test (y ∷ xs) x i = go (test y) refl i (λ j. in-filter-back test xs x j)
  where
    go : (b : Bool) → test y ≡ b → In x (cond b (y ∷ filter test xs) (filter test xs)) → (In x (filter test xs) → In x xs × (test x ≡ true)) → In x (y ∷ xs) × (test x ≡ true)
    go true e (inl same) rest = (inl same, ap test same ∙ e)
    go true e (inr j) rest = let r = rest j in (inr r.0, r.1)
    go false e j rest = let r = rest j in (inr r.0, r.1)

in-numbered-back : {A B : Type 0} (f : ℕ → A → List B) (start : ℕ) (xs : List A) (y : B) → In y (joined (map_numbered f start xs)) →
    (n : ℕ) × (x : A) × (slice_get xs n ≡ Some x) × In y (f (start + n) x)
in-numbered-back f start [] y i = absurd i
in-numbered-back f start (x ∷ xs) y i = elim (In-append y (f start x) (joined (map_numbered f (start + 1) xs)) i) [
  | inl here ↦ (0, x, refl, subst (λ k. In y (f k x)) (let e : start ≡ start + 0 = omega arith in e) here)
  | inr there ↦ (let r = in-numbered-back f (start + 1) xs y there in (suc r.0, r.1, r.2, subst (λ k. In y (f k r.1)) (let e : start + 1 + r.0 ≡ start + suc r.0 = omega arith in e) r.3))
]

has-of : (xs : List ℕ) (x : ℕ) → In x xs → has xs x ≡ true
has-of [] x i = absurd i
has-of (y ∷ xs) x (inl e) = ap (λ b. b || has xs x) (eq-eqb y x (sym e))
has-of (y ∷ xs) x (inr i) = ap (λ b. nat_eq y x || b) (has-of xs x i) ∙ either (nat_eq y x)
  where
    either : (b : Bool) → (b || true) ≡ true
    either true = refl
    either false = refl

-- Conflicts

both-true : (b c : Bool) → (b && c) ≡ true → (b ≡ true) × (c ≡ true)
both-true true c e = (refl, e)
both-true false c e = cc

not-true : (b : Bool) → not b ≡ true → b ≡ false
not-true true e = cc
not-true false e = refl

record Conflicts (log : LoggedPhase) (u v : PhaseAccess) : Type 0 where
  same : u.access.object ≡ v.access.object
  clash : acts_clash u.access.object u.access.act v.access.act ≡ true
  one : access_orders log u v ≡ false
  other : access_orders log v u ≡ false

conflicts : (log : LoggedPhase) (u v : PhaseAccess) → conflict log u v ≡ true → Conflicts log u v
conflicts log u v e =
    let a = both-true (nat_eq u.access.object v.access.object && acts_clash u.access.object u.access.act v.access.act && not (access_orders log u v)) (not (access_orders log v u)) e in
    let b = both-true (nat_eq u.access.object v.access.object && acts_clash u.access.object u.access.act v.access.act) (not (access_orders log u v)) a.0 in
    let c = both-true (nat_eq u.access.object v.access.object) (acts_clash u.access.object u.access.act v.access.act) b.0 in
    record {
      same = eqb-true u.access.object v.access.object c.0;
      clash = c.1;
      one = not-true (access_orders log u v) b.1;
      other = not-true (access_orders log v u) a.1;
    }

-- an access that clashes with one like it is a write
clash-self : (o : ℕ) (act : AccessAct) → acts_clash o act act ≡ true → orders_others act ≡ true
clash-self o Reading e = cc
clash-self o (Writing old new) e = refl
clash-self o (Awaiting entry) e = cc
clash-self o (Ending entry) e = cc
clash-self o (Holding entry) e = cc
clash-self o Settling e = cc

orders-self : (log : LoggedPhase) (n : ℕ) → orders log n n ≡ true
orders-self log n = go (length log.events)
  where
    go : (depth : ℕ) → has (causes_from depth log (Some n)) n ≡ true
    go zero = ap (λ b. b || false) (eq-eqb n n refl)
    go (suc depth) = ap (λ b. b || has (causes_from depth log (cause_at log n)) n) (eq-eqb n n refl)

wild-same : (design : FlatDesign) (one other : List ℕ) (net : ℕ) → reached design one net ≡ reached design other net → is_wild design one net ≡ is_wild design other net
wild-same design one other net e = ap (λ n. is_wild_class (class_of_paths n)) e

nothing-past : (machine : Machine) (state : State) (events : List Event) (j : ℕ) → slice_get events j ≡ None → accesses_at (log_of machine state events) j ≡ []
nothing-past machine state events j e =
    accesses_at-new machine state events j
    ∙ ap (λ o. found_or [] o) (past-mapped (λ (note : NotedEvent). accesses_of machine note.process note.line note.before note.event) (new_notes machine [] state events) j
    (none_past (new_notes machine [] state events) j (let l : length (new_notes machine [] state events) ≡ length events = length-new_notes machine [] state events in
    let p : length events ≤ j = past_none events j e in omega (arith, l, p))))
  where
    past-mapped : {A B : Type 0} (f : A → B) (xs : List A) (n : ℕ) → slice_get xs n ≡ None → slice_get (map f xs) n ≡ None
    past-mapped f [] n e = refl
    past-mapped f (x ∷ xs) zero e = cc
    past-mapped f (x ∷ xs) (suc n) e = past-mapped f xs n e

-- Two runs

module _ (machine : Machine) (state : State) (first events : List Event) (beside : RunsBeside machine state first events) where
  run : IsRun machine state events
  run = record { rules = beside.rules; begins = beside.begins; possible = beside.legal.each_possible }

  abbrev log : LoggedPhase
  log = log_of machine state events

  abbrev free : LoggedPhase
  free = log_of machine state first

  -- Events that stand for none

  module _ (j : ℕ) (event : Event) (stands : slice_get events j ≡ Some event) (silent : Silent machine state first events j event) where
    abbrev before : State
    before = state_at machine state events j

    no-writes : (process line : ℕ) (node : FlatNode) (x : ObjectAccess) → In x (joined (map (net_write process line before (after machine before event))
        (filter (has node.outputs) (net_pieces machine.design)))) →
        (has (net_pieces machine.design) x.object ≡ true) × (is_write x.act ≡ true) × (changes_there machine state events x.object j ≡ true)
    no-writes process line node x i =
        let r = in_joined_back (net_write process line before (after machine before event)) (filter (has node.outputs) (net_pieces machine.design)) x i in
        let f = in-filter-back (has node.outputs) (net_pieces machine.design) r.0 r.1 in
        let w = written r.0 r.2 in (
          subst (λ o. has (net_pieces machine.design) o ≡ true) (sym w.0) (has-of (net_pieces machine.design) r.0 f.0),
          w.1,
          ap not (ap (λ o. same_value (value_at before.values o) (value_at (state_at machine state events (suc j)).values o)) w.0
              ∙ ap (λ s. same_value (value_at before.values r.0) (value_at s.values r.0)) (at_next machine state events j event stands) ∙ w.2),
        )
      where
        written : (o : ℕ) → In x (net_write process line before (after machine before event) o) →
            (x.object ≡ o) × (is_write x.act ≡ true) × (same_value (value_at before.values o) (value_at (after machine before event).values o) ≡ false)
        written o k = go (same_value (value_at before.values o) (value_at (after machine before event).values o)) refl k
          where
            go : (b : Bool) → same_value (value_at before.values o) (value_at (after machine before event).values o) ≡ b →
                In x (elim b [
                  | true ↦ []
                  | false ↦ record { act = Writing (value_at before.values o) (value_at (after machine before event).values o); object = o; process = process; line = line } ∷ []
                ]) →
                (x.object ≡ o) × (is_write x.act ≡ true) × (same_value (value_at before.values o) (value_at (after machine before event).values o) ≡ false)
            go true e l = absurd l
            go false e (inl l) = (ap (λ (y : ObjectAccess). y.object) l, ap (λ (y : ObjectAccess). is_write y.act) l, e)
            go false e (inr l) = absurd l

    -- it ends no wait
    matches-changed : (objects : List ℕ) (entry : Entry) → some_change_matches before (after machine before event) objects entry ≡ true → changed_entry before (after machine before event) entry ≡ true
    matches-changed objects entry e =
        (both-true (nat_eq entry.object entry.object) (edge_matches entry.edge (part_of (value_at before.values entry.object) entry.low entry.width)
        (part_of (value_at (after machine before event).values entry.object) entry.low entry.width))
        (both-true (has objects entry.object) (entry_matches entry.object (value_at before.values entry.object) (value_at (after machine before event).values entry.object) entry) e).1).1

    some-changed : (objects : List ℕ) (entries : List Entry) → some_entry (some_change_matches before (after machine before event) objects) entries ≡ true →
        some_entry (changed_entry before (after machine before event)) entries ≡ true
    some-changed objects [] e = cc
    some-changed objects (entry ∷ entries) e = elim (or-either (some_change_matches before (after machine before event) objects entry)
        (some_entry (some_change_matches before (after machine before event) objects) entries) e) [
          | inl here ↦ ap (λ b. b || some_entry (changed_entry before (after machine before event)) entries) (matches-changed objects entry here)
          | inr there ↦ ap (λ b. changed_entry before (after machine before event) entry || b) (some-changed objects entries there) ∙ either (changed_entry before (after machine before event) entry)
        ]
      where
        either : (b : Bool) → (b || true) ≡ true
        either true = refl
        either false = refl

    no-step : (p : ℕ) → Step p ≢ event
    no-step p e = true-false (is_process_event event) (ap is_process_event (sym e)) silent.of_node

    wakes-none : (p : ℕ) → some_entry (changed_entry before (after machine before event)) (waiting_entries (activity_at before p)) ≡ true → ⊥
    wakes-none p e = true-false (touches_process machine p before event) (wakes-touches machine p before event beside.rules (follows_at machine state events j run) (no-step p) e) (silent.processes p)

    no-ends : (objects : List ℕ) (x : ObjectAccess) → In x (joined (map_numbered (net_ended_by before (after machine before event) objects) 0 before.processes)) → ⊥
    no-ends objects x i =
        let r = in-numbered-back (net_ended_by before (after machine before event) objects) 0 before.processes x i in
        let here : process_at before r.0 ≡ r.1 = ap (found_or idle_process) r.2 in
        ended r.1 (some_entry (some_change_matches before (after machine before event) objects) (waiting_entries r.1.activity)) (0 + r.0)
        (λ e. wakes-none r.0 (some-changed objects (waiting_entries (activity_at before r.0))
        (ap (λ (p : ProcessState). some_entry (some_change_matches before (after machine before event) objects) (waiting_entries p.activity)) here ∙ e))) r.3
      where
        ended : (p : ProcessState) (b : Bool) (n : ℕ) → (b ≡ true → ⊥) → In x (ended_of b (some_change_matches before (after machine before event) objects) n (waiting_line p.activity)
            (waiting_entries p.activity)) → ⊥
        ended p true n h k = h refl
        ended p false n h k = k

    -- its accesses are writes of net pieces that it changes
    only-writes : (process line : ℕ) (x : ObjectAccess) → In x (accesses_of machine process line before event) →
        (has (net_pieces machine.design) x.object ≡ true) × (is_write x.act ≡ true) × (changes_there machine state events x.object j ≡ true)
    only-writes process line x i = by event refl silent.of_node i
      where
        nets : (number : ℕ) (found : Option FlatNode) → event ≡ NetUpdate number → In x (net_accesses machine.design process line found before (after machine before event)) →
            (has (net_pieces machine.design) x.object ≡ true) × (is_write x.act ≡ true) × (changes_there machine state events x.object j ≡ true)
        nets number None e k = absurd k
        nets number (Some node) e k =
            elim (In-append x (joined (map (net_write process line before (after machine before event)) (filter (has node.outputs) (net_pieces machine.design))))
            (joined (map_numbered (net_ended_by before (after machine before event) node.outputs) 0 before.processes)) k) [
              | inl w ↦ no-writes process line node x w
              | inr l ↦ absurd (no-ends node.outputs x l)
            ]

        by : (other : Event) → event ≡ other → is_process_event event ≡ false → In x (accesses_of machine process line before other) →
            (has (net_pieces machine.design) x.object ≡ true) × (is_write x.act ≡ true) × (changes_there machine state events x.object j ≡ true)
        by (Step p) e h k = true-false (is_process_event event) (ap is_process_event e) h
        by (LaneStep p) e h k = true-false (is_process_event event) (ap is_process_event e) h
        by (Evaluation n) e h k = absurd k
        by (NetUpdate n) e h k = nets n (slice_get machine.design.nodes n) e (subst (λ (ev : Event).
            In x (net_accesses machine.design process line (slice_get machine.design.nodes n) before (after machine before ev))) (sym e) k)

    reach-wild : (net : ℕ) → is_wild machine.design (phase_changes machine.design log) net ≡ is_wild machine.design (phase_changes machine.design free) net
    reach-wild net = wild-same machine.design (phase_changes machine.design log) (phase_changes machine.design free) net (reaches_same machine state first events beside net)

    -- and so none of them counts
    counts-none : (process line : ℕ) (x : ObjectAccess) → In x (accesses_of machine process line before event) → counts machine.design (phase_changes machine.design log) x ≡ false
    counts-none process line x i =
        let w = only-writes process line x i in
        go w (wild_in machine state first x.object) refl
      where
        go : (has (net_pieces machine.design) x.object ≡ true) × (is_write x.act ≡ true) × (changes_there machine state events x.object j ≡ true) → (b : Bool) →
            wild_in machine state first x.object ≡ b →
            counts machine.design (phase_changes machine.design log) x ≡ false
        go w false e = true-false (changes_there machine state events x.object j) w.2 (silent.changes x.object e)
        go w true e =
            let both = both-true (has (net_pieces machine.design) x.object) (is_wild machine.design (phase_changes machine.design free) x.object) e in
            (λ k. not (w.1 k && (w.0 k && (reach-wild x.object ∙ both.1) k)))

    settles-none : (process line : ℕ) (y x : ObjectAccess) → In y (accesses_of machine process line before event) → In x (settles_of machine.design (phase_changes machine.design log) y) → ⊥
    settles-none process line y x i k =
        let w = only-writes process line y i in
        subst (λ objects. In x (joined (map (λ changed. map (λ net. record { act = Settling; object = net; process = y.process; line = y.line })
        (filter (λ net. is_wild machine.design (phase_changes machine.design log) net && nat_lt 0 (paths machine.design changed net)) (net_pieces machine.design))) objects)))
        (no-change y.act y.object w.1 w.0) k
      where
        left-out : ℕ → Bool → List ℕ
        left-out object out = elim out [ true ↦ [] | false ↦ object ∷ [] ]

        either : (c d : Bool) → d ≡ true → (c || d) ≡ true
        either true d e = refl
        either false d e = e

        no-change : (act : AccessAct) (object : ℕ) → is_write act ≡ true → has (net_pieces machine.design) object ≡ true → change_of machine.design act object ≡ []
        no-change Reading object a b = cc
        no-change (Writing old new) object a b = ap (left-out object) (either (same_value old new) (has (net_pieces machine.design) object) b)
        no-change (Awaiting entry) object a b = cc
        no-change (Ending entry) object a b = cc
        no-change (Holding entry) object a b = cc
        no-change Settling object a b = cc

    pub silent-none : (x : ObjectAccess) → In x (counted_at machine.design log j) → ⊥
    silent-none x i =
        let here = subst (λ xs. In x (counted_accesses machine.design (phase_changes machine.design log) xs)) (accesses_at-place machine state events j event stands) i in
        none here
      where
        none : In x (counted_accesses machine.design (phase_changes machine.design log) (accesses_before machine state events j event)) → ⊥
        none k = elim (In-append x (filter (counts machine.design (phase_changes machine.design log)) (accesses_before machine state events j event))
            (joined (map (settles_of machine.design (phase_changes machine.design log)) (accesses_before machine state events j event))) k) [
              | inl f ↦ (let r = in-filter-back (counts machine.design (phase_changes machine.design log)) (accesses_before machine state events j event) x f in
                  true-false (counts machine.design (phase_changes machine.design log) x) r.1 (counts-none _ _ x r.0))
              | inr s ↦ (let r = in_joined_back (settles_of machine.design (phase_changes machine.design log)) (accesses_before machine state events j event) x s in settles-none _ _ r.0 x r.1 r.2)
            ]

  -- An access of the one run is one of the other

  abbrev Found : ℕ → ObjectAccess → Type 0
  Found j x = (i : ℕ) × ((whole machine state first events beside).0 j ≡ Some i) × In x (counted_at machine.design free i)

  found : (j : ℕ) (x : ObjectAccess) → In x (counted_at machine.design log j) → Found j x
  found j x i = there (slice_get events j) refl
    where
      c : Compared machine state first events (length events) (whole machine state first events beside).0 (whole machine state first events beside).1
      c = (whole machine state first events beside).2

      by : (event : Event) → slice_get events j ≡ Some event → (m : Option ℕ) → (whole machine state first events beside).0 j ≡ m → Found j x
      by event e None m = absurd (silent-none j event e (c.silent j event (found_below events j event e) m e) x i)
      by event e (Some k) m =
          let p = c.pairs j k m in (
            k,
            m,
            subst (λ xs. In x xs)
                (ap (counted_accesses machine.design (phase_changes machine.design log)) (accesses_at-place machine state events j p.event p.stands ∙ p.accesses
                ∙ sym (accesses_at-place machine state first k p.event p.first_stands))
                ∙ counted-same machine.design (phase_changes machine.design log) (phase_changes machine.design free) (accesses_at free k) (reaches_same machine state first events beside)) i,
          )

      there : (found : Option Event) → slice_get events j ≡ found → Found j x
      there None e = absurd (subst (λ xs. In x (counted_accesses machine.design (phase_changes machine.design log) xs)) (nothing-past machine state events j e) i)
      there (Some event) e = by event e ((whole machine state first events beside).0 j) refl

  no-held : (x : ObjectAccess) (n : ℕ) (y : ObjectAccess) → In x (held_accesses machine state) → In y (counted_at machine.design log n) → x.object ≡ y.object →
      acts_clash x.object x.act y.act ≡ true → ⊥
  no-held x n y i k same clash = let f = found n y k in held_clash machine.design free beside.no_conflict f.0 x y i f.2 same clash

  holding : (z : ObjectAccess) → In z (held_accesses machine state) → (entry : Entry) × (z.act ≡ Holding entry)
  holding z i =
      let r = in-numbered-back (held_by machine.design) 0 state.processes z i in
      let m = In-map-back (λ (entry : Entry). record { act = Holding entry; object = entry.object; process = 0 + r.0; line = waiting_line r.1.activity }) z
      (filter (λ (entry : Entry). has (net_pieces machine.design) entry.object) (waiting_entries r.1.activity)) r.3 in
      (m.0, ap (λ (a : ObjectAccess). a.act) m.2)

  held-apart : (x y : ObjectAccess) → In x (held_accesses machine state) → In y (held_accesses machine state) → acts_clash x.object x.act y.act ≡ true → ⊥
  held-apart x y i k clash =
      let a = holding x i in
      let b = holding y k in
      true_is_false (sym clash ∙ (λ t. acts_clash x.object (a.1 t) (b.1 t)))

  events-apart : (j l : ℕ) (x y : ObjectAccess) → In x (counted_at machine.design log j) → In y (counted_at machine.design log l) → Conflicts log (tagged j x) (tagged l y) → ⊥
  events-apart j l x y i k c =
      let f = found j x i in
      let g = found l y k in
      let one : access_orders free (tagged f.0 x) (tagged g.0 y) ≡ false = ap (λ b. orders_others x.act && b) (sym (orders-alike machine state first events beside j f.0 l g.0 f.1 g.1)) ∙ c.one in
      let other : access_orders free (tagged g.0 y) (tagged f.0 x) ≡ false = ap (λ b. orders_others y.act && b) (sym (orders-alike machine state first events beside l g.0 j f.0 g.1 f.1)) ∙ c.other in
      elim (free_pair machine.design free beside.no_conflict (tagged f.0 x) (tagged g.0 y) (differ f.0 g.0 f.1 g.1)
      (in_log machine.design free f.0 x f.2) (in_log machine.design free g.0 y g.2) c.same c.clash) [
        | inl o ↦ true_is_false (sym o ∙ one)
        | inr o ↦ true_is_false (sym o ∙ other)
      ]
    where
      differ : (n m : ℕ) → (whole machine state first events beside).0 j ≡ Some n → (whole machine state first events beside).0 l ≡ Some m → tagged n x ≢ tagged m y
      differ n m e f same =
          let places : j ≡ l = (whole machine state first events beside).2.single j l n e (f ∙ ap (λ (u : PhaseAccess). u.event) (sym same)) in
          let acts : x.act ≡ y.act = ap (λ (u : PhaseAccess). u.access.act) same in
          let writes : orders_others x.act ≡ true = clash-self x.object x.act (ap (acts_clash x.object x.act) acts ∙ c.clash) in
          true_is_false (sym (λ t. writes t && (ap (orders log j) (sym places) ∙ orders-self log j) t) ∙ c.one)

  no-conflict : (u v : PhaseAccess) → In u (log_accesses machine.design log) → In v (log_accesses machine.design log) → conflict log u v ≡ true → ⊥
  no-conflict u v i k e = go (in_log-back machine.design log u i) (in_log-back machine.design log v k)
    where
      go : Stands machine.design log u → Stands machine.design log v → ⊥
      go (inl x) (inl y) =
          let c = subst (λ (w : PhaseAccess). Conflicts log (carried x.0) w) y.1 (subst (λ (w : PhaseAccess). Conflicts log w v) x.1 (conflicts log u v e)) in held-apart x.0 y.0 x.2 y.2 c.clash
      go (inl x) (inr y) =
          let c = subst (λ (w : PhaseAccess). Conflicts log (carried x.0) w) y.2 (subst (λ (w : PhaseAccess). Conflicts log w v) x.1 (conflicts log u v e)) in
          no-held x.0 y.0 y.1 x.2 y.3 c.same c.clash
      go (inr x) (inl y) =
          let c = subst (λ (w : PhaseAccess). Conflicts log (tagged x.0 x.1) w) y.1 (subst (λ (w : PhaseAccess). Conflicts log w v) x.2 (conflicts log u v e)) in
          no-held y.0 x.0 x.1 y.2 x.3 (sym c.same) (ap (λ o. acts_clash o y.0.act x.1.act) (sym c.same) ∙ clash-symmetric x.1.object y.0.act x.1.act ∙ c.clash)
      go (inr x) (inr y) =
          let c = subst (λ (w : PhaseAccess). Conflicts log (tagged x.0 x.1) w) y.2 (subst (λ (w : PhaseAccess). Conflicts log w v) x.2 (conflicts log u v e)) in events-apart x.0 y.0 x.1 y.1 x.3 y.3 c

  pub stays-free : HasNoConflict machine state events
  stays-free = free-none log [] (log_accesses machine.design log) (λ u v i k. absurd i)
      (λ u v b. let both = Before-in u v (log_accesses machine.design log) b in elim (decided (conflict log u v)) [ inl e ↦ absurd (no-conflict u v both.0 both.1 e) | inr e ↦ e ])

-- The law

pub phases_stay_free : PhasesStayFree
phases_stay_free machine state first events beside = stays-free machine state first events beside

-- The first order

first-ends : (machine : Machine) (state : State) (first : List Event) → FirstOrder machine state first → IsPhase machine state first
first-ends machine state [] f = record { each_possible = refl; ends = none_possible state f }
first-ends machine state (event ∷ first) f =
    let rest = first-ends machine (after machine state event) first f.1 in
    record { each_possible = (λ i. first_possible state event f.0 i && rest.each_possible i); ends = rest.ends }

pub any_order : AnyOrder
any_order machine state events first rules begins phase free order =
    let p = first-ends machine state first order in
    let b : RunsBeside machine state events first = record { rules = rules; begins = begins; first_legal = phase; no_conflict = free; legal = p } in
    (p, stays-free machine state events first b, end_same machine state events first b)
