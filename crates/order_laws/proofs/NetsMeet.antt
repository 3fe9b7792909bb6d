-- An update that changes a clean net meets its like in the run without conflict.
use Rattle.std.proofs.Common.{◌≡◌, ℕ, zero, suc, ◌+◌, ◌<◌, ◌≤◌, List, [], ◌∷◌, ◌++◌, map, length, Bool, true, false, not, ◌||◌, refl, sym, ap, subst, ◌∙◌, ◌⊎◌, inl, inr, arith, le_trans, filter}
use Rattle.std.specs.Prelude.{◌≢◌, Option, Some, None, slice_get, nat_eq, cond}
use Rattle.std.proofs.lemmas.Bool.{eqb-true, eq-eqb}
use Rattle.vf_base.specs.Lists.{has, joined, map_numbered}
use Rattle.four_value.specs.Values.{LogicValue, same_value, edge_matches, part_of}
use Rattle.v_design.specs.Trees.{Entry}
use Rattle.v_design.specs.Designs.{FlatNode, Machine}
use Rattle.v_design.specs.Assignments.{ValueUpdate, value_at}
use Rattle.v_design.specs.Processes.{Activity}
use Rattle.v_design.specs.States.{State, Event, Step, LaneStep, Evaluation, NetUpdate, after, found_or, idle_process, process_at, some_entry, write_of, step_of, first_update, after_lane_step}
use Rattle.v_design.specs.Runs.{happened}
use Rattle.v_design.specs.Paths.{net_pieces}
use Rattle.v_design.specs.Accesses.{Writing, ObjectAccess, waiting_entries, waiting_line, ended_of, net_write, net_accesses, net_ended_by, some_change_matches}
use Rattle.v_design.specs.PhaseLogs.{log_of, changes_input, changes_one, noted_at, note_of, writer_process, writer_line}
use Rattle.order_laws.proofs.Rules.{outputs_are_nets}
use Rattle.order_laws.proofs.Unaffected.{own_of, write_by}
use Rattle.order_laws.proofs.MayCause.{activity_at}
use Rattle.order_laws.proofs.Notes.{new_notes}
use Rattle.order_laws.proofs.PathLaws.{decided, true-false, or-either, or-second, reached, reached-append}
use Rattle.order_laws.proofs.WritersStay.{NotNet, write-clear-of, bodies_clear}
use Rattle.order_laws.proofs.NetStates.{other_number}
use Rattle.order_laws.proofs.WorkedNodes.{below_other}
use Rattle.order_laws.proofs.QuietNets.{event_changes, run_changes}
use Rattle.order_laws.proofs.CountedChanges.{changed_in, changes_bounded}
use Rattle.order_laws.proofs.RunStates.{first_of, state_at, at_next, first-get, first-state, bare, noted, note_stands, notes_before, accesses_before, cause_before, cause_at-place, cause_is}
use Rattle.order_laws.proofs.Woken.{changed_entry, unchanged_entry}
use Rattle.order_laws.proofs.Touches.{unchanged_in, changed-write, changed_output, evaluation-value, net_value-other, net-test}
use Rattle.order_laws.proofs.Cells.{le_or, stays_between}
use Rattle.order_laws.proofs.Runs.{IsRun, run_first, clear_at, state_of_at, changes_there, change_count, first_or_last, changed_before, changes_twice, changes_once_there}
use Rattle.order_laws.proofs.FreeRuns.{IsFree, wild_in, wild_reached, tame_reached, IsOpen}
use Rattle.order_laws.proofs.DoneChanges.{done_most}
use Rattle.order_laws.proofs.Comparison.{process_there, ProcessPart, Paired, Compared, value_stays, wakes_there}
use Rattle.order_laws.proofs.WaitsAlike.{SameTests, waits_alike, changes-where}
use Rattle.order_laws.proofs.Meets.{ChangesAlike, Meets}
use Rattle.order_laws.proofs.StepsMeet.{closed_done}
use Rattle.order_laws.proofs.CleanUpdates as clean

-- What changes a net is an update of its node
pub net_changer : (machine : Machine) (state : State) (events : List Event) (k m : ℕ) (node : FlatNode) (object : ℕ) (event : Event) → IsRun machine state events → slice_get events k ≡ Some event →
    slice_get machine.design.nodes m ≡ Some node → has node.outputs object ≡ true → changes_there machine state events object k ≡ true → event ≡ NetUpdate m
net_changer machine state events k m node object event r e found out t = by event e (ap (λ s. changed_in (state_at machine state events k) s object) (sym (at_next machine state events k event e)) ∙ t)
  where
    net : has (net_pieces machine.design) object ≡ true
    net = outputs_are_nets r.rules m node found object out

    no_write : {B : Type 0} (ev : Event) (u : ValueUpdate) → write_by machine (state_at machine state events k) ev ≡ Some u → u.object ≡ object → B
    no_write ev u w same =
        true-false (has (net_pieces machine.design) object) net
        (subst (λ x. has (net_pieces machine.design) x ≡ false) same (write-clear-of (NotNet machine) machine (state_at machine state events k) ev u (bodies_clear machine r.rules)
        (clear_at machine state events k r) w))

    by : (ev : Event) → slice_get events k ≡ Some ev → changed_in (state_at machine state events k) (after machine (state_at machine state events k) ev) object ≡ true → ev ≡ NetUpdate m
    by (Step p) g h =
        let c = changed-write machine (state_at machine state events k) p (own_of machine (state_at machine state events k) (Step p))
        (write_of (step_of machine (state_at machine state events k) p).action) object h in
        no_write (Step p) c.0 c.1 c.2
    by (LaneStep p) g h =
        let c = changed-write machine (state_at machine state events k) p after_lane_step (first_update (process_at (state_at machine state events k) p).lane) object h in
        no_write (LaneStep p) c.0 c.1 c.2
    by (Evaluation l) g h =
        true-false (changed_in (state_at machine state events k) (after machine (state_at machine state events k) (Evaluation l)) object) h
        (unchanged_in (state_at machine state events k) (after machine (state_at machine state events k) (Evaluation l)) object
        (ap (λ vs. value_at vs object) (evaluation-value machine l (state_at machine state events k))))
    by (NetUpdate l) g h =
        let d = changed_output machine l (state_at machine state events k) object h in
        elim (decided (nat_eq l m)) [
          | inl same ↦ ap NetUpdate (eqb-true l m same)
          | inr apart ↦ true-false (has d.0.outputs object) d.2 (clean.undriven machine.design r.rules m l node d.0 object found d.1 (other_number l m apart) out)
        ]

-- The changes of a run's beginning reach no more than all
pub prefix_reach : (machine : Machine) (state : State) (events : List Event) (n object : ℕ) →
    reached machine.design (run_changes machine state (first_of n events)) object ≤ reached machine.design (run_changes machine state events) object
prefix_reach machine state events zero object = omega arith
prefix_reach machine state [] (suc n) object = omega arith
prefix_reach machine state (event ∷ events) (suc n) object =
    let a : reached machine.design (event_changes machine state event ++ run_changes machine (after machine state event) (first_of n events)) object
    ≡ reached machine.design (event_changes machine state event) object + reached machine.design (run_changes machine (after machine state event) (first_of n events)) object =
    reached-append machine.design (event_changes machine state event) (run_changes machine (after machine state event) (first_of n events)) object in
    let b : reached machine.design (event_changes machine state event ++ run_changes machine (after machine state event) events) object
    ≡ reached machine.design (event_changes machine state event) object + reached machine.design (run_changes machine (after machine state event) events) object =
    reached-append machine.design (event_changes machine state event) (run_changes machine (after machine state event) events) object in
    let c : reached machine.design (run_changes machine (after machine state event) (first_of n events)) object ≤ reached machine.design
    (run_changes machine (after machine state event) events) object =
    prefix_reach machine (after machine state event) events n object in
    omega (arith, a, b, c)

-- The cause of an update: the one change of an input
changes_one-true : (before next : State) (objects : List ℕ) (x : ℕ) → has objects x ≡ true → changed_in before next x ≡ true → changes_one before next objects ≡ true
changes_one-true before next [] x h t = cc
changes_one-true before next (y ∷ objects) x h t = elim (or-either (nat_eq y x) (has objects x) h) [
  | inl same ↦ ap (λ b. b || changes_one before next objects) (ap (changed_in before next) (eqb-true y x same) ∙ t)
  | inr there ↦ or-second (changed_in before next y) (changes_one before next objects) (changes_one-true before next objects x there t)
]

changes_one-some : (before next : State) (objects : List ℕ) → changes_one before next objects ≡ true → (x : ℕ) × (has objects x ≡ true) × (changed_in before next x ≡ true)
changes_one-some before next [] h = cc
changes_one-some before next (y ∷ objects) h = elim (or-either (changed_in before next y) (changes_one before next objects) h) [
  | inl t ↦ (y, ap (λ b. b || has objects y) (eq-eqb y y refl), t)
  | inr there ↦ (let s = changes_one-some before next objects there in (s.0, or-second (nat_eq y s.0) (has objects s.0) s.1, s.2))
]

net_cause : (machine : Machine) (state : State) (events : List Event) (n m j x : ℕ) (node : FlatNode) → slice_get machine.design.nodes m ≡ Some node → has node.inputs x ≡ true → j < n →
    changes_there machine state events x j ≡ true →
    ((l y : ℕ) → j < l → l < n → has node.inputs y ≡ true → changes_there machine state events y l ≡ true → ⊥) → cause_before machine state events n (NetUpdate m) ≡ Some j
net_cause machine state events n m j x node found input low t unique =
    let w = changes-where machine state events x j t in
    cause_is machine state events n (NetUpdate m) j
    (record {
      event = w.0;
      earlier = low;
      stands = w.1;
      may = ap (λ f. changes_input machine f (bare (state_at machine state events j) w.0)) found
          ∙ changes_one-true (state_at machine state events j) (after machine (state_at machine state events j) w.0) node.inputs x input
          (ap (λ s. changed_in (state_at machine state events j) s x) (sym (at_next machine state events j w.0 w.1)) ∙ t);
      latest = λ l other a b f.
          ap (λ g. changes_input machine g (bare (state_at machine state events l) other)) found
          ∙ (elim (decided (changes_one (state_at machine state events l) (after machine (state_at machine state events l) other) node.inputs)) [
            | inl h ↦
                (let s = changes_one-some (state_at machine state events l) (after machine (state_at machine state events l) other) node.inputs h in
                absurd (unique l s.0 a b s.1 (ap (λ u. changed_in (state_at machine state events l) u s.0) (at_next machine state events l other f) ∙ s.2)))
            | inr h ↦ h
          ]);
    })

first-first : {A : Type 0} (j n : ℕ) (xs : List A) → j ≤ n → first_of j (first_of n xs) ≡ first_of j xs
first-first zero n xs h = refl
first-first (suc j) zero xs h = absurd (omega (arith, h))
first-first (suc j) (suc n) [] h = refl
first-first (suc j) (suc n) (x ∷ xs) h = ap (λ ys. x ∷ ys) (first-first j n xs (omega (arith, h)))

-- the writer of an update is that of its cause
net_writer : (machine : Machine) (state : State) (events : List Event) (n m j : ℕ) (event : Event) → slice_get events j ≡ Some event → j < n →
    cause_before machine state events n (NetUpdate m) ≡ Some j →
    ((noted machine state events n (NetUpdate m)).process ≡ (noted machine state events j event).process)
    × ((noted machine state events n (NetUpdate m)).line ≡ (noted machine state events j event).line)
net_writer machine state events n m j event e low c = (
  ap (λ o. writer_process (NetUpdate m) (noted_at (notes_before machine state events n) o)) c ∙ ap (writer_process (NetUpdate m)) stands,
  ap (λ o. writer_line machine (state_at machine state events n) (NetUpdate m) (noted_at (notes_before machine state events n) o)) c
      ∙ ap (writer_line machine (state_at machine state events n) (NetUpdate m)) stands,
)
  where
    stands : slice_get (notes_before machine state events n) j ≡ Some (noted machine state events j event)
    stands =
        note_stands machine state (first_of n events) j event (first-get n events j low ∙ e)
        ∙ (λ i. Some (note_of machine (new_notes machine [] state (first-first j n events (let z : j ≤ n = omega (arith, low) in z) i))
        (first-state machine state events n j (let z : j ≤ n = omega (arith, low) in z) i) event))

-- Accesses of updates

filter-map-same : {B : Type 0} (test : ℕ → Bool) (xs : List ℕ) (f g : ℕ → B) → ((x : ℕ) → test x ≡ true → f x ≡ g x) → map f (filter test xs) ≡ map g (filter test xs)
filter-map-same test [] f g h = refl
filter-map-same test (x ∷ xs) f g h = go (test x) refl (filter-map-same test xs f g h)
  where
    go : (b : Bool) → test x ≡ b → map f (filter test xs) ≡ map g (filter test xs) → map f (cond b (x ∷ filter test xs) (filter test xs)) ≡ map g (cond b (x ∷ filter test xs) (filter test xs))
    go true e rest = λ i. h x e i ∷ rest i
    go false e rest = rest

numbered-two : {A B : Type 0} (f g : ℕ → A → B) (k : ℕ) (d : A) (xs ys : List A) → length xs ≡ length ys →
    ((j : ℕ) → f (k + j) (found_or d (slice_get xs j)) ≡ g (k + j) (found_or d (slice_get ys j))) →
    map_numbered f k xs ≡ map_numbered g k ys
numbered-two f g k d [] [] e h = refl
numbered-two f g k d [] (y ∷ ys) e h = absurd (omega (arith, e))
numbered-two f g k d (x ∷ xs) [] e h = absurd (omega (arith, e))
numbered-two f g k d (x ∷ xs) (y ∷ ys) e h =
    λ i. (ap (λ m. f m x) (let z : k ≡ k + 0 = omega arith in z) ∙ h 0 ∙ ap (λ m. g m y) (let z : k + 0 ≡ k = omega arith in z)) i
    ∷ numbered-two f g (k + 1) d xs ys (omega (arith, e)) (λ j. ap (λ m. f m (found_or d (slice_get xs j))) (let z : k + 1 + j ≡ k + suc j = omega arith in z) ∙ h (suc j)
    ∙ ap (λ m. g m (found_or d (slice_get ys j))) (let z : k + suc j ≡ k + 1 + j = omega arith in z)) i

abbrev one_write : ℕ → ℕ → LogicValue → LogicValue → ℕ → List ObjectAccess
one_write process line old new object = elim (same_value old new) [ true ↦ [] | false ↦ record { act = Writing old new; object = object; process = process; line = line } ∷ [] ]

abbrev ended_entries : (Entry → Bool) → ℕ → Activity → List ObjectAccess
ended_entries test q act = ended_of (some_entry test (waiting_entries act)) test q (waiting_line act) (waiting_entries act)

no-entries : (test : Entry → Bool) (q : ℕ) (act : Activity) → some_entry test (waiting_entries act) ≡ false → ended_entries test q act ≡ []
no-entries test q act f = ap (λ b. ended_of b test q (waiting_line act) (waiting_entries act)) f

-- The update

module _ (machine : Machine) (state : State) (first events : List Event) (n : ℕ) (matched : ℕ → Option ℕ) (done : List ℕ) (m : ℕ) (node : FlatNode) (object : ℕ)
    (r : IsFree machine state first) (run : IsRun machine state events) (c : Compared machine state first events n matched done) (stands : slice_get events n ≡ Some (NetUpdate m))
    (found : slice_get machine.design.nodes m ≡ Some node) (out : has node.outputs object ≡ true) (tame : wild_in machine state first object ≡ false)
    (changed : changes_there machine state events object n ≡ true) where
  few : reached machine.design (run_changes machine state first) object ≤ 1
  few = tame_reached machine state first object (outputs_are_nets run.rules m node found object out) tame

  below : (x : ℕ) → reached machine.design (run_changes machine state (first_of n events)) x ≤ reached machine.design (run_changes machine state first) x
  below x = subst (λ k. k ≤ reached machine.design (run_changes machine state first) x) (sym (c.reach x)) (done_most machine state done 0 first x)

  tame_few : (x : ℕ) → reached machine.design (run_changes machine state first) x ≤ 1 → wild_in machine state first x ≡ false
  tame_few x h = elim (decided (wild_in machine state first x)) [
    | inl wild ↦ (let w : 2 ≤ reached machine.design (run_changes machine state first) x = wild_reached machine state first x wild in absurd (omega (arith, w, h)))
    | inr t ↦ t
  ]

  once : (x : ℕ) → reached machine.design (run_changes machine state first) x ≤ 1 → change_count machine state first x ≤ 1
  once x h = le_trans (changes_bounded machine state first x r.run.rules r.run.begins r.run.possible) h

  near : (x : ℕ) → reached machine.design (run_changes machine state first) x ≤ 1 →
      (value_at (state_at machine state events n).values x ≡ value_at state.values x) ⊎ (value_at (happened machine state first).values x ≡ value_at (state_at machine state events n).values x)
  near x h = elim (first_or_last machine state first x (c.values x (tame_few x h)).place (once x h)) [
    | inl as_first ↦ inl ((c.values x (tame_few x h)).same ∙ as_first)
    | inr as_last ↦ inr (as_last ∙ sym (c.values x (tame_few x h)).same)
  ]

  e-before : (x : ℕ) → has node.outputs x ≡ true → value_at (state_at machine state events n).values x ≡ value_at state.values x
  e-before = clean.before machine state first events n m node object r.run r.ends run stands found out few below near changed

  e-after : (x : ℕ) → has node.outputs x ≡ true → value_at (state_at machine state events (suc n)).values x ≡ value_at (happened machine state first).values x
  e-after = clean.after_it machine state first events n m node object r.run r.ends run stands found out few below near changed

  -- where the other run changes the net
  there : (i : ℕ) × (i < length first) × (changes_there machine state first object i ≡ true)
  there = changed_before machine state first object (length first)
      ((λ k. same_value (sym (e-before object out) k) ((ap (λ s. value_at s.values object) (clean.at_end machine state first) ∙ sym (e-after object out)) k))
      ∙ not-true (same_value (value_at (state_at machine state events n).values object) (value_at (state_at machine state events (suc n)).values object)) changed)
    where
      not-true : (b : Bool) → not b ≡ true → b ≡ false
      not-true true e = cc
      not-true false e = refl

  pub place : ℕ
  place = there.0

  first_stands : slice_get first there.0 ≡ Some (NetUpdate m)
  first_stands =
      let w = changes-where machine state first object there.0 there.2 in
      w.1 ∙ ap Some (net_changer machine state first there.0 m node object w.0 r.run w.1 found out there.2)

  f-near : (x : ℕ) → reached machine.design (run_changes machine state first) x ≤ 1 →
      (value_at (state_at machine state first there.0).values x ≡ value_at state.values x)
      ⊎ (value_at (happened machine state first).values x ≡ value_at (state_at machine state first there.0).values x)
  f-near x h = first_or_last machine state first x there.0 (once x h)

  f-before : (x : ℕ) → has node.outputs x ≡ true → value_at (state_at machine state first there.0).values x ≡ value_at state.values x
  f-before = clean.before machine state first first there.0 m node object r.run r.ends r.run first_stands found out few (prefix_reach machine state first there.0) f-near there.2

  f-after : (x : ℕ) → has node.outputs x ≡ true → value_at (state_at machine state first (suc there.0)).values x ≡ value_at (happened machine state first).values x
  f-after = clean.after_it machine state first first there.0 m node object r.run r.ends r.run first_stands found out few (prefix_reach machine state first there.0) f-near there.2

  same-before : (x : ℕ) → has node.outputs x ≡ true → value_at (state_at machine state events n).values x ≡ value_at (state_at machine state first there.0).values x
  same-before x h = e-before x h ∙ sym (f-before x h)

  same-after : (x : ℕ) → has node.outputs x ≡ true → value_at (state_at machine state events (suc n)).values x ≡ value_at (state_at machine state first (suc there.0)).values x
  same-after x h = e-after x h ∙ sym (f-after x h)

  out-few : (x : ℕ) → has node.outputs x ≡ true → reached machine.design (run_changes machine state first) x ≤ 1
  out-few = clean.few_each machine state first events n m node object r.run r.ends run stands found out few below near changed

  e-other : (x : ℕ) → has node.outputs x ≡ false → value_at (state_at machine state events (suc n)).values x ≡ value_at (state_at machine state events n).values x
  e-other x h =
      ap (λ s. value_at s.values x) (at_next machine state events n (NetUpdate m) stands)
      ∙ net_value-other machine m (state_at machine state events n) x (λ other f. subst (λ (nd : FlatNode). has nd.outputs x ≡ false) (ap (found_or node) (sym found ∙ f)) h)

  f-other : (x : ℕ) → has node.outputs x ≡ false → value_at (state_at machine state first (suc there.0)).values x ≡ value_at (state_at machine state first there.0).values x
  f-other x h =
      ap (λ s. value_at s.values x) (at_next machine state first there.0 (NetUpdate m) first_stands)
      ∙ net_value-other machine m (state_at machine state first there.0) x (λ other f. subst (λ (nd : FlatNode). has nd.outputs x ≡ false) (ap (found_or node) (sym found ∙ f)) h)

  tests : SameTests (state_at machine state events n) (state_at machine state events (suc n)) (state_at machine state first there.0) (state_at machine state first (suc there.0))
  tests entry = elim (decided (has node.outputs entry.object)) [
    | inl h ↦ (λ k. edge_matches entry.edge (part_of (same-before entry.object h k) entry.low entry.width) (part_of (same-after entry.object h k) entry.low entry.width))
    | inr h ↦ unchanged_entry (state_at machine state events n) (state_at machine state events (suc n)) entry (e-other entry.object h)
        ∙ sym (unchanged_entry (state_at machine state first there.0) (state_at machine state first (suc there.0)) entry (f-other entry.object h))
  ]

  -- a net of the node changes there alone
  alone : (x k : ℕ) → reached machine.design (run_changes machine state first) x ≤ 1 → (j : ℕ) → changes_there machine state first x j ≡ true → changes_there machine state first x k ≡ true → k ≡ j
  alone x k h j t u = elim (decided (nat_eq k j)) [
    | inl same ↦ eqb-true k j same
    | inr apart ↦ elim (below_other k j (other_number k j apart)) [
      | inl low ↦ (let two : 2 ≤ change_count machine state first x = changes_twice machine state first x k j low u t in let one : change_count machine state first x ≤ 1 = once x h in
          absurd (omega (arith, two, one)))
      | inr high ↦ (let two : 2 ≤ change_count machine state first x = changes_twice machine state first x j k high t u in let one : change_count machine state first x ≤ 1 = once x h in
          absurd (omega (arith, two, one)))
    ]
  ]

  open_there : has done there.0 ≡ false
  open_there = elim (decided (has done there.0)) [
    | inr f ↦ f
    | inl h ↦
        (let cell = c.values object tame in
        let low : there.0 < cell.place = cell.before there.0 there.2 h in
        let stays : value_at (state_at machine state first cell.place).values object ≡ value_at (state_at machine state first (suc there.0)).values object =
        stays_between (changes_there machine state first object) (λ k. value_at (state_at machine state first k).values object) (value_stays machine state first object) (suc there.0) cell.place
        (omega (arith, low))
        (λ k a b. elim (decided (changes_there machine state first object k)) [
          | inl t ↦ (let z : k ≡ there.0 = alone object k few there.0 there.2 t in absurd (omega (arith, z, a)))
          | inr f ↦ f
        ]) in
        true-false (changes_there machine state events object n) changed
        (unchanged_in (state_at machine state events n) (state_at machine state events (suc n)) object (e-after object out ∙ sym (f-after object out) ∙ sym stays ∙ sym cell.same)))
  ]

  objects : (x : ℕ) (t : wild_in machine state first x ≡ false) → ChangesAlike machine state first events n there.0 x (c.values x t).place
  objects x t = elim (decided (has node.outputs x)) [
    | inr h ↦ inl (
      unchanged_in (state_at machine state events n) (state_at machine state events (suc n)) x (e-other x h),
      unchanged_in (state_at machine state first there.0) (state_at machine state first (suc there.0)) x (f-other x h),
    )
    | inl h ↦ elim (decided (changes_there machine state first x there.0)) [
      | inr f ↦ inl ((λ k. not (same_value (same-before x h k) (same-after x h k))) ∙ f, f)
      | inl u ↦ inr (
        (λ k. not (same_value (same-before x h k) (same-after x h k))) ∙ u,
        u,
        same-after x h,
        record {
          reaches = elim (le_or (c.values x t).place there.0) [
            | inl le ↦ le
            | inr gt ↦ true-false (has done there.0) ((c.values x t).known there.0 u gt) open_there
          ];
          between = λ k a b. elim (decided (changes_there machine state first x k)) [
            | inl v ↦ (let z : k ≡ there.0 = alone x k (out-few x h) there.0 u v in absurd (omega (arith, z, b)))
            | inr f ↦ f
          ];
          now = same-before x h;
        },
      )
    ]
  ]

  -- the input that has changed
  input : (x : ℕ) × (has node.inputs x ≡ true) × (same_value (value_at state.values x) (value_at (state_at machine state events n).values x) ≡ false)
  input = clean.input machine state first events n m node object r.run r.ends run stands found out few below near changed

  f-input : (x : ℕ) × (has node.inputs x ≡ true) × (same_value (value_at state.values x) (value_at (state_at machine state first there.0).values x) ≡ false)
  f-input = clean.input machine state first first there.0 m node object r.run r.ends r.run first_stands found out few (prefix_reach machine state first there.0) f-near there.2

  quiet-input : (y : ℕ) → has node.inputs y ≡ true → input.0 ≢ y → reached machine.design (run_changes machine state first) y ≡ 0
  unfolding input
  quiet-input = clean.others_quiet machine state first events n m node object r.run r.ends run stands found out few below near changed

  one-input : input.0 ≡ f-input.0
  unfolding f-input
  one-input = elim (decided (nat_eq input.0 f-input.0)) [
    | inl same ↦ eqb-true input.0 f-input.0 same
    | inr apart ↦
        (let z : reached machine.design (run_changes machine state first) f-input.0 ≡ 0 = quiet-input f-input.0 f-input.1 (other_number input.0 f-input.0 apart) in
        let o : 1 ≤ reached machine.design (run_changes machine state first) f-input.0 =
        clean.input_reached machine state first first there.0 m node object r.run r.ends r.run first_stands found out few (prefix_reach machine state first there.0) f-near there.2 in
        absurd (omega (arith, z, o)))
  ]

  input-few : reached machine.design (run_changes machine state first) input.0 ≤ 1
  input-few = clean.input_few machine state first events n m node object r.run r.ends run stands found out few below near changed input.0 input.1

  -- where it changes, here and there
  here-cause : (j : ℕ) × (j < n) × (changes_there machine state events input.0 j ≡ true)
  here-cause = changed_before machine state events input.0 n input.2

  there-cause : (j : ℕ) × (j < there.0) × (changes_there machine state first input.0 j ≡ true)
  there-cause = changed_before machine state first input.0 there.0 (subst (λ x. same_value (value_at state.values x) (value_at (state_at machine state first there.0).values x) ≡ false)
      (sym one-input) f-input.2)

  f-cause : cause_before machine state first there.0 (NetUpdate m) ≡ Some there-cause.0
  f-cause = net_cause machine state first there.0 m there-cause.0 input.0 node found input.1 there-cause.1 there-cause.2 unique
    where
      unique : (l y : ℕ) → there-cause.0 < l → l < there.0 → has node.inputs y ≡ true → changes_there machine state first y l ≡ true → ⊥
      unique l y a b h t = elim (decided (nat_eq input.0 y)) [
        | inl same ↦
            (let z : l ≡ there-cause.0 = alone input.0 l input-few there-cause.0 there-cause.2 (subst (λ x. changes_there machine state first x l ≡ true) (sym (eqb-true input.0 y same)) t) in
            omega (arith, z, a))
        | inr apart ↦
            (let one : 1 ≤ change_count machine state first y = changes_once_there machine state first y l t in
            let k : change_count machine state first y ≤ reached machine.design (run_changes machine state first) y = changes_bounded machine state first y r.run.rules r.run.begins r.run.possible in
            let z : reached machine.design (run_changes machine state first) y ≡ 0 = quiet-input y h (other_number input.0 y apart) in
            omega (arith, one, k, z))
      ]

  in-first : (y l : ℕ) → l < n → changes_there machine state events y l ≡ true → changes_there machine state (first_of n events) y l ≡ true
  in-first y l low t =
      (λ k. changed_in (first-state machine state events n l (let z : l ≤ n = omega (arith, low) in z) k)
      (first-state machine state events n (suc l) (let z : suc l ≤ n = omega (arith, low) in z) k) y) ∙ t

  first-bound : (y : ℕ) → change_count machine state (first_of n events) y ≤ reached machine.design (run_changes machine state first) y
  first-bound y =
      le_trans (changes_bounded machine state (first_of n events) y run.rules run.begins (run_first machine state events n run).possible) (below y)

  e-cause : cause_before machine state events n (NetUpdate m) ≡ Some here-cause.0
  e-cause = net_cause machine state events n m here-cause.0 input.0 node found input.1 here-cause.1 here-cause.2 unique
    where
      unique : (l y : ℕ) → here-cause.0 < l → l < n → has node.inputs y ≡ true → changes_there machine state events y l ≡ true → ⊥
      unique l y a b h t = elim (decided (nat_eq input.0 y)) [
        | inl same ↦
            (let two : 2 ≤ change_count machine state (first_of n events) input.0 =
            changes_twice machine state (first_of n events) input.0 here-cause.0 l a (in-first input.0 here-cause.0 here-cause.1 here-cause.2)
            (in-first input.0 l b (subst (λ x. changes_there machine state events x l ≡ true) (sym (eqb-true input.0 y same)) t)) in
            let k : change_count machine state (first_of n events) input.0 ≤ reached machine.design (run_changes machine state first) input.0 = first-bound input.0 in
            let o : reached machine.design (run_changes machine state first) input.0 ≤ 1 = input-few in
            omega (arith, two, k, o))
        | inr apart ↦
            (let one : 1 ≤ change_count machine state (first_of n events) y = changes_once_there machine state (first_of n events) y l (in-first y l b t) in
            let k : change_count machine state (first_of n events) y ≤ reached machine.design (run_changes machine state first) y = first-bound y in
            let z : reached machine.design (run_changes machine state first) y ≡ 0 = quiet-input y h (other_number input.0 y apart) in
            omega (arith, one, k, z))
      ]

  input-tame : wild_in machine state first input.0 ≡ false
  input-tame = tame_few input.0 input-few

  causes-match : matched here-cause.0 ≡ Some there-cause.0
  causes-match = go (matched here-cause.0) refl
    where
      go : (x : Option ℕ) → matched here-cause.0 ≡ x → x ≡ Some there-cause.0
      go None h =
          let w = changes-where machine state events input.0 here-cause.0 here-cause.2 in
          true-false (changes_there machine state events input.0 here-cause.0) here-cause.2 ((c.silent here-cause.0 w.0 here-cause.1 h w.1).changes input.0 input-tame)
      go (Some k) h = ap Some (alone input.0 k input-few there-cause.0 there-cause.2 (sym ((c.pairs here-cause.0 k h).changes input.0 input-tame) ∙ here-cause.2))

  pair : Paired machine state first events matched here-cause.0 there-cause.0
  pair = c.pairs here-cause.0 there-cause.0 causes-match

  e-writer : ((noted machine state events n (NetUpdate m)).process ≡ (noted machine state events here-cause.0 pair.event).process)
      × ((noted machine state events n (NetUpdate m)).line ≡ (noted machine state events here-cause.0 pair.event).line)
  e-writer = net_writer machine state events n m here-cause.0 pair.event pair.stands here-cause.1 e-cause

  f-writer : ((noted machine state first there.0 (NetUpdate m)).process ≡ (noted machine state first there-cause.0 pair.event).process)
      × ((noted machine state first there.0 (NetUpdate m)).line ≡ (noted machine state first there-cause.0 pair.event).line)
  f-writer = net_writer machine state first there.0 m there-cause.0 pair.event pair.first_stands there-cause.1 f-cause

  process : (noted machine state events n (NetUpdate m)).process ≡ (noted machine state first there.0 (NetUpdate m)).process
  process = e-writer.0 ∙ pair.process ∙ sym f-writer.0

  line : (noted machine state events n (NetUpdate m)).line ≡ (noted machine state first there.0 (NetUpdate m)).line
  line = e-writer.1 ∙ pair.line ∙ sym f-writer.1

  opens : IsOpen (log_of machine state first) done there.0
  opens = record {
    closed = closed_done machine state first events n matched done c;
    cause_done = λ k e.
        subst (λ x. has done x ≡ true) (ap (found_or k) (sym f-cause ∙ sym (cause_at-place machine state first there.0 (NetUpdate m) first_stands) ∙ e))
        (c.listed here-cause.0 there-cause.0 causes-match);
    open_still = open_there;
  }

  no_step : {B : Type 0} (q : ℕ) → Step q ≡ NetUpdate m → B
  no_step q e = cc

  e-test : (entry : Entry) → some_change_matches (state_at machine state events n) (state_at machine state events (suc n)) node.outputs entry ≡ changed_entry (state_at machine state events n)
      (state_at machine state events (suc n)) entry
  e-test entry =
      subst (λ s. some_change_matches (state_at machine state events n) s node.outputs entry ≡ changed_entry (state_at machine state events n) s entry)
      (sym (at_next machine state events n (NetUpdate m) stands))
      (net-test machine m (state_at machine state events n) node found entry)

  f-test : (entry : Entry) → some_change_matches (state_at machine state first there.0) (state_at machine state first (suc there.0)) node.outputs entry
      ≡ changed_entry (state_at machine state first there.0) (state_at machine state first (suc there.0)) entry
  f-test entry =
      subst (λ s. some_change_matches (state_at machine state first there.0) s node.outputs entry ≡ changed_entry (state_at machine state first there.0) s entry)
      (sym (at_next machine state first there.0 (NetUpdate m) first_stands))
      (net-test machine m (state_at machine state first there.0) node found entry)

  ends-alike : (q : ℕ) → net_ended_by (state_at machine state events n) (state_at machine state events (suc n)) node.outputs q (process_at (state_at machine state events n) q)
      ≡ net_ended_by (state_at machine state first there.0) (state_at machine state first (suc there.0)) node.outputs q (process_at (state_at machine state first there.0) q)
  ends-alike q =
      (λ k. ended_entries (λ entry. e-test entry k) q (activity_at (state_at machine state events n) q))
      ∙ (elim (waits_alike machine state first events n matched done there.0 q (NetUpdate m) r opens first_stands (λ e. no_step q e) (c.processes q) tests) [
        | inl woken ↦ (λ k. ended_entries (λ entry. tests entry k) q (ap (λ (x : ProcessPart). x.activity) woken.0.now k))
        | inr quiet ↦
            no-entries (changed_entry (state_at machine state events n) (state_at machine state events (suc n))) q (activity_at (state_at machine state events n) q) quiet.0
            ∙ sym (no-entries (changed_entry (state_at machine state first there.0) (state_at machine state first (suc there.0))) q (activity_at (state_at machine state first there.0) q)
            (quiet-there quiet.1))
      ])
      ∙ (λ k. ended_entries (λ entry. sym (f-test entry) k) q (activity_at (state_at machine state first there.0) q))
    where
      quiet-there : process_there machine state first q there.0 ≡ false → some_entry (changed_entry (state_at machine state first there.0) (state_at machine state first (suc there.0)))
          (waiting_entries (activity_at (state_at machine state first there.0) q)) ≡ false
      quiet-there f = elim (decided (some_entry (changed_entry (state_at machine state first there.0) (state_at machine state first (suc there.0)))
          (waiting_entries (activity_at (state_at machine state first there.0) q)))) [
            | inl s ↦ true-false (process_there machine state first q there.0) (wakes_there machine state first q there.0 (NetUpdate m) r.run first_stands (λ e. no_step q e) s) f
            | inr g ↦ g
          ]

  same-accesses : accesses_before machine state events n (NetUpdate m) ≡ accesses_before machine state first there.0 (NetUpdate m)
  same-accesses =
      (λ k. net_accesses machine.design (process k) (line k) (found k) (state_at machine state events n) (sym (at_next machine state events n (NetUpdate m) stands) k))
      ∙ (λ k. joined (filter-map-same (has node.outputs) (net_pieces machine.design)
      (net_write (noted machine state first there.0 (NetUpdate m)).process (noted machine state first there.0 (NetUpdate m)).line (state_at machine state events n)
      (state_at machine state events (suc n)))
      (net_write (noted machine state first there.0 (NetUpdate m)).process (noted machine state first there.0 (NetUpdate m)).line (state_at machine state first there.0)
      (state_at machine state first (suc there.0)))
      (λ x h j. one_write (noted machine state first there.0 (NetUpdate m)).process (noted machine state first there.0 (NetUpdate m)).line (same-before x h j) (same-after x h j) x) k)
      ++ joined (numbered-two (net_ended_by (state_at machine state events n) (state_at machine state events (suc n)) node.outputs)
      (net_ended_by (state_at machine state first there.0) (state_at machine state first (suc there.0)) node.outputs)
      0 idle_process (state_at machine state events n).processes (state_at machine state first there.0).processes
      ((state_of_at machine state events n run).processes ∙ sym (state_of_at machine state first there.0 r.run).processes)
      (λ j. ap (λ x. net_ended_by (state_at machine state events n) (state_at machine state events (suc n)) node.outputs x (process_at (state_at machine state events n) j))
      (let z : 0 + j ≡ j = omega arith in z)
      ∙ ends-alike j
      ∙ ap (λ x. net_ended_by (state_at machine state first there.0) (state_at machine state first (suc there.0)) node.outputs x (process_at (state_at machine state first there.0) j))
      (let z : j ≡ 0 + j = omega arith in z)) k))
      ∙ (λ k. net_accesses machine.design (noted machine state first there.0 (NetUpdate m)).process (noted machine state first there.0 (NetUpdate m)).line (sym found k)
      (state_at machine state first there.0)
      (at_next machine state first there.0 (NetUpdate m) first_stands k))

  pub update_meets : Meets machine state first events n matched done c place (NetUpdate m)
  unfolding place
  update_meets = record {
    stands = stands;
    first_stands = first_stands;
    opens = opens;
    tests = tests;
    values = objects;
    own = λ q e. no_step q (sym e);
    own_lane = λ q e. no_lane q e;
    accesses = same-accesses;
    process = process;
    line = line;
    cause = inr (here-cause.0, there-cause.0, e-cause, f-cause, causes-match);
  }
    where
      no_lane : {B : Type 0} (q : ℕ) → NetUpdate m ≡ LaneStep q → B
      no_lane q e = cc
