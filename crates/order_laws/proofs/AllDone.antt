-- A legal run of a phase leaves out no event of the run without conflict, and ends where that one does.
use Rattle.std.proofs.Common.{◌≡◌, ℕ, zero, suc, ◌+◌, ◌*◌, ◌<◌, ◌≤◌, List, [], ◌∷◌, length, Bool, true, false, ◌||◌, refl, sym, ap, subst, ◌∙◌, ◌⊎◌, inl, inr, arith, le_trans, sum_by}
use Rattle.std.specs.Prelude.{◌≢◌, Option, Some, None, slice_get, nat_eq, is_some}
use Rattle.std.proofs.lemmas.Bool.{eqb-true, eq-eqb}
use Rattle.std.proofs.lemmas.List.Sums.{sum_by-cons}
use Rattle.vf_base.specs.Lists.{has, without_repeats}
use Rattle.four_value.specs.Values.{LogicValue, same_value}
use Rattle.v_design.specs.Designs.{FlatNode, Machine}
use Rattle.v_design.specs.Assignments.{value_at}
use Rattle.v_design.specs.States.{State, ProcessState, NodeState, Event, Step, LaneStep, Evaluation, NetUpdate, found_or, idle_process, is_process_event, process_at, is_ready, is_any, is_quiescent}
use Rattle.v_design.specs.States.{has_event, has_work, some_in}
use Rattle.v_design.specs.Runs.{happened}
use Rattle.v_design.specs.Paths.{one_if, path_weight, paths_through, paths, net_pieces}
use Rattle.v_design.specs.Laws.{IsStateOf}
use Rattle.order_laws.proofs.Rules.{outputs_are_nets}
use Rattle.v_design.specs.Accesses.{waiting_entries}
use Rattle.order_laws.proofs.Conflicts.{In}
use Rattle.order_laws.proofs.Clash.{some_entry-true, and-left}
use Rattle.order_laws.proofs.Notes.{new_notes}
use Rattle.order_laws.proofs.Effects.{same_state}
use Rattle.order_laws.proofs.MayCause.{activity_at}
use Rattle.order_laws.proofs.PathLaws.{decided, true-false, or-neither, reached, paths-step, sum-nothing, chosen}
use Rattle.order_laws.proofs.NetStates.{other_number}
use Rattle.order_laws.proofs.QuietNets.{event_changes, run_changes}
use Rattle.order_laws.proofs.SettledNets.{Fit, values-in, not-both, phase_ends_settled, settled_determined}
use Rattle.order_laws.proofs.NodeRests.{rest_on_inputs}
use Rattle.order_laws.proofs.CountedChanges.{changed_in, changes_bounded}
use Rattle.order_laws.proofs.WorkedNodes.{below_other, values_equal}
use Rattle.order_laws.proofs.RunStates.{first_of, state_at, at_next, at_past, possible_at, none_past}
use Rattle.order_laws.proofs.Woken.{changed_entry, touches_process, step_touches}
use Rattle.order_laws.proofs.Touches.{unchanged_in, entry_changed, evaluation-value, changed_output}
use Rattle.order_laws.proofs.Cells.{Cell, le_or, below_or_same, Stays, stays_between}
use Rattle.order_laws.proofs.Runs.{IsRun, follows_at, state_of_at, quiet_at, time_at, changes_there, change_count, first_or_last, changed_before, changes_twice}
use Rattle.order_laws.proofs.FreeRuns.{IsFree, wild_in, wild_reached, tame_reached, waits_tame}
use Rattle.order_laws.proofs.DoneChanges.{done_most, done_all}
use Rattle.order_laws.proofs.Comparison.{on_event, process_there, lane_there, ProcessPart, LanePart, process_part, lane_part, Compared, process_stays, value_stays, there-how}
use Rattle.order_laws.proofs.WaitsAlike.{changes-where}
use Rattle.order_laws.proofs.StepsMeet.{ended_process, lane_stays}
use Rattle.order_laws.proofs.CleanUpdates as clean
use Rattle.order_laws.proofs.NetsMeet.{prefix_reach}
use Rattle.order_laws.proofs.RunsGoOn.{node_changes}
use Rattle.v_design.specs.PhaseLogs.{is_lane_of, cause_of}

-- the state past a run's end is its last
far : (machine : Machine) (state : State) (events : List Event) (k : ℕ) → length events ≤ k → state_at machine state events k ≡ happened machine state events
far machine state events k h = at_past machine state events k (none_past events k h)

-- a part that nothing touches from a place on is as at the end
pub last-part : {X : Type 0} (touches : ℕ → Bool) (content : ℕ → X) (end place : ℕ) → Stays touches content → ((k : ℕ) → end ≤ k → content k ≡ content end) →
    ((k : ℕ) → place ≤ k → touches k ≡ false) → content place ≡ content end
last-part touches content end place stays past none = elim (le_or place end) [
  | inl le ↦ sym (stays_between touches content stays place end le (λ k a b. none k a))
  | inr gt ↦ past place (omega (arith, gt))
]

pub first_of-all : {A : Type 0} (xs : List A) → first_of (length xs) xs ≡ xs
first_of-all [] = refl
first_of-all (x ∷ xs) = ap (λ ys. x ∷ ys) (first_of-all xs)

pub first_of-past-all : {A : Type 0} (xs : List A) (k : ℕ) → length xs ≤ k → first_of k xs ≡ xs
first_of-past-all [] zero h = refl
first_of-past-all [] (suc k) h = refl
first_of-past-all (x ∷ xs) zero h = absurd (omega (arith, h))
first_of-past-all (x ∷ xs) (suc k) h = ap (λ ys. x ∷ ys) (first_of-past-all xs k (omega (arith, h)))

idle-node : (x : NodeState) → has_work x ≡ false → x ≡ record { marked = false; pending = None }
idle-node x h = go x.marked x.pending refl refl h
  where
    go : (b : Bool) (o : Option (List LogicValue)) → x.marked ≡ b → x.pending ≡ o → (b || is_some o) ≡ false → x ≡ record { marked = false; pending = None }
    go true o e f g = cc
    go false (Some v) e f g = cc
    go false None e f g = λ i. record { marked = e i; pending = f i }

idle-same : (xs ys : List NodeState) → length xs ≡ length ys → some_in has_work xs ≡ false → some_in has_work ys ≡ false → xs ≡ ys
idle-same [] [] e h k = refl
idle-same [] (y ∷ ys) e h k = absurd (omega (arith, e))
idle-same (x ∷ xs) [] e h k = absurd (omega (arith, e))
idle-same (x ∷ xs) (y ∷ ys) e h k =
    let a = or-neither (has_work x) (some_in has_work xs) h in
    let b = or-neither (has_work y) (some_in has_work ys) k in
    λ i. (idle-node x a.0 ∙ sym (idle-node y b.0)) i ∷ idle-same xs ys (omega (arith, e)) a.1 b.1 i

processes-same : (xs ys : List ProcessState) → length xs ≡ length ys → ((p : ℕ) → found_or idle_process (slice_get xs p) ≡ found_or idle_process (slice_get ys p)) → xs ≡ ys
processes-same [] [] e h = refl
processes-same [] (y ∷ ys) e h = absurd (omega (arith, e))
processes-same (x ∷ xs) [] e h = absurd (omega (arith, e))
processes-same (x ∷ xs) (y ∷ ys) e h = λ i. h 0 i ∷ processes-same xs ys (omega (arith, e)) (λ p. h (suc p)) i

module _ (machine : Machine) (state : State) (first events : List Event) (matched : ℕ → Option ℕ) (done : List ℕ) (r : IsFree machine state first) (run : IsRun machine state events)
    (ends : is_quiescent (happened machine state events) ≡ true) (c : Compared machine state first events (length events) matched done) where
  -- each step of a process is done
  step_done : (i p : ℕ) → slice_get first i ≡ Some (Step p) → ((k : ℕ) → k < i → process_there machine state first p k ≡ true → has done k ≡ true) → has done i ≡ true
  step_done i p e before = elim (le_or (c.processes p).place i) [
    | inr gt ↦ (c.processes p).known i (ap (on_event (touches_process machine p (state_at machine state first i))) e ∙ step_touches machine p (state_at machine state first i)) gt
    | inl le ↦
        (let same : process_part machine state first p i ≡ process_part machine state first p (c.processes p).place =
        stays_between (process_there machine state first p) (process_part machine state first p) (process_stays machine state first p r.run) (c.processes p).place i le
        (λ k a b. elim (decided (process_there machine state first p k)) [
          | inl t ↦ (let z : k < (c.processes p).place = (c.processes p).before k t (before k b t) in absurd (omega (arith, z, a)))
          | inr f ↦ f
        ]) in
        true-false (is_ready (activity_at (state_at machine state first i) p)) (possible_at machine state first i (Step p) r.run.possible e)
        (ap (λ (x : ProcessPart). is_ready x.activity) same ∙ ap (λ (x : ProcessPart). is_ready x.activity) (sym (c.processes p).same)
        ∙ ap (λ s. is_ready (activity_at s p)) (clean.at_end machine state events) ∙ (ended_process (happened machine state events) p ends).0))
  ]

  lane_done : (i p : ℕ) → slice_get first i ≡ Some (LaneStep p) → ((k : ℕ) → k < i → lane_there first p k ≡ true → has done k ≡ true) → has done i ≡ true
  lane_done i p e before = elim (le_or (c.lanes p).place i) [
    | inr gt ↦ (c.lanes p).known i (ap (on_event (is_lane_of p)) e ∙ eq-eqb p p refl) gt
    | inl le ↦
        (let same : lane_part machine state first p i ≡ lane_part machine state first p (c.lanes p).place =
        stays_between (lane_there first p) (lane_part machine state first p) (lane_stays machine state first p) (c.lanes p).place i le
        (λ k a b. elim (decided (lane_there first p k)) [
          | inl t ↦ (let z : k < (c.lanes p).place = (c.lanes p).before k t (before k b t) in absurd (omega (arith, z, a)))
          | inr f ↦ f
        ]) in
        true-false (is_any (process_at (state_at machine state first i) p).lane) (possible_at machine state first i (LaneStep p) r.run.possible e)
        (ap (λ (x : LanePart). is_any x.lane) same ∙ ap (λ (x : LanePart). is_any x.lane) (sym (c.lanes p).same) ∙ ap (λ s. is_any (process_at s p).lane) (clean.at_end machine state events)
        ∙ (ended_process (happened machine state events) p ends).1))
  ]

  few_once : (x : ℕ) → reached machine.design (run_changes machine state first) x ≤ 1 → change_count machine state first x ≤ 1
  few_once x h = le_trans (changes_bounded machine state first x r.run.rules r.run.begins r.run.possible) h

  lone : (x k j : ℕ) → reached machine.design (run_changes machine state first) x ≤ 1 → changes_there machine state first x j ≡ true → changes_there machine state first x k ≡ true → k ≡ j
  lone x k j h t u = elim (decided (nat_eq k j)) [
    | inl same ↦ eqb-true k j same
    | inr apart ↦ elim (below_other k j (other_number k j apart)) [
      | inl low ↦ (let two : 2 ≤ change_count machine state first x = changes_twice machine state first x k j low u t in let one : change_count machine state first x ≤ 1 = few_once x h in
          absurd (omega (arith, two, one)))
      | inr high ↦ (let two : 2 ≤ change_count machine state first x = changes_twice machine state first x j k high t u in let one : change_count machine state first x ≤ 1 = few_once x h in
          absurd (omega (arith, two, one)))
    ]
  ]

  -- after its one change an object stays
  since : (x j k : ℕ) → reached machine.design (run_changes machine state first) x ≤ 1 → changes_there machine state first x j ≡ true → j < k →
      value_at (state_at machine state first k).values x ≡ value_at (state_at machine state first (suc j)).values x
  since x j k h t low =
      stays_between (changes_there machine state first x) (λ l. value_at (state_at machine state first l).values x) (value_stays machine state first x) (suc j) k (omega (arith, low))
      (λ l a b. elim (decided (changes_there machine state first x l)) [
        | inl u ↦ (let z : l ≡ j = lone x l j h t u in absurd (omega (arith, z, a)))
        | inr f ↦ f
      ])

  tame_of : (x : ℕ) → reached machine.design (run_changes machine state first) x ≤ 1 → wild_in machine state first x ≡ false
  tame_of x h = elim (decided (wild_in machine state first x)) [
    | inl wild ↦ (let w : 2 ≤ reached machine.design (run_changes machine state first) x = wild_reached machine state first x wild in absurd (omega (arith, w, h)))
    | inr t ↦ t
  ]

  -- each update of a clean net is done
  update_done : (i m object : ℕ) (node : FlatNode) → slice_get first i ≡ Some (NetUpdate m) → slice_get machine.design.nodes m ≡ Some node → has node.outputs object ≡ true →
      wild_in machine state first object ≡ false →
      changes_there machine state first object i ≡ true → ((k x : ℕ) → k < i → wild_in machine state first x ≡ false → changes_there machine state first x k ≡ true → has done k ≡ true) →
      ((x : ℕ) → reached machine.design (run_changes machine state (first_of (length events) events)) x ≤ reached machine.design (run_changes machine state first) x) → has done i ≡ true
  update_done i m object node e found out tame t before below = elim (le_or (c.values object tame).place i) [
    | inr gt ↦ (c.values object tame).known i t gt
    | inl le ↦
        true-false (changes_there machine state first object i) t
        (unchanged_in (state_at machine state first i) (state_at machine state first (suc i)) object
        (values-in (state_at machine state first (suc i)).values (happened machine state events).values node.outputs
        (clean.given machine state first first i m node object r.run r.ends r.run e found out few (prefix_reach machine state first i) near t
        ∙ (rest_on_inputs machine run.rules).rests m node (state_at machine state first i).values (happened machine state events).values found (follows_at machine state first i r.run).fit
        (subst (λ s. Fit machine s.values) (clean.at_end machine state events) (follows_at machine state events (length events) run).fit) inputs
        ∙ sym (phase_ends_settled machine state events run.rules (rest_on_inputs machine run.rules) run.begins (record { each_possible = run.possible; ends = ends }) m node found)) object out
        ∙ sym (ap (λ s. value_at s.values object) (clean.at_end machine state events)) ∙ (c.values object tame).same
        ∙ sym (stays_between (changes_there machine state first object) (λ l. value_at (state_at machine state first l).values object) (value_stays machine state first object)
        (c.values object tame).place i le
        (λ k a b. elim (decided (changes_there machine state first object k)) [
          | inl u ↦ (let z : k ≡ i = lone object k i few t u in absurd (omega (arith, z, b)))
          | inr f ↦ f
        ]))))
  ]
    where
      few : reached machine.design (run_changes machine state first) object ≤ 1
      few = tame_reached machine state first object (outputs_are_nets run.rules m node found object out) tame

      near : (x : ℕ) → reached machine.design (run_changes machine state first) x ≤ 1 →
          (value_at (state_at machine state first i).values x ≡ value_at state.values x) ⊎ (value_at (happened machine state first).values x ≡ value_at (state_at machine state first i).values x)
      near x h = first_or_last machine state first x i (few_once x h)

      input : (x : ℕ) × (has node.inputs x ≡ true) × (same_value (value_at state.values x) (value_at (state_at machine state first i).values x) ≡ false)
          × ((y : ℕ) → has node.inputs y ≡ true → x ≢ y → reached machine.design (run_changes machine state first) y ≡ 0) × (reached machine.design (run_changes machine state first) x ≤ 1)
      input =
          let x = clean.input machine state first first i m node object r.run r.ends r.run e found out few (prefix_reach machine state first i) near t in (
            x.0,
            x.1,
            x.2,
            clean.others_quiet machine state first first i m node object r.run r.ends r.run e found out few (prefix_reach machine state first i) near t,
            clean.input_few machine state first first i m node object r.run r.ends r.run e found out few (prefix_reach machine state first i) near t x.0 x.1,
          )

      inputs : (x : ℕ) → has node.inputs x ≡ true → value_at (state_at machine state first i).values x ≡ value_at (happened machine state events).values x
      inputs x h = elim (decided (nat_eq input.0 x)) [
        | inl same ↦ subst (λ z. value_at (state_at machine state first i).values z ≡ value_at (happened machine state events).values z) (eqb-true input.0 x same) its
        | inr apart ↦
            (let z : reached machine.design (run_changes machine state first) x ≡ 0 = input.3 x h (other_number input.0 x apart) in
            let a : reached machine.design (run_changes machine state (first_of i first)) x ≤ reached machine.design (run_changes machine state first) x = prefix_reach machine state first i x in
            let b : reached machine.design (run_changes machine state (first_of (length events) events)) x ≤ reached machine.design (run_changes machine state first) x = below x in
            (quiet_at machine state first i r.run).values x (omega (arith, z, a))
            ∙ sym ((quiet_at machine state events (length events) run).values x (omega (arith, z, b))) ∙ ap (λ s. value_at s.values x) (clean.at_end machine state events))
      ]
        where
          its : value_at (state_at machine state first i).values input.0 ≡ value_at (happened machine state events).values input.0
          its =
              let j = changed_before machine state first input.0 i input.2 in
              let cell = c.values input.0 (tame_of input.0 input.4) in
              since input.0 j.0 i input.4 j.2 j.1
              ∙ sym (since input.0 j.0 cell.place input.4 j.2 (cell.before j.0 j.2 (before j.0 input.0 j.1 (tame_of input.0 input.4) j.2)))
              ∙ sym cell.same ∙ ap (λ s. value_at s.values input.0) (clean.at_end machine state events)

  all-below : (x : ℕ) → reached machine.design (run_changes machine state (first_of (length events) events)) x ≤ reached machine.design (run_changes machine state first) x
  all-below x = subst (λ k. k ≤ reached machine.design (run_changes machine state first) x) (sym (c.reach x)) (done_most machine state done 0 first x)

  -- what an event of the run without conflict touches
  abbrev Told : ℕ → Type 0
  Told k =
      ((p : ℕ) → process_there machine state first p k ≡ true → has done k ≡ true) × ((p : ℕ) → lane_there first p k ≡ true → has done k ≡ true)
      × ((object : ℕ) → wild_in machine state first object ≡ false → changes_there machine state first object k ≡ true → has done k ≡ true)

  told-lane : (p : ℕ) (found : Option Event) (k : ℕ) → slice_get first k ≡ found → on_event (is_lane_of p) found ≡ true → slice_get first k ≡ Some (LaneStep p)
  told-lane p None k e h = cc
  told-lane p (Some (Step q)) k e h = cc
  told-lane p (Some (LaneStep q)) k e h = e ∙ ap (λ x. Some (LaneStep x)) (sym (eqb-true p q h))
  told-lane p (Some (Evaluation m)) k e h = cc
  told-lane p (Some (NetUpdate m)) k e h = cc

  value_told : (i object : ℕ) → ((k : ℕ) → k < i → Told k) → wild_in machine state first object ≡ false → changes_there machine state first object i ≡ true → (event : Event) →
      slice_get first i ≡ Some event → has done i ≡ true
  value_told i object before tame t (Step p) e = step_done i p e (λ k b u. (before k b).0 p u)
  value_told i object before tame t (LaneStep p) e = lane_done i p e (λ k b u. (before k b).1 p u)
  value_told i object before tame t (Evaluation m) e =
      true-false (changes_there machine state first object i) t
      (unchanged_in (state_at machine state first i) (state_at machine state first (suc i)) object
      (ap (λ s. value_at s.values object) (at_next machine state first i (Evaluation m) e) ∙ ap (λ vs. value_at vs object) (evaluation-value machine m (state_at machine state first i))))
  value_told i object before tame t (NetUpdate m) e =
      let d = changed_output machine m (state_at machine state first i) object (ap (λ s. changed_in (state_at machine state first i) s object) (sym (at_next machine state first i (NetUpdate m) e))
      ∙ t) in
      update_done i m object d.0 e d.1 d.2 tame t (λ k x b tx u. (before k b).2 x tx u) all-below

  process_told : (i p : ℕ) → ((k : ℕ) → k < i → Told k) → process_there machine state first p i ≡ true → has done i ≡ true
  process_told i p before t =
      let h = there-how machine state first p i r.run t in
      elim h.2 [
        | inl own ↦ step_done i p (h.1 ∙ ap Some own) (λ k b u. (before k b).0 p u)
        | inr wakes ↦
            (let m = some_entry-true (changed_entry (state_at machine state first i) (state_at machine state first (suc i)))
            (waiting_entries (activity_at (state_at machine state first i) p)) wakes.1 in
            value_told i m.0.object before (waits_tame machine state first i p m.0 r m.1) (entry_changed (state_at machine state first i) (state_at machine state first (suc i)) m.0 m.2) h.0 h.1)
      ]

  told : (bound k : ℕ) → k < bound → Told k
  told zero k h = absurd (omega (arith, h))
  told (suc bound) k h = elim (below_or_same k bound h) [
    | inl low ↦ told bound k low
    | inr same ↦ subst Told (sym same) (
      (λ p t. process_told bound p (told bound) t),
      (λ p t. lane_done bound p (told-lane p (slice_get first bound) bound refl t) (λ l b u. (told bound l b).1 p u)),
      (λ object tame t. let w = changes-where machine state first object bound t in value_told bound object (told bound) tame t w.0 w.1),
    )
  ]

  pub all_told : (k : ℕ) → Told k
  all_told k = told (suc k) k (omega arith)

  -- each process or lane step is done
  pub steps_done : (k : ℕ) (event : Event) → slice_get first k ≡ Some event → is_process_event event ≡ true → has done k ≡ true
  steps_done k (Step p) e h = (all_told k).0 p (ap (on_event (touches_process machine p (state_at machine state first k))) e ∙ step_touches machine p (state_at machine state first k))
  steps_done k (LaneStep p) e h = (all_told k).1 p (ap (on_event (is_lane_of p)) e ∙ eq-eqb p p refl)
  steps_done k (Evaluation m) e h = cc
  steps_done k (NetUpdate m) e h = cc

  -- the changes of both runs reach the same
  pub reach_same : (x : ℕ) → reached machine.design (run_changes machine state events) x ≡ reached machine.design (run_changes machine state first) x
  reach_same x =
      ap (λ es. reached machine.design (run_changes machine state es) x) (sym (first_of-all events)) ∙ c.reach x
      ∙ done_all machine state done 0 first x (λ k event e. go k event e (is_process_event event) refl)
    where
      go : (k : ℕ) (event : Event) → slice_get first k ≡ Some event → (b : Bool) → is_process_event event ≡ b →
          (has done (0 + k) ≡ true) ⊎ (reached machine.design (event_changes machine (state_at machine state first k) event) x ≡ 0)
      go k event e true h = inl (ap (has done) (let z : 0 + k ≡ k = omega arith in z) ∙ steps_done k event e h)
      go k event e false h = inr (node_changes machine (state_at machine state first k) event x h)

  -- Both end alike

  pub past-place : {X : Type 0} (touches : ℕ → Bool) (content : ℕ → X) (x : X) → (cell : Cell touches content done x) → ((k : ℕ) → touches k ≡ true → has done k ≡ true) → (k : ℕ) → cell.place ≤ k →
      touches k ≡ false
  past-place touches content x cell h k le = elim (decided (touches k)) [
    | inl t ↦ (let z : k < cell.place = cell.before k t (h k t) in absurd (omega (arith, z, le)))
    | inr f ↦ f
  ]

  last-state : (k : ℕ) → length first ≤ k → state_at machine state first k ≡ state_at machine state first (length first)
  last-state k h = far machine state first k h ∙ sym (clean.at_end machine state first)

  last-cause : (p k : ℕ) → length first ≤ k → first_of k first ≡ first_of (length first) first
  last-cause p k h = first_of-past-all first k h ∙ sym (first_of-all first)

  value-last : (x : ℕ) → wild_in machine state first x ≡ false → value_at (happened machine state events).values x ≡ value_at (happened machine state first).values x
  value-last x tame =
      ap (λ s. value_at s.values x) (sym (clean.at_end machine state events)) ∙ (c.values x tame).same
      ∙ last-part (changes_there machine state first x) (λ k. value_at (state_at machine state first k).values x) (length first) (c.values x tame).place (value_stays machine state first x)
      (λ k h. ap (λ s. value_at s.values x) (last-state k h))
      (past-place (changes_there machine state first x) (λ k. value_at (state_at machine state first k).values x) (value_at (state_at machine state events (length events)).values x)
      (c.values x tame) (λ k t. (all_told k).2 x tame t))
      ∙ ap (λ s. value_at s.values x) (clean.at_end machine state first)

  process-last : (p : ℕ) → (activity_at (happened machine state events) p ≡ activity_at (happened machine state first) p)
      × ((process_at (happened machine state events) p).later ≡ (process_at (happened machine state first) p).later)
  process-last p =
      let whole : process_part machine state first p (c.processes p).place ≡ process_part machine state first p (length first) =
      last-part (process_there machine state first p) (process_part machine state first p) (length first) (c.processes p).place (process_stays machine state first p r.run)
      (λ k h i. record {
        activity = activity_at (last-state k h i) p;
        later = (process_at (last-state k h i) p).later;
        cause = cause_of machine (new_notes machine [] state (last-cause p k h i)) (Step p);
      })
      (past-place (process_there machine state first p) (process_part machine state first p) _ (c.processes p) (λ k t. (all_told k).0 p t)) in (
        ap (λ s. activity_at s p) (sym (clean.at_end machine state events)) ∙ ap (λ (x : ProcessPart). x.activity) ((c.processes p).same ∙ whole)
            ∙ ap (λ s. activity_at s p) (clean.at_end machine state first),
        ap (λ s. (process_at s p).later) (sym (clean.at_end machine state events)) ∙ ap (λ (x : ProcessPart). x.later) ((c.processes p).same ∙ whole)
            ∙ ap (λ s. (process_at s p).later) (clean.at_end machine state first),
      )

  lane-last : (p : ℕ) → (process_at (happened machine state events) p).lane ≡ (process_at (happened machine state first) p).lane
  lane-last p =
      let whole : lane_part machine state first p (c.lanes p).place ≡ lane_part machine state first p (length first) =
      last-part (lane_there first p) (lane_part machine state first p) (length first) (c.lanes p).place (lane_stays machine state first p)
      (λ k h i. record { lane = (process_at (last-state k h i) p).lane; cause = cause_of machine (new_notes machine [] state (last-cause p k h i)) (LaneStep p) })
      (past-place (lane_there first p) (lane_part machine state first p) _ (c.lanes p) (λ k t. (all_told k).1 p t)) in
      ap (λ s. (process_at s p).lane) (sym (clean.at_end machine state events)) ∙ ap (λ (x : LanePart). x.lane) ((c.lanes p).same ∙ whole)
      ∙ ap (λ s. (process_at s p).lane) (clean.at_end machine state first)

  -- an object that no node writes isn't wild
  undriven-tame : (x : ℕ) → ((number : ℕ) (node : FlatNode) → slice_get machine.design.nodes number ≡ Some node → has node.outputs x ≡ false) → wild_in machine state first x ≡ false
  undriven-tame x none = elim (decided (wild_in machine state first x)) [
    | inr t ↦ t
    | inl wild ↦
        (let w : 2 ≤ reached machine.design (run_changes machine state first) x = wild_reached machine state first x wild in
        let z : reached machine.design (run_changes machine state first) x ≡ 0 =
        unreached (run_changes machine state first) (and-left (has (net_pieces machine.design) x) _ wild) (clean.run-variables machine state first) in
        absurd (omega (arith, w, z)))
  ]
    where
      no-path : (source : ℕ) → nat_eq source x ≡ false → paths machine.design source x ≡ 0
      no-path source d =
          let s : paths machine.design source x ≡ one_if (nat_eq source x) + sum_by (paths_through (paths machine.design source) x) machine.design.nodes =
          paths-step machine.design run.rules.ranked source x in
          let a : one_if (nat_eq source x) ≡ 0 = ap one_if d in
          let b : sum_by (paths_through (paths machine.design source) x) machine.design.nodes ≡ 0 =
          sum-nothing (paths_through (paths machine.design source) x) machine.design.nodes
          (λ k node e. ap (λ b. chosen b (path_weight node.kind * sum_by (paths machine.design source) (without_repeats [] node.inputs))) (none k node e)) in
          omega (arith, s, a, b)

      unreached : (changes : List ℕ) → has (net_pieces machine.design) x ≡ true → ((v : ℕ) → In v changes → has (net_pieces machine.design) v ≡ false) → reached machine.design changes x ≡ 0
      unreached [] net vars = refl
      unreached (v ∷ changes) net vars =
          let s : reached machine.design (v ∷ changes) x ≡ paths machine.design v x + reached machine.design changes x = sum_by-cons (λ source. paths machine.design source x) v changes in
          let a : paths machine.design v x ≡ 0 = no-path v (elim (decided (nat_eq v x)) [
            | inl same ↦ true-false (has (net_pieces machine.design) x) net (subst (λ y. has (net_pieces machine.design) y ≡ false) (eqb-true v x same) (vars v (inl refl)))
            | inr other ↦ other
          ]) in
          let b : reached machine.design changes x ≡ 0 = unreached changes net (λ u i. vars u (inr i)) in
          omega (arith, s, a, b)

  both-ended : (s : State) → is_quiescent s ≡ true → some_in has_work s.nodes ≡ false
  both-ended s h = (not-both (some_in has_event s.processes) (some_in has_work s.nodes) h).1

  e-state : IsStateOf machine (happened machine state events)
  e-state = subst (λ s. IsStateOf machine s) (clean.at_end machine state events) (state_of_at machine state events (length events) run)

  f-state : IsStateOf machine (happened machine state first)
  f-state = subst (λ s. IsStateOf machine s) (clean.at_end machine state first) (state_of_at machine state first (length first) r.run)

  pub same_end : happened machine state events ≡ happened machine state first
  same_end =
      same_state (happened machine state events) (happened machine state first)
      (ap (λ s. s.time) (sym (clean.at_end machine state events)) ∙ time_at machine state events (length events) ∙ sym (time_at machine state first (length first))
      ∙ ap (λ s. s.time) (clean.at_end machine state first))
      (values_equal (happened machine state events).values (happened machine state first).values (e-state.values ∙ sym f-state.values)
      (settled_determined machine (happened machine state events).values (happened machine state first).values run.rules (rest_on_inputs machine run.rules)
      (subst (λ s. Fit machine s.values) (clean.at_end machine state events) (follows_at machine state events (length events) run).fit)
      (subst (λ s. Fit machine s.values) (clean.at_end machine state first) (follows_at machine state first (length first) r.run).fit)
      (phase_ends_settled machine state events run.rules (rest_on_inputs machine run.rules) run.begins (record { each_possible = run.possible; ends = ends }))
      (phase_ends_settled machine state first run.rules (rest_on_inputs machine run.rules) run.begins (record { each_possible = r.run.possible; ends = r.ends }))
      (λ x none. value-last x (undriven-tame x none))))
      (idle-same (happened machine state events).nodes (happened machine state first).nodes (e-state.nodes ∙ sym f-state.nodes) (both-ended (happened machine state events) ends)
      (both-ended (happened machine state first) r.ends))
      (processes-same (happened machine state events).processes (happened machine state first).processes (e-state.processes ∙ sym f-state.processes)
      (λ p i. record { activity = (process-last p).0 i; later = (process-last p).1 i; lane = lane-last p i }))
