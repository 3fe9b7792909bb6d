-- Where an event changes an object or ends a wait, accesses of it say so.
use Rattle.std.proofs.Common.{◌≡◌, ℕ, zero, suc, List, [], ◌∷◌, map, Bool, true, false, not, ◌&&◌, refl, sym, ap, subst, ◌∙◌, ◌⊎◌, inl, inr, filter}
use Rattle.std.specs.Prelude.{Option, Some, None, slice_get, nat_eq}
use Rattle.std.proofs.lemmas.Bool.{eqb-true, eq-eqb}
use Rattle.vf_base.specs.Lists.{has, joined, map_numbered}
use Rattle.four_value.specs.Values.{LogicValue, same_value, edge_matches, part_of}
use Rattle.v_design.specs.Trees.{Entry}
use Rattle.v_design.specs.Designs.{FlatNode, Machine}
use Rattle.v_design.specs.Assignments.{ValueUpdate, value_at}
use Rattle.v_design.specs.States.{State, ProcessState, Event, Step, LaneStep, Evaluation, NetUpdate, after, found_or, idle_process, process_at, node_at, entry_matches, some_entry, with_node}
use Rattle.v_design.specs.States.{with_process, written_if, value_written, write_of, step_of, after_lane_step, first_update, evaluated, nets_updated}
use Rattle.v_design.specs.Paths.{net_pieces}
use Rattle.v_design.specs.Accesses.{Writing, Ending, ObjectAccess, waiting_entries, waiting_line, without_first, ended_of, ended_by, accesses_of, net_write, net_accesses, net_ended_by}
use Rattle.v_design.specs.Accesses.{some_change_matches}
use Rattle.v_design.specs.WellFormed.{KeepsRules}
use Rattle.order_laws.proofs.Rules.{outputs_are_nets}
use Rattle.order_laws.proofs.Conflicts.{In, In-left, In-right, In-map}
use Rattle.order_laws.proofs.Unaffected.{own_of, write_by}
use Rattle.order_laws.proofs.Clash.{write_stands, ended_stands, ending_access, in_without_first, In-joined, some_entry-true, true_is_false}
use Rattle.order_laws.proofs.MayCause.{activity_at}
use Rattle.order_laws.proofs.PathLaws.{decided, true-false}
use Rattle.order_laws.proofs.NetStates.{same_value-true, same_value-self, other_number, value-other, values-other}
use Rattle.order_laws.proofs.CountedChanges.{changed_in}
use Rattle.order_laws.proofs.Woken.{changed_entry, unchanged_entry, put-new, length-written, entry-written, none-passes}
use Rattle.order_laws.proofs.Ordered.{in_joined, has_in, in-filter}

-- Changes

pub unchanged_in : (before next : State) (object : ℕ) → value_at next.values object ≡ value_at before.values object → changed_in before next object ≡ false
unchanged_in before next object e = ap not (ap (same_value (value_at before.values object)) e ∙ same_value-self (value_at before.values object))

pub entry_changed : (before next : State) (entry : Entry) → changed_entry before next entry ≡ true → changed_in before next entry.object ≡ true
entry_changed before next entry t = go (same_value (value_at before.values entry.object) (value_at next.values entry.object)) refl
  where
    go : (b : Bool) → same_value (value_at before.values entry.object) (value_at next.values entry.object) ≡ b → not b ≡ true
    go false e = refl
    go true e = true-false (changed_entry before next entry) t (unchanged_entry before next entry (sym (same_value-true (value_at before.values entry.object) (value_at next.values entry.object) e)))

-- the values after a process or lane step
pub written-here : (machine : Machine) (state : State) (q : ℕ) (own : ProcessState → ProcessState) (u : ValueUpdate) →
    value_at (written_if machine (Some u) (with_process q own state)).values u.object ≡ value_written machine state u
written-here machine state q own u = put-new state.values u.object (value_written machine state u) (length-written machine state u)

pub written-other : (machine : Machine) (state : State) (q : ℕ) (own : ProcessState → ProcessState) (write : Option ValueUpdate) (object : ℕ) →
    ((u : ValueUpdate) → write ≡ Some u → nat_eq u.object object ≡ false) →
    value_at (written_if machine write (with_process q own state)).values object ≡ value_at state.values object
written-other machine state q own None object h = refl
written-other machine state q own (Some u) object h = value-other machine u.object (value_written machine state u) (with_process q own state) object (other_number u.object object (h u refl))

-- what a write changes is its object
abbrev WriteOf : Machine → State → Event → State → ℕ → Type 0
WriteOf machine state event next object =
    (u : ValueUpdate) × (write_by machine state event ≡ Some u) × (u.object ≡ object) × (value_at next.values object ≡ value_written machine state u)

pub changed-write : (machine : Machine) (state : State) (q : ℕ) (own : ProcessState → ProcessState) (write : Option ValueUpdate) (object : ℕ) →
    changed_in state (written_if machine write (with_process q own state)) object ≡ true →
    (u : ValueUpdate) × (write ≡ Some u) × (u.object ≡ object) × (value_at (written_if machine write (with_process q own state)).values object ≡ value_written machine state u)
changed-write machine state q own None object t = true-false (changed_in state (with_process q own state) object) t (unchanged_in state (with_process q own state) object refl)
changed-write machine state q own (Some u) object t = elim (decided (nat_eq u.object object)) [
  | inl same ↦ (
    u,
    refl,
    eqb-true u.object object same,
    subst (λ x. value_at (written_if machine (Some u) (with_process q own state)).values x ≡ value_written machine state u) (eqb-true u.object object same) (written-here machine state q own u),
  )
  | inr other ↦
      true-false (changed_in state (written_if machine (Some u) (with_process q own state)) object) t
      (unchanged_in state (written_if machine (Some u) (with_process q own state)) object (value-other machine u.object (value_written machine state u) (with_process q own state) object
      (other_number u.object object other)))
]

net-other : (machine : Machine) (number : ℕ) (found : Option FlatNode) (pending : Option (List LogicValue)) (state : State) (object : ℕ) →
    ((node : FlatNode) → found ≡ Some node → has node.outputs object ≡ false) →
    value_at (nets_updated machine number found pending state).values object ≡ value_at state.values object
net-other machine number None pending state object h = refl
net-other machine number (Some node) None state object h = refl
net-other machine number (Some node) (Some values) state object h = values-other machine node.outputs values (with_node number (λ old. record old { pending = None }) state) object (h node refl)

pub net_value-other : (machine : Machine) (number : ℕ) (state : State) (object : ℕ) → ((node : FlatNode) → slice_get machine.design.nodes number ≡ Some node → has node.outputs object ≡ false) →
    value_at (after machine state (NetUpdate number)).values object ≡ value_at state.values object
net_value-other machine number state object h = net-other machine number (slice_get machine.design.nodes number) (node_at state number).pending state object h

-- an update of nets changes outputs of its node alone
pub changed_output : (machine : Machine) (number : ℕ) (state : State) (object : ℕ) → changed_in state (after machine state (NetUpdate number)) object ≡ true →
    (node : FlatNode) × (slice_get machine.design.nodes number ≡ Some node) × (has node.outputs object ≡ true)
changed_output machine number state object t = go (slice_get machine.design.nodes number) refl
  where
    go : (found : Option FlatNode) → slice_get machine.design.nodes number ≡ found → (node : FlatNode) × (slice_get machine.design.nodes number ≡ Some node) × (has node.outputs object ≡ true)
    go None e =
        true-false (changed_in state (after machine state (NetUpdate number)) object) t
        (unchanged_in state (after machine state (NetUpdate number)) object (net_value-other machine number state object (λ node f. none_some node (sym e ∙ f))))
      where
        none_some : {B : Type 0} (node : FlatNode) → None ≡ Some node → B
        none_some node f = cc
    go (Some node) e = elim (decided (has node.outputs object)) [
      | inl h ↦ (node, e, h)
      | inr h ↦
          true-false (changed_in state (after machine state (NetUpdate number)) object) t
          (unchanged_in state (after machine state (NetUpdate number)) object
          (net_value-other machine number state object (λ other f. subst (λ (n : FlatNode). has n.outputs object ≡ false) (ap (found_or node) (sym e ∙ f)) h)))
    ]

pub evaluation-value : (machine : Machine) (number : ℕ) (state : State) → (after machine state (Evaluation number)).values ≡ state.values
evaluation-value machine number state = go (slice_get machine.design.nodes number)
  where
    go : (found : Option FlatNode) → (evaluated machine number found state).values ≡ state.values
    go None = refl
    go (Some node) = refl

-- The access of a change
abbrev pub ChangeAccess : State → State → ℕ → List ObjectAccess → Type 0
ChangeAccess state next object accesses =
    (x : ObjectAccess) × In x accesses × (x.object ≡ object) × (x.act ≡ Writing (value_at state.values object) (value_at next.values object))

process-change : (machine : Machine) (state next : State) (event : Event) (w l object : ℕ) → WriteOf machine state event next object →
    ChangeAccess state next object (accesses_of machine w l state event)
process-change machine state next event w l object c =
    let s = write_stands machine state w l event c.0 c.1 in (
      record { act = Writing (value_at state.values c.0.object) (value_written machine state c.0); object = c.0.object; process = _; line = s.0 },
      s.1,
      c.2,
      λ i. Writing (value_at state.values (c.2 i)) (sym c.3 i),
    )

pub change_access : (machine : Machine) (state : State) (event : Event) (w l object : ℕ) → KeepsRules machine.design → changed_in state (after machine state event) object ≡ true →
    ChangeAccess state (after machine state event) object (accesses_of machine w l state event)
change_access machine state (Step q) w l object rules t =
    process-change machine state (after machine state (Step q)) (Step q) w l object (changed-write machine state q (own_of machine state (Step q)) (write_of (step_of machine state q).action) object t)
change_access machine state (LaneStep q) w l object rules t =
    process-change machine state (after machine state (LaneStep q)) (LaneStep q) w l object (changed-write machine state q after_lane_step (first_update (process_at state q).lane) object t)
change_access machine state (Evaluation n) w l object rules t =
    true-false (changed_in state (after machine state (Evaluation n)) object) t
    (unchanged_in state (after machine state (Evaluation n)) object (ap (λ vs. value_at vs object) (evaluation-value machine n state)))
change_access machine state (NetUpdate n) w l object rules t =
    let d = changed_output machine n state object t in
    let next : State = after machine state (NetUpdate n) in (
      net_access,
      subst (λ found. In net_access (net_accesses machine.design w l found state (after machine state (NetUpdate n)))) (sym d.1)
          (In-left net_access (joined (map (net_write w l state (after machine state (NetUpdate n))) (filter (has d.0.outputs) (net_pieces machine.design))))
          (joined (map_numbered (net_ended_by state (after machine state (NetUpdate n)) d.0.outputs) 0 state.processes))
          (in_joined (net_write w l state (after machine state (NetUpdate n))) (filter (has d.0.outputs) (net_pieces machine.design)) object net_access
          (in-filter (has d.0.outputs) (net_pieces machine.design) object (has_in (net_pieces machine.design) object (outputs_are_nets rules n d.0 d.1 object d.2)) d.2)
          (here (same_value (value_at state.values object) (value_at (after machine state (NetUpdate n)).values object)) (not-true _ t)))),
      refl,
      refl,
    )
  where
    net_access : ObjectAccess
    net_access = record { act = Writing (value_at state.values object) (value_at (after machine state (NetUpdate n)).values object); object = object; process = w; line = l }

    not-true : (b : Bool) → not b ≡ true → b ≡ false
    not-true true e = cc
    not-true false e = refl

    here : (b : Bool) → b ≡ false → In net_access (elim b [ true ↦ [] | false ↦ net_access ∷ [] ])
    here true e = cc
    here false e = inl refl

-- Waits that an event ends

pub in_processes : (xs : List ProcessState) (p : ℕ) (entry : Entry) → In entry (waiting_entries (found_or idle_process (slice_get xs p)).activity) → In (found_or idle_process (slice_get xs p)) xs
in_processes [] p entry i = absurd i
in_processes (x ∷ xs) zero entry i = inl refl
in_processes (x ∷ xs) (suc p) entry i = inr (in_processes xs p entry i)

-- an entry that a change doesn't match, of a wait that it ends
ends-entry : (test : Entry → Bool) (entries : List Entry) (entry : Entry) (k line : ℕ) → some_entry test entries ≡ true → In entry entries → test entry ≡ false →
    In (ending_access k line entry) (ended_of (some_entry test entries) test k line entries)
ends-entry test entries entry k line s i f =
    subst (λ b. In (ending_access k line entry) (ended_of b test k line entries)) (sym s)
    (In-map (ending_access k line) entry (without_first test entries) (in_without_first test entries entry i f))

abbrev pub WakeAccess : State → State → Entry → List ObjectAccess → Type 0
WakeAccess state next entry accesses =
    (changed_in state next entry.object ≡ true) ⊎ ((x : ObjectAccess) × In x accesses × (x.object ≡ entry.object) × (x.act ≡ Ending entry))

some-same : (one other : Entry → Bool) (entries : List Entry) → ((entry : Entry) → one entry ≡ other entry) → some_entry one entries ≡ some_entry other entries
some-same one other entries h = λ i. some_entry (λ entry. h entry i) entries

process-wakes : (machine : Machine) (state : State) (event : Event) (q : ℕ) (own : ProcessState → ProcessState) (write : Option ValueUpdate) (w l p : ℕ) (entry : Entry) →
    write_by machine state event ≡ write →
    In entry (waiting_entries (activity_at state p)) → some_entry (changed_entry state (written_if machine write (with_process q own state))) (waiting_entries (activity_at state p)) ≡ true →
    changed_entry state (written_if machine write (with_process q own state)) entry ≡ false →
    (x : ObjectAccess) × In x (accesses_of machine w l state event) × (x.object ≡ entry.object) × (x.act ≡ Ending entry)
process-wakes machine state event q own None w l p entry e i s f =
    true_is_false (sym s ∙ none-passes (changed_entry state (with_process q own state)) (waiting_entries (activity_at state p)) (λ x. unchanged_entry state (with_process q own state) x refl))
process-wakes machine state event q own (Some u) w l p entry e i s f =
    let test : Entry → Bool = entry_matches u.object (value_at state.values u.object) (value_written machine state u) in
    let same : (x : Entry) → test x ≡ changed_entry state (written_if machine (Some u) (with_process q own state)) x =
    entry-written machine u.object (value_written machine state u) (with_process q own state) (length-written machine state u) in
    let r = In-joined (ended_by u.object (value_at state.values u.object) (value_written machine state u)) (λ k. ending_access k (waiting_line (activity_at state p)) entry) 0 state.processes
    (process_at state p)
    (in_processes state.processes p entry i)
    (λ k. ends-entry test (waiting_entries (activity_at state p)) entry k (waiting_line (activity_at state p))
    (some-same test (changed_entry state (written_if machine (Some u) (with_process q own state))) (waiting_entries (activity_at state p)) same ∙ s) i (same entry ∙ f)) in
    (ending_access r.0 (waiting_line (activity_at state p)) entry, ended_stands machine state w l event u e (ending_access r.0 (waiting_line (activity_at state p)) entry) r.1, refl, refl)

-- the test of an update of nets is that of the values before and after
pub net-test : (machine : Machine) (number : ℕ) (state : State) (node : FlatNode) → slice_get machine.design.nodes number ≡ Some node → (entry : Entry) →
    some_change_matches state (after machine state (NetUpdate number)) node.outputs entry ≡ changed_entry state (after machine state (NetUpdate number)) entry
net-test machine number state node e entry = elim (decided (has node.outputs entry.object)) [
  | inl h ↦
      (λ i. h i && (eq-eqb entry.object entry.object refl i && edge_matches entry.edge (part_of (value_at state.values entry.object) entry.low entry.width)
      (part_of (value_at (after machine state (NetUpdate number)).values entry.object) entry.low entry.width)))
  | inr h ↦
      ap (λ b. b && entry_matches entry.object (value_at state.values entry.object) (value_at (after machine state (NetUpdate number)).values entry.object) entry) h
      ∙ sym (unchanged_entry state (after machine state (NetUpdate number)) entry
      (net_value-other machine number state entry.object (λ other f. subst (λ (n : FlatNode). has n.outputs entry.object ≡ false) (ap (found_or node) (sym e ∙ f)) h)))
]

net-wakes : (machine : Machine) (number : ℕ) (state : State) (w l p : ℕ) (entry : Entry) → (node : FlatNode) → slice_get machine.design.nodes number ≡ Some node →
    In entry (waiting_entries (activity_at state p)) → some_entry (changed_entry state (after machine state (NetUpdate number))) (waiting_entries (activity_at state p)) ≡ true →
    changed_entry state (after machine state (NetUpdate number)) entry ≡ false →
    (x : ObjectAccess) × In x (accesses_of machine w l state (NetUpdate number)) × (x.object ≡ entry.object) × (x.act ≡ Ending entry)
net-wakes machine number state w l p entry node e i s f =
    let next : State = after machine state (NetUpdate number) in
    let test : Entry → Bool = some_change_matches state (after machine state (NetUpdate number)) node.outputs in
    let r = In-joined (net_ended_by state (after machine state (NetUpdate number)) node.outputs) (λ k. ending_access k (waiting_line (activity_at state p)) entry) 0 state.processes
    (process_at state p)
    (in_processes state.processes p entry i)
    (λ k. ends-entry test (waiting_entries (activity_at state p)) entry k (waiting_line (activity_at state p))
    (some-same test (changed_entry state (after machine state (NetUpdate number))) (waiting_entries (activity_at state p)) (net-test machine number state node e) ∙ s) i
    (net-test machine number state node e entry ∙ f)) in (
      ending_access r.0 (waiting_line (activity_at state p)) entry,
      subst (λ found. In (ending_access r.0 (waiting_line (activity_at state p)) entry) (net_accesses machine.design w l found state (after machine state (NetUpdate number)))) (sym e)
          (In-right (ending_access r.0 (waiting_line (activity_at state p)) entry) (joined
          (map (net_write w l state (after machine state (NetUpdate number))) (filter (has node.outputs) (net_pieces machine.design))))
          (joined (map_numbered (net_ended_by state (after machine state (NetUpdate number)) node.outputs) 0 state.processes)) r.1),
      refl,
      refl,
    )

-- an entry of a wait that an event ends: its object has changed, or an access ends it
pub wake_access : (machine : Machine) (state : State) (event : Event) (w l p : ℕ) (entry : Entry) → In entry (waiting_entries (activity_at state p)) →
    some_entry (changed_entry state (after machine state event)) (waiting_entries (activity_at state p)) ≡ true →
    WakeAccess state (after machine state event) entry (accesses_of machine w l state event)
wake_access machine state event w l p entry i s = elim (decided (changed_entry state (after machine state event) entry)) [
  | inl t ↦ inl (entry_changed state (after machine state event) entry t)
  | inr f ↦ inr (ends event s f)
]
  where
    ends : (event : Event) → some_entry (changed_entry state (after machine state event)) (waiting_entries (activity_at state p)) ≡ true →
        changed_entry state (after machine state event) entry ≡ false →
        (x : ObjectAccess) × In x (accesses_of machine w l state event) × (x.object ≡ entry.object) × (x.act ≡ Ending entry)
    ends (Step q) s f = process-wakes machine state (Step q) q (own_of machine state (Step q)) (write_of (step_of machine state q).action) w l p entry refl i s f
    ends (LaneStep q) s f = process-wakes machine state (LaneStep q) q after_lane_step (first_update (process_at state q).lane) w l p entry refl i s f
    ends (Evaluation n) s f =
        true_is_false (sym s ∙ none-passes (changed_entry state (after machine state (Evaluation n))) (waiting_entries (activity_at state p))
        (λ x. unchanged_entry state (after machine state (Evaluation n)) x (ap (λ vs. value_at vs x.object) (evaluation-value machine n state))))
    ends (NetUpdate n) s f =
        let m = some_entry-true (changed_entry state (after machine state (NetUpdate n))) (waiting_entries (activity_at state p)) s in
        let d = changed_output machine n state m.0.object (entry_changed state (after machine state (NetUpdate n)) m.0 m.2) in
        net-wakes machine n state w l p entry d.0 d.1 i s f
