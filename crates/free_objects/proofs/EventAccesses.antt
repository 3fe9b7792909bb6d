-- What an event accesses: reads, writes of the variable that it writes or of nets that it changes, and entries of waits.
use Rattle.std.proofs.Common.{◌≡◌, ℕ, List, [], ◌∷◌, map, Bool, true, false, not, refl, ap, ◌∙◌, ◌⊎◌, inl, inr, filter}
use Rattle.std.specs.Prelude.{Option, Some, None, slice_get}
use Rattle.vf_base.specs.Lists.{has, joined, map_numbered}
use Rattle.four_value.specs.Values.{LogicValue, same_value}
use Rattle.v_design.specs.Trees.{Entry}
use Rattle.v_design.specs.Designs.{FlatNode, Machine}
use Rattle.v_design.specs.Assignments.{ValueUpdate, value_at}
use Rattle.v_design.specs.Paths.{net_pieces}
use Rattle.v_design.specs.Processes.{Action, ReadsObject, WritesObject, AppendsUpdate, TouchesNothing}
use Rattle.v_design.specs.States.{State, Event, Step, LaneStep, Evaluation, NetUpdate, after, step_of, process_at, some_entry, entry_matches, value_written, write_of, first_update}
use Rattle.v_design.specs.Accesses.{AccessAct, Reading, Writing, Awaiting, Ending, ObjectAccess, waiting_entries, waiting_line, without_first, ended_of, ended_by, update_accesses}
use Rattle.v_design.specs.Accesses.{await_accesses, action_accesses, lane_accesses, net_write, some_change_matches, net_ended_by, net_accesses, accesses_of}
use Rattle.v_design.specs.Logs.{is_write, orders_others}
use Rattle.order_laws.proofs.Conflicts.{In}
use Rattle.order_laws.proofs.FreeLogs.{In-append}
use Rattle.order_laws.proofs.FreeWithoutNodes.{In-map-back}
use Rattle.order_laws.proofs.ProperLogs.{In-joined-back}
use Rattle.order_laws.proofs.PathLaws.{true-false}
use Rattle.order_laws.proofs.Unaffected.{write_by}
use Rattle.order_laws.proofs.CountedChanges.{changed_in}
use Rattle.block_filter.proofs.Places.{in-joined_back}

-- an access of an event orders later events, and a write is of the variable that the event writes, or of an object that it changes
pub record IsEventAccess (machine : Machine) (state : State) (event : Event) (access : ObjectAccess) : Type 0 where
  pub orders : orders_others access.act ≡ true
  pub write : is_write access.act ≡ true →
      ((u : ValueUpdate) × (write_by machine state event ≡ Some u) × (access.object ≡ u.object)) ⊎ (changed_in state (after machine state event) access.object ≡ true)

-- what writes nothing
no-write : (machine : Machine) (state : State) (event : Event) (access : ObjectAccess) (act : AccessAct) → access.act ≡ act → orders_others act ≡ true → is_write act ≡ false →
    IsEventAccess machine state event access
no-write machine state event access act e o w = record {
  orders = ap orders_others e ∙ o;
  write = λ v. true-false (is_write access.act) v (ap is_write e ∙ w);
}

ended-act : (b : Bool) (test : Entry → Bool) (p l : ℕ) (entries : List Entry) (x : ObjectAccess) → In x (ended_of b test p l entries) → (entry : Entry) × (x.act ≡ Ending entry)
ended-act false test p l entries x i = absurd i
ended-act true test p l entries x i =
    let r = In-map-back (λ (entry : Entry). let a : ObjectAccess = record { act = Ending entry; object = entry.object; process = p; line = l } in a) x (without_first test entries) i in
    (r.0, ap (λ (a : ObjectAccess). a.act) r.2)

of-ended : (machine : Machine) (state : State) (event : Event) (b : Bool) (test : Entry → Bool) (p l : ℕ) (entries : List Entry) (x : ObjectAccess) → In x (ended_of b test p l entries) →
    IsEventAccess machine state event x
of-ended machine state event b test p l entries x i = let r = ended-act b test p l entries x i in no-write machine state event x (Ending r.0) r.1 refl refl

of-update : (machine : Machine) (state : State) (event : Event) (p l : ℕ) (u : ValueUpdate) (x : ObjectAccess) → write_by machine state event ≡ Some u →
    In x (update_accesses machine p l u state) → IsEventAccess machine state event x
of-update machine state event p l u x e (inl same) = record {
  orders = ap (λ (a : ObjectAccess). orders_others a.act) same;
  write = λ w. inl (u, e, ap (λ (a : ObjectAccess). a.object) same);
}
of-update machine state event p l u x e (inr i) =
    let old : LogicValue = value_at state.values u.object in
    let new : LogicValue = value_written machine state u in
    let r = In-joined-back (ended_by u.object old new) x 0 state.processes i in
    of-ended machine state event (some_entry (entry_matches u.object old new) (waiting_entries r.1.activity)) (entry_matches u.object old new) r.0 (waiting_line r.1.activity)
    (waiting_entries r.1.activity) x r.2

of-action : (machine : Machine) (state : State) (event : Event) (p l : ℕ) (action : Action) (x : ObjectAccess) → write_by machine state event ≡ write_of action →
    In x (action_accesses machine p l action state) → IsEventAccess machine state event x
of-action machine state event p l (ReadsObject object) x e (inl same) = no-write machine state event x Reading (ap (λ (a : ObjectAccess). a.act) same) refl refl
of-action machine state event p l (ReadsObject object) x e (inr i) = absurd i
of-action machine state event p l (WritesObject u) x e i = of-update machine state event p l u x e i
of-action machine state event p l (AppendsUpdate delay u) x e i = absurd i
of-action machine state event p l TouchesNothing x e i = absurd i

of-lane : (machine : Machine) (state : State) (event : Event) (p : ℕ) (lane : List ValueUpdate) (x : ObjectAccess) → write_by machine state event ≡ first_update lane →
    In x (lane_accesses machine p lane state) → IsEventAccess machine state event x
of-lane machine state event p [] x e i = absurd i
of-lane machine state event p (first ∷ rest) x e i = of-update machine state event p first.line first x e i

of-net : (machine : Machine) (state : State) (event : Event) (w l object : ℕ) (x : ObjectAccess) → In x (net_write w l state (after machine state event) object) → IsEventAccess machine state event x
of-net machine state event w l object x i = go (same_value (value_at state.values object) (value_at (after machine state event).values object)) refl i
  where
    go : (b : Bool) → same_value (value_at state.values object) (value_at (after machine state event).values object) ≡ b →
        In x
        (elim b [
          | true ↦ []
          | false ↦ record { act = Writing (value_at state.values object) (value_at (after machine state event).values object); object = object; process = w; line = l } ∷ []
        ]) →
        IsEventAccess machine state event x
    go true e i = absurd i
    go false e (inl same) = record {
      orders = ap (λ (a : ObjectAccess). orders_others a.act) same;
      write = λ v. inr (ap (changed_in state (after machine state event)) (ap (λ (a : ObjectAccess). a.object) same) ∙ ap not e);
    }
    go false e (inr i) = absurd i

of-nets : (machine : Machine) (state : State) (event : Event) (w l : ℕ) (found : Option FlatNode) (x : ObjectAccess) →
    In x (net_accesses machine.design w l found state (after machine state event)) → IsEventAccess machine state event x
of-nets machine state event w l None x i = absurd i
of-nets machine state event w l (Some node) x i =
    elim
    (In-append x (joined (map (net_write w l state (after machine state event)) (filter (has node.outputs) (net_pieces machine.design))))
    (joined (map_numbered (net_ended_by state (after machine state event) node.outputs) 0 state.processes)) i) [
      | inl j ↦ (let r = in-joined_back (net_write w l state (after machine state event)) (filter (has node.outputs) (net_pieces machine.design)) x j in of-net machine state event w l r.1 x r.3)
      | inr j ↦ (let r = In-joined-back (net_ended_by state (after machine state event) node.outputs) x 0 state.processes j in
          of-ended machine state event (some_entry (some_change_matches state (after machine state event) node.outputs) (waiting_entries r.1.activity))
          (some_change_matches state (after machine state event) node.outputs) r.0 (waiting_line r.1.activity) (waiting_entries r.1.activity) x r.2)
    ]

pub of-event : (machine : Machine) (w l : ℕ) (state : State) (event : Event) (x : ObjectAccess) → In x (accesses_of machine w l state event) → IsEventAccess machine state event x
of-event machine w l state (Step p) x i =
    elim (In-append x (action_accesses machine p (step_of machine state p).line (step_of machine state p).action state)
    (await_accesses p (step_of machine state p).line (step_of machine state p).next) i) [
      | inl j ↦ of-action machine state (Step p) p (step_of machine state p).line (step_of machine state p).action x refl j
      | inr j ↦ (let r = In-map-back (λ (entry : Entry). let a : ObjectAccess = record { act = Awaiting entry; object = entry.object; process = p; line = (step_of machine state p).line } in a) x
          (waiting_entries (step_of machine state p).next) j in
          no-write machine state (Step p) x (Awaiting r.0) (ap (λ (a : ObjectAccess). a.act) r.2) refl refl)
    ]
of-event machine w l state (LaneStep p) x i = of-lane machine state (LaneStep p) p (process_at state p).lane x refl i
of-event machine w l state (Evaluation node) x i = absurd i
of-event machine w l state (NetUpdate node) x i = of-nets machine state (NetUpdate node) w l (slice_get machine.design.nodes node) x i
