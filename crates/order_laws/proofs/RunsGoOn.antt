-- Each run of a phase goes on, event by event, beside a run of it without conflict.
use Rattle.std.proofs.Common.{◌≡◌, ℕ, zero, suc, ◌≤◌, List, [], ◌∷◌, map, length, Bool, true, false, not, ◌&&◌, ◌||◌, refl, sym, ap, subst, ◌∙◌, ◌⊎◌, inl, inr, arith, filter}
use Rattle.std.specs.Prelude.{Option, Some, None, slice_get, cond}
use Rattle.vf_base.specs.Lists.{has, joined, map_numbered}
use Rattle.four_value.specs.Values.{LogicValue, same_value}
use Rattle.v_design.specs.Trees.{Entry}
use Rattle.v_design.specs.Designs.{FlatNode, Machine}
use Rattle.v_design.specs.Assignments.{value_at}
use Rattle.v_design.specs.States.{State, Event, Step, LaneStep, Evaluation, NetUpdate, after, found_or, is_process_event, process_at, some_entry}
use Rattle.v_design.specs.Paths.{net_pieces}
use Rattle.v_design.specs.Accesses.{Writing, Ending, ObjectAccess, waiting_entries, waiting_line, without_first, ended_of, net_write, net_accesses, net_ended_by, some_change_matches}
use Rattle.v_design.specs.Logs.{change_of, changes_of}
use Rattle.order_laws.proofs.Conflicts.{In}
use Rattle.order_laws.proofs.FreeLogs.{In-append}
use Rattle.order_laws.proofs.FreeWithoutNodes.{In-map-back, has-in}
use Rattle.order_laws.proofs.ProperLogs.{In-joined-back}
use Rattle.order_laws.proofs.Clash.{some_entry-true}
use Rattle.order_laws.proofs.MayCause.{activity_at}
use Rattle.order_laws.proofs.PathLaws.{decided, true-false, reached}
use Rattle.order_laws.proofs.QuietNets.{event_changes}
use Rattle.order_laws.proofs.CountedChanges.{changed_in}
use Rattle.order_laws.proofs.RunStates.{state_at, at_start, at_next, some_below}
use Rattle.order_laws.proofs.Woken.{changed_entry, touches_process, touches-how}
use Rattle.order_laws.proofs.Touches.{unchanged_in, entry_changed, evaluation-value, net_value-other}
use Rattle.order_laws.proofs.Cells.{begun}
use Rattle.order_laws.proofs.Runs.{IsRun, follows_at, changes_there}
use Rattle.order_laws.proofs.FreeRuns.{IsFree, wild_in, waits_tame, in_joined_back}
use Rattle.order_laws.proofs.DoneChanges.{done_nothing}
use Rattle.order_laws.proofs.Comparison.{process_there, lane_there, ProcessPart, process_part, lane_part, part_through, lane_through, Silent, step_there, steps_to, Compared}
use Rattle.order_laws.proofs.Meets.{extended, met}
use Rattle.order_laws.proofs.Passes.{passed}
use Rattle.order_laws.proofs.StepsGoOn.{found, step_meets, lane-found, lane_meets}
use Rattle.order_laws.proofs.CleanUpdates.{find_in}
use Rattle.order_laws.proofs.NetsMeet.{place, update_meets}

-- Events of nodes change no variable

empty : (xs : List ℕ) → ((c : ℕ) → In c xs → ⊥) → xs ≡ []
empty [] h = refl
empty (x ∷ xs) h = absurd (h x (inl refl))

filter-back : (test : ℕ → Bool) (xs : List ℕ) (x : ℕ) → In x (filter test xs) → In x xs
filter-back test [] x i = absurd i
filter-back test (y ∷ xs) x i = go (test y) i (filter-back test xs x)
  where
    go : (b : Bool) → In x (cond b (y ∷ filter test xs) (filter test xs)) → (In x (filter test xs) → In x xs) → (x ≡ y) ⊎ In x xs
    go true (inl e) rest = inl e
    go true (inr j) rest = inr (rest j)
    go false j rest = inr (rest j)

or-right : (a b : Bool) → (a || b) ≡ false → b ≡ false
or-right true b e = cc
or-right false b e = e

net-change : (machine : Machine) (state next : State) (x : ObjectAccess) (object c : ℕ) → has (net_pieces machine.design) object ≡ true → In x (net_write 0 0 state next object) →
    In c (change_of machine.design x.act x.object) → ⊥
net-change machine state next x object c net i j = go (same_value (value_at state.values object) (value_at next.values object)) i
  where
    old : LogicValue
    old = value_at state.values object

    none : (b : Bool) → (b ≡ false → ⊥) → In c (elim b [ true ↦ [] | false ↦ object ∷ [] ]) → ⊥
    none true h k = k
    none false h k = h refl

    go : (b : Bool) → In x (elim b [ true ↦ [] | false ↦ record { act = Writing (value_at state.values object) (value_at next.values object); object = object; process = 0; line = 0 } ∷ [] ]) → ⊥
    go true k = k
    go false (inl e) =
        none (same_value (value_at state.values object) (value_at next.values object) || has (net_pieces machine.design) object)
        (λ f. true-false (has (net_pieces machine.design) object) net (or-right (same_value (value_at state.values object) (value_at next.values object)) (has (net_pieces machine.design) object) f))
        (subst (λ (a : ObjectAccess). In c (change_of machine.design a.act a.object)) e j)
    go false (inr k) = k

ended-change : (machine : Machine) (b : Bool) (test : Entry → Bool) (p l c : ℕ) (entries : List Entry) (x : ObjectAccess) → In x (ended_of b test p l entries) →
    In c (change_of machine.design x.act x.object) → ⊥
ended-change machine false test p l c entries x i j = i
ended-change machine true test p l c entries x i j =
    let m = In-map-back (λ (entry : Entry). let a : ObjectAccess = record { act = Ending entry; object = entry.object; process = p; line = l } in a) x (without_first test entries) i in
    subst (λ (a : ObjectAccess). In c (change_of machine.design a.act a.object)) m.2 j

net-changes : (machine : Machine) (state next : State) (found : Option FlatNode) (c : ℕ) → In c (changes_of machine.design (net_accesses machine.design 0 0 found state next)) → ⊥
net-changes machine state next None c i = i
net-changes machine state next (Some node) c i =
    let x = in_joined_back (λ (access : ObjectAccess). change_of machine.design access.act access.object) (net_accesses machine.design 0 0 (Some node) state next) c i in
    elim (In-append x.0 (joined (map (net_write 0 0 state next) (filter (has node.outputs) (net_pieces machine.design))))
    (joined (map_numbered (net_ended_by state next node.outputs) 0 state.processes)) x.1) [
      | inl w ↦
          (let o = in_joined_back (net_write 0 0 state next) (filter (has node.outputs) (net_pieces machine.design)) x.0 w in
          net-change machine state next x.0 o.0 c (has-in o.0 (net_pieces machine.design) (filter-back (has node.outputs) (net_pieces machine.design) o.0 o.1)) o.2 x.2)
      | inr e ↦
          (let k = In-joined-back (net_ended_by state next node.outputs) x.0 0 state.processes e in
          ended-change machine (some_entry (some_change_matches state next node.outputs) (waiting_entries k.1.activity)) (some_change_matches state next node.outputs) k.0
          (waiting_line k.1.activity) c (waiting_entries k.1.activity) x.0 k.2 x.2)
    ]

pub node_changes : (machine : Machine) (state : State) (event : Event) (object : ℕ) → is_process_event event ≡ false → reached machine.design (event_changes machine state event) object ≡ 0
node_changes machine state (Step p) object h = cc
node_changes machine state (LaneStep p) object h = cc
node_changes machine state (Evaluation m) object h = refl
node_changes machine state (NetUpdate m) object h =
    ap (λ cs. reached machine.design cs object)
    (empty (event_changes machine state (NetUpdate m)) (net-changes machine state (after machine state (NetUpdate m)) (slice_get machine.design.nodes m)))

-- One event

module _ (machine : Machine) (state : State) (first events : List Event) (r : IsFree machine state first) (run : IsRun machine state events) where
  silent_event : (n : ℕ) (matched : ℕ → Option ℕ) (done : List ℕ) (event : Event) → Compared machine state first events n matched done → slice_get events n ≡ Some event →
      is_process_event event ≡ false →
      ((object : ℕ) → wild_in machine state first object ≡ false → changes_there machine state events object n ≡ false) → Silent machine state first events n event
  silent_event n matched done event c e h still = record {
    of_node = h;
    changes = still;
    processes = λ p. elim (decided (touches_process machine p (state_at machine state events n) event)) [
      | inr f ↦ f
      | inl t ↦ elim (touches-how machine p (state_at machine state events n) event run.rules (follows_at machine state events n run) t) [
        | inl own ↦ true-false (is_process_event event) (ap is_process_event own) h
        | inr wakes ↦
            (let m = some_entry-true (changed_entry (state_at machine state events n) (after machine (state_at machine state events n) event))
            (waiting_entries (activity_at (state_at machine state events n) p)) wakes.1 in
            let there : In m.0 (waiting_entries (activity_at (state_at machine state first (c.processes p).place) p)) =
            subst (λ act. In m.0 (waiting_entries act)) (ap (λ (x : ProcessPart). x.activity) (c.processes p).same) m.1 in
            true-false (changes_there machine state events m.0.object n)
            (ap (λ s. changed_in (state_at machine state events n) s m.0.object) (at_next machine state events n event e)
            ∙ entry_changed (state_at machine state events n) (after machine (state_at machine state events n) event) m.0 m.2)
            (still m.0.object (waits_tame machine state first (c.processes p).place p m.0 r there)))
      ]
    ];
    reaches = λ object. node_changes machine (state_at machine state events n) event object h;
  }

  passes : (n : ℕ) (matched : ℕ → Option ℕ) (done : List ℕ) (event : Event) → Compared machine state first events n matched done → slice_get events n ≡ Some event → is_process_event event ≡ false →
      ((object : ℕ) → wild_in machine state first object ≡ false → changes_there machine state events object n ≡ false) →
      (matched' : ℕ → Option ℕ) × (done' : List ℕ) × Compared machine state first events (suc n) matched' done'
  passes n matched done event c e h still =
      (extended matched n None, done, passed machine state first events n matched done event run c e (silent_event n matched done event c e h still))

  and-parts : (b d : Bool) → (not b && d) ≡ true → (b ≡ false) × (d ≡ true)
  and-parts true d e = cc
  and-parts false d e = (refl, e)

  and-tame : (b d : Bool) → (not b && d) ≡ false → b ≡ false → d ≡ false
  and-tame true d e f = cc
  and-tame false d e f = e

  updates : (n : ℕ) (matched : ℕ → Option ℕ) (done : List ℕ) (m : ℕ) → Compared machine state first events n matched done → slice_get events n ≡ Some (NetUpdate m) → (found : Option FlatNode) →
      slice_get machine.design.nodes m ≡ found →
      (matched' : ℕ → Option ℕ) × (done' : List ℕ) × Compared machine state first events (suc n) matched' done'
  updates n matched done m c e None f =
      passes n matched done (NetUpdate m) c e refl
      (λ object tame. unchanged_in (state_at machine state events n) (state_at machine state events (suc n)) object
      (ap (λ s. value_at s.values object) (at_next machine state events n (NetUpdate m) e) ∙ net_value-other machine m (state_at machine state events n) object (λ node g. none_some node (sym f ∙ g))))
    where
      none_some : {A B : Type 0} (x : A) → None ≡ Some x → B
      none_some x e = cc
  updates n matched done m c e (Some node) f = go (find_in (λ object. not (wild_in machine state first object) && changes_there machine state events object n) node.outputs)
    where
      go : ((x : ℕ) × (has node.outputs x ≡ true) × ((not (wild_in machine state first x) && changes_there machine state events x n) ≡ true))
          ⊎ ((x : ℕ) → has node.outputs x ≡ true → (not (wild_in machine state first x) && changes_there machine state events x n) ≡ false) →
          (matched' : ℕ → Option ℕ) × (done' : List ℕ) × Compared machine state first events (suc n) matched' done'
      go (inl s) =
          let b = and-parts (wild_in machine state first s.0) (changes_there machine state events s.0 n) s.2 in (
            _,
            _,
            met machine state first events n matched done (place machine state first events n matched done m node s.0 r run c e f s.1 b.0 b.1) (NetUpdate m) r run c
                (update_meets machine state first events n matched done m node s.0 r run c e f s.1 b.0 b.1),
          )
      go (inr none) =
          passes n matched done (NetUpdate m) c e refl
          (λ object tame. elim (decided (has node.outputs object)) [
            | inl h ↦ and-tame (wild_in machine state first object) (changes_there machine state events object n) (none object h) tame
            | inr h ↦
                unchanged_in (state_at machine state events n) (state_at machine state events (suc n)) object
                (ap (λ s. value_at s.values object) (at_next machine state events n (NetUpdate m) e)
                ∙ net_value-other machine m (state_at machine state events n) object (λ other g. subst (λ (nd : FlatNode). has nd.outputs object ≡ false) (ap (found_or node) (sym f ∙ g)) h))
          ])

  one_more : (n : ℕ) (matched : ℕ → Option ℕ) (done : List ℕ) (event : Event) → Compared machine state first events n matched done → slice_get events n ≡ Some event →
      (matched' : ℕ → Option ℕ) × (done' : List ℕ) × Compared machine state first events (suc n) matched' done'
  one_more n matched done (Step p) c e = (
    _,
    _,
    met machine state first events n matched done (found machine state first events n matched done p r run c e).0 (Step p) r run c
        (step_meets machine state first events n matched done p r run c e),
  )
  one_more n matched done (LaneStep p) c e = (
    _,
    _,
    met machine state first events n matched done (lane-found machine state first events n matched done p r run c e).0 (LaneStep p) r run c
        (lane_meets machine state first events n matched done p r run c e),
  )
  one_more n matched done (Evaluation m) c e =
      passes n matched done (Evaluation m) c e refl
      (λ object tame. unchanged_in (state_at machine state events n) (state_at machine state events (suc n)) object
      (ap (λ s. value_at s.values object) (at_next machine state events n (Evaluation m) e) ∙ ap (λ vs. value_at vs object) (evaluation-value machine m (state_at machine state events n))))
  one_more n matched done (NetUpdate m) c e = updates n matched done m c e (slice_get machine.design.nodes m) refl

  -- before the first event
  at_first_event : Compared machine state first events 0 (λ j. None) []
  at_first_event = record {
    bound = λ j i e. cc;
    pairs = λ j i e. cc;
    found = λ i h. cc;
    listed = λ j i e. cc;
    single = λ j l i e f. cc;
    silent = λ j event b e f. absurd (omega (arith, b));
    values = λ object tame.
        begun (changes_there machine state first object) (λ k. value_at (state_at machine state first k).values object) (value_at (state_at machine state events 0).values object)
        (ap (λ s. value_at s.values object) (at_start machine state events ∙ sym (at_start machine state first)));
    processes = λ p.
        begun (process_there machine state first p) (process_part machine state first p) (part_through machine state events (λ j. None) p 0)
        (λ k. record {
          activity = activity_at ((at_start machine state events ∙ sym (at_start machine state first)) k) p;
          later = (process_at ((at_start machine state events ∙ sym (at_start machine state first)) k) p).later;
          cause = None;
        });
    lanes = λ p.
        begun (lane_there first p) (lane_part machine state first p) (lane_through machine state events (λ j. None) p 0)
        (λ k. record { lane = (process_at ((at_start machine state events ∙ sym (at_start machine state first)) k) p).lane; cause = None });
    reach = λ object. sym (done_nothing machine state 0 first object);
    histories = λ event h. record { steps = []; maps = tt; cell = begun (step_there first event) (steps_to first event) [] refl };
  }

  goes_on : (n : ℕ) → n ≤ length events → (matched : ℕ → Option ℕ) × (done : List ℕ) × Compared machine state first events n matched done
  goes_on zero h = ((λ j. None), [], at_first_event)
  goes_on (suc n) h =
      let before = goes_on n (omega (arith, h)) in
      let e = some_below events n (omega (arith, h)) in
      one_more n before.0 before.1 e.0 before.2 e.1

  -- so the whole run stands beside the other
  pub whole_compared : (matched : ℕ → Option ℕ) × (done : List ℕ) × Compared machine state first events (length events) matched done
  whole_compared = goes_on (length events) (omega arith)
