-- An object that changes once at most changes, if it does, from its first value to its last: so two runs with one end change a clean net alike.
use Rattle.std.proofs.Common.{◌≡◌, ℕ, suc, ◌≤◌, List, [], ◌∷◌, ◌++◌, map, length, Bool, true, false, not, refl, sym, ap, subst, ◌∙◌, arith, le_trans}
use Rattle.std.specs.Prelude.{Option, Some, None, slice_get, IsTrue, filter}
use Rattle.vf_base.specs.Lists.{has, joined, map_numbered}
use Rattle.four_value.specs.Values.{LogicValue, same_value}
use Rattle.v_design.specs.Designs.{FlatNode, Machine}
use Rattle.v_design.specs.Assignments.{value_at}
use Rattle.v_design.specs.States.{State, Event, Step, LaneStep, Evaluation, NetUpdate, after}
use Rattle.v_design.specs.Runs.{happened, all_possible}
use Rattle.v_design.specs.Paths.{net_pieces}
use Rattle.v_design.specs.Accesses.{ObjectAccess, Writing, accesses_of, net_accesses, net_ended_by, net_write}
use Rattle.v_design.specs.Logs.{LoggedEvent, change_of, changes_of, phase_changes}
use Rattle.v_design.specs.PhaseLogs.{NotedEvent, note_of, logged, log_of}
use Rattle.v_design.specs.WellFormed.{KeepsRules}
use Rattle.v_design.specs.Laws.{BeginsPhase, change_if, changes_at, PhasesSettle, ChangesHaveBounds}
use Rattle.order_laws.proofs.Notes.{new_notes, noted_events-new}
use Rattle.order_laws.proofs.PathLaws.{reached}
use Rattle.order_laws.proofs.NetStates.{same_value-true, same_value-self}
use Rattle.order_laws.proofs.QuietNets.{event_changes, run_changes}
use Rattle.order_laws.proofs.SettledNets.{phase_ends_settled}
use Rattle.order_laws.proofs.NodeRests.{rest_on_inputs}
use Rattle.order_laws.proofs.CountedChanges.{changes_bounded}

-- One change

no-changes : (machine : Machine) (state : State) (events : List Event) (object : ℕ) → changes_at machine state events object ≡ [] →
    value_at (happened machine state events).values object ≡ value_at state.values object
no-changes machine state [] object e = refl
no-changes machine state (event ∷ events) object e = go (same_value (value_at state.values object) (value_at (after machine state event).values object)) refl e
    (no-changes machine (after machine state event) events object)
  where
    go : (b : Bool) → same_value (value_at state.values object) (value_at (after machine state event).values object) ≡ b →
        change_if (not b) (value_at state.values object) (value_at (after machine state event).values object) (changes_at machine (after machine state event) events object) ≡ [] →
        (changes_at machine (after machine state event) events object ≡ [] → value_at (happened machine (after machine state event) events).values object ≡ value_at
        (after machine state event).values object) →
        value_at (happened machine (after machine state event) events).values object ≡ value_at state.values object
    go true s f deeper = deeper f ∙ sym (same_value-true (value_at state.values object) (value_at (after machine state event).values object) s)
    go false s f deeper = cc

empty-list : {A : Type 0} (xs : List A) → suc (length xs) ≤ 1 → xs ≡ []
empty-list [] h = refl
empty-list (x ∷ xs) h = absurd (omega (arith, h))

-- the change from one value to another, if they differ
abbrev pub one_change : LogicValue → LogicValue → List (LogicValue × LogicValue)
one_change old new = change_if (not (same_value old new)) old new []

pub changes-once : (machine : Machine) (state : State) (events : List Event) (object : ℕ) → length (changes_at machine state events object) ≤ 1 →
    changes_at machine state events object ≡ one_change (value_at state.values object) (value_at (happened machine state events).values object)
changes-once machine state [] object h = sym (ap (λ b. change_if (not b) (value_at state.values object) (value_at state.values object) []) (same_value-self (value_at state.values object)))
changes-once machine state (event ∷ events) object h =
    go (same_value (value_at state.values object) (value_at (after machine state event).values object)) refl h (changes-once machine (after machine state event) events object)
  where
    go : (b : Bool) → same_value (value_at state.values object) (value_at (after machine state event).values object) ≡ b →
        length (change_if (not b) (value_at state.values object) (value_at (after machine state event).values object) (changes_at machine (after machine state event) events object)) ≤ 1 →
        (length (changes_at machine (after machine state event) events object) ≤ 1 → changes_at machine (after machine state event) events object
        ≡ one_change (value_at (after machine state event).values object) (value_at (happened machine (after machine state event) events).values object)) →
        change_if (not b) (value_at state.values object) (value_at (after machine state event).values object) (changes_at machine (after machine state event) events object)
        ≡ one_change (value_at state.values object) (value_at (happened machine (after machine state event) events).values object)
    go true s f deeper =
        deeper f ∙ ap (λ v. one_change v (value_at (happened machine (after machine state event) events).values object))
        (sym (same_value-true (value_at state.values object) (value_at (after machine state event).values object) s))
    go false s f deeper =
        let none : changes_at machine (after machine state event) events object ≡ [] = empty-list (changes_at machine (after machine state event) events object) f in
        ap (λ cs. (value_at state.values object, value_at (after machine state event).values object) ∷ cs) none
        ∙ ap (λ b. change_if (not b) (value_at state.values object) (value_at (after machine state event).values object) []) (sym s)
        ∙ ap (one_change (value_at state.values object)) (sym (no-changes machine (after machine state event) events object none))

-- The log's changes are the run's

pub same-changes : (machine : Machine) (state : State) (event : Event) (writer line : ℕ) → changes_of machine.design (accesses_of machine writer line state event) ≡ event_changes machine state event
same-changes machine state (Step process) writer line = refl
same-changes machine state (LaneStep process) writer line = refl
same-changes machine state (Evaluation number) writer line = refl
same-changes machine state (NetUpdate number) writer line = go (slice_get machine.design.nodes number)
  where
    pieces : (next : State) (rest : List ObjectAccess) (xs : List ℕ) →
        changes_of machine.design (joined (map (net_write writer line state next) xs) ++ rest) ≡ changes_of machine.design (joined (map (net_write 0 0 state next) xs) ++ rest)
    pieces next rest [] = refl
    pieces next rest (x ∷ xs) = one (same_value (value_at state.values x) (value_at next.values x)) (pieces next rest xs)
      where
        one : (b : Bool) →
            changes_of machine.design (joined (map (net_write writer line state next) xs) ++ rest) ≡ changes_of machine.design (joined (map (net_write 0 0 state next) xs) ++ rest) →
            changes_of machine.design ((elim b [ true ↦ [] | false ↦ record { act = Writing (value_at state.values x) (value_at next.values x); object = x; process = writer; line = line } ∷ [] ]
            ++ joined (map (net_write writer line state next) xs)) ++ rest)
            ≡ changes_of machine.design ((elim b [ true ↦ [] | false ↦ record { act = Writing (value_at state.values x) (value_at next.values x); object = x; process = 0; line = 0 } ∷ [] ]
            ++ joined (map (net_write 0 0 state next) xs)) ++ rest)
        one true h = h
        one false h = ap (λ cs. change_of machine.design (Writing (value_at state.values x) (value_at next.values x)) x ++ cs) h

    go : (found : Option FlatNode) → changes_of machine.design (net_accesses machine.design writer line found state (after machine state (NetUpdate number)))
        ≡ changes_of machine.design (net_accesses machine.design 0 0 found state (after machine state (NetUpdate number)))
    go None = refl
    go (Some node) =
        pieces (after machine state (NetUpdate number)) (joined (map_numbered (net_ended_by state (after machine state (NetUpdate number)) node.outputs) 0 state.processes))
        (filter (has node.outputs) (net_pieces machine.design))

new-changes : (machine : Machine) (earlier : List NotedEvent) (state : State) (events : List Event) →
    joined (map (λ (event : LoggedEvent). changes_of machine.design event.accesses) (map (logged machine) (new_notes machine earlier state events))) ≡ run_changes machine state events
new-changes machine earlier state [] = refl
new-changes machine earlier state (event ∷ events) =
    λ i. same-changes machine state event (note_of machine earlier state event).process (note_of machine earlier state event).line i
    ++ new-changes machine (earlier ++ note_of machine earlier state event ∷ []) (after machine state event) events i

pub phase_changes-run : (machine : Machine) (state : State) (events : List Event) → phase_changes machine.design (log_of machine state events) ≡ run_changes machine state events
phase_changes-run machine state events =
    ap (λ notes. joined (map (λ (event : LoggedEvent). changes_of machine.design event.accesses) (map (logged machine) notes))) (noted_events-new machine state events)
    ∙ new-changes machine [] state events

-- The laws

pub phases_settle : PhasesSettle
phases_settle machine state events rules begins phase = phase_ends_settled machine state events rules (rest_on_inputs machine rules) begins phase

pub changes_have_bounds : ChangesHaveBounds
changes_have_bounds machine state events object rules begins p =
    subst (λ cs. length (changes_at machine state events object) ≤ reached machine.design cs object) (sym (phase_changes-run machine state events))
    (changes_bounded machine state events object rules begins p)

-- two runs of a phase that end alike change a net alike that is quiet or clean in both
pub clean_alike : (machine : Machine) (state : State) (first events : List Event) (net : ℕ) → KeepsRules machine.design → BeginsPhase machine state →
    IsTrue (all_possible machine state first) → IsTrue (all_possible machine state events) →
    reached machine.design (run_changes machine state first) net ≤ 1 → reached machine.design (run_changes machine state events) net ≤ 1 →
    value_at (happened machine state events).values net ≡ value_at (happened machine state first).values net → changes_at machine state events net ≡ changes_at machine state first net
clean_alike machine state first events net rules begins p q one other e =
    changes-once machine state events net (le_trans (changes_bounded machine state events net rules begins q) other)
    ∙ ap (one_change (value_at state.values net)) e
    ∙ sym (changes-once machine state first net (le_trans (changes_bounded machine state first net rules begins p) one))
