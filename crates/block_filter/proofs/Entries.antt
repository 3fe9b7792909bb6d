-- The entries of a phase's log by places: an event's cause, in its stretch or before it, and its accesses, whatever write it follows.
use Rattle.std.proofs.Common.{◌≡◌, ℕ, zero, suc, ◌<◌, ◌≤◌, List, [], ◌∷◌, ◌++◌, map, length, Bool, true, false, not, ◌||◌, refl, sym, ap, subst, ◌∙◌, inl, inr, arith, filter}
use Rattle.std.specs.Prelude.{Option, Some, None, slice_get, is_some}
use Rattle.std.proofs.lemmas.Option.{slice_get_within}
use Rattle.vf_base.specs.Lists.{AllHold, has, joined, map_numbered, last_place}
use Rattle.four_value.specs.Values.{same_value}
use Rattle.v_design.specs.Trees.{Entry}
use Rattle.v_design.specs.Designs.{FlatDesign, FlatNode, Machine, StuckAt, good_machine, faulty_machine}
use Rattle.v_design.specs.Assignments.{value_at}
use Rattle.v_design.specs.Paths.{net_pieces}
use Rattle.v_design.specs.States.{State, Event, Step, LaneStep, Evaluation, NetUpdate, after, found_or, is_process_event}
use Rattle.v_design.specs.Runs.{happened}
use Rattle.v_design.specs.Accesses.{Writing, Holding, ObjectAccess, waiting_entries, waiting_line, net_write, net_ended_by, net_accesses, accesses_of, held_by, held_accesses}
use Rattle.v_design.specs.Logs.{LoggedEvent, is_write}
use Rattle.v_design.specs.PhaseLogs.{NotedEvent, may_cause, is_step_of, changes_one, changes_input, note_of, noted_events, logged, log_of}
use Rattle.block_filter.specs.Likes.{Marks, act_matches, IsLike, GoesAlike, AllGoAlike}
use Rattle.block_filter.specs.Blocks.{all_accesses, HasCause, HasCauseIfNode, AllLaterHold, may_cause_later}
use Rattle.order_laws.proofs.Conflicts.{In, In-left, In-right}
use Rattle.order_laws.proofs.FreeLogs.{In-append}
use Rattle.order_laws.proofs.FreeWithoutNodes.{In-map-back}
use Rattle.order_laws.proofs.ProperLogs.{In-joined-back}
use Rattle.order_laws.proofs.Notes.{new_notes, noted_events-new, new_notes-append, length-new_notes, last_place-below, Backward}
use Rattle.order_laws.proofs.PairsOfRuns.{backward-log}
use Rattle.order_laws.proofs.SwappedRuns.{last_true, last_place-map, map-append, length-map}
use Rattle.order_laws.proofs.RunStates.{first_of, state_at, some_below, note_at, note_stands, bare, may_cause-bare}
use Rattle.block_filter.proofs.Places.{get-map, one-there, in-joined_back, in-joined_at, all-at, or_earlier, last_place-append, is_some-last}
use Rattle.block_filter.proofs.Reaches.{GoBack}

-- Entries

-- the log's entries of some events behind earlier ones
abbrev pub entries : Machine → List NotedEvent → State → List Event → List LoggedEvent
entries machine earlier state events = map (logged machine) (new_notes machine earlier state events)

pub length-entries : (machine : Machine) (earlier : List NotedEvent) (state : State) (events : List Event) → length (entries machine earlier state events) ≡ length events
length-entries machine earlier state events = length-map (logged machine) (new_notes machine earlier state events) ∙ length-new_notes machine earlier state events

pub log_entries : (machine : Machine) (state : State) (events : List Event) → (log_of machine state events).events ≡ entries machine [] state events
log_entries machine state events = ap (map (logged machine)) (noted_events-new machine state events)

pub entries-append : (machine : Machine) (earlier : List NotedEvent) (state : State) (us ws : List Event) →
    entries machine earlier state (us ++ ws) ≡ entries machine earlier state us ++ entries machine (earlier ++ new_notes machine earlier state us) (happened machine state us) ws
entries-append machine earlier state us ws =
    ap (map (logged machine)) (new_notes-append machine earlier state us ws)
    ∙ map-append (logged machine) (new_notes machine earlier state us) (new_notes machine (earlier ++ new_notes machine earlier state us) (happened machine state us) ws)

-- causes go back
pub go_back : (machine : Machine) (state : State) (events : List Event) → GoBack (log_of machine state events)
unfolding Backward
go_back machine state events = backward-log machine state events

-- Causes

-- which of some events may be the cause of a later one
abbrev pub may_causes : Machine → Event → State → List Event → List Bool
may_causes machine later state [] = []
may_causes machine later state (event ∷ events) = may_cause machine later (bare state event) ∷ may_causes machine later (after machine state event) events

length-may_causes : (machine : Machine) (later : Event) (state : State) (events : List Event) → length (may_causes machine later state events) ≡ length events
length-may_causes machine later state [] = refl
length-may_causes machine later state (event ∷ events) = ap suc (length-may_causes machine later (after machine state event) events)

tests : (machine : Machine) (later : Event) (earlier : List NotedEvent) (state : State) (events : List Event) →
    map (may_cause machine later) (new_notes machine earlier state events) ≡ may_causes machine later state events
tests machine later earlier state [] = refl
tests machine later earlier state (event ∷ events) =
    λ i. may_cause-bare machine later earlier state event i ∷ tests machine later (earlier ++ note_of machine earlier state event ∷ []) (after machine state event) events i

-- the last of some events that may be the cause of a later one
abbrev pub last_cause : Machine → Event → State → List Event → Option ℕ
last_cause machine later state events = last_true (may_causes machine later state events)

pub last_noted : (machine : Machine) (later : Event) (earlier : List NotedEvent) (state : State) (events : List Event) →
    last_place (may_cause machine later) (new_notes machine earlier state events) ≡ last_cause machine later state events
last_noted machine later earlier state events =
    last_place-map (may_cause machine later) (new_notes machine earlier state events) ∙ ap last_true (tests machine later earlier state events)

pub last_among : (machine : Machine) (later : Event) (earlier : List NotedEvent) (state : State) (events : List Event) →
    last_place (may_cause machine later) (earlier ++ new_notes machine earlier state events)
    ≡ or_earlier (length earlier) (last_cause machine later state events) (last_place (may_cause machine later) earlier)
last_among machine later earlier state events =
    last_place-append (may_cause machine later) earlier (new_notes machine earlier state events)
    ∙ ap (λ o. or_earlier (length earlier) o (last_place (may_cause machine later) earlier)) (last_noted machine later earlier state events)

pub last-below : (machine : Machine) (later : Event) (state : State) (events : List Event) (j : ℕ) → last_cause machine later state events ≡ Some j → j < length events
last-below machine later state events j e =
    let b : j < length (may_causes machine later state events) = last_place-below (λ b. b) (may_causes machine later state events) j e in
    let l : length (may_causes machine later state events) ≡ length events = length-may_causes machine later state events in
    omega (arith, b, l)

first_of-length : {A : Type 0} (n : ℕ) (xs : List A) → length (first_of n xs) ≤ n
first_of-length zero xs = omega arith
first_of-length (suc n) [] = omega arith
first_of-length (suc n) (x ∷ xs) = let r : length (first_of n xs) ≤ n = first_of-length n xs in omega (arith, r)

pub last-before : (machine : Machine) (later : Event) (state : State) (events : List Event) (k j : ℕ) → last_cause machine later state (first_of k events) ≡ Some j → j < k
last-before machine later state events k j e =
    let b : j < length (first_of k events) = last-below machine later state (first_of k events) j e in
    let l : length (first_of k events) ≤ k = first_of-length k events in
    omega (arith, b, l)

-- whether there is one
pub is_some-later : (machine : Machine) (state : State) (events : List Event) (later : Event) → is_some (last_cause machine later state events) ≡ may_cause_later machine state events later
is_some-later machine state events later =
    ap is_some (sym (last_noted machine later [] state events)) ∙ ap (λ notes. is_some (last_place (may_cause machine later) notes)) (sym (noted_events-new machine state events))
    ∙ is_some-last (may_cause machine later) (noted_events machine state events)

-- An entry at a place

pub record IsEntry (machine : Machine) (earlier : List NotedEvent) (state : State) (events : List Event) (k : ℕ) (event : Event) (x : LoggedEvent) : Type 0 where
  pub cause : x.cause ≡ or_earlier (length earlier) (last_cause machine event state (first_of k events)) (last_place (may_cause machine event) earlier)
  pub writer : ℕ
  pub line : ℕ
  pub accesses : x.accesses ≡ accesses_of machine writer line (state_at machine state events k) event

pub entry_at : (machine : Machine) (earlier : List NotedEvent) (state : State) (events : List Event) (k : ℕ) (event : Event) → slice_get events k ≡ Some event →
    (x : LoggedEvent) × (slice_get (entries machine earlier state events) k ≡ Some x) × IsEntry machine earlier state events k event x
entry_at machine earlier state events k event e =
    let note : NotedEvent = note_of machine (earlier ++ new_notes machine earlier state (first_of k events)) (state_at machine state events k) event in (
      logged machine note,
      get-map (logged machine) (new_notes machine earlier state events) k note (note_at machine earlier state events k event e),
      record { cause = last_among machine event earlier state (first_of k events); writer = note.process; line = note.line; accesses = refl },
    )

pub entry_back : (machine : Machine) (earlier : List NotedEvent) (state : State) (events : List Event) (k : ℕ) (x : LoggedEvent) → slice_get (entries machine earlier state events) k ≡ Some x →
    (event : Event) × (slice_get events k ≡ Some event) × IsEntry machine earlier state events k event x
entry_back machine earlier state events k x e =
    let b : k < length (entries machine earlier state events) = slice_get_within (entries machine earlier state events) k x e in
    let l : length (entries machine earlier state events) ≡ length events = length-entries machine earlier state events in
    let s = some_below events k (omega (arith, b, l)) in
    let r = entry_at machine earlier state events k s.0 s.1 in
    (s.0, s.1, subst (λ y. IsEntry machine earlier state events k s.0 y) (one-there (entries machine earlier state events) k r.0 x r.1 e) r.2)

-- where an event is caused in its stretch
pub node_caused : (machine : Machine) (state : State) (events : List Event) (k : ℕ) (event : Event) → AllHold HasCauseIfNode (noted_events machine state events) → slice_get events k ≡ Some event →
    (is_process_event event || is_some (last_cause machine event state (first_of k events))) ≡ true
node_caused machine state events k event all e =
    ap (λ o. is_process_event event || is_some o) (sym (last_noted machine event [] state (first_of k events)))
    ∙ all-at HasCauseIfNode (new_notes machine [] state events) k (note_of machine (new_notes machine [] state (first_of k events)) (state_at machine state events k) event)
    (subst (AllHold HasCauseIfNode) (noted_events-new machine state events) all) (note_stands machine state events k event e)

pub inner_caused : (machine : Machine) (state : State) (first : Event) (events : List Event) (k : ℕ) (event : Event) → AllLaterHold HasCause (noted_events machine state (first ∷ events)) →
    slice_get events k ≡ Some event → is_some (last_cause machine event state (first_of (suc k) (first ∷ events))) ≡ true
inner_caused machine state first events k event all e =
    ap is_some (sym (last_noted machine event [] state (first_of (suc k) (first ∷ events))))
    ∙ all-at HasCause (new_notes machine (note_of machine [] state first ∷ []) (after machine state first) events) k
    (note_of machine (new_notes machine [] state (first_of (suc k) (first ∷ events))) (state_at machine state (first ∷ events) (suc k)) event)
    (subst (AllLaterHold HasCause) (noted_events-new machine state (first ∷ events)) all) (note_stands machine state (first ∷ events) (suc k) event e)

-- Accesses

write_writer : (w l w' l' : ℕ) (state next : State) (object : ℕ) (access : ObjectAccess) → In access (net_write w l state next object) →
    (other : ObjectAccess) × In other (net_write w' l' state next object) × (other.act ≡ access.act) × (other.object ≡ access.object)
write_writer w l w' l' state next object access i = go (same_value (value_at state.values object) (value_at next.values object)) i
  where
    go : (b : Bool) →
        In access (elim b [ true ↦ [] | false ↦ record { act = Writing (value_at state.values object) (value_at next.values object); object = object; process = w; line = l } ∷ [] ]) →
        (other : ObjectAccess)
        × In other (elim b [ true ↦ [] | false ↦ record { act = Writing (value_at state.values object) (value_at next.values object); object = object; process = w'; line = l' } ∷ [] ])
        × (other.act ≡ access.act) × (other.object ≡ access.object)
    go true i = absurd i
    go false (inl e) = (
      record { act = Writing (value_at state.values object) (value_at next.values object); object = object; process = w'; line = l' },
      inl refl,
      ap (λ (a : ObjectAccess). a.act) (sym e),
      ap (λ (a : ObjectAccess). a.object) (sym e),
    )
    go false (inr i) = absurd i

net_writer : (design : FlatDesign) (w l w' l' : ℕ) (found : Option FlatNode) (state next : State) (access : ObjectAccess) → In access (net_accesses design w l found state next) →
    (other : ObjectAccess) × In other (net_accesses design w' l' found state next) × (other.act ≡ access.act) × (other.object ≡ access.object)
net_writer design w l w' l' None state next access i = absurd i
net_writer design w l w' l' (Some node) state next access i =
    elim
    (In-append access (joined (map (net_write w l state next) (filter (has node.outputs) (net_pieces design)))) (joined (map_numbered (net_ended_by state next node.outputs) 0 state.processes)) i) [
      | inl j ↦
          (let r = in-joined_back (net_write w l state next) (filter (has node.outputs) (net_pieces design)) access j in
          let o = write_writer w l w' l' state next r.1 access r.3 in (
            o.0,
            In-left o.0 (joined (map (net_write w' l' state next) (filter (has node.outputs) (net_pieces design)))) (joined (map_numbered (net_ended_by state next node.outputs) 0 state.processes))
                (in-joined_at (net_write w' l' state next) (filter (has node.outputs) (net_pieces design)) r.0 r.1 o.0 r.2 o.1),
            o.2,
            o.3,
          ))
      | inr j ↦ (
        access,
        In-right access (joined (map (net_write w' l' state next) (filter (has node.outputs) (net_pieces design))))
            (joined (map_numbered (net_ended_by state next node.outputs) 0 state.processes)) j,
        refl,
        refl,
      )
    ]

-- whatever write an event follows, it does the same to the same objects
pub any_writer : (machine : Machine) (w l w' l' : ℕ) (state : State) (event : Event) (access : ObjectAccess) → In access (accesses_of machine w l state event) →
    (other : ObjectAccess) × In other (accesses_of machine w' l' state event) × (other.act ≡ access.act) × (other.object ≡ access.object)
any_writer machine w l w' l' state (Step process) access i = (access, i, refl, refl)
any_writer machine w l w' l' state (LaneStep process) access i = (access, i, refl, refl)
any_writer machine w l w' l' state (Evaluation node) access i = absurd i
any_writer machine w l w' l' state (NetUpdate node) access i =
    net_writer machine.design w l w' l' (slice_get machine.design.nodes node) state (after machine state (NetUpdate node)) access i

-- an access of some events behind earlier ones stands among those of the events by themselves
pub local-access : (machine : Machine) (earlier : List NotedEvent) (state : State) (events : List Event) (k : ℕ) (x : LoggedEvent) (access : ObjectAccess) →
    slice_get (entries machine earlier state events) k ≡ Some x → In access x.accesses →
    (other : ObjectAccess) × In other (all_accesses (log_of machine state events)) × (other.act ≡ access.act) × (other.object ≡ access.object)
local-access machine earlier state events k x access ex i =
    let p = entry_back machine earlier state events k x ex in
    let z = entry_at machine [] state events k p.0 p.1 in
    let o = any_writer machine p.2.writer p.2.line z.2.writer z.2.line (state_at machine state events k) p.0 access (subst (λ xs. In access xs) p.2.accesses i) in (
      o.0,
      subst (λ es. In o.0 (joined (map (λ (event : LoggedEvent). event.accesses) es))) (sym (log_entries machine state events))
          (in-joined_at (λ (event : LoggedEvent). event.accesses) (entries machine [] state events) k z.0 o.0 z.1 (subst (λ xs. In o.0 xs) (sym z.2.accesses) o.1)),
      o.2,
      o.3,
    )

-- and the other way round
pub record StandsAt (events : List LoggedEvent) (access : ObjectAccess) : Type 0 where
  pub place : ℕ
  pub event : LoggedEvent
  pub stands : slice_get events place ≡ Some event
  pub other : ObjectAccess
  pub among : In other event.accesses
  pub same_act : other.act ≡ access.act
  pub same_object : other.object ≡ access.object

pub phase-access : (machine : Machine) (earlier : List NotedEvent) (state : State) (events : List Event) (access : ObjectAccess) → In access (all_accesses (log_of machine state events)) →
    StandsAt (entries machine earlier state events) access
phase-access machine earlier state events access i =
    let r = in-joined_back (λ (event : LoggedEvent). event.accesses) (entries machine [] state events) access
    (subst (λ es. In access (joined (map (λ (event : LoggedEvent). event.accesses) es))) (log_entries machine state events) i) in
    let p = entry_back machine [] state events r.0 r.1 r.2 in
    let z = entry_at machine earlier state events r.0 p.0 p.1 in
    let o = any_writer machine p.2.writer p.2.line z.2.writer z.2.line (state_at machine state events r.0) p.0 access (subst (λ xs. In access xs) p.2.accesses r.3) in
    record {
      place = r.0;
      event = z.0;
      stands = z.1;
      other = o.0;
      among = subst (λ xs. In o.0 xs) (sym z.2.accesses) o.1;
      same_act = o.2;
      same_object = o.3;
    }

-- likeness is a matter of acts and objects
pub like-same : (awaited : Entry → Bool) (one other one' other' : ObjectAccess) → IsLike awaited one other → one'.act ≡ one.act → one'.object ≡ one.object → other'.act ≡ other.act →
    other'.object ≡ other.object → IsLike awaited one' other'
like-same awaited one other one' other' l p q r s = record {
  object = q ∙ l.object ∙ sym s;
  act = elim l.act [
    | inl e ↦ inl (p ∙ e ∙ sym r)
    | inr w ↦ inr
        (record {
          good_writes = ap is_write p ∙ w.good_writes;
          faulty_writes = ap is_write r ∙ w.faulty_writes;
          matches = λ entry a m. (λ i. act_matches (s i) (p i) entry) ∙ w.matches entry a (sym (λ i. act_matches (s i) (r i) entry) ∙ m);
        })
  ];
}

-- what is held is an entry
pub held-holds : (machine : Machine) (state : State) (access : ObjectAccess) → In access (held_accesses machine state) → (entry : Entry) × (access.act ≡ Holding entry)
held-holds machine state access i =
    let r = In-joined-back (held_by machine.design) access 0 state.processes i in
    let q = In-map-back (λ (entry : Entry). let a : ObjectAccess = record { act = Holding entry; object = entry.object; process = r.0; line = waiting_line r.1.activity } in a) access
    (filter (λ (entry : Entry). has (net_pieces machine.design) entry.object) (waiting_entries r.1.activity)) r.2 in
    (q.0, ap (λ (a : ObjectAccess). a.act) q.2)

-- Events that go alike

inputs-alike : (design : FlatDesign) (fault : StuckAt) (marks : Marks) (good faulty : State) (event : Event) (objects : List ℕ) → GoesAlike design fault marks good faulty event →
    changes_one good (after (good_machine design) good event) objects ≡ changes_one faulty (after (faulty_machine design fault) faulty event) objects
inputs-alike design fault marks good faulty event [] d = refl
inputs-alike design fault marks good faulty event (object ∷ objects) d = λ i. not (d.changes object i) || inputs-alike design fault marks good faulty event objects d i

node-alike : (design : FlatDesign) (fault : StuckAt) (marks : Marks) (good faulty : State) (event : Event) (found : Option FlatNode) → GoesAlike design fault marks good faulty event →
    changes_input (good_machine design) found (bare good event) ≡ changes_input (faulty_machine design fault) found (bare faulty event)
node-alike design fault marks good faulty event None d = refl
node-alike design fault marks good faulty event (Some node) d = inputs-alike design fault marks good faulty event node.inputs d

test-alike : (design : FlatDesign) (fault : StuckAt) (marks : Marks) (later : Event) (good faulty : State) (event : Event) → GoesAlike design fault marks good faulty event →
    may_cause (good_machine design) later (bare good event) ≡ may_cause (faulty_machine design fault) later (bare faulty event)
test-alike design fault marks (Step process) good faulty event d = λ i. is_step_of process event || d.waits process i
test-alike design fault marks (LaneStep process) good faulty event d = refl
test-alike design fault marks (Evaluation node) good faulty event d = node-alike design fault marks good faulty event (slice_get design.nodes node) d
test-alike design fault marks (NetUpdate node) good faulty event d = node-alike design fault marks good faulty event (slice_get design.nodes node) d

-- they may be the causes of the same later events
pub tests-alike : (design : FlatDesign) (fault : StuckAt) (marks : Marks) (later : Event) (good faulty : State) (events : List Event) → AllGoAlike design fault marks good faulty events →
    may_causes (good_machine design) later good events ≡ may_causes (faulty_machine design fault) later faulty events
tests-alike design fault marks later good faulty [] d = refl
tests-alike design fault marks later good faulty (event ∷ events) d =
    λ i. test-alike design fault marks later good faulty event d.0 i
    ∷ tests-alike design fault marks later (after (good_machine design) good event) (after (faulty_machine design fault) faulty event) events d.1 i

pub alike-first : (design : FlatDesign) (fault : StuckAt) (marks : Marks) (good faulty : State) (k : ℕ) (events : List Event) → AllGoAlike design fault marks good faulty events →
    AllGoAlike design fault marks good faulty (first_of k events)
alike-first design fault marks good faulty zero events d = tt
alike-first design fault marks good faulty (suc k) [] d = tt
alike-first design fault marks good faulty (suc k) (event ∷ events) d =
    (d.0, alike-first design fault marks (after (good_machine design) good event) (after (faulty_machine design fault) faulty event) k events d.1)

pub alike-at : (design : FlatDesign) (fault : StuckAt) (marks : Marks) (good faulty : State) (events : List Event) (k : ℕ) (event : Event) → AllGoAlike design fault marks good faulty events →
    slice_get events k ≡ Some event →
    GoesAlike design fault marks (state_at (good_machine design) good events k) (state_at (faulty_machine design fault) faulty events k) event
alike-at design fault marks good faulty [] k event d e = cc
alike-at design fault marks good faulty (first ∷ events) zero event d e = subst (λ ev. GoesAlike design fault marks good faulty ev) (ap (found_or first) e) d.0
alike-at design fault marks good faulty (first ∷ events) (suc k) event d e =
    alike-at design fault marks (after (good_machine design) good first) (after (faulty_machine design fault) faulty first) events k event d.1 e
