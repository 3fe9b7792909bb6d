-- Accesses are counted event by event, whatever writes they follow.
use Rattle.std.proofs.Common.{◌≡◌, ℕ, ◌+◌, List, [], ◌∷◌, ◌++◌, map, filter, Bool, true, false, refl, sym, ap, ◌∙◌, arith, cond}
use Rattle.std.specs.Prelude.{Option, Some, None, slice_get, count_by}
use Rattle.std.proofs.lemmas.List.Sums.{sum_by-append, sum_by-cons}
use Rattle.four_value.specs.Values.{same_value}
use Rattle.vf_base.specs.Lists.{has, joined, map_numbered, AllHold}
use Rattle.v_design.specs.Paths.{net_pieces}
use Rattle.v_design.specs.Designs.{FlatDesign, FlatNode, Machine, StuckAt, good_machine, faulty_machine}
use Rattle.v_design.specs.Assignments.{value_at}
use Rattle.v_design.specs.States.{State, Event, Step, LaneStep, Evaluation, NetUpdate, after}
use Rattle.v_design.specs.Runs.{happened}
use Rattle.v_design.specs.Accesses.{AccessAct, Writing, ObjectAccess, net_write, net_ended_by, net_accesses, accesses_of}
use Rattle.v_design.specs.Logs.{LoggedEvent}
use Rattle.v_design.specs.PhaseLogs.{NotedEvent, note_of, log_of}
use Rattle.copy_laws.specs.QuietPhases.{AllDoAlike}
use Rattle.block_filter.specs.Blocks.{Alike, Unlike, all_accesses, faulty_phase}
use Rattle.block_filter.proofs.Entries.{entries, log_entries}
use Rattle.sole_touches.specs.Counts.{count_passing, NoneAreCounted, CountsJoin, AlikeCounts, PairsAreCounted}

-- whether an access passes a test
abbrev pub passes : (ℕ → AccessAct → Bool) → ObjectAccess → Bool
passes test access = test access.object access.act

-- the accesses of some entries of a log
abbrev pub entry_accesses : List LoggedEvent → List ObjectAccess
entry_accesses events = joined (map (λ (event : LoggedEvent). event.accesses) events)

pub count-append : (f : ObjectAccess → Bool) (xs ys : List ObjectAccess) → count_by f (xs ++ ys) ≡ count_by f xs + count_by f ys
count-append f xs ys = sum_by-append (λ x. cond (f x) 1 0) xs ys

pub count-cons : (f : ObjectAccess → Bool) (x : ObjectAccess) (xs : List ObjectAccess) → count_by f (x ∷ xs) ≡ cond (f x) 1 0 + count_by f xs
count-cons f x xs = sum_by-cons (λ y. cond (f y) 1 0) x xs

-- One event

one-write : (test : ℕ → AccessAct → Bool) (w l w' l' : ℕ) (state next : State) (object : ℕ) →
    count_by (passes test) (net_write w l state next object) ≡ count_by (passes test) (net_write w' l' state next object)
one-write test w l w' l' state next object = go (same_value (value_at state.values object) (value_at next.values object))
  where
    go : (b : Bool) →
        count_by (passes test)
        (elim b [
          | true ↦ []
          | false ↦ record { act = Writing (value_at state.values object) (value_at next.values object); object = object; process = w; line = l } ∷ []
        ])
        ≡ count_by (passes test)
        (elim b [
          | true ↦ []
          | false ↦ record { act = Writing (value_at state.values object) (value_at next.values object); object = object; process = w'; line = l' } ∷ []
        ])
    go true = refl
    go false = refl

some-writes : (test : ℕ → AccessAct → Bool) (w l w' l' : ℕ) (state next : State) (objects : List ℕ) →
    count_by (passes test) (joined (map (net_write w l state next) objects)) ≡ count_by (passes test) (joined (map (net_write w' l' state next) objects))
some-writes test w l w' l' state next [] = refl
some-writes test w l w' l' state next (object ∷ objects) =
    count-append (passes test) (net_write w l state next object) (joined (map (net_write w l state next) objects))
    ∙ (λ i. one-write test w l w' l' state next object i + some-writes test w l w' l' state next objects i)
    ∙ sym (count-append (passes test) (net_write w' l' state next object) (joined (map (net_write w' l' state next) objects)))

net-count : (test : ℕ → AccessAct → Bool) (design : FlatDesign) (w l w' l' : ℕ) (found : Option FlatNode) (state next : State) →
    count_by (passes test) (net_accesses design w l found state next) ≡ count_by (passes test) (net_accesses design w' l' found state next)
net-count test design w l w' l' None state next = refl
net-count test design w l w' l' (Some node) state next =
    let pieces : List ℕ = filter (has node.outputs) (net_pieces design) in
    let ended : List ObjectAccess = joined (map_numbered (net_ended_by state next node.outputs) 0 state.processes) in
    count-append (passes test) (joined (map (net_write w l state next) pieces)) ended
    ∙ ap (λ n. n + count_by (passes test) ended) (some-writes test w l w' l' state next pieces)
    ∙ sym (count-append (passes test) (joined (map (net_write w' l' state next) pieces)) ended)

-- whatever write it follows
event-count : (test : ℕ → AccessAct → Bool) (machine : Machine) (w l w' l' : ℕ) (state : State) (event : Event) →
    count_by (passes test) (accesses_of machine w l state event) ≡ count_by (passes test) (accesses_of machine w' l' state event)
event-count test machine w l w' l' state (Step process) = refl
event-count test machine w l w' l' state (LaneStep process) = refl
event-count test machine w l w' l' state (Evaluation node) = refl
event-count test machine w l w' l' state (NetUpdate node) =
    net-count test machine.design w l w' l' (slice_get machine.design.nodes node) state (after machine state (NetUpdate node))

-- Several events

-- event by event
abbrev sums : (ℕ → AccessAct → Bool) → Machine → State → List Event → ℕ
sums test machine state [] = 0
sums test machine state (event ∷ events) = count_by (passes test) (accesses_of machine 0 0 state event) + sums test machine (after machine state event) events

entries-count : (test : ℕ → AccessAct → Bool) (machine : Machine) (earlier : List NotedEvent) (state : State) (events : List Event) →
    count_by (passes test) (entry_accesses (entries machine earlier state events)) ≡ sums test machine state events
entries-count test machine earlier state [] = refl
entries-count test machine earlier state (event ∷ events) =
    let note : NotedEvent = note_of machine earlier state event in
    count-append (passes test) (accesses_of machine note.process note.line state event) (entry_accesses (entries machine (earlier ++ note ∷ []) (after machine state event) events))
    ∙ (λ i. event-count test machine note.process note.line 0 0 state event i + entries-count test machine (earlier ++ note ∷ []) (after machine state event) events i)

count-sums : (test : ℕ → AccessAct → Bool) (machine : Machine) (state : State) (events : List Event) → count_passing test machine state events ≡ sums test machine state events
count-sums test machine state events =
    ap (λ es. count_by (passes test) (entry_accesses es)) (log_entries machine state events) ∙ entries-count test machine [] state events

sums-append : (test : ℕ → AccessAct → Bool) (machine : Machine) (state : State) (before behind : List Event) →
    sums test machine state (before ++ behind) ≡ sums test machine state before + sums test machine (happened machine state before) behind
sums-append test machine state [] behind = let n : ℕ = sums test machine state behind in let e : n ≡ 0 + n = omega arith in e
sums-append test machine state (event ∷ before) behind =
    let first : ℕ = count_by (passes test) (accesses_of machine 0 0 state event) in
    let one : ℕ = sums test machine (after machine state event) before in
    let other : ℕ = sums test machine (happened machine (after machine state event) before) behind in
    let same : first + (one + other) ≡ first + one + other = omega arith in
    ap (λ n. first + n) (sums-append test machine (after machine state event) before behind) ∙ same

pub counts_join : CountsJoin
counts_join test machine state before behind =
    count-sums test machine state (before ++ behind) ∙ sums-append test machine state before behind
    ∙ (λ i. sym (count-sums test machine state before) i + sym (count-sums test machine (happened machine state before) behind) i)

sums-alike : (test : ℕ → AccessAct → Bool) (design : FlatDesign) (fault : StuckAt) (good faulty : State) (events : List Event) → AllDoAlike design fault good faulty events →
    sums test (good_machine design) good events ≡ sums test (faulty_machine design fault) faulty events
sums-alike test design fault good faulty [] d = refl
sums-alike test design fault good faulty (event ∷ events) d =
    (λ i. count_by (passes test) (d.0.accesses 0 0 i)
    + sums-alike test design fault (after (good_machine design) good event) (after (faulty_machine design fault) faulty event) events d.1 i)

pub alike_counts : AlikeCounts
alike_counts test design fault good faulty events d =
    count-sums test (good_machine design) good events ∙ sums-alike test design fault good faulty events d ∙ sym (count-sums test (faulty_machine design fault) faulty events)

pub pairs_are_counted : PairsAreCounted
pairs_are_counted test design fault good faulty [] alike = refl
pairs_are_counted test design fault good faulty (Alike events ∷ blocks) alike =
    counts_join test (faulty_machine design fault) faulty events (faulty_phase blocks)
    ∙ (λ i. sym (alike_counts test design fault good faulty events alike.0) i
    + pairs_are_counted test design fault (happened (good_machine design) good events) (happened (faulty_machine design fault) faulty events) blocks alike.1 i)
pairs_are_counted test design fault good faulty (Unlike first ones others ∷ blocks) alike =
    counts_join test (faulty_machine design fault) faulty (first ∷ others) (faulty_phase blocks)
    ∙ ap (λ n. count_passing test (faulty_machine design fault) faulty (first ∷ others) + n)
    (pairs_are_counted test design fault (happened (good_machine design) good (first ∷ ones)) (happened (faulty_machine design fault) faulty (first ∷ others)) blocks alike)

-- None

none-count : (f : ObjectAccess → Bool) (xs : List ObjectAccess) → AllHold (λ (access : ObjectAccess). f access ≡ false) xs → count_by f xs ≡ 0
none-count f [] h = refl
none-count f (x ∷ xs) h = count-cons f x xs ∙ (λ i. cond (h.0 i) 1 0 + none-count f xs h.1 i)

count-none : (f : ObjectAccess → Bool) (xs : List ObjectAccess) → count_by f xs ≡ 0 → AllHold (λ (access : ObjectAccess). f access ≡ false) xs
count-none f [] e = tt
count-none f (x ∷ xs) e = go (f x) refl (sym (count-cons f x xs) ∙ e) (λ rest. count-none f xs rest)
  where
    go : (b : Bool) → f x ≡ b → cond b 1 0 + count_by f xs ≡ 0 → (count_by f xs ≡ 0 → AllHold (λ (access : ObjectAccess). f access ≡ false) xs) →
        AllHold (λ (access : ObjectAccess). f access ≡ false) (x ∷ xs)
    go true is sum rest = absurd (omega (arith, sum))
    go false is sum rest = (is, rest (let z : count_by f xs ≡ 0 = omega (arith, sum) in z))

pub none_are_counted : NoneAreCounted
none_are_counted = record {
  none = λ test machine state events h. none-count (passes test) (all_accesses (log_of machine state events)) h;
  counted = λ test machine state events e. count-none (passes test) (all_accesses (log_of machine state events)) e;
}
