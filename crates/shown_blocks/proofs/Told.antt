-- What is told of a block: the objects that it wrote, and the processes whose waits it ended (events and their accesses by IEEE 1364-2001, clause 5; waits by clause 9.7).
use Rattle.std.proofs.Common.{◌≡◌, ℕ, zero, suc, ◌+◌, ◌-◌, ◌<◌, ◌≤◌, Bool, true, false, cond, ◌&&◌, ◌||◌, List, [], ◌∷◌, ◌++◌, map, filter, length, refl, sym, ap, ◌∙◌, arith}
use Rattle.std.specs.Prelude.{Option, Some, None, nat_eq, nat_le, nat_lt, slice_get}
use Rattle.std.specs.List.{list_any}
use Rattle.std.proofs.lemmas.Bool.{eq-eqb, eqb-true, leb-true, ltb-true, le-leb, lt-ltb}
use Rattle.std.proofs.lemmas.List.{map-append}
use Rattle.std.proofs.lemmas.List.Folds.{list_any-append}
use Rattle.four_value.specs.Values.{same_value}
use Rattle.vf_base.specs.Lists.{has, joined, map_numbered}
use Rattle.v_design.specs.Designs.{FlatDesign, FlatNode, Machine}
use Rattle.v_design.specs.Assignments.{value_at}
use Rattle.v_design.specs.States.{State, Event, Step, LaneStep, Evaluation, NetUpdate, after}
use Rattle.v_design.specs.Accesses.{AccessAct, Reading, Writing, Awaiting, Ending, Holding, Settling, ObjectAccess, net_write, net_ended_by, net_accesses, accesses_of}
use Rattle.v_design.specs.Paths.{net_pieces}
use Rattle.copy_laws.specs.QuietPhases.{ends_its_wait}
use Rattle.trace_window.specs.Listed.{AreListed}
use Rattle.trace_window.specs.Moments.{Seen, seen_from}
use Rattle.trace_window.specs.Touched.{is_writing, writes, event_writes}
use Rattle.trace_window.specs.Writes.{Written, write_before, writes_in, writes_from}
use Rattle.block_changes.specs.Changes.{ends_wait_of}
use Rattle.moment_laws.specs.window_wakes.Wakes.{WakeTold, is_told, has_wake, woken_at, comes_within}

pub has-append : (xs ys : List ℕ) (n : ℕ) → has (xs ++ ys) n ≡ (has xs n || has ys n)
has-append [] ys n = refl
has-append (x ∷ xs) ys n = ap (λ b. nat_eq x n || b) (has-append xs ys n) ∙ assoc (nat_eq x n) (has xs n) (has ys n)
  where
    assoc : (a b c : Bool) → (a || (b || c)) ≡ ((a || b) || c)
    assoc true b c = refl
    assoc false b c = refl

-- two answers are one where each follows from the other
pub both-ways : (a b : Bool) → (a ≡ true → b ≡ true) → (b ≡ true → a ≡ true) → a ≡ b
both-ways true true f g = refl
both-ways true false f g = sym (f refl)
both-ways false true f g = g refl
both-ways false false f g = refl

-- Writes

in-has : (moment object : ℕ) (accesses : List ObjectAccess) → has (map (λ (w : Written). w.object) (writes_in moment accesses)) object ≡ writes object accesses
in-has moment object [] = refl
in-has moment object (access ∷ accesses) = go access.act (in-has moment object accesses)
  where
    go : (act : AccessAct) → has (map (λ (w : Written). w.object) (writes_in moment accesses)) object ≡ writes object accesses →
        has (map (λ (w : Written). w.object) (write_before moment access.object act (writes_in moment accesses))) object ≡ ((is_writing act && nat_eq access.object object) || writes object accesses)
    go Reading rest = rest
    go (Writing old new) rest = ap (λ b. nat_eq access.object object || b) rest
    go (Awaiting entry) rest = rest
    go (Ending entry) rest = rest
    go (Holding entry) rest = rest
    go Settling rest = rest

write-acts : (object process line : ℕ) (state next : State) (piece : ℕ) → writes object (net_write process line state next piece) ≡ writes object (net_write 0 0 state next piece)
write-acts object process line state next piece = go (same_value (value_at state.values piece) (value_at next.values piece))
  where
    go : (b : Bool) →
        writes object (elim b as (λ _. List ObjectAccess) [
          | true ↦ []
          | false ↦ record { act = Writing (value_at state.values piece) (value_at next.values piece); object = piece; process = process; line = line } ∷ []
        ])
        ≡ writes object (elim b as (λ _. List ObjectAccess) [
          | true ↦ []
          | false ↦ record { act = Writing (value_at state.values piece) (value_at next.values piece); object = piece; process = 0; line = 0 } ∷ []
        ])
    go true = refl
    go false = refl

writes-append : (object : ℕ) (xs ys : List ObjectAccess) → writes object (xs ++ ys) ≡ (writes object xs || writes object ys)
writes-append object xs ys = list_any-append (λ (access : ObjectAccess). is_writing access.act && nat_eq access.object object) xs ys

writes-act : (object process line : ℕ) (state next : State) (pieces : List ℕ) →
    writes object (joined (map (net_write process line state next) pieces)) ≡ writes object (joined (map (net_write 0 0 state next) pieces))
writes-act object process line state next [] = refl
writes-act object process line state next (piece ∷ pieces) =
    writes-append object (net_write process line state next piece) (joined (map (net_write process line state next) pieces))
    ∙ (λ i. write-acts object process line state next piece i || writes-act object process line state next pieces i)
    ∙ sym (writes-append object (net_write 0 0 state next piece) (joined (map (net_write 0 0 state next) pieces)))

net-acts : (object process line : ℕ) (design : FlatDesign) (node : Option FlatNode) (state next : State) →
    writes object (net_accesses design process line node state next) ≡ writes object (net_accesses design 0 0 node state next)
net-acts object process line design None state next = refl
net-acts object process line design (Some node) state next =
    writes-append object (joined (map (net_write process line state next) (filter (has node.outputs) (net_pieces design)))) (joined (map_numbered (net_ended_by state next node.outputs) 0 state.processes))
    ∙ ap (λ b. b || writes object (joined (map_numbered (net_ended_by state next node.outputs) 0 state.processes)))
    (writes-act object process line state next (filter (has node.outputs) (net_pieces design)))
    ∙ sym (writes-append object (joined (map (net_write 0 0 state next) (filter (has node.outputs) (net_pieces design)))) (joined (map_numbered (net_ended_by state next node.outputs) 0 state.processes)))

event-acts : (machine : Machine) (object process line : ℕ) (state : State) (event : Event) →
    writes object (accesses_of machine process line state event) ≡ writes object (accesses_of machine 0 0 state event)
event-acts machine object process line state (Step number) = refl
event-acts machine object process line state (LaneStep number) = refl
event-acts machine object process line state (Evaluation number) = refl
event-acts machine object process line state (NetUpdate number) =
    net-acts object process line machine.design (slice_get machine.design.nodes number) state (after machine state (NetUpdate number))

-- the objects of the writes of some events are those that the events write
pub written-has : (machine : Machine) (seen : List Seen) (lists : List (List ObjectAccess)) (first object : ℕ) → AreListed machine seen lists →
    has (map (λ (w : Written). w.object) (writes_from first lists)) object ≡ list_any (event_writes machine object) seen
written-has machine [] [] first object listed = refl
written-has machine [] (a ∷ lists) first object listed = absurd listed
written-has machine (s ∷ seen) [] first object listed = absurd listed
written-has machine (s ∷ seen) (a ∷ lists) first object listed =
    ap (λ l. has l object) (map-append (λ (w : Written). w.object) (writes_in first a) (writes_from (first + 1) lists))
    ∙ has-append (map (λ (w : Written). w.object) (writes_in first a)) (map (λ (w : Written). w.object) (writes_from (first + 1) lists)) object
    ∙ (λ i. own i || written-has machine seen lists (first + 1) object listed.1 i)
  where
    own : has (map (λ (w : Written). w.object) (writes_in first a)) object ≡ event_writes machine object s
    own = in-has first object a ∙ ap (writes object) listed.0.are ∙ event-acts machine object listed.0.process listed.0.line s.before s.event

-- Waits that end

or-right : (a b : Bool) → b ≡ true → (a || b) ≡ true
or-right true b e = refl
or-right false b e = e

-- an event of a block that ends the wait of a process
record EndsIn (machine : Machine) (state : State) (block : List Event) (process : ℕ) : Type 0 where
  number : ℕ
  seen : Seen
  there : slice_get (seen_from machine state block) number ≡ Some seen
  ends : ends_its_wait machine seen.before seen.event process ≡ true

ends-forth : (machine : Machine) (state : State) (block : List Event) (p : ℕ) → ends_wait_of machine state block p ≡ true → EndsIn machine state block p
ends-forth machine state [] p e = cc
ends-forth machine state (event ∷ block) p e = go (ends_its_wait machine state event p) refl e (ends-forth machine (after machine state event) block p)
  where
    go : (b : Bool) → ends_its_wait machine state event p ≡ b → (b || ends_wait_of machine (after machine state event) block p) ≡ true →
        (ends_wait_of machine (after machine state event) block p ≡ true → EndsIn machine (after machine state event) block p) → EndsIn machine state (event ∷ block) p
    go true is f rest = record { number = 0; seen = record { before = state; event = event }; there = refl; ends = is }
    go false is f rest = let more = rest f in record { number = suc more.number; seen = more.seen; there = more.there; ends = more.ends }

ends-back : (machine : Machine) (state : State) (block : List Event) (p number : ℕ) (seen : Seen) → slice_get (seen_from machine state block) number ≡ Some seen →
    ends_its_wait machine seen.before seen.event p ≡ true → ends_wait_of machine state block p ≡ true
ends-back machine state [] p number seen there ends = cc
ends-back machine state (event ∷ block) p zero seen there ends =
    let same : record { before = state; event = event } ≡ seen = some-seen (record { before = state; event = event }) seen there in
    ap (λ b. b || ends_wait_of machine (after machine state event) block p) (ap (λ (s : Seen). ends_its_wait machine s.before s.event p) same ∙ ends)
  where
    some-seen : (a b : Seen) → Some a ≡ Some b → a ≡ b
    some-seen a b e = cc
ends-back machine state (event ∷ block) p (suc number) seen there ends =
    or-right (ends_its_wait machine state event p) (ends_wait_of machine (after machine state event) block p) (ends-back machine (after machine state event) block p number seen there ends)

-- a wake among some that comes within bounds
record WakeIn (wakes : List WakeTold) (first limit process : ℕ) : Type 0 where
  moment : ℕ
  low : first ≤ moment
  high : moment < limit
  told : has_wake wakes moment process ≡ true

and-parts : (a b : Bool) → (a && b) ≡ true → (a ≡ true) × (b ≡ true)
and-parts true b e = (refl, e)
and-parts false b e = cc

wakes-forth : (wakes : List WakeTold) (first limit p : ℕ) → has (map (λ (wake : WakeTold). wake.process) (filter (comes_within first limit) wakes)) p ≡ true → WakeIn wakes first limit p
wakes-forth [] first limit p e = cc
wakes-forth (wake ∷ wakes) first limit p e = go (comes_within first limit wake) refl e (wakes-forth wakes first limit p)
  where
    rest-list : List WakeTold
    rest-list = filter (comes_within first limit) wakes

    later : WakeIn wakes first limit p → WakeIn (wake ∷ wakes) first limit p
    later h = record { moment = h.moment; low = h.low; high = h.high; told = or-right (is_told h.moment p wake) (has_wake wakes h.moment p) h.told }

    own : (b : Bool) → nat_eq wake.process p ≡ b → (b || has (map (λ (w : WakeTold). w.process) rest-list) p) ≡ true → comes_within first limit wake ≡ true →
        (has (map (λ (w : WakeTold). w.process) rest-list) p ≡ true → WakeIn wakes first limit p) → WakeIn (wake ∷ wakes) first limit p
    own true is f within rest =
        let parts = and-parts (nat_le first wake.moment) (nat_lt wake.moment limit) within in
        record {
          moment = wake.moment;
          low = leb-true first wake.moment parts.0;
          high = ltb-true wake.moment limit parts.1;
          told = ap (λ b. (b && nat_eq wake.process p) || has_wake wakes wake.moment p) (eq-eqb wake.moment wake.moment refl) ∙ ap (λ b. b || has_wake wakes wake.moment p) is;
        }
    own false is f within rest = later (rest f)

    go : (b : Bool) → comes_within first limit wake ≡ b → has (map (λ (w : WakeTold). w.process) (cond b (wake ∷ rest-list) rest-list)) p ≡ true →
        (has (map (λ (w : WakeTold). w.process) rest-list) p ≡ true → WakeIn wakes first limit p) → WakeIn (wake ∷ wakes) first limit p
    go true within f rest = own (nat_eq wake.process p) refl f within rest
    go false within f rest = later (rest f)

wakes-back : (wakes : List WakeTold) (first limit p moment : ℕ) → first ≤ moment → moment < limit → has_wake wakes moment p ≡ true →
    has (map (λ (wake : WakeTold). wake.process) (filter (comes_within first limit) wakes)) p ≡ true
wakes-back [] first limit p moment low high e = cc
wakes-back (wake ∷ wakes) first limit p moment low high e = go (is_told moment p wake) refl e (wakes-back wakes first limit p moment low high)
  where
    rest-list : List WakeTold
    rest-list = filter (comes_within first limit) wakes

    keeps : (b : Bool) → has (map (λ (w : WakeTold). w.process) rest-list) p ≡ true → has (map (λ (w : WakeTold). w.process) (cond b (wake ∷ rest-list) rest-list)) p ≡ true
    keeps true h = or-right (nat_eq wake.process p) (has (map (λ (w : WakeTold). w.process) rest-list) p) h
    keeps false h = h

    go : (b : Bool) → is_told moment p wake ≡ b → (b || has_wake wakes moment p) ≡ true →
        (has_wake wakes moment p ≡ true → has (map (λ (w : WakeTold). w.process) rest-list) p ≡ true) →
        has (map (λ (w : WakeTold). w.process) (cond (comes_within first limit wake) (wake ∷ rest-list) rest-list)) p ≡ true
    go true is f rest =
        let parts = and-parts (nat_eq wake.moment moment) (nat_eq wake.process p) is in
        let at : wake.moment ≡ moment = eqb-true wake.moment moment parts.0 in
        let within : comes_within first limit wake ≡ true =
        ap (λ n. nat_le first n && nat_lt n limit) at ∙ ap (λ b. b && nat_lt moment limit) (le-leb first moment low) ∙ lt-ltb moment limit high in
        ap (λ b. has (map (λ (w : WakeTold). w.process) (cond b (wake ∷ rest-list) rest-list)) p) within
        ∙ ap (λ b. b || has (map (λ (w : WakeTold). w.process) rest-list) p) parts.1
    go false is f rest = keeps (comes_within first limit wake) (rest f)

-- an event that is there ends a wait
woken-forth : (machine : Machine) (events : List Seen) (p moment : ℕ) → woken_at machine events p moment ≡ true →
    (seen : Seen) × (slice_get events moment ≡ Some seen) × (ends_its_wait machine seen.before seen.event p ≡ true)
woken-forth machine events p moment e = go (slice_get events moment) refl e
  where
    go : (found : Option Seen) → slice_get events moment ≡ found → elim found as (λ _. Bool) [ None ↦ false | Some event ↦ ends_its_wait machine event.before event.event p ] ≡ true →
        (seen : Seen) × (slice_get events moment ≡ Some seen) × (ends_its_wait machine seen.before seen.event p ≡ true)
    go None is f = cc
    go (Some seen) is f = (seen, is, f)

woken-back : (machine : Machine) (events : List Seen) (p moment : ℕ) (seen : Seen) → slice_get events moment ≡ Some seen → ends_its_wait machine seen.before seen.event p ≡ true →
    woken_at machine events p moment ≡ true
woken-back machine events p moment seen there ends = ap (λ found. elim found as (λ _. Bool) [ None ↦ false | Some event ↦ ends_its_wait machine event.before event.event p ]) there ∙ ends

seen-inside : (machine : Machine) (state : State) (block : List Event) (number : ℕ) (seen : Seen) → slice_get (seen_from machine state block) number ≡ Some seen → number < length block
seen-inside machine state [] number seen there = cc
seen-inside machine state (event ∷ block) zero seen there = let l : length (event ∷ block) ≡ suc (length block) = refl in omega (arith, l)
seen-inside machine state (event ∷ block) (suc number) seen there =
    let l : length (event ∷ block) ≡ suc (length block) = refl in let r : number < length block = seen-inside machine (after machine state event) block number seen there in omega (arith, l, r)

-- the processes of the wakes within a block are those whose waits it ends
pub woken-has : (machine : Machine) (events : List Seen) (wakes : List WakeTold) (state : State) (block : List Event) (first limit p : ℕ) →
    ((moment process : ℕ) → has_wake wakes moment process ≡ woken_at machine events process moment) → limit ≡ first + length block →
    ((number : ℕ) → number < length block → slice_get events (first + number) ≡ slice_get (seen_from machine state block) number) →
    has (map (λ (wake : WakeTold). wake.process) (filter (comes_within first limit) wakes)) p ≡ ends_wait_of machine state block p
woken-has machine events wakes state block first limit p each limit_is there =
    both-ways (has (map (λ (wake : WakeTold). wake.process) (filter (comes_within first limit) wakes)) p) (ends_wait_of machine state block p)
    (λ e.
    let wake = wakes-forth wakes first limit p e in
    let low : first ≤ wake.moment = wake.low in
    let high : wake.moment < limit = wake.high in
    let seen = woken-forth machine events p wake.moment (sym (each wake.moment p) ∙ wake.told) in
    let number : ℕ = wake.moment - first in
    let at : first + number ≡ wake.moment = omega (arith, low) in
    ends-back machine state block p number seen.0 (sym (there number (omega (arith, low, high, limit_is))) ∙ ap (λ n. slice_get events n) at ∙ seen.1) seen.2)
    (λ e.
    let ends = ends-forth machine state block p e in
    let inside : ends.number < length block = seen-inside machine state block ends.number ends.seen ends.there in
    wakes-back wakes first limit p (first + ends.number) (omega arith) (omega (arith, inside, limit_is))
    (each (first + ends.number) p ∙ woken-back machine events p (first + ends.number) ends.seen (there ends.number inside ∙ ends.there) ends.ends))
