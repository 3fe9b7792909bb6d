-- The wakes of slots of the good first run, slot by slot (slots and phases by IEEE 1364-2001, clause 5).
use Rattle.std.proofs.Common.{◌≡◌, ℕ, zero, suc, ◌+◌, ◌^◌, ◌<◌, ◌≤◌, Bool, true, false, cond, List, [], ◌∷◌, ◌++◌, map, filter, length, get_or, refl, sym, ap, subst, ◌∙◌, arith, append_assoc, length-append}
use Rattle.std.specs.Prelude.{Option, Some, None, slice_get, sum_by}
use Rattle.std.specs.List.{list_any}
use Rattle.std.specs.List.Sorted.{IsPermutation, IsNonDecreasingBy}
use Rattle.std.proofs.lemmas.List.{length-map, map-append, get_or-map}
use Rattle.std.proofs.lemmas.List.Sorted.{IsPermutation-map, list_any-IsPermutation}
use Rattle.std.proofs.lemmas.List.Sums.{sum_by-cons}
use Rattle.std.proofs.lemmas.Option.{slice_get_within}
use Rattle.vf_base.specs.Lists.{AllHold, joined}
use Rattle.v_design.specs.Designs.{FlatDesign, TestPlan, Machine, good_machine}
use Rattle.v_design.specs.Grades.{Phase, phases}
use Rattle.v_design.specs.PhaseLogs.{log_of}
use Rattle.v_design.specs.Runs.{FirstSlot, is_hyper, happened, made, Turns}
use Rattle.v_design.specs.States.{State, Event, TurnKind, after, turn_of}
use Rattle.v_design.specs.WellFormed.{KeepsRules}
use Rattle.copy_laws.specs.Beside.{AreFirst}
use Rattle.copy_laws.specs.Windows.{good_slots, window_slots}
use Rattle.machine_laws.specs.SlotLoop.{slot_from, IsIdle}
use Rattle.between_slots.specs.Between.{slots_phases, window_phases}
use Rattle.between_slots.specs.WindowLaws.{window_phases-none, window_phases-more}
use Rattle.between_slots.proofs.Ends.{IsAsked, good-asked, asked-few}
use Rattle.between_slots.proofs.Resting.{LoopLaws}
use Rattle.phase_order.specs.Order.{IsFirstPhase, ComeNext, FollowOrder, PhasesFollow}
use Rattle.boundary_laws.specs.Wakes.{CausesTellWakes}
use Rattle.causal_monitor.specs.declared.slot.SlotLog.{SlotLog}
use Rattle.slot_record.specs.SlotLogs.{logged_phases}
use Rattle.trace_window.specs.Moments.{Seen, seen_from, phase_seen, slot_seen, slots_seen, window_events}
use Rattle.moment_slices.specs.Within.{comes_within as slice_within}
use Rattle.window_blocks.specs.Gathered.{slot_events, phase_events}
use Rattle.window_blocks.specs.Kept.{IsLoggedAt}
use Rattle.window_wakes.specs.declared.wake.Wake.{Wake}
use Rattle.window_wakes.specs.Wakes.{WakeTold, wake_of, wake_moment, told_moment, is_told, has_wake, woken_at, comes_within}
use Rattle.window_wakes.specs.Gathered.{phase_wakes, all_wakes}
use Rattle.window_wakes.specs.Kept.{GathersWakes, KeepsWakes}
use Rattle.window_wakes.proofs.Causes.{TellsWakes, tells-append, phase-tells}

-- The phases of a slot are in the first order, and end idle

record IsDone (machine : Machine) (phase : Phase) : Type 0 where
  first : AreFirst machine phase.begins phase.events
  idle : IsIdle (happened machine phase.begins phase.events)

first-done : (machine : Machine) (turn : Option TurnKind) (begins : State) (phase : Phase) → IsFirstPhase machine turn begins phase → IsDone machine phase
first-done machine turn begins phase first = record {
  first = subst (λ s. AreFirst machine s phase.events) (sym first.begins_is) first.first;
  idle = subst (λ s. IsIdle (happened machine s phase.events)) (sym first.begins_is) first.idle;
}

next-done : (machine : Machine) (end : State) (rest : List Phase) → ComeNext machine end rest → AllHold (IsDone machine) rest
next-done machine end [] next = tt
next-done machine end (phase ∷ rest) next = (
  first-done machine (turn_of end) (made machine end Turns) phase next.1,
  next-done machine (happened machine (made machine end Turns) phase.events) rest next.2,
)

follow-done : (machine : Machine) (turn : Option TurnKind) (begins : State) (all : List Phase) → FollowOrder machine turn begins all → AllHold (IsDone machine) all
follow-done machine turn begins [] follow = absurd follow
follow-done machine turn begins (phase ∷ rest) follow = (
  first-done machine turn begins phase follow.0,
  next-done machine (happened machine begins phase.events) rest follow.1,
)

slot-done : LoopLaws → PhasesFollow → (design : FlatDesign) (plan : TestPlan) (number : ℕ) (slot : FirstSlot) → KeepsRules design → slice_get (good_slots design plan) number ≡ Some slot →
    is_hyper slot ≡ false → AllHold (IsDone (good_machine design)) (phases (good_machine design) slot)
slot-done laws follow design plan number slot rules here few =
    subst (λ moves. AllHold (IsDone machine) (phases machine (record { begins = slot.begins; moves = moves }))) (sym asked.moves)
    (follow-done machine None slot.begins (phases machine (slot_from machine slot.begins)) (follow machine slot.begins rules asked.asked (asked-few machine slot asked few)).follow)
  where
    machine : Machine
    machine = good_machine design

    asked : IsAsked (good_machine design) slot
    asked = good-asked laws design plan rules number slot here

-- The wakes of phases

length-seen : (machine : Machine) (state : State) (events : List Event) → length (seen_from machine state events) ≡ length events
length-seen machine state [] = refl
length-seen machine state (event ∷ events) = ap suc (length-seen machine (after machine state event) events)

phases-tell : CausesTellWakes → (machine : Machine) (first number : ℕ) (all : List Phase) → AllHold (IsDone machine) all →
    TellsWakes machine first (joined (map (phase_seen machine) all)) (all_wakes first (phase_events all) (logged_phases machine number all))
phases-tell law machine first number [] done = record { forth = λ moment process e. cc; back = λ n process e. cc }
phases-tell law machine first number (phase ∷ rest) done =
    tells-append machine first (phase_seen machine phase) (joined (map (phase_seen machine) rest)) (phase_wakes first phase.events (log_of machine phase.begins phase.events))
    (all_wakes (first + length phase.events) (phase_events rest) (logged_phases machine (number + 1) rest))
    (phase-tells law machine phase.begins phase.events first done.0.first done.0.idle)
    (subst (λ n. TellsWakes machine (first + n) (joined (map (phase_seen machine) rest)) (all_wakes (first + length phase.events) (phase_events rest) (logged_phases machine (number + 1) rest)))
    (sym (length-seen machine phase.begins phase.events))
    (phases-tell law machine (first + length phase.events) (number + 1) rest done.1))

-- how many events phases have
phases-long : (machine : Machine) (all : List Phase) → length (joined (map (phase_seen machine) all)) ≡ sum_by length (phase_events all)
phases-long machine [] = refl
phases-long machine (phase ∷ rest) =
    let both : length (joined (map (phase_seen machine) (phase ∷ rest))) ≡ length (phase_seen machine phase) + length (joined (map (phase_seen machine) rest)) =
    length-append (phase_seen machine phase) (joined (map (phase_seen machine) rest)) in
    let own : length (phase_seen machine phase) ≡ length phase.events = length-seen machine phase.begins phase.events in
    let more : length (joined (map (phase_seen machine) rest)) ≡ sum_by length (phase_events rest) = phases-long machine rest in
    let sum : sum_by length (phase_events (phase ∷ rest)) ≡ length phase.events + sum_by length (phase_events rest) = sum_by-cons length phase.events (phase_events rest) in
    omega (arith, both, own, more, sum)

-- The events of a window are those of its phases

joined-append : {A : Type 0} (xs ys : List (List A)) → joined (xs ++ ys) ≡ joined xs ++ joined ys
joined-append [] ys = refl
joined-append (x ∷ xs) ys = ap (λ l. x ++ l) (joined-append xs ys) ∙ sym (append_assoc x (joined xs) (joined ys))

seen-append : (machine : Machine) (one two : List Phase) → joined (map (phase_seen machine) (one ++ two)) ≡ joined (map (phase_seen machine) one) ++ joined (map (phase_seen machine) two)
seen-append machine one two = ap joined (map-append (phase_seen machine) one two) ∙ joined-append (map (phase_seen machine) one) (map (phase_seen machine) two)

slots-phases : (machine : Machine) (slots : List FirstSlot) → slots_seen machine slots ≡ joined (map (phase_seen machine) (slots_phases machine slots))
slots-phases machine [] = refl
slots-phases machine (slot ∷ slots) = ap (λ l. slot_seen machine slot ++ l) (slots-phases machine slots) ∙ sym (seen-append machine (phases machine slot) (slots_phases machine slots))

window-none : (design : FlatDesign) (plan : TestPlan) (number : ℕ) → window_events design plan number number ≡ []
window-none design plan number =
    slots-phases (good_machine design) (window_slots design plan number number) ∙ ap (λ l. joined (map (phase_seen (good_machine design)) l)) (window_phases-none design plan number)

window-more : (design : FlatDesign) (plan : TestPlan) (before through : ℕ) (slot : FirstSlot) → before ≤ through → slice_get (good_slots design plan) through ≡ Some slot →
    window_events design plan before (through + 1) ≡ window_events design plan before through ++ slot_seen (good_machine design) slot
window-more design plan before through slot low here =
    (let z : through + 1 ≡ suc through = omega arith in ap (λ n. window_events design plan before n) z)
    ∙ slots-phases (good_machine design) (window_slots design plan before (suc through))
    ∙ ap (λ l. joined (map (phase_seen (good_machine design)) l)) (window_phases-more design plan before through slot low here)
    ∙ seen-append (good_machine design) (window_phases design plan before through) (phases (good_machine design) slot)
    ∙ ap (λ l. l ++ slot_seen (good_machine design) slot) (sym (slots-phases (good_machine design) (window_slots design plan before through)))

-- Told of all events

both : (a b : Bool) → (a ≡ true → b ≡ true) → (b ≡ true → a ≡ true) → a ≡ b
both true b f g = sym (f refl)
both false true f g = g refl
both false false f g = refl

to-tells : (machine : Machine) (events : List Seen) (wakes : List WakeTold) → ((number process : ℕ) → has_wake wakes number process ≡ woken_at machine events process number) →
    TellsWakes machine 0 events wakes
to-tells machine events wakes each = record {
  forth = λ moment process e. (moment, (let z : moment ≡ 0 + moment = omega arith in z), sym (each moment process) ∙ e);
  back = λ number process e. (let z : 0 + number ≡ number = omega arith in ap (λ k. has_wake wakes k process) z) ∙ each number process ∙ e;
}

from-tells : (machine : Machine) (events : List Seen) (wakes : List WakeTold) → TellsWakes machine 0 events wakes → (number process : ℕ) →
    has_wake wakes number process ≡ woken_at machine events process number
from-tells machine events wakes tells number process =
    both (has_wake wakes number process) (woken_at machine events process number)
    (λ e.
    let found = tells.forth number process e in
    let same : number ≡ found.0 = (let at : number ≡ 0 + found.0 = found.1 in omega (arith, at)) in
    ap (λ k. woken_at machine events process k) same ∙ found.2)
    (λ e. (let z : number ≡ 0 + number = omega arith in ap (λ k. has_wake wakes k process) z) ∙ tells.back number process e)

-- What is gathered

pub GathersWakes-none : (design : FlatDesign) (plan : TestPlan) (number moment : ℕ) (wakes : List Wake) → KeepsRules design → length (good_slots design plan) < 2 ^ 63 → moment ≡ 0 → wakes ≡ [] →
    GathersWakes design plan number number moment wakes
GathersWakes-none design plan number moment wakes rules fits zero_is none = record {
  rules = rules;
  run_fits = fits;
  order = omega arith;
  each = λ n process.
      ap (λ l. has_wake (map wake_of l) n process) none ∙ sym (ap (λ l. woken_at (good_machine design) l process n) (window-none design plan number) ∙ nothing n process);
  moment_is = zero_is ∙ sym (ap length (window-none design plan number));
}
  where
    nothing : (n process : ℕ) → woken_at (good_machine design) [] process n ≡ false
    nothing zero process = refl
    nothing (suc n) process = refl

pub push-fits : (design : FlatDesign) (plan : TestPlan) (number : ℕ) (log : SlotLog) → length (good_slots design plan) < 2 ^ 63 → IsLoggedAt design plan number log → number + 1 < 2 ^ 64
push-fits design plan number log fits logged = let low : number < length (good_slots design plan) = slice_get_within (good_slots design plan) number logged.slot logged.stands in omega (arith, low, fits)

pub GathersWakes-push : LoopLaws → PhasesFollow → CausesTellWakes → (design : FlatDesign) (plan : TestPlan) (before through moment behind : ℕ) (log : SlotLog) (old new : List Wake) →
    GathersWakes design plan before through moment old → IsLoggedAt design plan through log →
    map wake_of new ≡ map wake_of old ++ all_wakes moment (slot_events log) log.phases → behind ≡ moment + sum_by length (slot_events log) →
    GathersWakes design plan before (through + 1) behind new
GathersWakes-push laws follow law design plan before through moment behind log old new kept logged grown long = record {
  rules = kept.rules;
  run_fits = kept.run_fits;
  order = (let z : before ≤ through = kept.order in omega (arith, z));
  each = λ number process.
      ap (λ l. has_wake l number process) (grown ∙ own) ∙ from-tells machine (events ++ slot_seen machine slot) (map wake_of old ++ more) tells number process
      ∙ ap (λ l. woken_at machine l process number) (sym wider);
  moment_is =
      long ∙ ap (λ l. moment + sum_by length l) logged.logged.actors_are
      ∙ (let at : moment ≡ length events = kept.moment_is in
      let own_long : length (slot_seen machine slot) ≡ sum_by length (phase_events (phases machine slot)) = phases-long machine (phases machine slot) in
      let all : length (events ++ slot_seen machine slot) ≡ length events + length (slot_seen machine slot) = length-append events (slot_seen machine slot) in
      let sum : moment + sum_by length (phase_events (phases machine slot)) ≡ length (events ++ slot_seen machine slot) = omega (arith, at, own_long, all) in sum)
      ∙ ap length (sym wider);
}
  where
    machine : Machine
    machine = good_machine design

    slot : FirstSlot
    slot = logged.slot

    events : List Seen
    events = window_events design plan before through

    more : List WakeTold
    more = all_wakes (0 + length events) (phase_events (phases machine slot)) (logged_phases machine 1 (phases machine slot))

    wider : window_events design plan before (through + 1) ≡ events ++ slot_seen machine slot
    wider = window-more design plan before through slot kept.order logged.stands

    own : map wake_of old ++ all_wakes moment (slot_events log) log.phases ≡ map wake_of old ++ more
    own =
        (let at : moment ≡ length events = kept.moment_is in
        let z : moment ≡ 0 + length events = omega (arith, at) in ap (λ n. map wake_of old ++ all_wakes n (slot_events log) log.phases) z)
        ∙ ap (λ l. map wake_of old ++ all_wakes (0 + length events) l log.phases) logged.logged.actors_are
        ∙ ap (λ l. map wake_of old ++ all_wakes (0 + length events) (phase_events (phases machine slot)) l) logged.logged.phases_are

    tells : TellsWakes machine 0 (events ++ slot_seen machine slot) (map wake_of old ++ more)
    tells =
        tells-append machine 0 events (slot_seen machine slot) (map wake_of old) more (to-tells machine events (map wake_of old) kept.each)
        (phases-tell law machine (0 + length events) 1 (phases machine slot) (slot-done laws follow design plan through slot kept.rules logged.stands logged.few_steps))

-- The wakes of a window in order

ascend-mapped : (wakes : List Wake) → IsNonDecreasingBy wake_moment wakes → IsNonDecreasingBy told_moment (map wake_of wakes)
ascend-mapped wakes up i j d le low =
    let low_own : j < length wakes = (let e : length (map wake_of wakes) ≡ length wakes = length-map wakes wake_of in omega (arith, e, low)) in
    go (wake-at wakes low_own)
  where
    wake-at : (all : List Wake) → j < length all → Wake
    wake-at [] less = absurd (omega (arith, less))
    wake-at (w ∷ all) less = w

    go : Wake → told_moment (get_or (map wake_of wakes) i d) ≤ told_moment (get_or (map wake_of wakes) j d)
    go w =
        let low_own : j < length wakes = (let e : length (map wake_of wakes) ≡ length wakes = length-map wakes wake_of in omega (arith, e, low)) in
        let one : told_moment (get_or (map wake_of wakes) i d) ≡ wake_moment (get_or wakes i w) = at wakes i d w (let l : i < length wakes = omega (arith, low_own, le) in l) in
        let two : told_moment (get_or (map wake_of wakes) j d) ≡ wake_moment (get_or wakes j w) = at wakes j d w low_own in
        let own : wake_moment (get_or wakes i w) ≤ wake_moment (get_or wakes j w) = up i j w le low_own in
        omega (arith, one, two, own)
      where
        at : (all : List Wake) (k : ℕ) (e : WakeTold) (f : Wake) → k < length all → told_moment (get_or (map wake_of all) k e) ≡ wake_moment (get_or all k f)
        at [] k e f less = absurd (omega (arith, less))
        at (x ∷ all) zero e f less = refl
        at (x ∷ all) (suc k) e f less = at all k e f (omega (arith, less))

pub ascend-back : (wakes : List Wake) → IsNonDecreasingBy told_moment (map wake_of wakes) → IsNonDecreasingBy wake_moment wakes
ascend-back wakes up i j d le low =
    let all : length (map wake_of wakes) ≡ length wakes = length-map wakes wake_of in
    let one : told_moment (get_or (map wake_of wakes) i (wake_of d)) ≡ wake_moment (get_or wakes i d) = at wakes i in
    let two : told_moment (get_or (map wake_of wakes) j (wake_of d)) ≡ wake_moment (get_or wakes j d) = at wakes j in
    let own : told_moment (get_or (map wake_of wakes) i (wake_of d)) ≤ told_moment (get_or (map wake_of wakes) j (wake_of d)) = up i j (wake_of d) le (omega (arith, all, low)) in
    omega (arith, one, two, own)
  where
    at : (xs : List Wake) (k : ℕ) → told_moment (get_or (map wake_of xs) k (wake_of d)) ≡ wake_moment (get_or xs k d)
    at [] k = refl
    at (x ∷ xs) zero = refl
    at (x ∷ xs) (suc k) = at xs k

pub KeepsWakes-sorted : (design : FlatDesign) (plan : TestPlan) (before through moment : ℕ) (old new : List Wake) → GathersWakes design plan before through moment old → IsPermutation old new →
    IsNonDecreasingBy wake_moment new → KeepsWakes design plan before through new
KeepsWakes-sorted design plan before through moment old new kept same up = record {
  ascend = ascend-mapped new up;
  each = λ number process.
      sym (list_any-IsPermutation (is_told number process) (map wake_of old) (map wake_of new) (IsPermutation-map wake_of old new same)) ∙ kept.each number process;
}

-- those that come within bounds
pub filter-told : (first limit : ℕ) (wakes : List Wake) →
    map wake_of (filter (λ (w : Wake). slice_within first limit w.moment) wakes) ≡ filter (comes_within first limit) (map wake_of wakes)
filter-told first limit [] = refl
filter-told first limit (w ∷ wakes) = go (comes_within first limit (wake_of w)) (filter-told first limit wakes)
  where
    go : (b : Bool) → map wake_of (filter (λ (x : Wake). comes_within first limit (wake_of x)) wakes) ≡ filter (comes_within first limit) (map wake_of wakes) →
        map wake_of (cond b (w ∷ filter (λ (x : Wake). comes_within first limit (wake_of x)) wakes) (filter (λ (x : Wake). comes_within first limit (wake_of x)) wakes))
        ≡ cond b (wake_of w ∷ filter (comes_within first limit) (map wake_of wakes)) (filter (comes_within first limit) (map wake_of wakes))
    go true rest = ap (λ l. wake_of w ∷ l) rest
    go false rest = rest
