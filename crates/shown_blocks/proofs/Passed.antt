-- A block is passed: the state behind it is shown (blocks, phases and slots by IEEE 1364-2001, clause 5).
use Rattle.std.proofs.Common.{◌≡◌, ℕ, zero, suc, ◌+◌, ◌-◌, Bool, true, false, ◌||◌, List, [], ◌∷◌, ◌++◌, map, length, take, drop, refl, sym, ap, subst, ◌∙◌, arith, append-nil, append_assoc, length-append}
use Rattle.std.specs.Prelude.{Some, nat_eq, slice_get, sum_by}
use Rattle.std.proofs.Math.Seq.{drop-append_seam}
use Rattle.std.proofs.lemmas.Bool.{eq-eqb}
use Rattle.std.proofs.lemmas.List.{map-append}
use Rattle.std.proofs.lemmas.List.Sums.{sum_by-cons}
use Rattle.vf_base.specs.Lists.{has, joined, map_numbered}
use Rattle.v_design.specs.Accesses.{ObjectAccess}
use Rattle.v_design.specs.Designs.{FlatDesign, Machine, TestPlan, good_machine}
use Rattle.v_design.specs.States.{State, Event, after}
use Rattle.v_design.specs.Runs.{FirstSlot, happened}
use Rattle.v_design.specs.Grades.{Phase, phases}
use Rattle.copy_laws.specs.OwnRuns.{EventsTakeNoTime}
use Rattle.copy_laws.specs.Windows.{good_slots, window_slots}
use Rattle.run_ends.specs.RunEnds.{Ender, enders_in, phase_enders}
use Rattle.between_slots.specs.Between.{slots_phases, window_phases}
use Rattle.trace_window.specs.Listed.{AreListed}
use Rattle.trace_window.specs.Moments.{Seen, seen_from, phase_seen, slot_seen, window_events}
use Rattle.trace_window.specs.TouchLaws.{listed-length}
use Rattle.trace_window.specs.Writes.{Written, writes_from}
use Rattle.phase_blocks.specs.Blocks.{BlocksBegin, RunsOfBlocks}
use Rattle.block_changes.specs.Changes.{EventsChangeParts}
use Rattle.block_states.specs.Leaving.{BlocksLeave}
use Rattle.block_ends.specs.Ends.{EndsOfBlocks}
use Rattle.boundary_laws.specs.Boundaries.{ProcessAtBoundary}
use Rattle.boundary_laws.specs.Pending.{RunsAppend, LanesShorten}
use Rattle.boundary_ends.proofs.Counts.{enders-append}
use Rattle.moment_laws.specs.moment_parts.Within.{written_within}
use Rattle.moment_laws.proofs.moment_parts.Written.{within-block}
use Rattle.moment_laws.specs.window_places.Passing.{events_before}
use Rattle.moment_laws.specs.window_places.Windows.{PlacesInWindows}
use Rattle.moment_laws.specs.lockstep_slots.Places.{Place, IsPlaceOf, state_there}
use Rattle.moment_laws.specs.lockstep_places.Places.{PlacesTold}
use Rattle.moment_laws.specs.Places.{IsShownAt, runs_before}
use Rattle.moment_laws.specs.Shown.{MomentKept}
use Rattle.moment_laws.specs.Steps.{slot_enders}

-- The laws

pub record BlockLaws : Type 0 where
  pub told : PlacesTold
  pub windows : PlacesInWindows
  pub begin : BlocksBegin
  pub runs : RunsOfBlocks
  pub leave : BlocksLeave
  pub ends : EndsOfBlocks
  pub boundary : ProcessAtBoundary
  pub later : RunsAppend
  pub lanes : LanesShorten
  pub changes : EventsChangeParts
  pub time : EventsTakeNoTime

-- The events of the slot

one-slot : (slots : List FirstSlot) (number : ℕ) (slot : FirstSlot) → slice_get slots number ≡ Some slot → drop number (take (suc number) slots) ≡ slot ∷ []
one-slot [] number slot here = cc
one-slot (first ∷ slots) zero slot here = ap (λ (s : FirstSlot). s ∷ []) (same-slot first slot here)
  where
    same-slot : (a b : FirstSlot) → Some a ≡ Some b → a ≡ b
    same-slot a b e = cc
one-slot (first ∷ slots) (suc number) slot here = one-slot slots number slot here

own-slot : (design : FlatDesign) (plan : TestPlan) (number : ℕ) (slot : FirstSlot) → slice_get (good_slots design plan) number ≡ Some slot →
    window_slots design plan number (number + 1) ≡ slot ∷ []
own-slot design plan number slot here =
    (let e : number + 1 ≡ suc number = omega arith in ap (λ n. window_slots design plan number n) e) ∙ one-slot (good_slots design plan) number slot here

seen-append : (machine : Machine) (state : State) (first more : List Event) →
    seen_from machine state (first ++ more) ≡ seen_from machine state first ++ seen_from machine (happened machine state first) more
seen-append machine state [] more = refl
seen-append machine state (event ∷ first) more = ap (λ l. record { before = state; event = event } ∷ l) (seen-append machine (after machine state event) first more)

pub seen-length : (machine : Machine) (state : State) (events : List Event) → length (seen_from machine state events) ≡ length events
seen-length machine state [] = refl
seen-length machine state (event ∷ events) = ap suc (seen-length machine (after machine state event) events)

joined-parts : {A B : Type 0} (f : A → List B) (xs ys : List A) → joined (map f (xs ++ ys)) ≡ joined (map f xs) ++ joined (map f ys)
joined-parts f [] ys = refl
joined-parts f (x ∷ xs) ys = ap (λ l. f x ++ l) (joined-parts f xs ys) ∙ sym (append_assoc (f x) (joined (map f xs)) (joined (map f ys)))

phases-length : (machine : Machine) (parts : List Phase) → length (joined (map (phase_seen machine) parts)) ≡ sum_by (λ (phase : Phase). length phase.events) parts
phases-length machine [] = refl
phases-length machine (phase ∷ parts) =
    let all : length (joined (map (phase_seen machine) (phase ∷ parts))) ≡ length (phase_seen machine phase) + length (joined (map (phase_seen machine) parts)) =
    length-append (phase_seen machine phase) (joined (map (phase_seen machine) parts)) in
    let one : length (phase_seen machine phase) ≡ length phase.events = seen-length machine phase.begins phase.events in
    let rest : length (joined (map (phase_seen machine) parts)) ≡ sum_by (λ (p : Phase). length p.events) parts = phases-length machine parts in
    let sum : sum_by (λ (p : Phase). length p.events) (phase ∷ parts) ≡ length phase.events + sum_by (λ (p : Phase). length p.events) parts =
    sum_by-cons (λ (p : Phase). length p.events) phase parts in
    omega (arith, all, one, rest, sum)

-- those of a slot in three parts: before a block, the block's, and behind it
record SlotParts (design : FlatDesign) (plan : TestPlan) (number : ℕ) (place : Place) (block : List Event) : Type 0 where
  before : List Seen
  behind : List Seen
  are : window_events design plan number (number + 1) ≡ before ++ (seen_from (good_machine design) (state_there (good_machine design) place) block ++ behind)
  long : length before ≡ events_before place

slot-parts : (design : FlatDesign) (plan : TestPlan) (number : ℕ) (slot : FirstSlot) (place : Place) (block rest : List Event) → slice_get (good_slots design plan) number ≡ Some slot →
    IsPlaceOf (good_machine design) slot place → place.left ≡ block ++ rest → SlotParts design plan number place block
slot-parts design plan number slot place block rest here of left = record {
  before = early ++ seen_from machine place.phase.begins place.passed;
  behind = seen_from machine (happened machine there block) rest ++ late;
  are =
      ap (λ l. joined (map (slot_seen machine) l)) (own-slot design plan number slot here) ∙ append-nil (slot_seen machine slot)
      ∙ ap (λ l. joined (map (phase_seen machine) l)) of.phases_are ∙ joined-parts (phase_seen machine) place.ended (place.phase ∷ place.later)
      ∙ ap (λ l. early ++ (l ++ late)) phase-parts
      ∙ ap (λ l. early ++ l) (append_assoc (seen_from machine place.phase.begins place.passed) (seen_from machine there block ++ seen_from machine (happened machine there block) rest) late
      ∙ ap (λ l. seen_from machine place.phase.begins place.passed ++ l) (append_assoc (seen_from machine there block) (seen_from machine (happened machine there block) rest) late))
      ∙ sym (append_assoc early (seen_from machine place.phase.begins place.passed) (seen_from machine there block ++ (seen_from machine (happened machine there block) rest ++ late)));
  long =
      (let a : length (early ++ seen_from machine place.phase.begins place.passed) ≡ length early + length (seen_from machine place.phase.begins place.passed) =
      length-append early (seen_from machine place.phase.begins place.passed) in
      let b : length early ≡ sum_by (λ (p : Phase). length p.events) place.ended = phases-length machine place.ended in
      let c : length (seen_from machine place.phase.begins place.passed) ≡ length place.passed = seen-length machine place.phase.begins place.passed in
      omega (arith, a, b, c));
}
  where
    machine : Machine
    machine = good_machine design

    there : State
    there = state_there machine place

    early : List Seen
    early = joined (map (phase_seen machine) place.ended)

    late : List Seen
    late = joined (map (phase_seen machine) place.later)

    phase-parts : phase_seen machine place.phase
        ≡ seen_from machine place.phase.begins place.passed ++ (seen_from machine there block ++ seen_from machine (happened machine there block) rest)
    phase-parts =
        ap (seen_from machine place.phase.begins) (of.events_are ∙ ap (λ l. place.passed ++ l) left)
        ∙ seen-append machine place.phase.begins place.passed (block ++ rest)
        ∙ ap (λ l. seen_from machine place.phase.begins place.passed ++ l) (seen-append machine there block rest)

-- lists of accesses in two parts
listed-parts : (machine : Machine) (xs ys : List Seen) (lists : List (List ObjectAccess)) → AreListed machine (xs ++ ys) lists →
    (one : List (List ObjectAccess)) × (other : List (List ObjectAccess)) × (lists ≡ one ++ other) × AreListed machine xs one × AreListed machine ys other
listed-parts machine [] ys lists listed = ([], lists, refl, tt, listed)
listed-parts machine (x ∷ xs) ys [] listed = absurd listed
listed-parts machine (x ∷ xs) ys (a ∷ lists) listed =
    let rest = listed-parts machine xs ys lists listed.1 in
    (a ∷ rest.0, rest.1, ap (λ l. a ∷ l) rest.2, (listed.0, rest.3), rest.4)

-- The writes of a block

pub record BlockWrites (design : FlatDesign) (place : Place) (block : List Event) (first : ℕ) (written : List Written) : Type 0 where
  pub lists : List (List ObjectAccess)
  pub listed : AreListed (good_machine design) (seen_from (good_machine design) (state_there (good_machine design) place) block) lists
  pub are : written ≡ writes_from first lists

pub block-writes : (design : FlatDesign) (plan : TestPlan) (place : Place) (old : MomentKept) (block rest : List Event) (limit : ℕ) (accesses : List (List ObjectAccess)) → IsShownAt design plan place old →
    place.left ≡ block ++ rest → limit ≡ old.moment + length block →
    AreListed (good_machine design) (window_events design plan (old.before + old.slot) (old.before + old.slot + 1)) accesses →
    BlockWrites design place block old.moment (written_within old.moment limit (writes_from (length (window_events design plan old.before (old.before + old.slot))) accesses))
block-writes design plan place old block rest limit accesses shown left limit_is listed =
    let machine = good_machine design in
    let parts = slot-parts design plan (old.before + old.slot) shown.slot place block rest shown.stands shown.place_is left in
    let own : List Seen = seen_from machine (state_there machine place) block in
    let first = listed-parts machine parts.before (own ++ parts.behind) accesses (subst (λ l. AreListed machine l accesses) parts.are listed) in
    let second = listed-parts machine own parts.behind first.1 first.4 in
    let early : length first.0 ≡ length parts.before = listed-length machine parts.before first.0 first.3 in
    let long : length second.0 ≡ length own = listed-length machine own second.0 second.3 in
    let count : length own ≡ length block = seen-length machine (state_there machine place) block in
    let place_is : length parts.before ≡ events_before place = parts.long in
    let moment_is : old.moment ≡ length (window_events design plan old.before (old.before + old.slot)) + events_before place = shown.moment_is in
    record {
      lists = second.0;
      listed = second.3;
      are =
          ap (λ l. written_within old.moment limit (writes_from (length (window_events design plan old.before (old.before + old.slot))) l)) (first.2 ∙ ap (λ l. first.0 ++ l) second.2)
          ∙ within-block (length (window_events design plan old.before (old.before + old.slot))) first.0 second.0 second.1 old.moment limit (omega (arith, early, place_is, moment_is))
          (omega (arith, limit_is, long, count));
    }

-- Whose runs end in the slot

enders-numbered : (machine : Machine) (number : ℕ) (parts : List Phase) →
    map (λ (ender : Ender). ender.process) (joined (map_numbered (phase_enders machine) number parts)) ≡ joined (map (λ (phase : Phase). enders_in machine phase.begins phase.events) parts)
enders-numbered machine number [] = refl
enders-numbered machine number (phase ∷ parts) =
    map-append (λ (ender : Ender). ender.process) (phase_enders machine number phase) (joined (map_numbered (phase_enders machine) (number + 1) parts))
    ∙ (λ i. own (enders_in machine phase.begins phase.events) i ++ enders-numbered machine (number + 1) parts i)
  where
    own : (enders : List ℕ) → map (λ (ender : Ender). ender.process) (map (λ (process : ℕ). record { phase = number; process = process }) enders) ≡ enders
    own [] = refl
    own (p ∷ enders) = ap (λ l. p ∷ l) (own enders)

-- from a place on they are those of the block, and others
pub enders-there : (design : FlatDesign) (plan : TestPlan) (place : Place) (old : MomentKept) (block rest : List Event) → IsShownAt design plan place old → place.left ≡ block ++ rest →
    (more : List ℕ) × (drop old.runs (slot_enders design plan old.before (old.before + old.slot)) ≡ enders_in (good_machine design) (state_there (good_machine design) place) block ++ more)
enders-there design plan place old block rest shown left = (
  enders_in machine (happened machine there block) rest ++ late,
  ap (drop old.runs) all ∙ ap (λ n. drop n (before ++ (enders_in machine there block ++ (enders_in machine (happened machine there block) rest ++ late)))) (shown.counts.runs ∙ sym long)
      ∙ drop-append_seam before (enders_in machine there block ++ (enders_in machine (happened machine there block) rest ++ late)),
)
  where
    machine : Machine
    machine = good_machine design

    there : State
    there = state_there machine place

    own : Phase → List ℕ
    own = λ (phase : Phase). enders_in machine phase.begins phase.events

    early : List ℕ
    early = joined (map own place.ended)

    late : List ℕ
    late = joined (map own place.later)

    before : List ℕ
    before = early ++ enders_in machine place.phase.begins place.passed

    long : length before ≡ runs_before machine place
    long = length-append early (enders_in machine place.phase.begins place.passed)

    phase-parts : own place.phase ≡ enders_in machine place.phase.begins place.passed ++ (enders_in machine there block ++ enders_in machine (happened machine there block) rest)
    phase-parts =
        ap (enders_in machine place.phase.begins) (shown.place_is.events_are ∙ ap (λ l. place.passed ++ l) left)
        ∙ enders-append machine place.phase.begins place.passed (block ++ rest)
        ∙ ap (λ l. enders_in machine place.phase.begins place.passed ++ l) (enders-append machine there block rest)

    slot-phases : window_phases design plan (old.before + old.slot) (old.before + old.slot + 1) ≡ phases machine shown.slot
    slot-phases = ap (slots_phases machine) (own-slot design plan (old.before + old.slot) shown.slot shown.stands) ∙ append-nil (phases machine shown.slot)

    all : slot_enders design plan old.before (old.before + old.slot) ≡ before ++ (enders_in machine there block ++ (enders_in machine (happened machine there block) rest ++ late))
    all =
        enders-numbered machine (length (window_phases design plan old.before (old.before + old.slot)) + 1) (window_phases design plan (old.before + old.slot) (old.before + old.slot + 1))
        ∙ ap (λ l. joined (map own l)) (slot-phases ∙ shown.place_is.phases_are) ∙ joined-parts own place.ended (place.phase ∷ place.later)
        ∙ ap (λ l. early ++ (l ++ late)) phase-parts
        ∙ ap (λ l. early ++ l) (append_assoc (enders_in machine place.phase.begins place.passed) (enders_in machine there block ++ enders_in machine (happened machine there block) rest) late
        ∙ ap (λ l. enders_in machine place.phase.begins place.passed ++ l) (append_assoc (enders_in machine there block) (enders_in machine (happened machine there block) rest) late))
        ∙ sym (append_assoc early (enders_in machine place.phase.begins place.passed) (enders_in machine there block ++ (enders_in machine (happened machine there block) rest ++ late)))

-- up to the first one of a process there is one part
pub one-front : (p : ℕ) (one more two rest : List ℕ) → one ++ p ∷ more ≡ two ++ p ∷ rest → has one p ≡ false → has two p ≡ false → one ≡ two
one-front p [] more [] rest e none other = refl
one-front p [] more (y ∷ two) rest e none other = let same : p ≡ y = cc in absurd (clash (nat_eq y p) (has two p) (eq-eqb y p (sym same)) other)
  where
    clash : (a b : Bool) → a ≡ true → (a || b) ≡ false → ⊥
    clash true b e f = cc
    clash false b e f = cc
one-front p (x ∷ one) more [] rest e none other = let same : x ≡ p = cc in absurd (clash (nat_eq x p) (has one p) (eq-eqb x p same) none)
  where
    clash : (a b : Bool) → a ≡ true → (a || b) ≡ false → ⊥
    clash true b e f = cc
    clash false b e f = cc
one-front p (x ∷ one) more (y ∷ two) rest e none other =
    let same : x ≡ y = cc in
    let tails : one ++ p ∷ more ≡ two ++ p ∷ rest = cc in
    λ i. same i ∷ one-front p one more two rest tails (rest-none (nat_eq x p) (has one p) none) (rest-none (nat_eq y p) (has two p) other) i
  where
    rest-none : (a b : Bool) → (a || b) ≡ false → b ≡ false
    rest-none true b e = cc
    rest-none false b e = e
