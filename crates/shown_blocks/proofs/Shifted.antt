-- A block is passed: what is shown behind it, part by part (blocks, phases and slots by IEEE 1364-2001, clause 5).
use Rattle.std.proofs.Common.{◌≡◌, ℕ, zero, suc, ◌+◌, ◌-◌, ◌<◌, false, List, [], ◌∷◌, ◌++◌, map, length, get_or, drop, refl, sym, ap, subst, ◌∙◌, arith, append_assoc}
use Rattle.std.specs.Prelude.{Some, None, slice_get}
use Rattle.std.specs.List.{list_any}
use Rattle.std.proofs.lemmas.Option.{slice_get_within, slice_get-get_or}
use Rattle.vf_base.specs.Lists.{has, joined}
use Rattle.v_design.specs.Assignments.{value_at}
use Rattle.v_design.specs.Designs.{FlatDesign, Machine, TestPlan, good_machine}
use Rattle.v_design.specs.States.{State, Event, after, process_at}
use Rattle.v_design.specs.Runs.{happened}
use Rattle.copy_laws.specs.Moves.{ChangesOnly}
use Rattle.process_code.specs.declared.state.ProcState.{ProcState}
use Rattle.good_trace.specs.RunsKept.{Stands}
use Rattle.trace_window.specs.Moments.{Seen, seen_from, phase_seen, window_events}
use Rattle.trace_window.specs.Touched.{event_writes}
use Rattle.trace_window.specs.Writes.{Written, writes_from}
use Rattle.phase_blocks.proofs.Lists.{happened-append}
use Rattle.block_changes.specs.Changes.{ends_wait_of, steps_process, parts_changed}
use Rattle.moment_laws.specs.moment_parts.Within.{written_within, put_all, IsWokenIf}
use Rattle.moment_laws.proofs.moment_parts.Written.{put-events, put-other}
use Rattle.moment_laws.specs.window_wakes.Wakes.{WakeTold}
use Rattle.moment_laws.specs.lockstep_slots.Places.{Place, state_there}
use Rattle.moment_laws.specs.Places.{IsShownAt}
use Rattle.moment_laws.specs.Shown.{MomentKept}
use Rattle.moment_laws.specs.Steps.{woken_within}
use Rattle.shown_blocks.specs.Passages.{Passage, behind}
use Rattle.shown_blocks.proofs.Behind.{other-stands}
use Rattle.shown_blocks.proofs.Passed.{BlockLaws, BlockWrites, block-writes}
use Rattle.shown_blocks.proofs.Told.{written-has, woken-has}

behind-is : (design : FlatDesign) (place : Place) (block : List Event) → behind design place block ≡ happened (good_machine design) (state_there (good_machine design) place) block
behind-is design place block = happened-append (good_machine design) place.phase.begins place.passed block

-- Values

pub block-written : (design : FlatDesign) (plan : TestPlan) (place : Place) (old put taken : MomentKept) (block rest : List Event) (first : Event) (limit : ℕ) (wakes : List WakeTold) →
    Passage design plan place old put taken block rest first limit wakes → (written : List Written) × BlockWrites design place block old.moment written
    × (put.values ≡ put_all written old.values) × (put.changed ≡ map (λ (w : Written). w.object) written)
block-written design plan place old put taken block rest first limit wakes is = (
  written_within old.moment limit (writes_from (length (window_events design plan old.before (old.before + old.slot))) is.puts.accesses),
  block-writes design plan place old block rest limit is.puts.accesses is.shown is.at.parts is.limit_is is.puts.listed,
  is.puts.values,
  is.puts.changed,
)

pub values-behind : (design : FlatDesign) (plan : TestPlan) (place : Place) (old put taken : MomentKept) (block rest : List Event) (first : Event) (limit : ℕ) (wakes : List WakeTold) →
    Passage design plan place old put taken block rest first limit wakes → put.values ≡ (behind design place block).values
values-behind design plan place old put taken block rest first limit wakes is =
    let w = block-written design plan place old put taken block rest first limit wakes is in
    w.2 ∙ ap (λ v. put_all w.0 v) is.shown.shows.values ∙ ap (λ l. put_all l (state_there (good_machine design) place).values) w.1.are
    ∙ put-events (good_machine design) is.shown.in_order.rules (state_there (good_machine design) place) block w.1.lists old.moment w.1.listed
    ∙ sym (ap (λ (s : State). s.values) (behind-is design place block))

-- what is told to have changed
pub changed-told : (design : FlatDesign) (plan : TestPlan) (place : Place) (old put taken : MomentKept) (block rest : List Event) (first : Event) (limit : ℕ) (wakes : List WakeTold) (object : ℕ) →
    Passage design plan place old put taken block rest first limit wakes →
    has put.changed object ≡ list_any (event_writes (good_machine design) object) (seen_from (good_machine design) (state_there (good_machine design) place) block)
changed-told design plan place old put taken block rest first limit wakes object is =
    let w = block-written design plan place old put taken block rest first limit wakes is in
    ap (λ l. has l object) w.3 ∙ ap (λ l. has (map (λ (x : Written). x.object) l) object) w.1.are
    ∙ written-has (good_machine design) (seen_from (good_machine design) (state_there (good_machine design) place) block) w.1.lists old.moment object w.1.listed

-- an object that isn't told keeps its value
pub value-kept : (design : FlatDesign) (plan : TestPlan) (place : Place) (old put taken : MomentKept) (block rest : List Event) (first : Event) (limit : ℕ) (wakes : List WakeTold) (object : ℕ) →
    Passage design plan place old put taken block rest first limit wakes → has put.changed object ≡ false →
    value_at (happened (good_machine design) (state_there (good_machine design) place) block).values object ≡ value_at (state_there (good_machine design) place).values object
value-kept design plan place old put taken block rest first limit wakes object is none =
    let w = block-written design plan place old put taken block rest first limit wakes is in
    ap (λ (s : State). value_at s.values object) (sym (behind-is design place block))
    ∙ ap (λ v. get_or v object []) (sym (values-behind design plan place old put taken block rest first limit wakes is) ∙ w.2)
    ∙ put-other w.0 old.values object (sym (ap (λ l. has l object) w.3) ∙ none) ∙ ap (λ v. get_or v object []) is.shown.shows.values

-- Wakes

dropped : {A : Type 0} (n : ℕ) (xs : List A) (k : ℕ) → slice_get (drop n xs) k ≡ slice_get xs (n + k)
dropped zero xs k = let e : k ≡ 0 + k = omega arith in ap (λ j. slice_get xs j) e
dropped (suc n) [] k = nothing k ∙ sym (nothing (suc n + k))
  where
    nothing : {A : Type 0} (j : ℕ) → slice_get {X = A} [] j ≡ None
    nothing zero = refl
    nothing (suc j) = refl
dropped (suc n) (x ∷ xs) k = dropped n xs k ∙ (let e : suc (n + k) ≡ suc n + k = omega arith in ap (λ j. slice_get (x ∷ xs) j) e)

block-front : (machine : Machine) (state : State) (block rest : List Event) (late : List Seen) (number : ℕ) → number < length block →
    slice_get (seen_from machine state (block ++ rest) ++ late) number ≡ slice_get (seen_from machine state block) number
block-front machine state [] rest late number low = absurd (omega (arith, low))
block-front machine state (event ∷ block) rest late zero low = refl
block-front machine state (event ∷ block) rest late (suc number) low = block-front machine (after machine state event) block rest late number (omega (arith, low))

-- the events of the window from the moment on are those of the block
window-block : (design : FlatDesign) (plan : TestPlan) (place : Place) (old : MomentKept) (block rest : List Event) → IsShownAt design plan place old → place.left ≡ block ++ rest → (number : ℕ) →
    number < length block →
    slice_get (window_events design plan old.before old.through) (old.moment + number) ≡ slice_get (seen_from (good_machine design) (state_there (good_machine design) place) block) number
window-block design plan place old block rest shown left number low =
    sym (dropped old.moment (window_events design plan old.before old.through) number) ∙ ap (λ l. slice_get l number) shown.at_moment.seen_are
    ∙ ap (λ l. slice_get l number) (append_assoc (seen_from machine there place.left) late shown.at_moment.others)
    ∙ ap (λ (l : List Event). slice_get (seen_from machine there l ++ (late ++ shown.at_moment.others)) number) left
    ∙ block-front machine there block rest (late ++ shown.at_moment.others) number low
  where
    machine : Machine
    machine = good_machine design

    there : State
    there = state_there machine place

    late : List Seen
    late = joined (map (phase_seen machine) place.later)

pub woken-told : (design : FlatDesign) (plan : TestPlan) (place : Place) (old put taken : MomentKept) (block rest : List Event) (first : Event) (limit : ℕ) (wakes : List WakeTold) (p : ℕ) →
    Passage design plan place old put taken block rest first limit wakes →
    has (woken_within old.moment limit wakes) p ≡ ends_wait_of (good_machine design) (state_there (good_machine design) place) block p
woken-told design plan place old put taken block rest first limit wakes p is =
    woken-has (good_machine design) (window_events design plan old.before old.through) wakes (state_there (good_machine design) place) block old.moment limit p is.each is.limit_is
    (window-block design plan place old block rest is.shown is.at.parts)

-- a process that the block only wakes, or leaves
pub other-shown : BlockLaws → (design : FlatDesign) (plan : TestPlan) (place : Place) (old put taken : MomentKept) (block rest : List Event) (first : Event) (limit : ℕ) (wakes : List WakeTold) (p : ℕ) (own : ProcState) →
    Passage design plan place old put taken block rest first limit wakes → steps_process block p ≡ false → slice_get put.states p ≡ Some own →
    Stands design p (process_at (behind design place block) p).activity own
other-shown laws design plan place old put taken block rest first limit wakes p own is none here =
    other-stands laws.leave design place block rest p before own is.at none (is.shown.shows.stands p before there)
    (subst (λ b. IsWokenIf b before own) (woken-told design plan place old put taken block rest first limit wakes p is) (is.puts.states.each p before own there here))
  where
    low : p < length old.states
    low = let l = slice_get_within put.states p own here in let e : length put.states ≡ length old.states = is.puts.states.count in omega (arith, l, e)

    before : ProcState
    before = get_or old.states p own

    there : slice_get old.states p ≡ Some before
    there = slice_get-get_or old.states p own low

-- Processes

-- how many there are
pub counts-behind : BlockLaws → (design : FlatDesign) (plan : TestPlan) (place : Place) (old : MomentKept) (block : List Event) → IsShownAt design plan place old →
    ChangesOnly (parts_changed (good_machine design) (state_there (good_machine design) place) block) (state_there (good_machine design) place) (happened (good_machine design) (state_there (good_machine design) place) block)
counts-behind laws design plan place old block shown = laws.changes (good_machine design) (state_there (good_machine design) place) block shown.shows.node_count
