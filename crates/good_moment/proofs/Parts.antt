-- The parts of a slot's tables that a block takes: changes within bounds, and runs up to one of a process (blocks by IEEE 1364-2001, clause 5).
use Rattle.std.proofs.Common.{◌≡◌, ℕ, zero, suc, ◌+◌, ◌-◌, ◌<◌, ◌≤◌, Bool, true, false, ◌||◌, List, [], ◌∷◌, ◌++◌, map, subst, filter, length, get_or, set, take, drop, refl, sym, ap, ◌∙◌, arith, length-append}
use Rattle.std.specs.Prelude.{Some, None, nat_eq, slice_get}
use Rattle.std.specs.Option.{option_map}
use Rattle.std.specs.List.Sorted.{IsNonDecreasingBy}
use Rattle.std.proofs.lemmas.Bool.{eq-eqb}
use Rattle.std.proofs.lemmas.List.{map-set}
use Rattle.std.proofs.lemmas.Option.{slice_get_within}
use Rattle.vf_base.specs.Base.{object_number, process_number}
use Rattle.vf_base.specs.Lists.{has}
use Rattle.v_design.specs.Designs.{FlatDesign, Machine, TestPlan}
use Rattle.v_design.specs.Grades.{Phase}
use Rattle.v_design.specs.States.{rest_of}
use Rattle.process_code.specs.declared.state.RunEnd.{RunEnd}
use Rattle.run_ends.specs.RunEnds.{Ender, ender_told}
use Rattle.good_trace.specs.SlotsTold.{AreWritesOf, slot_run_ends}
use Rattle.trace_window.specs.Moments.{Seen}
use Rattle.trace_window.specs.Writes.{Written, written_of, writes_from}
use Rattle.trace_window.specs.declared.change.Change.{Change}
use Rattle.window_runs.specs.RunsByProcess.{run_process}
use Rattle.moment_slices.specs.Within.{comes_within}
use Rattle.passed_blocks.specs.window_wakes.declared.wake.Wake.{Wake}
use Rattle.passed_blocks.specs.window_wakes.Wakes.{WakeTold, wake_of}
use Rattle.moment_parts.specs.Lanes.{lane_left, lanes_left}
use Rattle.moment_parts.specs.declared.lane.Lane.{Lane}
use Rattle.moment_parts.specs.Within.{written_within}
use Rattle.moment_parts.proofs.Written.{changes-ascend, filter-written}
use Rattle.four_value.specs.Values.{LogicValue}
use Rattle.moment_parts.specs.declared.kept.Standing.{Standing}
use Rattle.moment_parts.specs.declared.kept.Passed.{Passed}
use Rattle.good_moment.specs.declared.place.MomentPlace.{MomentPlace}
use Rattle.good_moment.specs.Kept.{kept_of}
use Rattle.passed_blocks.specs.moment_laws.Places.{IsInWindow}
use Rattle.passed_blocks.specs.moment_laws.Shown.{MomentKept}
use Rattle.passed_blocks.specs.moment_laws.Steps.{untold, slot_enders, HasRuns}
use Rattle.between_slots.specs.Between.{window_phases}

-- Views

-- what holds of what is kept holds of what contracts see
pub view-old : (P : MomentKept → MomentKept → Type 0) (kept old new : MomentKept) → kept ≡ old → P kept new → P old new
view-old P kept old new same is = subst (λ k. P k new) same is

-- Changes

-- those of a slot come in the order of their moments
pub changes-rise : (machine : Machine) (seen : List Seen) (first : ℕ) (changes : List Change) → AreWritesOf machine seen first (map written_of changes) →
    IsNonDecreasingBy (λ (change : Change). change.moment) changes
changes-rise machine seen first changes are = changes-ascend first changes are.accesses are.are

-- those within bounds are the writes that are
pub changes-within : (machine : Machine) (seen : List Seen) (first moment limit : ℕ) (changes part : List Change) → (are : AreWritesOf machine seen first (map written_of changes)) →
    part ≡ filter (λ (change : Change). comes_within moment limit change.moment) changes → map written_of part ≡ written_within moment limit (writes_from first are.accesses)
changes-within machine seen first moment limit changes part are is = ap (map written_of) is ∙ filter-written moment limit changes ∙ ap (written_within moment limit) are.are

-- Runs

enders-mapped : (runs : List RunEnd) → map (λ (ender : Ender). ender.process) (map ender_told runs) ≡ map run_process runs
enders-mapped [] = refl
enders-mapped (run ∷ runs) = ap (λ l. run_process run ∷ l) (enders-mapped runs)

map-drop : (n : ℕ) (runs : List RunEnd) → map run_process (drop n runs) ≡ drop n (map run_process runs)
map-drop zero runs = refl
map-drop (suc n) [] = refl
map-drop (suc n) (run ∷ runs) = map-drop n runs

map-take : (n : ℕ) (runs : List RunEnd) → map run_process (take n runs) ≡ take n (map run_process runs)
map-take zero runs = refl
map-take (suc n) [] = refl
map-take (suc n) (run ∷ runs) = ap (λ l. run_process run ∷ l) (map-take n runs)

-- the processes of the runs that are left
pub runs-left : (design : FlatDesign) (plan : TestPlan) (before number from : ℕ) (runs : List RunEnd) (left : List ℕ) → map ender_told runs ≡ slot_run_ends design plan before number →
    drop from (slot_enders design plan before number) ≡ left → map run_process (drop from runs) ≡ left
runs-left design plan before number from runs left are is =
    map-drop from runs ∙ ap (drop from) (sym (enders-mapped runs) ∙ ap (map (λ (ender : Ender). ender.process)) are) ∙ is

pub has-own : (others rest : List ℕ) (q : ℕ) → has (others ++ q ∷ rest) q ≡ true
has-own [] rest q = ap (λ b. b || has rest q) (eq-eqb q q refl)
has-own (x ∷ others) rest q = or-right (nat_eq x q) (has (others ++ q ∷ rest) q) (has-own others rest q)
  where
    or-right : (a b : Bool) → b ≡ true → (a || b) ≡ true
    or-right true b e = refl
    or-right false b e = e

take-front : (others rest : List ℕ) (q : ℕ) → take (length others + 1) (others ++ q ∷ rest) ≡ others ++ q ∷ []
take-front [] rest q = refl
take-front (x ∷ others) rest q =
    (let o : length (x ∷ others) ≡ suc (length others) = refl in let l : length (x ∷ others) + 1 ≡ suc (length others + 1) = omega (arith, o) in ap (λ n. take n (x ∷ (others ++ q ∷ rest))) l) ∙ ap (λ l. x ∷ l) (take-front others rest q)

-- those up to the one of a process
pub runs-front : (runs : List RunEnd) (from to q : ℕ) (others rest : List ℕ) → map run_process (drop from runs) ≡ others ++ q ∷ rest → to ≡ from + length others + 1 →
    map run_process (take (to - from) (drop from runs)) ≡ others ++ q ∷ []
runs-front runs from to q others rest are is =
    map-take (to - from) (drop from runs) ∙ ap (take (to - from)) are ∙ (let e : to - from ≡ length others + 1 = omega (arith, is) in ap (λ n. take n (others ++ q ∷ rest)) e) ∙ take-front others rest q

-- the phase of a number from 1 on
same-phase : (a b : Phase) → Some a ≡ Some b → a ≡ b
same-phase a b e = cc

pub phase-numbered : (phases : List Phase) (number before : ℕ) (phase one : Phase) → slice_get phases number ≡ Some phase → number + 1 ≡ before + 1 → slice_get phases before ≡ Some one → phase ≡ one
phase-numbered phases number before phase one there same here =
    same-phase phase one (sym there ∙ (let e : number ≡ before = omega (arith, same) in ap (λ n. slice_get phases n) e) ∙ here)

pub phase-bounds : (phases : List Phase) (number : ℕ) (phase : Phase) → slice_get phases number ≡ Some phase → (1 ≤ number + 1) × (number + 1 ≤ length phases)
phase-bounds phases number phase there = ((omega arith), (let l : number < length phases = slice_get_within phases number phase there in omega (arith, l)))

-- the runs of a block, among those that a window tells of its slot
pub record RunsTold (design : FlatDesign) (plan : TestPlan) (before through q : ℕ) (kept : MomentKept) (ends : List RunEnd) : Type 0 where
  pub runs : HasRuns design plan q kept
  pub left : map run_process (drop kept.runs ends) ≡ runs.others ++ q ∷ runs.rest
  pub there : slice_get (window_phases design plan before through) kept.phase ≡ Some runs.phase

pub runs-told : (design : FlatDesign) (plan : TestPlan) (before through slot q : ℕ) (kept old : MomentKept) (ends : List RunEnd) → kept ≡ old → IsInWindow before through old → slot ≡ old.slot →
    HasRuns design plan q old → map ender_told ends ≡ slot_run_ends design plan before (before + slot) → RunsTold design plan before through q kept ends
runs-told design plan before through slot q kept old ends same window slot_is has_runs told = record {
  runs = own;
  left =
      runs-left design plan kept.before (kept.before + kept.slot) kept.runs ends (own.others ++ q ∷ own.rest)
      (told ∙ (λ i. slot_run_ends design plan (begins i) (begins i + (slot_is ∙ sym (ap (λ (k : MomentKept). k.slot) same)) i))) own.enders;
  there = (λ i. slice_get (window_phases design plan (begins i) (through_is i)) kept.phase) ∙ own.phase_is;
}
  where
    own : HasRuns design plan q kept
    own = subst (λ k. HasRuns design plan q k) (sym same) has_runs

    begins : before ≡ kept.before
    begins = sym (ap (λ (k : MomentKept). k.before) same ∙ window.before_is)

    through_is : through ≡ kept.through
    through_is = sym (ap (λ (k : MomentKept). k.through) same ∙ window.through_is)

-- As told

pub mapped-objects : (changes : List Change) → map (λ (change : Change). object_number change.object) changes ≡ map (λ (write : Written). write.object) (map written_of changes)
mapped-objects [] = refl
mapped-objects (change ∷ changes) = ap (λ l. object_number change.object ∷ l) (mapped-objects changes)

pub mapped-processes : (wakes : List Wake) → map (λ (wake : Wake). process_number wake.process) wakes ≡ map (λ (wake : WakeTold). wake.process) (map wake_of wakes)
mapped-processes [] = refl
mapped-processes (wake ∷ wakes) = ap (λ l. process_number wake.process ∷ l) (mapped-processes wakes)

pub runs-long : (from : ℕ) (others : List ℕ) (q : ℕ) → from + length others + 1 ≡ from + length (others ++ q ∷ [])
runs-long from others q = let e : length (others ++ q ∷ []) ≡ length others + length (q ∷ []) = length-append others (q ∷ []) in let l : length (q ∷ []) ≡ 1 = refl in omega (arith, e, l)

-- Lanes

lane-mapped : (lanes : List Lane) (p : ℕ) (own : Lane) → p < length lanes → own ≡ get_or lanes p own → get_or (lanes_left lanes) p [] ≡ lane_left own
lane-mapped [] p own low is = absurd (omega (arith, low))
lane-mapped (x ∷ lanes) zero own low is = ap lane_left (sym is)
lane-mapped (x ∷ lanes) (suc p) own low is = lane-mapped lanes p own (omega (arith, low)) is

pub lane-put : (lanes : List Lane) (p : ℕ) (old made : Lane) → p < length lanes → old ≡ get_or lanes p old → lane_left made ≡ rest_of (lane_left old) →
    lanes_left (set lanes p made) ≡ set (lanes_left lanes) p (rest_of (get_or (lanes_left lanes) p []))
lane-put lanes p old made low is taken =
    map-set lane_left lanes p made ∙ ap (set (lanes_left lanes) p) (taken ∙ ap rest_of (sym (lane-mapped lanes p old low is)))

-- Nothing is told any more

pub untold-is : (place : MomentPlace) (time : ℕ) (values : List LogicValue) (standing : Standing) (old new : Passed) → new.changed.items ≡ [] → new.acted.items ≡ [] → new.lane ≡ None →
    kept_of place time values standing new ≡ untold (kept_of place time values standing old)
untold-is place time values standing old new changed acted lane =
    λ i. record (kept_of place time values standing old) { changed = map object_number (changed i); acted = map process_number (acted i); lane = option_map process_number (lane i) }
