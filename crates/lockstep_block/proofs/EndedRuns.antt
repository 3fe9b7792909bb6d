-- The phase of a place among those of a window, and the good machine's runs that end between two places of it.
use Rattle.std.proofs.Common.{◌≡◌, ℕ, zero, suc, ◌+◌, ◌-◌, ◌<◌, ◌≤◌, List, [], ◌∷◌, ◌++◌, length, map, take, drop, refl, sym, ap, subst, ◌∙◌, arith}
use Rattle.std.specs.Prelude.{Some, slice_get}
use Rattle.std.specs.List.{drop-map, take-map}
use Rattle.std.proofs.Math.Seq.{take-append_seam}
use Rattle.std.proofs.lemmas.List.{length-append, length-map}
use Rattle.std.proofs.lemmas.Option.{slice_get_within}
use Rattle.v_design.specs.Designs.{FlatDesign, TestPlan, good_machine}
use Rattle.v_design.specs.States.{State, Event}
use Rattle.process_code.specs.declared.state.RunEnd.{RunEnd}
use Rattle.run_ends.specs.RunEnds.{Ender, ender_told, enders_in}
use Rattle.between_slots.specs.Between.{window_phases}
use Rattle.good_trace.specs.SlotsTold.{slot_run_ends}
use Rattle.window_runs.specs.RunsByProcess.{run_process}
use Rattle.boundary_ends.proofs.Counts.{enders-append}
use Rattle.good_moment.proofs.shown_blocks.Passed.{enders-there}
use Rattle.good_moment.specs.moment_laws.Places.{IsInWindow, IsShownAt}
use Rattle.good_moment.specs.moment_laws.Steps.{slot_enders}
use Rattle.good_moment.specs.moment_laws.Shown.{MomentKept}
use Rattle.lockstep_steps.specs.lockstep_slots.Places.{Place, behind_events, state_there}
use Rattle.lockstep_block.proofs.OwnRuns.{at-length}

pub phase-at : (design : FlatDesign) (plan : TestPlan) (from until : ℕ) (place : Place) (kept : MomentKept) → IsInWindow from until kept → IsShownAt design plan place kept →
    slice_get (window_phases design plan from until) kept.phase ≡ Some place.phase
phase-at design plan from until place kept window shown =
    let own = shown.in_window in
    (λ i. slice_get (window_phases design plan (sym window.before_is i) (sym window.through_is i)) kept.phase) ∙ (λ i. slice_get (own.phases_are i) (own.number_is i))
    ∙ at-length own.before place.phase (place.later ++ own.others)

pub phase-low : (design : FlatDesign) (plan : TestPlan) (from until : ℕ) (place : Place) (kept : MomentKept) → IsInWindow from until kept → IsShownAt design plan place kept →
    kept.phase < length (window_phases design plan from until)
phase-low design plan from until place kept window shown =
    slice_get_within (window_phases design plan from until) kept.phase place.phase (phase-at design plan from until place kept window shown)

ended-mapped : (runs : List RunEnd) → map (λ (ender : Ender). ender.process) (map ender_told runs) ≡ map run_process runs
ended-mapped [] = refl
ended-mapped (run ∷ runs) = ap (λ l. run_process run ∷ l) (ended-mapped runs)

-- the processes of the runs that are left
runs-left : (design : FlatDesign) (plan : TestPlan) (before number from : ℕ) (runs : List RunEnd) (left : List ℕ) → map ender_told runs ≡ slot_run_ends design plan before number →
    drop from (slot_enders design plan before number) ≡ left → map run_process (drop from runs) ≡ left
runs-left design plan before number from runs left are is =
    sym (drop-map run_process from runs) ∙ ap (drop from) (sym (ended-mapped runs) ∙ ap (map (λ (ender : Ender). ender.process)) are) ∙ is

-- of the runs of a slot those between two places are those that end in the events between
pub record EndedTold (design : FlatDesign) (place : Place) (block : List Event) (before behind : MomentKept) (runs : List RunEnd) : Type 0 where
  pub long : behind.runs ≡ before.runs + length (enders_in (good_machine design) (state_there (good_machine design) place) block)
  pub within : before.runs < behind.runs → behind.runs ≤ length runs
  pub are : map run_process (take (behind.runs - before.runs) (drop before.runs runs)) ≡ enders_in (good_machine design) (state_there (good_machine design) place) block

drop-long : (from : ℕ) (runs : List RunEnd) → 0 < length (drop from runs) → length runs ≡ from + length (drop from runs)
drop-long zero runs some = omega arith
drop-long (suc from) [] some = absurd (omega (arith, some))
drop-long (suc from) (run ∷ runs) some = let rest = drop-long from runs some in omega (arith, rest)

pub ended-told : (design : FlatDesign) (plan : TestPlan) (from until slot : ℕ) (place : Place) (block rest : List Event) (before behind : MomentKept) (runs : List RunEnd) → IsInWindow from until before →
    slot ≡ before.slot → IsShownAt design plan place before → place.left ≡ block ++ rest → IsShownAt design plan (behind_events block rest place) behind →
    map ender_told runs ≡ slot_run_ends design plan from (from + slot) → EndedTold design place block before behind runs
ended-told design plan from until slot place block rest before behind runs window slot_is shown left later told =
    let enders = enders_in (good_machine design) (state_there (good_machine design) place) block in
    let more = enders-there design plan place before block rest shown left in
    let here : map ender_told runs ≡ slot_run_ends design plan before.before (before.before + before.slot) =
    told ∙ (λ i. slot_run_ends design plan (sym window.before_is i) (sym window.before_is i + slot_is i)) in
    let parts : map run_process (drop before.runs runs) ≡ enders ++ more.0 =
    runs-left design plan before.before (before.before + before.slot) before.runs runs (enders ++ more.0) here more.1 in
    let first = shown.counts.runs in
    let second = later.counts.runs in
    let joined : length (enders_in (good_machine design) place.phase.begins (place.passed ++ block)) ≡ length (enders_in (good_machine design) place.phase.begins place.passed) + length enders =
    ap length (enders-append (good_machine design) place.phase.begins place.passed block) ∙ length-append (enders_in (good_machine design) place.phase.begins place.passed) enders in
    let long : behind.runs ≡ before.runs + length enders = omega (arith, first, second, joined) in
    let count : length (drop before.runs runs) ≡ length enders + length more.0 = sym (length-map (drop before.runs runs) run_process) ∙ ap length parts ∙ length-append enders more.0 in
    record {
      long = long;
      within = λ some. let all = drop-long before.runs runs (omega (arith, some, long, count)) in omega (arith, all, count, long);
      are =
          sym (take-map run_process (behind.runs - before.runs) (drop before.runs runs)) ∙ ap (take (behind.runs - before.runs)) parts
          ∙ (let same : behind.runs - before.runs ≡ length enders = omega (arith, long) in ap (λ n. take n (enders ++ more.0)) same) ∙ take-append_seam enders more.0;
    }

-- none end where none are between
pub none-ended : (design : FlatDesign) (place : Place) (block : List Event) (before behind : MomentKept) (runs : List RunEnd) → EndedTold design place block before behind runs →
    behind.runs ≤ before.runs → [] ≡ enders_in (good_machine design) (state_there (good_machine design) place) block
none-ended design place block before behind runs told past = by (enders_in (good_machine design) (state_there (good_machine design) place) block) told.long
  where
    by : (enders : List ℕ) → behind.runs ≡ before.runs + length enders → [] ≡ enders
    by [] long = refl
    by (ender ∷ enders) long = absurd (omega (arith, long, past))
