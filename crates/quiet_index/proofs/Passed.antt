-- The numbers of the slots over which a copy is passed.
use Rattle.std.proofs.Common.{◌≡◌, ℕ, zero, suc, ◌<◌, ◌≤◌, List, [], ◌∷◌, length, sym, ap, subst, ◌∙◌, inl, inr, arith}
use Rattle.std.specs.Prelude.{Option, Some, None, slice_get}
use Rattle.std.proofs.lemmas.Bool.{cases_lt, cases_order}
use Rattle.std.proofs.lemmas.Option.{slice_get_cases, slice_get_within}
use Rattle.vf_base.specs.Lists.{AllHold}
use Rattle.v_design.specs.Designs.{FlatDesign, StuckAt, TestPlan, good_machine}
use Rattle.v_design.specs.Runs.{FirstSlot, first_run}
use Rattle.v_design.specs.Grades.{Stop}
use Rattle.order_laws.specs.FirstRuns.{Rise, FirstRunsGoOn}
use Rattle.copy_laws.specs.Differences.{Differences}
use Rattle.copy_laws.specs.Windows.{good_slots}
use Rattle.grade_laws.specs.Ahead.{StopsAfter}
use Rattle.grade_laws.specs.Grading.{good_stop}
use Rattle.quiet_slots.specs.Quiet.{QuietSlotsPass}
use Rattle.quiet_slots.specs.SlotMoves.{through-get}
use Rattle.quiet_index.specs.Indexed.{AllLeaveAlone, IndexTellsQuiet}
use Rattle.quiet_index.specs.PassOver.{CanPassOver, CopiesPassOver}

some-slot : (one other : FirstSlot) → Some one ≡ Some other → one ≡ other
some-slot one other e = cc

all-at : (P : FirstSlot → Type 0) (slots : List FirstSlot) (number : ℕ) (slot : FirstSlot) → AllHold P slots → slice_get slots number ≡ Some slot → P slot
all-at P [] number slot all here = cc
all-at P (first ∷ slots) zero slot all here = subst P (some-slot first slot here) all.0
all-at P (first ∷ slots) (suc number) slot all here = all-at P slots number slot all.1 here

-- slots of greater numbers begin later
rise-at : (slots : List FirstSlot) → Rise slots → (one other : ℕ) (first second : FirstSlot) → one < other → slice_get slots one ≡ Some first → slice_get slots other ≡ Some second →
    first.begins.time < second.begins.time
rise-at [] rise one other first second low here there = cc
rise-at (slot ∷ slots) rise zero zero first second low here there = absurd (omega (arith, low))
rise-at (slot ∷ slots) rise zero (suc other) first second low here there =
    subst (λ (s : FirstSlot). s.begins.time < second.begins.time) (some-slot slot first here)
    (all-at (λ (later : FirstSlot). slot.begins.time < later.begins.time) slots other second rise.0 there)
rise-at (slot ∷ slots) rise (suc one) zero first second low here there = absurd (omega (arith, low))
rise-at (slot ∷ slots) rise (suc one) (suc other) first second low here there = rise-at slots rise.1 one other first second (omega (arith, low)) here there

good-rise : FirstRunsGoOn → (design : FlatDesign) (plan : TestPlan) (fault : StuckAt) (d : Differences) (last ends from until : ℕ) → CanPassOver design plan fault d last ends from until →
    (one other : ℕ) (first second : FirstSlot) → one < other → slice_get (good_slots design plan) one ≡ Some first → slice_get (good_slots design plan) other ≡ Some second →
    first.begins.time < second.begins.time
good-rise law design plan fault d last ends from until can one other first second low here there =
    rise-at (first_run (good_machine design) plan.end) (law.rise (good_machine design) plan.end can.rules) one other first second low
    (through-get (good_machine design) (first_run (good_machine design) plan.end) one first here) (through-get (good_machine design) (first_run (good_machine design) plan.end) other second there)

all-alone : FirstRunsGoOn → (design : FlatDesign) (plan : TestPlan) (fault : StuckAt) (d : Differences) (last ends from until : ℕ) → CanPassOver design plan fault d last ends from until →
    AllLeaveAlone design plan fault d from until
all-alone law design plan fault d last ends from until can number slot here late early = can.alone number slot here after before
  where
    rise : (one other : ℕ) (first second : FirstSlot) → one < other → slice_get (good_slots design plan) one ≡ Some first → slice_get (good_slots design plan) other ≡ Some second →
        first.begins.time < second.begins.time
    rise = good-rise law design plan fault d last ends from until can

    after : suc last ≤ number
    after = elim (cases_order last number) [
      | inl same ↦
          let is : can.slot ≡ slot = some-slot can.slot slot (sym can.stands ∙ ap (slice_get (good_slots design plan)) same ∙ here) in
          let behind : can.slot.begins.time ≤ from = can.behind in
          let one : can.slot.begins.time ≡ slot.begins.time = ap (λ (s : FirstSlot). s.begins.time) is in
          absurd (omega (arith, behind, one, late))
      | inr (inl low) ↦ omega (arith, low)
      | inr (inr high) ↦
          let behind : can.slot.begins.time ≤ from = can.behind in
          let less : slot.begins.time < can.slot.begins.time = rise number last slot can.slot high here can.stands in
          absurd (omega (arith, behind, less, late))
    ]

    before : number < ends
    before = elim (cases_lt number ends) [
      | inl low ↦ low
      | inr high ↦ elim (slice_get_cases (good_slots design plan) ends).1 [
        | inl found ↦
            let next : until < found.0.begins.time = can.before found.0 found.2 in
            elim (cases_order ends number) [
              | inl same ↦
                  let one : found.0.begins.time ≡ slot.begins.time =
                  ap (λ (s : FirstSlot). s.begins.time) (some-slot found.0 slot (sym found.2 ∙ ap (slice_get (good_slots design plan)) same ∙ here)) in
                  absurd (omega (arith, next, one, early))
              | inr (inl low) ↦
                  let less : found.0.begins.time < slot.begins.time = rise ends number found.0 slot low found.2 here in
                  absurd (omega (arith, next, less, early))
              | inr (inr wrong) ↦ absurd (omega (arith, high, wrong))
            ]
        | inr past ↦
            let within : number < length (good_slots design plan) = slice_get_within (good_slots design plan) number slot here in
            absurd (omega (arith, past.0, within, high))
      ]
    ]

stops-earlier : (from until : ℕ) (stop : Option Stop) → from ≤ until → StopsAfter until stop → StopsAfter from stop
stops-earlier from until None low h = tt
stops-earlier from until (Some stop) low h = let late : until < stop.time = h in let f : from < stop.time = omega (arith, low, late) in f

pub copies_pass_over : FirstRunsGoOn → QuietSlotsPass → IndexTellsQuiet → CopiesPassOver
copies_pass_over law pass tells design plan fault d last ends from until can =
    pass design plan fault d from until can.rules can.copy can.good_on can.own_on can.low can.by_end
    (tells design plan fault d from until can.rules can.copy can.activities can.updates (stops-earlier from until (good_stop design plan) can.low can.good_on) can.own_on
    (all-alone law design plan fault d last ends from until can))
