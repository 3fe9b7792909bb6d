-- What a search of a window says of a copy (slots by IEEE 1364-2001, clause 5).
use Rattle.std.proofs.Common.{◌≡◌, ℕ, zero, suc, ◌+◌, ◌<◌, ◌≤◌, List, [], ◌∷◌, length, sym, subst, ◌∙◌, arith}
use Rattle.std.specs.Prelude.{Option, Some, slice_get}
use Rattle.std.specs.List.{Contains}
use Rattle.vf_base.specs.Lists.{AllHold}
use Rattle.v_design.specs.Designs.{FaultSite, FlatDesign, StuckAt, TestPlan, good_machine, faulty_machine}
use Rattle.v_design.specs.Sites.{sites_of}
use Rattle.v_design.specs.WellFormed.{IsPlanOf}
use Rattle.process_code.specs.declared.code.Code.{Code}
use Rattle.copy_laws.specs.Differences.{Differences}
use Rattle.copy_laws.specs.Windows.{IsCopyAt, state_at}
use Rattle.copy_state.specs.Kept.{CopyKept, activities_of, differences_of}
use Rattle.run_stands.specs.machine.Standing.{StandsBetween}
use Rattle.quiet_index.specs.PassOver.{SlotsLeaveAlone}
use Rattle.copy_skip.specs.Limits.{AreThere, SiteIsThere}
use Rattle.copy_skip.specs.There.{SearchesBegin}
use Rattle.copy_window.specs.Copies.{differences_in}
use Rattle.copy_pass.specs.Alone.{IsAlone, values_alone}

-- where none of so many slots of the window may touch the copy
pub left-alone : (codes : List Code) (design : FlatDesign) (plan : TestPlan) (fault : StuckAt) (before touched slots : ℕ) (kept : CopyKept) → kept.states ≡ [] → kept.updates ≡ [] →
    SlotsLeaveAlone design plan fault (differences_of codes kept) (before + 0) (before + touched) → slots ≤ touched → IsAlone design plan fault before (before + slots) kept
left-alone codes design plan fault before touched slots kept states updates alone low =
    let alike : differences_of codes kept ≡ values_alone kept = λ i. record { values = kept.values; activities = activities_of codes (states i); updates = updates i } in
    let same : SlotsLeaveAlone design plan fault (values_alone kept) (before + 0) (before + touched) =
    subst (λ (d : Differences). SlotsLeaveAlone design plan fault d (before + 0) (before + touched)) alike alone in
    record { states = states; updates = updates; alone = λ number slot here since high. same number slot here (omega (arith, since)) (omega (arith, high, low)) }

-- of slots that leave a copy alone the first ones do
pub fewer-alone : (design : FlatDesign) (plan : TestPlan) (fault : StuckAt) (before fewer slots : ℕ) (kept : CopyKept) → fewer ≤ slots → IsAlone design plan fault before (before + slots) kept →
    IsAlone design plan fault before (before + fewer) kept
fewer-alone design plan fault before fewer slots kept low all =
    record { states = all.states; updates = all.updates; alone = λ number slot here since high. all.alone number slot here since (omega (arith, high, low)) }

all-at : (P : StuckAt → Type 0) (faults : List StuckAt) (number : ℕ) (fault : StuckAt) → AllHold P faults → slice_get faults number ≡ Some fault → P fault
all-at P [] number fault all here = cc
all-at P (first ∷ faults) zero fault all here = subst P (some-is first fault here) all.0
  where
    some-is : (one other : StuckAt) → Some one ≡ Some other → one ≡ other
    some-is one other e = cc
all-at P (first ∷ faults) (suc number) fault all here = all-at P faults number fault all.1 here

-- a listed fault is a site of the design
pub site-there : SearchesBegin → (design : FlatDesign) (plan : TestPlan) (number : ℕ) (fault : StuckAt) → IsPlanOf design plan → slice_get plan.faults number ≡ Some fault →
    SiteIsThere design fault.site
site-there law design plan number fault fits listed = law.sites design fault.site (all-at (λ (f : StuckAt). Contains (sites_of design) f.site) plan.faults number fault fits.faults listed)

-- a copy has values of objects of the design
pub values-there : SearchesBegin → (design : FlatDesign) (plan : TestPlan) (fault : StuckAt) (now : ℕ) (kept : CopyKept) → IsCopyAt design plan fault now (differences_in design kept) →
    StandsBetween (faulty_machine design fault) (state_at (faulty_machine design fault) plan.end now) → AreThere design kept.values
values-there law design plan fault now kept copy between =
    law.values design (differences_in design kept) (state_at (good_machine design) plan.end now) (state_at (faulty_machine design fault) plan.end now)
    (sym copy.stands.value_count ∙ between.values) copy.stands copy.nothing_equal
