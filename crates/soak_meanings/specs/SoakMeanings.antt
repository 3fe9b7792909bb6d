-- What the generated texts say (IEEE 1364-2001, clauses 2 and 12, annex A; the format of plans is this program's own).
use Rattle.std.specs.Prelude.{ℕ, ◌≤◌, codes}
use Rattle.v_design.specs.Designs.{FlatDesign, TestPlan}
use Rattle.v_elab.specs.declared.Mode.TheVariants.{Usual}
use Rattle.elaborate.specs.Meanings.{IsDesignOf}
use Rattle.plan_read.specs.Spelled.{Spells}
use Rattle.soak_text.specs.Soak.{design_text, plan_text}

-- the text of each number and size says a design, and over it the text of the size's plan spells a plan
abbrev pub TextsAreAccepted : Type 0
TextsAreAccepted =
    (number size : ℕ) → 1 ≤ size → size ≤ 4000 →
    (design : FlatDesign) × IsDesignOf (design_text number size) (codes "top") Usual design × (plan : TestPlan) × Spells design (plan_text size) plan
