-- The plan of the generated design (the format is this program's own).
use Rattle.std.specs.Prelude.{◌≡◌, ℕ, ◌≤◌, Ok}
use Rattle.v_design.specs.Designs.{FlatDesign, TestPlan}
use Rattle.v_elab.specs.declared.Mode.TheVariants.{Usual}
use Rattle.v_elab.specs.Flat.{flat}
use Rattle.plan_read.specs.Spelled.{Spells}
use Rattle.soak_text.specs.Soak.{plan_text}
use Rattle.soak_tree.specs.SoakUnits.{top_name, soak_unit}

-- the unit of each number and size has a flat design, over which the text of the size's plan spells a plan
abbrev pub PlansAreRead : Type 0
PlansAreRead =
    (number size : ℕ) → 1 ≤ size → size ≤ 4000 →
    (design : FlatDesign) × (flat (soak_unit number size) top_name Usual ≡ Ok design) × (plan : TestPlan) × Spells design (plan_text size) plan
