-- The design of the generated unit (IEEE 1364-2001, clauses 7, 9 and 12).
use Rattle.std.specs.Prelude.{◌≡◌, ℕ, ◌≤◌, Ok}
use Rattle.v_design.specs.Designs.{FlatDesign}
use Rattle.v_elab.specs.declared.Mode.TheVariants.{Usual}
use Rattle.v_elab.specs.Flat.{flat}
use Rattle.soak_tree.specs.SoakUnits.{top_name, soak_unit}

-- the unit of each number and size has a flat design
abbrev pub UnitsHaveDesigns : Type 0
UnitsHaveDesigns = (number size : ℕ) → 1 ≤ size → size ≤ 4000 → (design : FlatDesign) × (flat (soak_unit number size) top_name Usual ≡ Ok design)
