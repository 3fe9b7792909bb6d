-- Faults that the code lists, and those of some sites, each at 0 and then at 1 (nothing of the language).
use Rattle.std.specs.Prelude.{ℕ, ◌<◌, false, true, List, [], ◌∷◌, map, Option, Some, None}
use Rattle.vf_base.specs.Lists.{joined}
use Rattle.v_design.specs.Designs.{FlatDesign, FaultSite, OutputBit, StuckAt, width_in}
use Rattle.v_design.specs.Expressions.{up_from}
use Rattle.v_design.specs.Plain.{fault_of}
use Rattle.v_design.specs.declared.plan.Fault.{Fault}

-- the code's faults as plain data
abbrev pub stuck : List Fault → List StuckAt
stuck faults = map fault_of faults

-- each site held at 0, then at 1
abbrev pub both : List FaultSite → List StuckAt
both sites = joined (map (λ site. record { site = site; value = false } ∷ record { site = site; value = true } ∷ []) sites)

-- a number is past the last one
abbrev pub IsPast : Option ℕ → ℕ → Type 0
IsPast None number = Unit {0}
IsPast (Some last) number = last < number

-- the bits of some outputs of a node, in order
abbrev pub bits_of_outputs : FlatDesign → ℕ → List ℕ → List FaultSite
bits_of_outputs design number outputs = joined (map (λ object. map (OutputBit number object) (up_from 0 (width_in design object))) outputs)
