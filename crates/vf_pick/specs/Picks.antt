-- The strobes that are picked, each with the fault for which it is kept (nothing of the language).
use Rattle.std.specs.Prelude.{◌≡◌, ℕ, List, Some, find}
use Rattle.std.specs.List.{AllZip}
use Rattle.strobe_detect.specs.declared.hard.Hard.{Hard}
use Rattle.pick_laws.specs.Kept.{kept_strobes, needs}
use Rattle.vf_pick.specs.Faults.{lists_of}
use Rattle.vf_pick.specs.declared.picking.Picked.{Picked}

-- a strobe stands with the first fault whose only kept hard strobe it is
abbrev pub StandsFor : List Hard → List ℕ → ℕ → Picked → Type 0
StandsFor hard kept strobe picked =
    (picked.time ≡ strobe) × ((one : Hard) × (find (λ (other : Hard). needs kept strobe other.times) hard ≡ Some one) × (picked.fault ≡ one.fault))

-- the kept strobes, ascending, each with its fault
abbrev pub ArePicked : List ℕ → List Hard → List Picked → Type 0
ArePicked strobes hard picked = AllZip (StandsFor hard (kept_strobes (lists_of hard) strobes)) (kept_strobes (lists_of hard) strobes) picked
