-- The accesses of a phase by their places (the order that IEEE 1364-2001, clause 5, leaves free decides which conflict).
use Rattle.std.specs.Prelude.{◌≡◌, ℕ, ◌+◌, Bool, true, ◌&&◌, List, [], ◌∷◌, Option, None, option_map, find, nat_lt}
use Rattle.std.specs.Option.{ForSome}
use Rattle.std.specs.Str.{bytes_eq}
use Rattle.vf_base.specs.Base.{reported_access}
use Rattle.vf_base.specs.declared.finding.Access.{Access}
use Rattle.v_design.specs.Designs.{FlatDesign}
use Rattle.v_design.specs.Laws.{place_if}
use Rattle.v_design.specs.Logs.{LoggedPhase, PhaseAccess, conflict}
use Rattle.grade_report.specs.Report.{access_text}
use Rattle.causal_monitor.specs.Links.{access_at}
use Rattle.cert_laws.specs.Valid.{prints}
use Rattle.replay_laws.specs.Claimed.{pair_or}

-- an access that may be known prints as a text
abbrev pub PrintsIfKnown : FlatDesign → List ℕ → Option Access → Type 0
PrintsIfKnown design text known = ForSome known (λ access. bytes_eq (access_text design (reported_access access)) text ≡ true)

-- the places, from a number on, of the accesses that print as a text
abbrev pub places_of : FlatDesign → List ℕ → ℕ → List PhaseAccess → List ℕ
places_of design text place [] = []
places_of design text place (access ∷ later) = place_if (prints design text access) place (places_of design text (place + 1) later)

-- whether a place is behind another and its access conflicts with the one there
abbrev pub is_second : LoggedPhase → List PhaseAccess → ℕ → ℕ → Bool
is_second log accesses first second = nat_lt first second && conflict log (access_at accesses first) (access_at accesses second)

-- the first of some places with the first of others behind it, whose accesses conflict
abbrev pub pair_of_places : LoggedPhase → List PhaseAccess → List ℕ → List ℕ → Option (ℕ × ℕ)
pair_of_places log accesses seconds [] = None
pair_of_places log accesses seconds (first ∷ firsts) =
    pair_or (option_map (λ second. (first, second)) (find (is_second log accesses first) seconds)) (pair_of_places log accesses seconds firsts)

-- the accesses at two places
abbrev pub both_at : List PhaseAccess → ℕ × ℕ → PhaseAccess × PhaseAccess
both_at accesses places = (access_at accesses places.0, access_at accesses places.1)
