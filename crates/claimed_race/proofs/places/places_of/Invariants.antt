use Rattle.std.proofs.Common.{◌≡◌, ◌++◌, drop}
use Rattle.v_design.specs.PlainDesigns.{design_of}
use Rattle.causal_monitor.specs.Index.{accesses_in}
use Rattle.claimed_race.specs.Places.{places_of, PrintsIfKnown}
use Rattle.claimed_race.proofs.places.places_of.Given as goal

abbrev pub invariant-accesses : goal.invariant-accesses
invariant-accesses l =
    (l.places.items ++ places_of (design_of l.design) l.text l.place (drop l.place (accesses_in l.index)) ≡ places_of (design_of l.design) l.text 0 (accesses_in l.index))
    × PrintsIfKnown (design_of l.design) l.text l.known
