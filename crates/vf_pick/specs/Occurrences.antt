-- The hard strobes of all faults as occurrences: the place of a strobe, at the fault that has it (nothing of the language).
use Rattle.std.specs.Prelude.{ℕ, ◌+◌, List, [], ◌∷◌, ◌++◌, map, nat_eq}
use Rattle.std.specs.List.{position_or_len}
use Rattle.window_index.specs.declared.occurrence.Occurrence.{Occurrence}

-- a hard strobe of a fault
abbrev pub occurrence_of : List ℕ → ℕ → ℕ → Occurrence
occurrence_of strobes fault time = record { number = position_or_len (nat_eq time) strobes; moment = fault }

-- the hard strobes of some faults, which are counted from a number on
abbrev pub occurrences_from : List ℕ → ℕ → List (List ℕ) → List Occurrence
occurrences_from strobes number [] = []
occurrences_from strobes number (times ∷ faults) = map (occurrence_of strobes number) times ++ occurrences_from strobes (number + 1) faults
