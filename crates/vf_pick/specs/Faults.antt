-- Which faults have a strobe, and how many of a fault's hard strobes stand (nothing of the language).
use Rattle.std.specs.Prelude.{◌≡◌, ℕ, ◌+◌, ◌<◌, Bool, true, false, List, [], ◌∷◌, map, filter, length, get_or}
use Rattle.vf_base.specs.Base.{fault_number}
use Rattle.vf_base.specs.Lists.{has}
use Rattle.v_design.specs.Expressions.{up_from}
use Rattle.strobe_detect.specs.declared.hard.Hard.{Hard}

-- the hard strobes of each fault
abbrev pub lists_of : List Hard → List (List ℕ)
lists_of hard = map (λ (one : Hard). one.times) hard

-- the hard strobes of so many faults, one after the other
abbrev pub AreInOrder : ℕ → List Hard → Type 0
AreInOrder count hard = map (λ (one : Hard). fault_number one.fault) hard ≡ up_from 0 count

-- the place, where a test holds, before some others
abbrev pub placed : Bool → ℕ → List ℕ → List ℕ
placed true place places = place ∷ places
placed false place places = places

-- the faults that have a strobe among their hard ones, counted from a number on
abbrev pub faults_with_from : ℕ → List (List ℕ) → ℕ → List ℕ
faults_with_from number [] strobe = []
faults_with_from number (times ∷ faults) strobe = placed (has times strobe) number (faults_with_from (number + 1) faults strobe)

-- the faults that have a strobe among their hard ones, by their places in the list
abbrev pub faults_with : List (List ℕ) → ℕ → List ℕ
faults_with faults strobe = faults_with_from 0 faults strobe

-- an index has for the place of each strobe the faults that have it
pub record IsFaultIndex (strobes : List ℕ) (faults : List (List ℕ)) (index : List (List ℕ)) : Type 0 where
  pub places : length index ≡ length strobes
  pub rows : (place : ℕ) → place < length strobes → get_or index place [] ≡ faults_with faults (get_or strobes place 0)

-- how many of a fault's hard strobes stand
abbrev pub standing_count : List ℕ → List ℕ → ℕ
standing_count standing times = length (filter (has standing) times)

-- some counts say of each fault how many of its hard strobes stand
pub record AreCounts (faults : List (List ℕ)) (standing counts : List ℕ) : Type 0 where
  pub whole : length counts ≡ length faults
  pub right : (place : ℕ) → place < length faults → get_or counts place 0 ≡ standing_count standing (get_or faults place [])
