-- The comparison of keys (nothing of the language).
use Rattle.std.specs.Prelude.{◌≡◌, ℕ, Bool, true, false, Option, Some, None}
use Rattle.fault_list.specs.declared.key.FaultKey.{FaultKey}
use Rattle.fault_list.specs.contracts.key.FaultKeyPartialEq.TheImpl as key_eq

-- whether two keys are the same
abbrev pub same_key : FaultKey → FaultKey → Bool
same_key = (key_eq.ghosts).eq

-- what a map has at a key after the first meeting of another key
abbrev pub met_at : Option ℕ → Bool → ℕ → Option ℕ → Option ℕ
met_at (Some first) same place old = old
met_at None true place old = Some place
met_at None false place old = old

-- the place that is kept
abbrev pub met_place : Option ℕ → ℕ → ℕ
met_place (Some first) place = first
met_place None place = place

-- a key was met at a place: the first place stays
pub record IsMet (old : FaultKey → Option ℕ) (key : FaultKey) (place first : ℕ) (new : FaultKey → Option ℕ) : Type 0 where
  pub is : first ≡ met_place (old key) place
  pub all : (other : FaultKey) → new other ≡ met_at (old key) (same_key key other) place (old other)
