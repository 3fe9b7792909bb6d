-- Sets of processes by number, with the least member (nothing of the language).
use Rattle.std.specs.Prelude.{◌≡◌, ℕ, ◌<◌, ◌≤◌, ◌^◌, Bool, true, false, List, length, get_or}

-- no member from one number on to another, which is a member where it is below the length
pub record IsLeastFrom (members : List Bool) (from least : ℕ) : Type 0 where
  pub above : from ≤ least
  pub within : least ≤ length members
  pub none : (number : ℕ) → from ≤ number → number < least → get_or members number false ≡ false
  pub member : least < length members → get_or members least false ≡ true

-- a set and its least member
pub record IsSet (members : List Bool) (least : ℕ) : Type 0 where
  pub few : length members < 2 ^ 32
  pub first : IsLeastFrom members 0 least
