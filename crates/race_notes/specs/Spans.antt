-- The moments of blocks (nothing of the language).
use Rattle.std.specs.Prelude.{◌≡◌, ◌≤◌, ◌<◌, ℕ, List}
use Rattle.copy_laws.specs.Filter.{IsIn}
use Rattle.race_notes.specs.declared.note.OwnSpan.{OwnSpan}

-- a moment lies in one of some blocks, which ends at another
pub record IsWithinSpan (spans : List OwnSpan) (moment end : ℕ) : Type 0 where
  pub span : OwnSpan
  pub is_in : IsIn span spans
  pub since : span.begins ≤ moment
  pub before : moment < end
  pub end_is : end ≡ span.ends
