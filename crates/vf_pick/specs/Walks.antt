-- The kept strobes by their places among all strobes (nothing of the language).
use Rattle.std.specs.Prelude.{◌≡◌, ℕ, ◌<◌, List, map, length, get_or, All}
use Rattle.pick_laws.specs.Kept.{kept_strobes}
use Rattle.vf_pick.specs.Faults.{AreCounts}

-- the strobes at some places
abbrev pub strobes_at : List ℕ → List ℕ → List ℕ
strobes_at strobes places = map (λ place. get_or strobes place 0) places

-- some places are those of the kept strobes, and some counts say of each fault how many of its hard strobes are kept
pub record AreKept (strobes : List ℕ) (faults : List (List ℕ)) (places counts : List ℕ) : Type 0 where
  pub within : All (λ place. place < length strobes) places
  pub kept : strobes_at strobes places ≡ kept_strobes faults strobes
  pub counted : AreCounts faults (kept_strobes faults strobes) counts
