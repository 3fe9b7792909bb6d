-- The counts of the parts of a walk.
use Rattle.std.specs.Prelude.{◌≡◌, ℕ, List, sum_by, min}
use Rattle.v_elab.specs.Parts.{Part, objects_of_part, nodes_of_part, processes_of_part, instances_of_part}
use Rattle.elab_walk.specs.declared.counts.Counts.{Counts}

-- a number as far as 64 bits go
abbrev pub capped : ℕ → ℕ
capped n = min n 18446744073709551615

-- each count, as far as 64 bits go
pub record AreCounts (parts : List Part) (counts : Counts) : Type 0 where
  pub objects_are : counts.objects ≡ capped (sum_by objects_of_part parts)
  pub nodes_are : counts.nodes ≡ capped (sum_by nodes_of_part parts)
  pub processes_are : counts.processes ≡ capped (sum_by processes_of_part parts)
  pub instances_are : counts.instances ≡ capped (sum_by instances_of_part parts)
