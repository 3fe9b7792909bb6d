use Rattle.std.proofs.Common.{◌++◌, List, take}
use Rattle.v_elab.specs.Parts as plain
use Rattle.elab_parts.specs.PartViews.{parts_of}
use Rattle.elab_walk.specs.CountViews.{AreCounts}
use Rattle.elab_walk.proofs.counts.Counts.add_all.Given as goal

abbrev pub invariant-parts : goal.invariant-parts
invariant-parts l = (before : List plain.Part) → AreCounts before l.fn.self → AreCounts (before ++ parts_of (take l.part-index l.parts)) l.self
