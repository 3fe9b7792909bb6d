-- How many operands a statement reads at most, and which objects (IEEE 1364-2001, clause 4).
use Rattle.std.specs.Prelude.{ℕ, ◌+◌, ◌<◌, ◌≤◌, List, [], ◌∷◌, length}
use Rattle.four_value.specs.Values.{LogicValue}
use Rattle.v_design.specs.Trees.{Expression, Constant, Name, BitSelect, PartSelect, WordSelect, Unary, Binary, Conditional, Concatenation, Replication, Expressions, no_expressions, more_expressions}
use Rattle.v_design.specs.Trees.{Target, WholeTarget, BitTarget, PartTarget, WordTarget, CaseItems, no_items, more_items}
use Rattle.v_design.specs.Expressions.{Progress, Needs, Has}

abbrev mutual
  -- how many operands an expression reads at most
  pub reads_most : Expression → ℕ
  reads_most (Constant width signed value) = 0
  reads_most (Name width signed v) = length v.pieces
  reads_most (BitSelect width signed v index) = length v.pieces + reads_most index
  reads_most (PartSelect width signed v from to) = length v.pieces
  reads_most (WordSelect width signed m index) = reads_most index + 1
  reads_most (Unary width signed operator a) = reads_most a
  reads_most (Binary width signed operator a b) = reads_most a + reads_most b
  reads_most (Conditional width signed c a b) = reads_most c + (reads_most a + reads_most b)
  reads_most (Concatenation width signed parts) = reads_most_each parts
  reads_most (Replication width signed count parts) = reads_most_each parts

  -- how many several expressions read at most
  pub reads_most_each : Expressions → ℕ
  reads_most_each no_expressions = 0
  reads_most_each (more_expressions part rest) = reads_most part + reads_most_each rest

-- how many the labels of a case read at most
abbrev pub reads_most_items : CaseItems → ℕ
reads_most_items no_items = 0
reads_most_items (more_items labels statement rest) = reads_most_each labels + reads_most_items rest

-- how many the index of a target reads at most
abbrev pub reads_most_index : Target → ℕ
reads_most_index (WholeTarget variable) = 0
reads_most_index (BitTarget variable index) = reads_most index
reads_most_index (PartTarget variable from to) = 0
reads_most_index (WordTarget memory index) = reads_most index

-- how many the indexes of several targets read at most
abbrev pub reads_most_targets : List Target → ℕ
reads_most_targets [] = 0
reads_most_targets (target ∷ targets) = reads_most_index target + reads_most_targets targets

-- what is needed has a number below a limit, and fewer than so many operands were read; no more than so many are taken
abbrev pub Bounds : {A : Type 0} → ℕ → ℕ → List LogicValue → Progress A → Type 0
Bounds most limit operands (Needs object) = (object < limit) × (length operands < most)
Bounds most limit operands (Has answer left) = length operands ≤ most + length left
