-- The bounds of parts and the counts of replications that a design keeps in 32 bits (IEEE 1364-2001, clause 4.2.1 for parts, clause 4.1.14 for replications; the limit is this program's own choice).
use Rattle.std.specs.Prelude.{◌≡◌, ℕ, ◌^◌, ◌<◌, Bool, Some}
use Rattle.vf_base.specs.Lists.{AllHold}
use Rattle.v_tree.specs.Trees.{SourceExpression, SourceIndex, NoIndex, IndexAt, IndexRange, SourceSelect, SourceTarget, selects_of}
use Rattle.v_names.specs.Scopes.{Scope}
use Rattle.v_names.specs.Readings.{reading_of, number_of_constant}
use Rattle.v_names.specs.SizedTrees.{SizedExpression, SizedConstant, SizedName, SizedBit, SizedPart, SizedWord, SizedUnary, SizedBinary, SizedChoice, SizedConcatenation, SizedReplication}
use Rattle.v_names.specs.SizedTrees.{SizedExpressions, no_sized, more_sized}

abbrev mutual
  pub IsNarrowTree : SizedExpression → Type 0
  IsNarrowTree (SizedConstant width signed value) = Unit {0}
  IsNarrowTree (SizedName width signed name) = Unit {0}
  IsNarrowTree (SizedBit width signed name index) = IsNarrowTree index
  IsNarrowTree (SizedPart width signed name from to) = (from < 2 ^ 32) × (to < 2 ^ 32)
  IsNarrowTree (SizedWord width signed name index) = IsNarrowTree index
  IsNarrowTree (SizedUnary width signed operator operand) = IsNarrowTree operand
  IsNarrowTree (SizedBinary width signed operator left right) = IsNarrowTree left × IsNarrowTree right
  IsNarrowTree (SizedChoice width signed condition first second) = IsNarrowTree condition × IsNarrowTree first × IsNarrowTree second
  IsNarrowTree (SizedConcatenation width signed parts) = AreNarrowTrees parts
  IsNarrowTree (SizedReplication width signed count parts) = (count < 2 ^ 32) × AreNarrowTrees parts

  pub AreNarrowTrees : SizedExpressions → Type 0
  AreNarrowTrees no_sized = Unit {0}
  AreNarrowTrees (more_sized first rest) = IsNarrowTree first × AreNarrowTrees rest

-- an expression of the text, at any size
abbrev pub IsNarrow : Scope → SourceExpression → Type 0
IsNarrow scope e = (width : ℕ) (signed : Bool) → IsNarrowTree ((reading_of scope e).tree width signed)

-- a bound of a part, if it has a number
abbrev pub IsNarrowBound : Scope → SourceExpression → Type 0
IsNarrowBound scope e = (n : ℕ) → number_of_constant scope e ≡ Some n → n < 2 ^ 32

-- an index of a target
abbrev pub IsNarrowIndex : Scope → SourceIndex → Type 0
IsNarrowIndex scope NoIndex = Unit {0}
IsNarrowIndex scope (IndexAt index) = IsNarrow scope index
IsNarrowIndex scope (IndexRange from to) = IsNarrowBound scope from × IsNarrowBound scope to

abbrev pub IsNarrowSelect : Scope → SourceSelect → Type 0
IsNarrowSelect scope select = IsNarrowIndex scope select.index

-- what a process writes
abbrev pub IsNarrowTarget : Scope → SourceTarget → Type 0
IsNarrowTarget scope target = AllHold (IsNarrowSelect scope) (selects_of target)
