-- Selects whose bits are a run of their signal's: a part runs as its declaration does (IEEE 1364-2001, clause 4.2.1), and has no more bits than a vector may have.
use Rattle.std.specs.Prelude.{◌≡◌, ℕ, ◌≤◌, true, List, Option, Some, None}
use Rattle.vf_base.specs.Lists.{AllHold}
use Rattle.v_design.specs.Sized.{most_bits, span}
use Rattle.v_tree.specs.Trees.{SourceIndex, NoIndex, IndexAt, IndexRange, SourceSelect, SourceTarget, selects_of}
use Rattle.v_names.specs.Scopes.{DeclaredRange, Scope, looked_up}
use Rattle.v_names.specs.Readings.{runs_alike, number_of_constant}
use Rattle.v_width.specs.Targets.{range_of_entry}

-- two bounds; where one has no number they take no bits
abbrev pub BoundsTakeRun : DeclaredRange → Option ℕ → Option ℕ → Type 0
BoundsTakeRun range None to = Unit {0}
BoundsTakeRun range (Some from) None = Unit {0}
BoundsTakeRun range (Some from) (Some to) = (runs_alike range from to ≡ true) × (span from to ≤ most_bits)

abbrev pub IndexTakesRun : Scope → DeclaredRange → SourceIndex → Type 0
IndexTakesRun scope range NoIndex = Unit {0}
IndexTakesRun scope range (IndexAt index) = Unit {0}
IndexTakesRun scope range (IndexRange from to) = BoundsTakeRun range (number_of_constant scope from) (number_of_constant scope to)

abbrev pub TakesRun : Scope → SourceSelect → Type 0
TakesRun scope select = IndexTakesRun scope (range_of_entry (looked_up scope select.name)) select.index

abbrev pub TakeRuns : Scope → List SourceSelect → Type 0
TakeRuns scope selects = AllHold (TakesRun scope) selects

-- the selects of a target
abbrev pub TargetTakesRuns : Scope → SourceTarget → Type 0
TargetTakesRuns scope target = TakeRuns scope (selects_of target)
