-- The text of an object by its name and what stands behind it (the format is this program's own).
use Rattle.std.specs.Prelude.{ℕ, Bool, List, [], if◌then◌else◌}
use Rattle.std.specs.Fmt.{decimal}
use Rattle.std.specs.Str.{bytes_eq}
use Rattle.v_design.specs.Designs.{FlatObject, FlatDesign}
use Rattle.v_design.specs.declared.logic.ObjectKind.{ObjectKind}
use Rattle.v_design.specs.declared.logic.ObjectKind.TheVariants.{Var, Word, Net}
use Rattle.grade_report.specs.Objects.{has_pieces, between, bounds_text, text_by_kind}

-- what stands behind an object's name: nothing of a variable, the address of a memory word, the bounds of a net piece where its net has several
abbrev pub behind_name : FlatDesign → FlatObject → ObjectKind → List ℕ
behind_name design object Var = []
behind_name design object Word = between (decimal object.address)
behind_name design object Net = if has_pieces design object.name then between (bounds_text object.high object.low) else []

-- whether an object prints as a word
abbrev pub prints_as : FlatDesign → List ℕ → FlatObject → Bool
prints_as design word object = bytes_eq word (text_by_kind design object object.kind)
