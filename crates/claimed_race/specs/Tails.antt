-- What stands behind the object in the text of an access (the format is this program's own).
use Rattle.std.specs.Prelude.{ℕ, List, ◌++◌, codes}
use Rattle.std.specs.Fmt.{decimal}

abbrev pub tail_text : ℕ → ℕ → List ℕ
tail_text process line = codes " p" ++ decimal process ++ codes " l" ++ decimal line
