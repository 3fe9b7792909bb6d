-- The text of the generated design spells its unit (IEEE 1364-2001, clause 2 and annex A).
use Rattle.std.specs.Prelude.{ℕ, ◌<◌, ◌≤◌, List}
use Rattle.v_tree.specs.Tokens.{SourceToken}
use Rattle.v_tree.specs.Trees.{SourceUnit}
use Rattle.v_scan.specs.Texts.{AreTokens}
use Rattle.v_parse.specs.Spelling.{SpellsUnit}
use Rattle.v_parse.specs.Heights.{unit_height}
use Rattle.soak_text.specs.Soak.{design_text}
use Rattle.soak_tree.specs.SoakUnits.{soak_unit}

-- the tokens of the text spell the unit, within the levels that are read
pub record SpellsSoak (text : List ℕ) (unit : SourceUnit) : Type 0 where
  pub tokens : List SourceToken
  pub are : AreTokens text tokens
  pub spelled : SpellsUnit unit tokens
  pub within : unit_height unit < 256

-- the text of each number and size spells its unit
abbrev pub TextsSpellUnits : Type 0
TextsSpellUnits = (number size : ℕ) → 1 ≤ size → size ≤ 4000 → SpellsSoak (design_text number size) (soak_unit number size)
