-- The flat design of a text keeps the rules of flat designs (IEEE 1364-2001, clauses 2 and 12, annex A).
use Rattle.std.specs.Prelude.{◌≡◌, ℕ, ◌<◌, List, Ok}
use Rattle.v_design.specs.Designs.{FlatDesign}
use Rattle.v_design.specs.WellFormed.{KeepsRules}
use Rattle.v_tree.specs.Tokens.{SourceToken}
use Rattle.v_tree.specs.Trees.{Identifier, SourceUnit}
use Rattle.v_scan.specs.Texts.{AreTokens}
use Rattle.v_parse.specs.Spelling.{SpellsUnit}
use Rattle.v_parse.specs.Heights.{unit_height}
use Rattle.v_elab.specs.declared.Mode.{Mode}
use Rattle.v_elab.specs.Flat.{flat}
use Rattle.source_laws.specs.NamedRules.{named-keep}
use Rattle.source_laws.specs.Apart.{text-apart}
use Rattle.source_laws.specs.Texts.{text-source, text-named}

-- each flat design of the unit that a text spells within its levels keeps all rules
abbrev pub TextsKeepRules : Type 0
TextsKeepRules = (text : List ℕ) (tokens : List SourceToken) (u : SourceUnit) (top : Identifier) (mode : Mode) (design : FlatDesign) → AreTokens text tokens → SpellsUnit u tokens →
    unit_height u < 256 →
    flat u top mode ≡ Ok design → KeepsRules design

pub text-keeps : TextsKeepRules
text-keeps text tokens u top mode design are spelled low e = named-keep u top mode design (text-source text tokens u are spelled low) (text-named text tokens u are spelled) e
    (text-apart text tokens u top mode design are spelled e)
