-- In a unit whose names are spelled as a text spells them, each walk is consistent, so its flat design is sized and writes what it may (IEEE 1364-2001, clause 12.4 for
-- hierarchical names; that each declaration has a place of its own is a fact of texts).
use Rattle.std.specs.Prelude.{◌≡◌, List, Ok}
use Rattle.v_design.specs.Designs.{FlatDesign}
use Rattle.v_tree.specs.Trees.{Identifier, SourceModule, SourceUnit}
use Rattle.v_elab.specs.declared.Mode.{Mode}
use Rattle.v_elab.specs.Flat.{flat}
use Rattle.flat_laws.specs.Source.{IsSourceUnit}
use Rattle.flat_laws.specs.Names.OnceDeclared.{IsNamedUnit}
use Rattle.flat_laws.specs.Names.Consistent.{bounded-consistent}
use Rattle.flat_laws.specs.Sizes.Widths.{walk-widths}
use Rattle.flat_laws.specs.Names.Settled.{walk-settled}
use Rattle.flat_laws.specs.Rules.{WalksAreConsistent}
use Rattle.flat_laws.specs.Sizes.SizedDesigns.{HasSizes, consistent-sized}
use Rattle.flat_laws.specs.Blocks.Writes.{IsWritten, consistent-written}

-- the walks of such a unit are consistent
pub named-walks : (modules : List SourceModule) → IsNamedUnit modules → (mode : Mode) → WalksAreConsistent modules mode
named-walks modules unit mode k top parts at e =
    let within = walk-widths modules mode top parts e in
    bounded-consistent modules unit mode top k at parts e (record { signals = within.signals; memories = within.memories; settled = walk-settled modules mode top parts e })

-- the flat design of such a unit is sized
abbrev pub NamedDesignsAreSized : Type 0
NamedDesignsAreSized = (unit : SourceUnit) (top : Identifier) (mode : Mode) (design : FlatDesign) → IsSourceUnit unit.modules → IsNamedUnit unit.modules → flat unit top mode ≡ Ok design →
    HasSizes design

pub named-sized : NamedDesignsAreSized
named-sized unit top mode design source named e = consistent-sized unit top mode design source (named-walks unit.modules named mode) e

-- and names and writes what it may
abbrev pub NamedDesignsAreWritten : Type 0
NamedDesignsAreWritten = (unit : SourceUnit) (top : Identifier) (mode : Mode) (design : FlatDesign) → IsSourceUnit unit.modules → IsNamedUnit unit.modules → flat unit top mode ≡ Ok design →
    IsWritten design

pub named-written : NamedDesignsAreWritten
named-written unit top mode design source named e = consistent-written unit top mode design source (named-walks unit.modules named mode) e
