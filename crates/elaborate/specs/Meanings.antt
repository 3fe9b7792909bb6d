-- What a text means: a flat design, or the reason why it has none (IEEE 1364-2001, clauses 2 and 12, annex A; the order of the reasons is this program's own).
use Rattle.std.specs.Prelude.{◌≡◌, ◌≢◌, ℕ, ◌<◌, List, Option, Some, None, Result, Ok, Err}
use Rattle.v_design.specs.Designs.{FlatDesign}
use Rattle.v_tree.specs.Tokens.{SourceToken}
use Rattle.v_tree.specs.Trees.{Identifier, SourceUnit}
use Rattle.v_scan.specs.Texts as texts
use Rattle.v_scan.specs.declared.fault.ScanFault.{ScanFault}
use Rattle.v_scan.specs.declared.fault.ScanFault.TheVariants as scans
use Rattle.v_parse.specs.Spelling.{SpellsUnit}
use Rattle.v_parse.specs.Heights.{unit_height}
use Rattle.v_parse.specs.Refusals as units
use Rattle.v_parse.specs.declared.fault.ParseFault.{ParseFault}
use Rattle.v_parse.specs.declared.fault.ParseFault.TheVariants as parses
use Rattle.v_elab.specs.declared.Mode.{Mode}
use Rattle.v_elab.specs.Refusals.{Refusal}
use Rattle.v_elab.specs.Flat.{flat}
use Rattle.elaborate.specs.ElabFaults.{refusal_of}
use Rattle.elaborate.specs.declared.fault.ElabFault.{ElabFault}
use Rattle.elaborate.specs.declared.design_fault.DesignFault.{DesignFault}
use Rattle.elaborate.specs.declared.design_fault.DesignFault.TheVariants.{Scan, Parse, Elab, NoMemory}

-- the text spells the unit, within the levels that are read
pub record IsUnitOf (text : List ℕ) (unit : SourceUnit) : Type 0 where
  pub tokens : List SourceToken
  pub are : texts.AreTokens text tokens
  pub spelled : SpellsUnit unit tokens
  pub within : unit_height unit < 256

-- the text says the design from its top module
pub record IsDesignOf (text : List ℕ) (top : Identifier) (mode : Mode) (design : FlatDesign) : Type 0 where
  pub unit : SourceUnit
  pub spelled : IsUnitOf text unit
  pub flat_is : flat unit top mode ≡ Ok design

-- the tokens of the text are no unit within the levels that are read: they stop being one at the fault's place, for its reason
pub record HasNoUnit (text : List ℕ) (fault : ParseFault) : Type 0 where
  pub tokens : List SourceToken
  pub are : texts.AreTokens text tokens
  pub stops : units.IsFault 255 tokens fault

-- the unit of the text has no flat design, for the reason that is there
pub record HasNoDesign (text : List ℕ) (top : Identifier) (mode : Mode) (reason : Option Refusal) : Type 0 where
  pub unit : SourceUnit
  pub spelled : IsUnitOf text unit
  pub refusal : Refusal
  pub told : reason ≡ Some refusal
  pub refused : flat unit top mode ≡ Err refusal

-- the fault is that of the text; want of memory is none
abbrev pub IsFaultOf : List ℕ → Identifier → Mode → DesignFault → Type 0
IsFaultOf text top mode (Scan fault) = texts.IsFault text fault × (fault ≢ scans.NoMemory)
IsFaultOf text top mode (Parse fault) = HasNoUnit text fault × (fault ≢ parses.NoMemory)
IsFaultOf text top mode (Elab fault) = HasNoDesign text top mode (refusal_of fault)
IsFaultOf text top mode NoMemory = ⊥

-- what the text means
abbrev pub Means : List ℕ → Identifier → Mode → Result FlatDesign DesignFault → Type 0
Means text top mode (Ok design) = IsDesignOf text top mode design
Means text top mode (Err fault) = IsFaultOf text top mode fault

-- this is what the text means, and it means nothing else
pub record IsTheMeaning (text : List ℕ) (top : Identifier) (mode : Mode) (meaning : Result FlatDesign DesignFault) : Type 0 where
  pub means : Means text top mode meaning
  pub only : (other : Result FlatDesign DesignFault) → Means text top mode other → other ≡ meaning

-- The fault of each step as that of the text

abbrev pub scan_fault : ScanFault → DesignFault
scan_fault (scans.BadByte place) = Scan (scans.BadByte place)
scan_fault (scans.BadNumber place) = Scan (scans.BadNumber place)
scan_fault (scans.Unclosed place) = Scan (scans.Unclosed place)
scan_fault scans.TooLong = Scan scans.TooLong
scan_fault scans.NoMemory = NoMemory

abbrev pub parse_fault : ParseFault → DesignFault
parse_fault (parses.Unexpected place) = Parse (parses.Unexpected place)
parse_fault (parses.Unsupported place) = Parse (parses.Unsupported place)
parse_fault (parses.TooDeep place) = Parse (parses.TooDeep place)
parse_fault parses.NoMemory = NoMemory

abbrev pub elab_fault_if : ElabFault → Option Refusal → DesignFault
elab_fault_if fault None = NoMemory
elab_fault_if fault (Some refusal) = Elab fault

abbrev pub elab_fault : ElabFault → DesignFault
elab_fault fault = elab_fault_if fault (refusal_of fault)
