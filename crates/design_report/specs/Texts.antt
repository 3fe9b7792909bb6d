-- The texts on a design (the format is this program's own).
use Rattle.std.specs.Prelude.{◌≡◌, ℕ, Bool, true, false, List, [], ◌∷◌, ◌++◌, codes, length}
use Rattle.std.specs.Fmt.{decimal}
use Rattle.vf_base.specs.Lists.{joined, zip_with}
use Rattle.v_design.specs.Designs.{FlatDesign, StuckAt}
use Rattle.v_design.specs.Sites.{site_name, faults_of}
use Rattle.fault_list.specs.Classes.{AreClasses}

-- a word, and a number
unfoldable pub counted : List ℕ → ℕ → List ℕ
counted word count = word ++ decimal count

-- the numbers of a design's objects, nodes and processes
abbrev pub check_text : FlatDesign → List ℕ
check_text design =
    counted (codes "objects ") (length design.objects) ++ counted (codes " nodes ") (length design.nodes) ++ counted (codes " processes ") (length design.processes) ++ 10 ∷ []

-- the value at which a fault holds its site
abbrev pub value_text : Bool → List ℕ
value_text false = codes " 0"
value_text true = codes " 1"

-- the line of a fault, with the place of the first fault of its class
unfoldable pub class_line : FlatDesign → StuckAt → ℕ → List ℕ
class_line design fault place = codes "fault " ++ site_name design fault.site ++ value_text fault.value ++ counted (codes " # ") place ++ 10 ∷ []

-- the lines of some faults and places
abbrev pub class_lines : FlatDesign → List StuckAt → List ℕ → List ℕ
class_lines design faults places = joined (zip_with (class_line design) faults places)

-- the lines of all faults of a design, each with the place, from 0, of the first one of its class
pub record IsFaultsText (design : FlatDesign) (text : List ℕ) : Type 0 where
  pub places : List ℕ
  pub classes : AreClasses design (faults_of design) places
  pub text_is : text ≡ class_lines design (faults_of design) places

-- this is that text, and there is no other
pub record IsTheFaultsText (design : FlatDesign) (text : List ℕ) : Type 0 where
  pub is : IsFaultsText design text
  pub only : (other : List ℕ) → IsFaultsText design other → other ≡ text
