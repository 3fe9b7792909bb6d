-- The text of picked strobes (the format is this program's own).
use Rattle.std.specs.Prelude.{ℕ, Bool, List, [], ◌∷◌, ◌++◌, map, length, count_by, Option, Some, None, option_map, codes, nat_lt, find}
use Rattle.std.specs.List.{zip}
use Rattle.vf_base.specs.Lists.{joined}
use Rattle.v_design.specs.Designs.{FlatDesign, StuckAt}
use Rattle.v_design.specs.Sites.{site_name}
use Rattle.grade_report.specs.Report.{counted, held_text}
use Rattle.pick_laws.specs.Kept.{kept_strobes, needs}

-- the first listed fault whose only kept hard strobe this is; of each listed fault its hard strobes are given
abbrev pub fault_needing : List ℕ → ℕ → List StuckAt → List (List ℕ) → Option StuckAt
fault_needing kept strobe faults hard = option_map (λ (pair : StuckAt × List ℕ). pair.0) (find (λ (pair : StuckAt × List ℕ). needs kept strobe pair.1) (zip faults hard))

-- a kept strobe, with the fault for which it is kept
unfoldable pub strobe_line : FlatDesign → ℕ → StuckAt → List ℕ
strobe_line design strobe fault = counted (codes "strobe ") strobe ++ codes " for " ++ site_name design fault.site ++ held_text fault.value ++ 10 ∷ []

-- each kept strobe has such a fault
abbrev pub strobe_text : FlatDesign → ℕ → Option StuckAt → List ℕ
strobe_text design strobe None = []
strobe_text design strobe (Some fault) = strobe_line design strobe fault

-- whether a fault has a hard strobe
abbrev pub has_strobe : List ℕ → Bool
has_strobe times = nat_lt 0 (length times)

-- the line of the totals: how many strobes there are, how many of them are kept, and how many faults have a hard one
abbrev pub pick_total : ℕ → ℕ → ℕ → List ℕ
pick_total strobes kept detected = counted (codes "total ") strobes ++ counted (codes " kept ") kept ++ counted (codes " detected ") detected ++ 10 ∷ []

-- the lines of some kept strobes
abbrev pub strobe_lines : FlatDesign → List StuckAt → List (List ℕ) → List ℕ → List ℕ → List ℕ
strobe_lines design faults hard kept strobes = joined (map (λ strobe. strobe_text design strobe (fault_needing kept strobe faults hard)) strobes)

-- the kept strobes of a plan, ascending, each with its fault, and the totals
abbrev pub pick_text : FlatDesign → List StuckAt → List ℕ → List (List ℕ) → List ℕ
pick_text design faults strobes hard =
    codes "vfault pick 1" ++ 10 ∷ [] ++ strobe_lines design faults hard (kept_strobes hard strobes) (kept_strobes hard strobes)
    ++ pick_total (length strobes) (length (kept_strobes hard strobes)) (count_by has_strobe hard)
