-- What a line's words say (the format is this program's own).
use Rattle.std.specs.Prelude.{ℕ, zero, suc, ◌+◌, ◌*◌, ◌-◌, ◌/◌, List, [], ◌∷◌, ◌++◌, Bool, true, false, ◌&&◌, nat_le, length, Option, Some, None, if◌then◌else◌, codes}
use Rattle.std.specs.Str.{bytes_eq}
use Rattle.text_lines.specs.Text.{number_after}

-- a number is 1 to 13 digits
abbrev pub number_of : List ℕ → Option ℕ
number_of [] = None
number_of (b ∷ bs) = if nat_le (length (b ∷ bs)) 13 then number_after 0 (b ∷ bs) else None

-- what a line says: nothing, the end, what is watched, strobes from a time in steps up to a time, a fault, or all faults; or it is of no form
pub data PlanLine : Type 0 where
  Empty : PlanLine
  Ends : (time : ℕ) → PlanLine
  Watches : (name : List ℕ) → PlanLine
  Strobes : (from step to : ℕ) → PlanLine
  Lists : (name : List ℕ) (value : Bool) → PlanLine
  ListsAll : PlanLine
  Formless : PlanLine

-- `end TIME`
abbrev pub end_line : Option ℕ → PlanLine
end_line None = Formless
end_line (Some time) = Ends time

-- `strobe TIME`
abbrev pub strobe_line : Option ℕ → PlanLine
strobe_line None = Formless
strobe_line (Some time) = Strobes time 1 time

-- `strobe FROM STEP TO`, the step at least 1
abbrev pub strobes_line : Option ℕ → Option ℕ → Option ℕ → PlanLine
strobes_line (Some from) (Some step) (Some to) = if nat_le 1 step && nat_le from to then Strobes from step to else Formless
strobes_line None step to = Formless
strobes_line (Some from) None to = Formless
strobes_line (Some from) (Some step) None = Formless

-- `fault NAME 0` or `fault NAME 1`
abbrev pub fault_line : List ℕ → List ℕ → PlanLine
fault_line name bit = if bytes_eq bit (codes "0") then Lists name false else if bytes_eq bit (codes "1") then Lists name true else Formless

-- `faults all`
abbrev pub faults_line : List ℕ → PlanLine
faults_line word = if bytes_eq word (codes "all") then ListsAll else Formless

-- what the words of a line say
abbrev pub line_of : List (List ℕ) → PlanLine
line_of [] = Empty
line_of (a ∷ []) = Formless
line_of (a ∷ b ∷ []) =
    if bytes_eq a (codes "watch") then Watches b
    else if bytes_eq a (codes "strobe") then strobe_line (number_of b)
    else if bytes_eq a (codes "end") then end_line (number_of b)
    else if bytes_eq a (codes "faults") then faults_line b
    else Formless
line_of (a ∷ b ∷ c ∷ []) = if bytes_eq a (codes "fault") then fault_line b c else Formless
line_of (a ∷ b ∷ c ∷ d ∷ []) = if bytes_eq a (codes "strobe") then strobes_line (number_of b) (number_of c) (number_of d) else Formless
line_of (a ∷ b ∷ c ∷ d ∷ e ∷ more) = Formless

-- so many times, from one on in steps
abbrev pub row : ℕ → ℕ → ℕ → List ℕ
row from step zero = []
row from step (suc count) = row from step count ++ (from + step * count) ∷ []

-- the strobe times that a line gives, as they are written
abbrev pub times_on : PlanLine → List ℕ
times_on Empty = []
times_on (Ends time) = []
times_on (Watches name) = []
times_on (Strobes from step to) = row from step ((to - from) / step + 1)
times_on (Lists name value) = []
times_on ListsAll = []
times_on Formless = []
