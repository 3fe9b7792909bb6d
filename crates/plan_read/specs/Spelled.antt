-- The plan that a text spells over a design, or the first line at fault (the format is this program's own).
use Rattle.std.specs.Prelude.{◌≡◌, ℕ, ◌+◌, ◌<◌, ◌≤◌, ◌↔◌, Bool, true, false, not, ◌&&◌, ◌||◌, List, [], ◌∷◌, ◌++◌, map, length, take, Contains, Option, Some, None, nat_lt, slice_get}
use Rattle.std.specs.List.{list_any}
use Rattle.vf_base.specs.Base.{WatchedBit}
use Rattle.vf_base.specs.Lists.{joined}
use Rattle.vf_base.specs.declared.limits.TheConstants.{MAX_STROBES, MAX_WATCHED, MAX_FAULTS, MAX_PLAN_BYTES}
use Rattle.v_design.specs.Designs.{FlatDesign, FaultSite, StuckAt, TestPlan}
use Rattle.v_design.specs.Sites.{faults_of}
use Rattle.v_design.specs.WellFormed.{IsAscending}
use Rattle.plan_read.specs.Watched.{bits_spelled}
use Rattle.fault_list.specs.Spelled.{site_spelled}
use Rattle.plan_read.specs.declared.fault.PlanFault.{PlanFault}
use Rattle.plan_read.specs.declared.fault.PlanFault.TheVariants.{BadLine, UnknownSite, TooMany, TooLong, NoMemory}
use Rattle.text_lines.specs.Text.{lines_of, words_of}
use Rattle.plan_read.specs.Forms.{PlanLine, Empty, Ends, Watches, Strobes, Lists, ListsAll, Formless, line_of, times_on}

-- What a line gives

-- the bits that a line watches
abbrev pub bits_on : FlatDesign → PlanLine → List WatchedBit
bits_on design Empty = []
bits_on design (Ends time) = []
bits_on design (Watches name) = bits_spelled design name
bits_on design (Strobes from step to) = []
bits_on design (Lists name value) = []
bits_on design ListsAll = []
bits_on design Formless = []

-- the fault of a site, if there is one
abbrev pub fault_at : Option FaultSite → Bool → List StuckAt
fault_at None value = []
fault_at (Some site) value = record { site = site; value = value } ∷ []

-- the faults that a line lists
abbrev pub faults_on : FlatDesign → PlanLine → List StuckAt
faults_on design Empty = []
faults_on design (Ends time) = []
faults_on design (Watches name) = []
faults_on design (Strobes from step to) = []
faults_on design (Lists name value) = fault_at (site_spelled design name) value
faults_on design ListsAll = faults_of design
faults_on design Formless = []

-- the end that a line gives
abbrev pub end_on : PlanLine → Option ℕ
end_on Empty = None
end_on (Ends time) = Some time
end_on (Watches name) = None
end_on (Strobes from step to) = None
end_on (Lists name value) = None
end_on ListsAll = None
end_on Formless = None

-- the first of two ends
abbrev pub earlier_end : Option ℕ → Option ℕ → Option ℕ
earlier_end (Some time) later = Some time
earlier_end None later = later

-- the end that the first line of the end gives
abbrev pub end_of : List PlanLine → Option ℕ
end_of [] = None
end_of (line ∷ lines) = earlier_end (end_on line) (end_of lines)

-- all strobe times of some lines, as they are written
abbrev pub times_of : List PlanLine → List ℕ
times_of lines = joined (map times_on lines)

-- all bits that some lines watch, in their order
abbrev pub bits_of : FlatDesign → List PlanLine → List WatchedBit
bits_of design lines = joined (map (bits_on design) lines)

-- all faults that some lines list, in their order
abbrev pub listed_faults : FlatDesign → List PlanLine → List StuckAt
listed_faults design lines = joined (map (faults_on design) lines)

-- Why a line is refused

-- it is bad, its name is unknown, or there are too many strobes, watched bits or faults with it
pub data PlanReason : Type 0 where
  IsBad : PlanReason
  IsUnknown : PlanReason
  IsTooMany : PlanReason

-- the latest end of a plan
abbrev pub latest_end : ℕ
latest_end = 1000000000000

-- before the end is given only the line of an end that isn't too late is good
abbrev pub is_bad_first : PlanLine → Bool
is_bad_first Empty = false
is_bad_first (Ends time) = nat_lt latest_end time
is_bad_first (Watches name) = true
is_bad_first (Strobes from step to) = true
is_bad_first (Lists name value) = true
is_bad_first ListsAll = true
is_bad_first Formless = true

-- after it the other forms are good, and no strobe is past the end
abbrev pub is_bad_after : ℕ → PlanLine → Bool
is_bad_after end Empty = false
is_bad_after end (Ends time) = true
is_bad_after end (Watches name) = false
is_bad_after end (Strobes from step to) = list_any (nat_lt end) (times_on (Strobes from step to))
is_bad_after end (Lists name value) = false
is_bad_after end ListsAll = false
is_bad_after end Formless = true

-- whether a line is bad after the lines with an end, or without one
abbrev pub is_bad : Option ℕ → PlanLine → Bool
is_bad None line = is_bad_first line
is_bad (Some end) line = is_bad_after end line

-- whether there are no bits
abbrev pub are_none : List WatchedBit → Bool
are_none [] = true
are_none (bit ∷ bits) = false

-- whether there is no site
abbrev pub is_none : Option FaultSite → Bool
is_none None = true
is_none (Some site) = false

-- whether a line's name spells nothing
abbrev pub is_unknown : FlatDesign → PlanLine → Bool
is_unknown design Empty = false
is_unknown design (Ends time) = false
is_unknown design (Watches name) = are_none (bits_spelled design name)
is_unknown design (Strobes from step to) = false
is_unknown design (Lists name value) = is_none (site_spelled design name)
is_unknown design ListsAll = false
is_unknown design Formless = false

-- the most strobe times, watched bits and faults of a plan
abbrev pub most_strobes : ℕ
most_strobes = MAX_STROBES

abbrev pub most_watched : ℕ
most_watched = MAX_WATCHED

abbrev pub most_faults : ℕ
most_faults = MAX_FAULTS

-- whether some lines have too many strobe times, watched bits or faults
abbrev pub are_too_many : FlatDesign → List PlanLine → Bool
are_too_many design lines =
    nat_lt most_strobes (length (times_of lines)) || nat_lt most_watched (length (bits_of design lines)) || nat_lt most_faults (length (listed_faults design lines))

-- the first of three reasons: the line is bad, its name is unknown, there are too many
abbrev pub first_reason : Bool → Bool → Bool → Option PlanReason
first_reason true unknown many = Some IsBad
first_reason false true many = Some IsUnknown
first_reason false false true = Some IsTooMany
first_reason false false false = None

-- why a line is refused after some lines, if it is
abbrev pub reason_of : FlatDesign → List PlanLine → PlanLine → Option PlanReason
reason_of design before line = first_reason (is_bad (end_of before) line) (is_unknown design line) (are_too_many design (before ++ line ∷ []))

-- no line is refused
abbrev pub NoneRefused : FlatDesign → List PlanLine → Type 0
NoneRefused design lines = (place : ℕ) (line : PlanLine) → slice_get lines place ≡ Some line → reason_of design (take place lines) line ≡ None

-- the line with this number, from 1, is the first one that is refused
pub record IsFirstRefused (design : FlatDesign) (lines : List PlanLine) (number : ℕ) (reason : PlanReason) : Type 0 where
  pub place : ℕ
  pub numbered : number ≡ place + 1
  pub line : PlanLine
  pub stands : slice_get lines place ≡ Some line
  pub refused : reason_of design (take place lines) line ≡ Some reason
  pub first : NoneRefused design (take place lines)

-- The whole text

-- what lines say
abbrev pub lines_say : List (List ℕ) → List PlanLine
lines_say lines = map (λ line. line_of (words_of line)) lines

-- what the lines of a text say
abbrev pub plan_lines : List ℕ → List PlanLine
plan_lines text = lines_say (lines_of text)

-- the most bytes of a plan
abbrev pub most_bytes : ℕ
most_bytes = MAX_PLAN_BYTES

-- the lines spell the plan: none is refused, one gives the end, what is watched and what is listed stand in the order of the lines,
-- and the strobes are the times in ascending order without repeats
pub record LinesSpell (design : FlatDesign) (lines : List PlanLine) (plan : TestPlan) : Type 0 where
  pub sound : NoneRefused design lines
  pub end : end_of lines ≡ Some plan.end
  pub watched : plan.watched ≡ bits_of design lines
  pub faults : plan.faults ≡ listed_faults design lines
  pub ascending : IsAscending plan.strobes
  pub strobes : (time : ℕ) → Contains plan.strobes time ↔ Contains (times_of lines) time

-- the lines give no end: none is refused, and none is the line of the end
pub record HaveNoEnd (design : FlatDesign) (lines : List PlanLine) : Type 0 where
  pub sound : NoneRefused design lines
  pub endless : end_of lines ≡ None

-- the text spells the plan over the design
pub record Spells (design : FlatDesign) (text : List ℕ) (plan : TestPlan) : Type 0 where
  pub short : length text ≤ most_bytes
  pub lines : LinesSpell design (plan_lines text) plan

-- the number of the line at which a text is bad: that of the first refused line, or the one after the last where there is no end
pub data IsBadAt (design : FlatDesign) (text : List ℕ) (number : ℕ) : Type 0 where
  bad_line : IsFirstRefused design (plan_lines text) number IsBad → IsBadAt design text number
  no_end : number ≡ length (plan_lines text) + 1 → HaveNoEnd design (plan_lines text) → IsBadAt design text number

-- the fault of a text: it is too long; else it is bad at a line, or has there an unknown name or one too many. Want of memory can come anywhere
abbrev pub Refuses : FlatDesign → List ℕ → PlanFault → Type 0
Refuses design text (BadLine number) = (length text ≤ most_bytes) × IsBadAt design text number
Refuses design text (UnknownSite number) = (length text ≤ most_bytes) × IsFirstRefused design (plan_lines text) number IsUnknown
Refuses design text (TooMany number) = (length text ≤ most_bytes) × IsFirstRefused design (plan_lines text) number IsTooMany
Refuses design text TooLong = most_bytes < length text
Refuses design text NoMemory = Unit {0}
