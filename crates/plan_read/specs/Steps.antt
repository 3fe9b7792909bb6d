-- A plan as far as it is read, and what a line adds to it (the format is this program's own).
use Rattle.std.specs.Prelude.{◌≡◌, ℕ, ◌+◌, ◌<◌, ◌≤◌, Bool, true, false, List, [], ◌∷◌, ◌++◌, length, Option, Some, None, IfSome, nat_lt, if◌then◌else◌}
use Rattle.std.specs.List.{list_any, All}
use Rattle.std.specs.declared.vec.Vec.{Vec}
use Rattle.std.specs.declared.alloc.Global.{Global}
use Rattle.vf_base.specs.Base.{WatchedBit}
use Rattle.v_design.specs.Designs.{FlatDesign, FaultSite, StuckAt}
use Rattle.v_design.specs.Sites.{faults_of}
use Rattle.v_design.specs.declared.plan.Fault.{Fault}
use Rattle.plan_read.specs.Watched.{bits_spelled}
use Rattle.fault_list.specs.Listed.{stuck}
use Rattle.fault_list.specs.Spelled.{site_spelled}
use Rattle.plan_read.specs.declared.fault.PlanFault.{PlanFault}
use Rattle.plan_read.specs.declared.fault.PlanFault.TheVariants.{BadLine, UnknownSite, TooMany, TooLong, NoMemory}
use Rattle.plan_read.specs.declared.draft.Draft.{Draft}
use Rattle.plan_read.specs.Forms.{PlanLine, Empty, Ends, Watches, Strobes, Lists, ListsAll, Formless, times_on}
use Rattle.plan_read.specs.Plain.{watched_bits}
use Rattle.plan_read.specs.Spelled.{PlanReason, IsBad, IsUnknown, IsTooMany, are_none, most_strobes, most_watched, most_faults, latest_end, end_on, earlier_end, bits_on, faults_on, NoneRefused}
use Rattle.plan_read.specs.Spelled.{IsFirstRefused, HaveNoEnd, end_of, times_of, bits_of, listed_faults}

-- a time is past the last one
abbrev pub IsPast : Option ℕ → ℕ → Type 0
IsPast None time = Unit {0}
IsPast (Some last) time = last < time

-- the fault is that of the line with this number, for this reason
abbrev pub FaultIs : ℕ → Option PlanReason → PlanFault → Type 0
FaultIs number reason (BadLine line) = (line ≡ number) × (reason ≡ Some IsBad)
FaultIs number reason (UnknownSite line) = (line ≡ number) × (reason ≡ Some IsUnknown)
FaultIs number reason (TooMany line) = (line ≡ number) × (reason ≡ Some IsTooMany)
FaultIs number reason TooLong = ⊥
FaultIs number reason NoMemory = Unit {0}

-- a bad line, where it is
abbrev pub bad_if : Bool → Option PlanReason
bad_if true = Some IsBad
bad_if false = None

-- too many of a kind, where there are more than the most
abbrev pub too_many_if : Bool → Option PlanReason
too_many_if true = Some IsTooMany
too_many_if false = None

-- why strobes are refused after so many
abbrev pub strobes_reason : ℕ → List ℕ → ℕ → Option PlanReason
strobes_reason end times count = if list_any (nat_lt end) times then Some IsBad else too_many_if (nat_lt most_strobes (count + length times))

-- why watched bits are refused after so many
abbrev pub watched_reason : List WatchedBit → ℕ → Option PlanReason
watched_reason bits count = if are_none bits then Some IsUnknown else too_many_if (nat_lt most_watched (count + length bits))

-- why the fault of a site is refused after so many
abbrev pub site_reason : Option FaultSite → ℕ → Option PlanReason
site_reason None count = Some IsUnknown
site_reason (Some site) count = too_many_if (nat_lt most_faults (count + 1))

-- why all faults are refused after so many
abbrev pub all_reason : List StuckAt → ℕ → Option PlanReason
all_reason all count = too_many_if (nat_lt most_faults (count + length all))

-- why a line is refused where no end was given
abbrev pub reason_first : PlanLine → Option PlanReason
reason_first Empty = None
reason_first (Ends time) = bad_if (nat_lt latest_end time)
reason_first (Watches name) = Some IsBad
reason_first (Strobes from step to) = Some IsBad
reason_first (Lists name value) = Some IsBad
reason_first ListsAll = Some IsBad
reason_first Formless = Some IsBad

-- why a line is refused after the end was given
abbrev pub reason_after : FlatDesign → Draft → ℕ → PlanLine → Option PlanReason
reason_after design draft end Empty = None
reason_after design draft end (Ends time) = Some IsBad
reason_after design draft end (Watches name) = watched_reason (bits_spelled design name) (length (watched_bits draft.watched.items))
reason_after design draft end (Strobes from step to) = strobes_reason end (times_on (Strobes from step to)) (length draft.strobes.items)
reason_after design draft end (Lists name value) = site_reason (site_spelled design name) (length (stuck draft.faults.items))
reason_after design draft end ListsAll = all_reason (faults_of design) (length (stuck draft.faults.items))
reason_after design draft end Formless = Some IsBad

-- why a line is refused, as far as the plan is read
abbrev pub reason_at : FlatDesign → Draft → Option ℕ → PlanLine → Option PlanReason
reason_at design draft None line = reason_first line
reason_at design draft (Some end) line = reason_after design draft end line

-- all faults, where they are kept
abbrev pub AreKept : FlatDesign → Option (Vec Fault Global) → Type 0
AreKept design None = Unit {0}
AreKept design (Some all) = stuck all.items ≡ faults_of design

-- a line was read: what it gives was added
pub record IsAdded (design : FlatDesign) (line : PlanLine) (old new : Draft) : Type 0 where
  pub end : new.end ≡ earlier_end old.end (end_on line)
  pub strobes : new.strobes.items ≡ old.strobes.items ++ times_on line
  pub watched : watched_bits new.watched.items ≡ watched_bits old.watched.items ++ bits_on design line
  pub faults : stuck new.faults.items ≡ stuck old.faults.items ++ faults_on design line
  pub all : AreKept design new.all

-- no time is past the end, and there is none where no end was given
abbrev pub AreInTime : Option ℕ → List ℕ → Type 0
AreInTime None times = times ≡ []
AreInTime (Some end) times = All (λ time. time ≤ end) times

-- a draft is within its limits
pub record IsWithin (design : FlatDesign) (draft : Draft) : Type 0 where
  pub strobes : length draft.strobes.items ≤ most_strobes
  pub watched : length (watched_bits draft.watched.items) ≤ most_watched
  pub faults : length (stuck draft.faults.items) ≤ most_faults
  pub all : AreKept design draft.all

-- the draft is what the lines say, and none of them is refused
pub record IsRead (design : FlatDesign) (lines : List PlanLine) (draft : Draft) : Type 0 where
  pub sound : NoneRefused design lines
  pub end : draft.end ≡ end_of lines
  pub strobes : draft.strobes.items ≡ times_of lines
  pub watched : watched_bits draft.watched.items ≡ bits_of design lines
  pub faults : stuck draft.faults.items ≡ listed_faults design lines
  pub early : IfSome (end_of lines) (λ end. end ≤ latest_end)
  pub in_time : AreInTime (end_of lines) (times_of lines)
  pub within : IsWithin design draft

-- the fault is that of the first refused line, or there is no memory
abbrev pub FaultOf : FlatDesign → List PlanLine → PlanFault → Type 0
FaultOf design lines (BadLine number) = IsFirstRefused design lines number IsBad
FaultOf design lines (UnknownSite number) = IsFirstRefused design lines number IsUnknown
FaultOf design lines (TooMany number) = IsFirstRefused design lines number IsTooMany
FaultOf design lines TooLong = ⊥
FaultOf design lines NoMemory = Unit {0}
