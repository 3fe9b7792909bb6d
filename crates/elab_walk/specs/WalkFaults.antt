-- When a fault is answered in place of the parts of a walk.
use Rattle.std.specs.Prelude.{◌≡◌, ◌+◌, Bool, true, false, Option, Some, None, Result, Err}
use Rattle.v_names.specs.declared.found.Found as found
use Rattle.v_names.specs.FaultViews.{fault_of}
use Rattle.v_design.specs.WellFormed.{most_parts, most_inputs}
use Rattle.v_elab.specs.declared.What.{What}
use Rattle.v_elab.specs.declared.What.TheVariants.{Inputs}
use Rattle.v_elab.specs.Refusals.{Refusal, Faulty, TooMany as too_many}
use Rattle.elab_walk.specs.declared.fault.WalkFault.{WalkFault}
use Rattle.elab_walk.specs.declared.fault.WalkFault.TheVariants.{Found, TooMany, TooManyInputs, NoMemory}

-- more than the limit of parts
abbrev pub over_most : What → Refusal
over_most what = too_many what (most_parts + 1)

-- the refusal that is wanted; want of memory may come at any time
abbrev pub IsWalkFault : {A : Type 0} → Result A Refusal → WalkFault → Type 0
IsWalkFault wanted (Found found) = wanted ≡ Err (Faulty (fault_of found))
IsWalkFault wanted (TooMany what) = wanted ≡ Err (over_most what)
IsWalkFault wanted TooManyInputs = wanted ≡ Err (too_many Inputs (most_inputs + 1))
IsWalkFault wanted NoMemory = Unit {0}

-- a fault that may be found
abbrev pub refusal_in : Option found.Found → Option WalkFault
refusal_in None = None
refusal_in (Some f) = Some (Found f)

-- the fault of a node that reads too many objects, where there is such
abbrev pub reads_fault : Bool → Option WalkFault
reads_fault false = None
reads_fault true = Some TooManyInputs
