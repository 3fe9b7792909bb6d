-- What a fault says of a unit. (Own: IEEE 1364-2001 names no order of errors.)
use Rattle.std.specs.Prelude.{◌≡◌, Option, Some, None, Result, Err}
use Rattle.vf_base.specs.Base.{source_place}
use Rattle.v_design.specs.Designs.{FlatDesign}
use Rattle.v_names.specs.Faults.{UnknownName, DeclaredTwice, NoConstant, BadWidth, BadConnection, WrongKind as KindOfName, TooDeep as DeepInstance, fault_at}
use Rattle.v_elab.specs.Refusals.{Refusal, Faulty, TwoDrivers as DrivenTwice, NoTop as TopMissing, TooMany as OverLimit, LoopAt}
use Rattle.elaborate.specs.declared.fault.ElabFault.{ElabFault}
use Rattle.elaborate.specs.declared.fault.ElabFault.TheVariants.{Unknown, Twice, NotConstant, TooWide, PortMismatch, WrongKind, TooDeep, TwoDrivers, NoTop, TooMany, Loop, NoMemory}

-- the refusal that a fault tells; want of memory tells none
abbrev pub refusal_of : ElabFault → Option Refusal
refusal_of (Unknown place) = Some (Faulty (fault_at (source_place place) UnknownName))
refusal_of (Twice place) = Some (Faulty (fault_at (source_place place) DeclaredTwice))
refusal_of (NotConstant place) = Some (Faulty (fault_at (source_place place) NoConstant))
refusal_of (TooWide place) = Some (Faulty (fault_at (source_place place) BadWidth))
refusal_of (PortMismatch place) = Some (Faulty (fault_at (source_place place) BadConnection))
refusal_of (WrongKind place) = Some (Faulty (fault_at (source_place place) KindOfName))
refusal_of (TooDeep place) = Some (Faulty (fault_at (source_place place) DeepInstance))
refusal_of (TwoDrivers place bit) = Some (DrivenTwice (source_place place) bit)
refusal_of NoTop = Some TopMissing
refusal_of (TooMany what number) = Some (OverLimit what number)
refusal_of (Loop place) = Some (LoopAt (source_place place))
refusal_of NoMemory = None

-- the refusal is that of the answer
abbrev pub IsRefusal : {A : Type 0} → Result A Refusal → Option Refusal → Type 0
IsRefusal answer None = Unit {0}
IsRefusal answer (Some refusal) = answer ≡ Err refusal

-- the fault tells why there is no answer; want of memory can come at any time
abbrev pub IsFaultOf : {A : Type 0} → Result A Refusal → ElabFault → Type 0
IsFaultOf answer fault = IsRefusal answer (refusal_of fault)

-- the fault tells why there is no design
abbrev pub IsElabFault : Result FlatDesign Refusal → ElabFault → Type 0
IsElabFault answer fault = IsFaultOf answer fault

-- the fault tells a refusal; want of memory can come at any time
abbrev pub IsTold : Option Refusal → Option Refusal → Type 0
IsTold refusal None = Unit {0}
IsTold refusal (Some told) = refusal ≡ Some told
