-- The code's faults as plain data.
use Rattle.vf_base.specs.Base.{source_place}
use Rattle.v_names.specs.declared.found.Reason.{Reason}
use Rattle.v_names.specs.declared.found.Reason.TheVariants as reasons
use Rattle.v_names.specs.declared.found.Found.{Found}
use Rattle.v_names.specs.Faults.{Wrong, UnknownName, DeclaredTwice, NoConstant, BadWidth, BadConnection, WrongKind, TooDeep, Fault, fault_at}

abbrev pub wrong_of : Reason → Wrong
wrong_of reasons.UnknownName = UnknownName
wrong_of reasons.DeclaredTwice = DeclaredTwice
wrong_of reasons.NoConstant = NoConstant
wrong_of reasons.BadWidth = BadWidth
wrong_of reasons.BadConnection = BadConnection
wrong_of reasons.WrongKind = WrongKind
wrong_of reasons.TooDeep = TooDeep

abbrev pub fault_of : Found → Fault
fault_of found = fault_at (source_place found.place) (wrong_of found.reason)
