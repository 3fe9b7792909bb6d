-- A fault tells one refusal (nothing of the language).
use Rattle.std.proofs.Common.{◌≡◌, Option, Some, None, refl, sym, ap, ◌∙◌}
use Rattle.vf_base.specs.Base.{SourcePlace}
use Rattle.vf_base.specs.declared.ids.Place.{Place}
use Rattle.v_names.specs.Faults.{Wrong, UnknownName, DeclaredTwice, NoConstant, BadWidth, BadConnection, WrongKind as KindOfName, TooDeep as DeepInstance}
use Rattle.v_elab.specs.Refusals.{Refusal, Faulty, TwoDrivers as DrivenTwice, NoTop as TopMissing, TooMany as OverLimit, LoopAt}
use Rattle.elaborate.specs.ElabFaults.{refusal_of}
use Rattle.elaborate.specs.declared.fault.ElabFault.{ElabFault}
use Rattle.elaborate.specs.declared.fault.ElabFault.TheVariants.{Unknown, Twice, NotConstant, TooWide, PortMismatch, WrongKind, TooDeep, TwoDrivers, NoTop, TooMany, Loop, NoMemory}

abbrev place_from : SourcePlace → Place
place_from place = record { line = place.line; column = place.column }

abbrev fault_from_wrong : Place → Wrong → ElabFault
fault_from_wrong place UnknownName = Unknown place
fault_from_wrong place DeclaredTwice = Twice place
fault_from_wrong place NoConstant = NotConstant place
fault_from_wrong place BadWidth = TooWide place
fault_from_wrong place BadConnection = PortMismatch place
fault_from_wrong place KindOfName = WrongKind place
fault_from_wrong place DeepInstance = TooDeep place

-- the fault that tells a refusal
abbrev fault_from : Refusal → ElabFault
fault_from (Faulty fault) = fault_from_wrong (place_from fault.place) fault.wrong
fault_from (DrivenTwice place bit) = TwoDrivers (place_from place) bit
fault_from TopMissing = NoTop
fault_from (OverLimit what number) = TooMany what number
fault_from (LoopAt place) = Loop (place_from place)

abbrev fault_if : Option Refusal → ElabFault
fault_if None = NoMemory
fault_if (Some refusal) = fault_from refusal

back : (fault : ElabFault) → fault_if (refusal_of fault) ≡ fault
back (Unknown place) = refl
back (Twice place) = refl
back (NotConstant place) = refl
back (TooWide place) = refl
back (PortMismatch place) = refl
back (WrongKind place) = refl
back (TooDeep place) = refl
back (TwoDrivers place bit) = refl
back NoTop = refl
back (TooMany what number) = refl
back (Loop place) = refl
back NoMemory = refl

-- what tells the same is the same
pub one-refusal : (one other : ElabFault) → refusal_of one ≡ refusal_of other → one ≡ other
one-refusal one other e = sym (back one) ∙ ap fault_if e ∙ back other
