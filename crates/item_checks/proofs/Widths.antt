-- Ranges that are too wide.
use Rattle.std.proofs.Common.{◌≡◌, Bool, ◌&&◌, List, [], ◌∷◌, ◌++◌, Option, Some, None, refl, sym, ap, ◌∙◌, append-nil}
use Rattle.vf_base.specs.Base.{SourcePlace}
use Rattle.v_names.specs.Faults.{BadWidth, Fault, first_fault, fault_if}
use Rattle.v_names.specs.FaultLaws.{first_of}
use Rattle.v_names.specs.Readings.{is_empty}
use Rattle.name_checks.specs.Noted.{noted, noted_is, noted_none}

-- a range whose bounds have faults: nothing is said of its width
pub range-some : (old own new : Option Fault) (bounds : List Fault) (first : Fault) (wide : Bool) (place : SourcePlace) → own ≡ noted None bounds → Some first ≡ own → new ≡ first_of old (Some first)
    → new ≡ noted old (bounds ++ fault_if (is_empty bounds && wide) place BadWidth)
range-some old own new [] first wide place e f g = let h : Some first ≡ None = f ∙ e in absurd (let x : ⊥ = cc in x)
range-some old own new (fault ∷ bounds) first wide place e f g =
    g ∙ ap (first_of old) (f ∙ e ∙ noted_none (fault ∷ bounds)) ∙ sym (noted_is old (fault ∷ bounds)) ∙ ap (noted old) (sym (append-nil (fault ∷ bounds)))

-- a range whose bounds have none
pub range-none : (old own new : Option Fault) (bounds : List Fault) (wide : Bool) (place : SourcePlace) → own ≡ noted None bounds → None ≡ own → new ≡ noted old (fault_if wide place BadWidth)
    → new ≡ noted old (bounds ++ fault_if (is_empty bounds && wide) place BadWidth)
range-none old own new [] wide place e f g = g
range-none old own new (fault ∷ bounds) wide place e f g = let h : None ≡ first_fault (fault ∷ bounds) = f ∙ e ∙ noted_none (fault ∷ bounds) in absurd (let x : ⊥ = cc in x)
