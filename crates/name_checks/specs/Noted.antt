-- The first of faults that are found one after the other.
use Rattle.std.proofs.Common.{◌≡◌, List, [], ◌∷◌, ◌++◌, Option, Some, None, refl, sym, ap, ◌∙◌}
use Rattle.v_names.specs.Faults.{Fault, first_fault, earlier_of}
use Rattle.v_names.specs.FaultLaws.{first_of, first-append}

-- the first of a fault that may have come before and of some faults
abbrev pub noted : Option Fault → List Fault → Option Fault
noted first [] = first
noted first (fault ∷ faults) = noted (first_of first (Some fault)) faults

-- faults in two lists are noted one list after the other
pub noted_append : (first : Option Fault) (faults more : List Fault) → noted first (faults ++ more) ≡ noted (noted first faults) more
noted_append first [] more = refl
noted_append first (fault ∷ faults) more = noted_append (first_of first (Some fault)) faults more

none-after : (first : Option Fault) → first ≡ first_of first None
none-after None = refl
none-after (Some fault) = refl

abbrev of_option : Option Fault → List Fault
of_option None = []
of_option (Some fault) = fault ∷ []

first-option : (first : Option Fault) → first_fault (of_option first) ≡ first
first-option None = refl
first-option (Some fault) = refl

first-groups : (first : Option Fault) (fault : Fault) (rest : List Fault) → first_of (first_of first (Some fault)) (first_fault rest) ≡ first_of first (first_fault (fault ∷ rest))
first-groups None fault rest = refl
first-groups (Some before) fault rest =
    sym (first-append (before ∷ fault ∷ []) rest)

-- what is noted is the first of what came before and of the first of the faults
pub noted_is : (first : Option Fault) (faults : List Fault) → noted first faults ≡ first_of first (first_fault faults)
noted_is first [] = none-after first
noted_is first (fault ∷ faults) = noted_is (first_of first (Some fault)) faults ∙ first-groups first fault faults

-- what is noted at first is the first fault
pub noted_none : (faults : List Fault) → noted None faults ≡ first_fault faults
noted_none faults = noted_is None faults

-- faults that are noted in one, two or three steps
pub noted-one : (old new : Option Fault) (xs ys : List Fault) → new ≡ noted old xs → ys ≡ xs → new ≡ noted old ys
noted-one old new xs ys e s = e ∙ ap (noted old) (sym s)

pub noted-two : (old one new : Option Fault) (xs ys all : List Fault) → one ≡ noted old xs → new ≡ noted one ys → all ≡ xs ++ ys → new ≡ noted old all
noted-two old one new xs ys all e f s = f ∙ ap (λ m. noted m ys) e ∙ sym (noted_append old xs ys) ∙ ap (noted old) (sym s)

pub noted-three : (old one two new : Option Fault) (xs ys zs all : List Fault) → one ≡ noted old xs → two ≡ noted one ys → new ≡ noted two zs → all ≡ xs ++ (ys ++ zs) → new ≡ noted old all
noted-three old one two new xs ys zs all e f g s = noted-two old one new xs (ys ++ zs) all e (g ∙ ap (λ m. noted m zs) f ∙ sym (noted_append one ys zs)) s
