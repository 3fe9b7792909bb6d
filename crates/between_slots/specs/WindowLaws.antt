-- The phases of a window as it grows (slots and phases by IEEE 1364-2001, clause 5).
use Rattle.std.proofs.Common.{◌≡◌, ℕ, zero, suc, ◌≤◌, List, [], ◌∷◌, ◌++◌, take, drop, refl, sym, ap, ◌∙◌, arith, append-nil, append_assoc}
use Rattle.std.specs.Prelude.{Some, slice_get}
use Rattle.std.proofs.lemmas.List.{take-append-drop, take-take}
use Rattle.v_design.specs.Designs.{FlatDesign, Machine, TestPlan, good_machine}
use Rattle.v_design.specs.Runs.{FirstSlot}
use Rattle.v_design.specs.Grades.{phases}
use Rattle.copy_laws.specs.Windows.{good_slots, window_slots}
use Rattle.between_slots.specs.Between.{slots_phases, window_phases}

some-slot : (a b : FirstSlot) → Some a ≡ Some b → a ≡ b
some-slot a b e = cc

window-none : (slots : List FirstSlot) (begins : ℕ) → drop begins (take begins slots) ≡ []
window-none [] zero = refl
window-none [] (suc begins) = refl
window-none (slot ∷ slots) zero = refl
window-none (slot ∷ slots) (suc begins) = window-none slots begins

window-push : (slots : List FirstSlot) (begins number : ℕ) (slot : FirstSlot) → begins ≤ number → slice_get slots number ≡ Some slot →
    drop begins (take (suc number) slots) ≡ drop begins (take number slots) ++ slot ∷ []
window-push [] begins number slot low here = cc
window-push (first ∷ slots) zero zero slot low here = ap (λ s. s ∷ []) (some-slot first slot here)
window-push (first ∷ slots) zero (suc number) slot low here = ap (λ l. first ∷ l) (window-push slots zero number slot (omega arith) here)
window-push (first ∷ slots) (suc begins) zero slot low here = absurd (omega (arith, low))
window-push (first ∷ slots) (suc begins) (suc number) slot low here = window-push slots begins number slot (omega (arith, low)) here

phases-push : (machine : Machine) (slots : List FirstSlot) (slot : FirstSlot) → slots_phases machine (slots ++ slot ∷ []) ≡ slots_phases machine slots ++ phases machine slot
phases-push machine [] slot = append-nil (phases machine slot)
phases-push machine (first ∷ slots) slot =
    ap (λ l. phases machine first ++ l) (phases-push machine slots slot) ∙ sym (append_assoc (phases machine first) (slots_phases machine slots) (phases machine slot))

-- a window of no slots has no phases
pub window_phases-none : (design : FlatDesign) (plan : TestPlan) (number : ℕ) → window_phases design plan number number ≡ []
window_phases-none design plan number = ap (slots_phases (good_machine design)) (window-none (good_slots design plan) number)

-- one of a slot more has that slot's phases too
pub window_phases-more : (design : FlatDesign) (plan : TestPlan) (begins number : ℕ) (slot : FirstSlot) → begins ≤ number → slice_get (good_slots design plan) number ≡ Some slot →
    window_phases design plan begins (suc number) ≡ window_phases design plan begins number ++ phases (good_machine design) slot
window_phases-more design plan begins number slot low here =
    ap (slots_phases (good_machine design)) (window-push (good_slots design plan) begins number slot low here)
    ∙ phases-push (good_machine design) (window_slots design plan begins number) slot

-- A window in two parts

window-part : {A : Type 0} (xs : List A) (begins middle : ℕ) → begins ≤ middle → drop begins xs ≡ drop begins (take middle xs) ++ drop middle xs
window-part [] zero zero low = refl
window-part [] zero (suc middle) low = refl
window-part [] (suc begins) zero low = refl
window-part [] (suc begins) (suc middle) low = refl
window-part (x ∷ xs) zero zero low = refl
window-part (x ∷ xs) zero (suc middle) low = ap (λ l. x ∷ l) (sym (take-append-drop middle xs))
window-part (x ∷ xs) (suc begins) zero low = absurd (omega (arith, low))
window-part (x ∷ xs) (suc begins) (suc middle) low = window-part xs begins middle (omega (arith, low))

-- its slots
pub window_slots-part : (design : FlatDesign) (plan : TestPlan) (begins middle ends : ℕ) → begins ≤ middle → middle ≤ ends →
    window_slots design plan begins ends ≡ window_slots design plan begins middle ++ window_slots design plan middle ends
window_slots-part design plan begins middle ends low high =
    window-part (take ends (good_slots design plan)) begins middle low
    ∙ ap (λ l. drop begins l ++ drop middle (take ends (good_slots design plan))) (take-take middle ends (good_slots design plan) high)

phases-join : (machine : Machine) (slots more : List FirstSlot) → slots_phases machine (slots ++ more) ≡ slots_phases machine slots ++ slots_phases machine more
phases-join machine [] more = refl
phases-join machine (slot ∷ slots) more =
    ap (λ l. phases machine slot ++ l) (phases-join machine slots more) ∙ sym (append_assoc (phases machine slot) (slots_phases machine slots) (slots_phases machine more))

-- and its phases
pub window_phases-part : (design : FlatDesign) (plan : TestPlan) (begins middle ends : ℕ) → begins ≤ middle → middle ≤ ends →
    window_phases design plan begins ends ≡ window_phases design plan begins middle ++ window_phases design plan middle ends
window_phases-part design plan begins middle ends low high =
    ap (slots_phases (good_machine design)) (window_slots-part design plan begins middle ends low high)
    ∙ phases-join (good_machine design) (window_slots design plan begins middle) (window_slots design plan middle ends)
