-- A slot that is hyperactive is the last one of the good first run (slots by IEEE 1364-2001, clause 5).
use Rattle.std.proofs.Common.{◌≡◌, ℕ, zero, suc, Bool, true, false, List, [], ◌∷◌, refl, ap, sym, ◌∙◌}
use Rattle.std.specs.Prelude.{Option, Some, slice_get}
use Rattle.v_design.specs.Designs.{FlatDesign, Machine, TestPlan, good_machine}
use Rattle.v_design.specs.Runs.{FirstSlot, first_run, is_hyper}
use Rattle.v_design.specs.Grades.{SlotOutcome, Fine, Race, Hyper, slot_outcome, phases, first_race, race_or_fine}
use Rattle.v_design.specs.OwnSteps.{slots_through_stop}
use Rattle.copy_laws.specs.Windows.{good_slots}
use Rattle.between_slots.specs.Updates.{LastIsFew}

some-slot : (a b : FirstSlot) → Some a ≡ Some b → a ≡ b
some-slot a b e = cc

-- the slots behind one that isn't the last
abbrev behind : Machine → List FirstSlot → SlotOutcome → List FirstSlot
behind machine slots Fine = slots_through_stop machine slots
behind machine slots (Race pair) = []
behind machine slots Hyper = []

pub fine-few : (machine : Machine) (slot : FirstSlot) → slot_outcome machine slot ≡ Fine → is_hyper slot ≡ false
fine-few machine slot = go (is_hyper slot)
  where
    go : (hyper : Bool) → elim hyper as (λ _. SlotOutcome) [ true ↦ Hyper | false ↦ race_or_fine (first_race machine 1 (phases machine slot)) ] ≡ Fine → hyper ≡ false
    go true e = cc
    go false e = refl

-- where another slot comes behind one, that one is fine
fine-before : (machine : Machine) (slots : List FirstSlot) (number : ℕ) (slot next : FirstSlot) → slice_get (slots_through_stop machine slots) number ≡ Some slot →
    slice_get (slots_through_stop machine slots) (suc number) ≡ Some next → slot_outcome machine slot ≡ Fine
fine-before machine [] number slot next here there = cc
fine-before machine (first ∷ slots) zero slot next here there = go (slot_outcome machine first) refl there
  where
    go : (outcome : SlotOutcome) → slot_outcome machine first ≡ outcome → slice_get (behind machine slots outcome) zero ≡ Some next → slot_outcome machine slot ≡ Fine
    go Fine e at = ap (slot_outcome machine) (sym (some-slot first slot here)) ∙ e
    go (Race pair) e at = cc
    go Hyper e at = cc
fine-before machine (first ∷ slots) (suc number) slot next here there = go (slot_outcome machine first) here there (fine-before machine slots number slot next)
  where
    go : (outcome : SlotOutcome) → slice_get (behind machine slots outcome) number ≡ Some slot → slice_get (behind machine slots outcome) (suc number) ≡ Some next →
        (slice_get (slots_through_stop machine slots) number ≡ Some slot → slice_get (slots_through_stop machine slots) (suc number) ≡ Some next → slot_outcome machine slot ≡ Fine) →
        slot_outcome machine slot ≡ Fine
    go Fine at later rest = rest at later
    go (Race pair) at later rest = cc
    go Hyper at later rest = cc

-- so before each slot of the good first run
pub few-before : (design : FlatDesign) (plan : TestPlan) (number : ℕ) (next : FirstSlot) → slice_get (good_slots design plan) number ≡ Some next → LastIsFew design plan number
few-before design plan zero next there = tt
few-before design plan (suc last) next there = λ slot here.
    fine-few (good_machine design) slot (fine-before (good_machine design) (first_run (good_machine design) plan.end) last slot next here there)
