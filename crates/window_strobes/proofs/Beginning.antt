-- The strobes that come behind a window's beginning (strobes by the plan; slots by IEEE 1364-2001, clause 5).
use Rattle.std.proofs.Common.{◌≡◌, ℕ, zero, suc, ◌<◌, ◌≤◌, List, [], ◌∷◌, length, drop, refl, sym, ap, ◌∙◌, arith, inl, inr}
use Rattle.std.specs.Prelude.{Option, Some, None, slice_get}
use Rattle.std.proofs.lemmas.Option.{slice_get_cases}
use Rattle.vf_base.specs.Lists.{AllHold}
use Rattle.v_design.specs.Designs.{FlatDesign, TestPlan}
use Rattle.v_design.specs.Runs.{FirstSlot}
use Rattle.v_design.specs.WellFormed.{IsAscending}
use Rattle.copy_laws.specs.Windows.{WindowEnd, good_slots, time_at}
use Rattle.window_strobes.specs.Known.{IsKnown}
use Rattle.window_strobes.specs.Passed.{HasPassed}
use Rattle.window_strobes.specs.Slots.{BeginsBy}
use Rattle.window_strobes.proofs.GoodStates.{through-within}

some-is : {A : Type 0} (one other : A) → Some one ≡ Some other → one ≡ other
some-is one other e = cc

-- strobes from a number on ascend
pub ascending-drop : (count : ℕ) (strobes : List ℕ) → IsAscending strobes → IsAscending (drop count strobes)
ascending-drop zero strobes all = all
ascending-drop (suc count) [] all = tt
ascending-drop (suc count) (strobe ∷ strobes) all = ascending-drop count strobes all.1

all-from : (P Q : ℕ → Type 0) (strobes : List ℕ) → ((strobe : ℕ) → P strobe → Q strobe) → AllHold P strobes → AllHold Q strobes
all-from P Q [] from all = tt
all-from P Q (strobe ∷ strobes) from all = (from strobe all.0, all-from P Q strobes from all.1)

all-any : (P : ℕ → Type 0) (strobes : List ℕ) → ((strobe : ℕ) → P strobe) → AllHold P strobes
all-any P [] any = tt
all-any P (strobe ∷ strobes) any = (any strobe, all-any P strobes any)

-- the slots before a window begin by each of the strobes behind its beginning
pub begun-all : (design : FlatDesign) (plan : TestPlan) (before through passed : ℕ) (ending : WindowEnd) → IsKnown design plan before through ending → HasPassed design plan before passed →
    AllHold (BeginsBy design plan before) (drop passed plan.strobes)
begun-all design plan before through passed ending known has = go before refl
  where
    some : before < through
    some = known.window.some

    all : through ≤ length (good_slots design plan)
    all = through-within design plan before through ending known

    time-there : (number : ℕ) (last next : FirstSlot) → slice_get (good_slots design plan) number ≡ Some last → slice_get (good_slots design plan) (suc number) ≡ Some next →
        time_at design plan (suc number) ≡ Some last.begins.time
    time-there number last next here there =
        ap (λ (o : Option FirstSlot). elim o as (λ _. Option ℕ) [
          | None ↦ Some plan.end
          | Some later ↦ elim (slice_get (good_slots design plan) number) as (λ _. Option ℕ) [ None ↦ Some plan.end | Some slot ↦ Some slot.begins.time ]
        ]) there
        ∙ ap (λ (o : Option FirstSlot). elim o as (λ _. Option ℕ) [ None ↦ Some plan.end | Some slot ↦ Some slot.begins.time ]) here

    behind : (count : ℕ) → before ≡ suc count → (last next : FirstSlot) → slice_get (good_slots design plan) count ≡ Some last → slice_get (good_slots design plan) (suc count) ≡ Some next →
        AllHold (BeginsBy design plan before) (drop passed plan.strobes)
    behind count e last next here there =
        all-from (λ strobe. last.begins.time < strobe) (BeginsBy design plan before) (drop passed plan.strobes)
        (λ strobe high number one f at.
        (let same : number ≡ count = omega (arith, e, f) in
        let is : last ≡ one = some-is last one (sym here ∙ sym (ap (slice_get (good_slots design plan)) same) ∙ at) in
        let time : last.begins.time ≡ one.begins.time = ap (λ (s : FirstSlot). s.begins.time) is in omega (arith, high, time)))
        (has.later last.begins.time (ap (time_at design plan) e ∙ time-there count last next here there) (omega (arith, some, all)))

    go : (number : ℕ) → before ≡ number → AllHold (BeginsBy design plan before) (drop passed plan.strobes)
    go zero e = all-any (BeginsBy design plan before) (drop passed plan.strobes) (λ strobe last one f at. absurd (omega (arith, e, f)))
    go (suc count) e = elim (slice_get_cases (good_slots design plan) count).1 [
      | inl last ↦ elim (slice_get_cases (good_slots design plan) (suc count)).1 [
        | inl next ↦ behind count e last.0 next.0 last.2 next.2
        | inr past ↦ absurd (omega (arith, past.0, some, all, e))
      ]
      | inr past ↦ absurd (omega (arith, past.0, some, all, e))
    ]
