-- The slots of a first run, one after another (IEEE 1364-2001, clause 5).
use Rattle.std.proofs.Common.{◌≡◌, ℕ, zero, suc, ◌+◌, ◌<◌, ◌≤◌, List, [], ◌∷◌, ap, subst, ◌∙◌, arith}
use Rattle.std.specs.Prelude.{Option, Some, None, slice_get}
use Rattle.std.proofs.lemmas.Bool.{le-leb}
use Rattle.vf_base.specs.Lists.{AllHold}
use Rattle.v_design.specs.Designs.{Machine}
use Rattle.v_design.specs.States.{State, start}
use Rattle.v_design.specs.Runs.{FirstSlot, only_if, first_run, next_slot}
use Rattle.v_design.specs.WellFormed.{KeepsRules}
use Rattle.order_laws.specs.FirstRuns.{Follow, Rise, FirstRunsGoOn}
use Rattle.machine_laws.specs.SlotLoop.{slot_from}
use Rattle.machine.specs.Standing.{following, begun_within, next-is-following, BeginsInFirstRun}

-- the slot on which a run goes on is the first of those that follow
follow-first : (machine : Machine) (time : ℕ) (begins : State) (slots : List FirstSlot) → Follow machine time (Some begins) slots → slice_get slots 0 ≡ Some (slot_from machine begins)
follow-first machine time begins [] follow = absurd follow
follow-first machine time begins (slot ∷ slots) follow = ap Some follow.0

-- behind each slot comes the one to which it leads
follow-next : (machine : Machine) (time : ℕ) (begins : Option State) (slots : List FirstSlot) (number : ℕ) (slot : FirstSlot) (next : State) → Follow machine time begins slots →
    slice_get slots number ≡ Some slot →
    next_slot machine time slot ≡ Some next → slice_get slots (suc number) ≡ Some (slot_from machine next)
follow-next machine time None [] number slot next follow here leads = cc
follow-next machine time None (one ∷ slots) number slot next follow here leads = absurd follow
follow-next machine time (Some begins) [] number slot next follow here leads = absurd follow
follow-next machine time (Some begins) (one ∷ slots) zero slot next follow here leads =
    let same : one ≡ slot = cc in
    follow-first machine time next slots (subst (λ o. Follow machine time o slots) (ap (next_slot machine time) same ∙ leads) follow.1)
follow-next machine time (Some begins) (one ∷ slots) (suc number) slot next follow here leads = follow-next machine time (next_slot machine time one) slots number slot next follow.1 here leads

-- and begins later
all-first : (P : FirstSlot → Type 0) (slots : List FirstSlot) (slot : FirstSlot) → AllHold P slots → slice_get slots 0 ≡ Some slot → P slot
all-first P [] slot all here = cc
all-first P (one ∷ slots) slot all here = let same : one ≡ slot = cc in subst P same all.0

rise-next : (slots : List FirstSlot) (number : ℕ) (slot later : FirstSlot) → Rise slots → slice_get slots number ≡ Some slot → slice_get slots (suc number) ≡ Some later →
    slot.begins.time < later.begins.time
rise-next [] number slot later rise here there = cc
rise-next (one ∷ slots) zero slot later rise here there =
    let same : one ≡ slot = cc in
    subst (λ (s : FirstSlot). s.begins.time < later.begins.time) same (all-first (λ (s : FirstSlot). one.begins.time < s.begins.time) slots later rise.0 there)
rise-next (one ∷ slots) (suc number) slot later rise here there = rise-next slots number slot later rise.1 here there

-- the first slot is one of the first run
pub start-in-run : FirstRunsGoOn → (machine : Machine) → KeepsRules machine.design → BeginsInFirstRun machine (start machine)
start-in-run law machine rules = record {
  number = 0;
  stands = λ time low. follow-first machine time (start machine) (first_run machine time) (law.follow machine time rules);
}

-- and so is the one after a slot of it
pub next-in-run : FirstRunsGoOn → (machine : Machine) (begins next : State) → KeepsRules machine.design → BeginsInFirstRun machine begins → following machine (slot_from machine begins) ≡ Some next →
    BeginsInFirstRun machine next
next-in-run law machine begins next rules within leads = record {
  number = suc within.number;
  stands = λ time low. behind time (omega (arith, low, later)) low;
}
  where
    leads-by : (time : ℕ) → next.time ≤ time → next_slot machine time (slot_from machine begins) ≡ Some next
    leads-by time low =
        next-is-following machine time (slot_from machine begins) ∙ ap (begun_within time) leads ∙ ap (λ b. only_if b next) (le-leb next.time time low)

    behind : (time : ℕ) → begins.time ≤ time → next.time ≤ time → slice_get (first_run machine time) (suc within.number) ≡ Some (slot_from machine next)
    behind time early low =
        follow-next machine time (Some (start machine)) (first_run machine time) within.number (slot_from machine begins) next (law.follow machine time rules) (within.stands time early)
        (leads-by time low)

    later : begins.time < next.time
    later =
        rise-next (first_run machine (begins.time + next.time)) within.number (slot_from machine begins) (slot_from machine next) (law.rise machine (begins.time + next.time) rules)
        (within.stands (begins.time + next.time) (omega arith)) (behind (begins.time + next.time) (omega arith) (omega arith))
