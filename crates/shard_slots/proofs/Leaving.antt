-- A fault behind a slot, and the own steps that it takes there (steps by IEEE 1364-2001, clause 9; slots by clause 5).
use Rattle.std.proofs.Common.{◌≡◌, ℕ, suc, ◌+◌, ◌≤◌, true, false, List, [], ◌∷◌, length, sym, ap, subst, arith, inl, inr}
use Rattle.std.specs.Prelude.{Option, None, Some, is_some}
use Rattle.v_design.specs.Designs.{FlatDesign, StuckAt, TestPlan}
use Rattle.v_design.specs.Plain.{fault_of}
use Rattle.v_design.specs.WellFormed.{KeepsRules}
use Rattle.copy_laws.specs.Windows.{RiseAtMostOwn}
use Rattle.fault_strobes.specs.Said.{plan_by}
use Rattle.own_gradings.specs.Laws.{OwnStepsRise}
use Rattle.own_gradings.specs.Numbers.{OwnStepsOf}
use Rattle.copy_lockstep.specs.graded_steps.Behind.{RisesWithin}
use Rattle.copy_lockstep.specs.copy_window.ShardFaults.{SameFault, kept_by}
use Rattle.copy_lockstep.specs.window_beside.Tried.{MayTry, WasTried}
use Rattle.copy_state.specs.Kept.{CopyKept}
use Rattle.good_runs.specs.declared.tried.TriedStep.{TriedStep}
use Rattle.copy_lockstep.specs.lockstep_block.Blocks.{TriedInSlot}
use Rattle.copy_lockstep.specs.slot_laws.Copies.{MayBeginSlot}
use Rattle.copy_lockstep.specs.copy_window.declared.fault.ShardFault.{ShardFault}
use Rattle.copy_lockstep.specs.phase_faults.declared.beside.FaultBeside.{FaultBeside}
use Rattle.copy_lockstep.specs.Steps.{SlotsTakeOwn}
use Rattle.copy_lockstep.specs.window_faults.Steps.{steps_of_fault}
use Rattle.copy_lockstep.specs.window_faults.declared.at.FaultAt.{FaultAt}
use Rattle.copy_lockstep.specs.window_faults.Within.{IsWithin}
use Rattle.shard_slots.specs.Slots.{TookOwn, WentIf, WentThrough, tried_if}
use Rattle.shard_slots.proofs.Numbers.{counter-rises, steps-rise}

-- the slot behind none is the first one
begun-first : (design : FlatDesign) (plan : TestPlan) (fault : StuckAt) (gone : ℕ) (copy : CopyKept) (tried : List TriedStep) → gone ≡ 0 → (may : MayBeginSlot design plan fault gone copy) →
    TriedInSlot design fault may.slot may.begins tried → (first : MayBeginSlot design plan fault 0 copy) × TriedInSlot design fault first.slot first.begins tried
begun-first design plan fault gone copy tried zero may own =
    subst (λ (n : ℕ). (first : MayBeginSlot design plan fault n copy) × TriedInSlot design fault first.slot first.begins tried) zero (may, own)

module _ (law : OwnStepsRise) (design : FlatDesign) (plan : TestPlan) (rules : KeepsRules design) (before through slot : ℕ) (own : ShardFault) (at : FaultAt) (beside : FaultBeside)
    (went : WentThrough design plan before through slot own at beside) where
  -- one that had entered the slot had come to it, and nothing was found of it
  pub none-tried : ((at.slot ≡ slot) → own.end ≡ None → ⊥) → length beside.one.tried.items ≡ 0
  none-tried other = elim went.tried [ inl none ↦ ap length none | inr some ↦ absurd (other some.0 some.1.none) ]

  -- one that rests
  pub rests-within : (tally : OwnStepsOf design plan) (counter : ℕ) → length beside.one.tried.items ≡ 0 →
      RisesWithin (steps_of_fault tally (before + slot) own) (steps_of_fault tally (before + (slot + 1)) own) counter (counter + length beside.one.tried.items)
  rests-within tally counter none =
      let later = steps-rise law design plan rules tally (before + slot) (before + (slot + 1)) (omega arith) (before + at.slot) at.passed own went.within.stands in
      omega (arith, later, none)

  -- it took no fewer in the first slot than those that it took itself
  first-rises : SlotsTakeOwn → TookOwn design plan (fault_of beside.fault) (before + slot) own at beside.one.tried.items → before + slot ≡ 0 → (counter : ℕ) →
      RiseAtMostOwn design (plan_by (kept_by own) plan) 0 1 (fault_of beside.fault ∷ []) counter (counter + length beside.one.tried.items)
  first-rises took some first counter =
      let begun = begun-first design plan (fault_of beside.fault) (before + slot) some.copy beside.one.tried.items first some.may some.in_slot in
      took.first design plan (fault_of beside.fault) (kept_by own) some.copy beside.one.tried.items counter begun.0 begun.1

  -- one of which nothing was found so far, and which stands behind the slot now: its own steps there are no fewer than those that it took itself
  pub through-within : SlotsTakeOwn → (tally : OwnStepsOf design plan) (new : ShardFault) (counter : ℕ) → SameFault own new →
      RisesWithin (steps_of_fault tally (before + slot) own) (steps_of_fault tally (before + (slot + 1)) new) counter (counter + length beside.one.tried.items)
  through-within took tally new counter place =
      counter-rises law design plan rules tally (before + slot) (before + (slot + 1)) (omega arith) own new (fault_of beside.fault) counter (counter + length beside.one.tried.items) went.listed place
      (elim went.tried [ inl none ↦ (λ counts zip. (let nothing : length beside.one.tried.items ≡ 0 = ap length none in omega (arith, nothing))) | inr some ↦ rises some.1 ])
    where
      rises : TookOwn design plan (fault_of beside.fault) (before + slot) own at beside.one.tried.items →
          RiseAtMostOwn design (plan_by (kept_by own) plan) (before + slot) (before + (slot + 1)) (fault_of beside.fault ∷ []) counter (counter + length beside.one.tried.items)
      rises some =
          elim some.enters [
            | inl enters ↦
                let next : suc (before + slot) ≡ before + (slot + 1) = omega arith in
                subst (λ (n : ℕ). RiseAtMostOwn design (plan_by (kept_by own) plan) (before + slot) n (fault_of beside.fault ∷ []) counter (counter + length beside.one.tried.items)) next
                (took.entered design plan (fault_of beside.fault) (before + slot) at.passed at.seen at.possible some.copy own beside.one.tried.items counter enters some.may some.in_slot)
            | inr first ↦
                let one : 1 ≡ before + (slot + 1) = omega (arith, first) in
                subst (λ (n : ℕ). RiseAtMostOwn design (plan_by (kept_by own) plan) n (before + (slot + 1)) (fault_of beside.fault ∷ []) counter (counter + length beside.one.tried.items)) (sym first)
                (subst (λ (n : ℕ). RiseAtMostOwn design (plan_by (kept_by own) plan) 0 n (fault_of beside.fault ∷ []) counter (counter + length beside.one.tried.items)) one
                (first-rises took some first counter))
          ]

  -- also where it was run whole through the slot
  pub whole-within : (tally : OwnStepsOf design plan) (new : ShardFault) (one other : ℕ) → SameFault own new →
      RiseAtMostOwn design (plan_by (kept_by own) plan) (before + slot) (before + (slot + 1)) (fault_of beside.fault ∷ []) one (other + length beside.one.tried.items) →
      RisesWithin (steps_of_fault tally (before + slot) own) (steps_of_fault tally (before + (slot + 1)) new) one (other + length beside.one.tried.items)
  whole-within tally new one other place rises =
      counter-rises law design plan rules tally (before + slot) (before + (slot + 1)) (omega arith) own new (fault_of beside.fault) one (other + length beside.one.tried.items) went.listed place rises

-- what it took itself in the slot may stand in for the same steps where it is run whole through it
pub may-try : SlotsTakeOwn → (design : FlatDesign) (plan : TestPlan) (before through slot : ℕ) (own : ShardFault) (at : FaultAt) (beside : FaultBeside) →
    WentThrough design plan before through slot own at beside → MayTry design (plan_by (kept_by own) plan) (before + slot) (fault_of beside.fault) beside.one.tried.items
may-try took design plan before through slot own at beside went = elim went.tried [
  | inl none ↦ inl none
  | inr some ↦ elim some.1.enters [
    | inl enters ↦
        inr (took.again design plan (fault_of beside.fault) (before + slot) at.passed at.seen at.possible some.1.copy own beside.one.tried.items enters some.1.may some.1.in_slot)
    | inr first ↦
        let begun = begun-first design plan (fault_of beside.fault) (before + slot) some.1.copy beside.one.tried.items first some.1.may some.1.in_slot in
        inr (subst (λ (n : ℕ). WasTried design (plan_by (kept_by own) plan) n (fault_of beside.fault) beside.one.tried.items) (sym first)
        (took.first_again design plan (fault_of beside.fault) (kept_by own) some.1.copy beside.one.tried.items begun.0 begun.1))
  ]
]

-- One that may have entered the slot

pub within-if : (design : FlatDesign) (plan : TestPlan) (before through slot : ℕ) (own : ShardFault) (at : FaultAt) (found : Option FaultBeside) → WentIf design plan before through slot own at found →
    IsWithin design plan before through own at
within-if design plan before through slot own at None rests = rests.within
within-if design plan before through slot own at (Some beside) went = went.within

-- its grading had ended
pub rests-if : (law : OwnStepsRise) (design : FlatDesign) (plan : TestPlan) (rules : KeepsRules design) (before through slot : ℕ) (own : ShardFault) (at : FaultAt) (found : Option FaultBeside) →
    WentIf design plan before through slot own at found → (tally : OwnStepsOf design plan) (counter : ℕ) → is_some own.end ≡ true →
    RisesWithin (steps_of_fault tally (before + slot) own) (steps_of_fault tally (before + (slot + 1)) own) counter (counter + tried_if found)
rests-if law design plan rules before through slot own at None rests tally counter some =
    let later = steps-rise law design plan rules tally (before + slot) (before + (slot + 1)) (omega arith) (before + at.slot) at.passed own rests.within.stands in
    omega (arith, later)
rests-if law design plan rules before through slot own at (Some beside) went tally counter some =
    rests-within law design plan rules before through slot own at beside went tally counter
    (none-tried law design plan rules before through slot own at beside went (λ here none. (let no : is_some own.end ≡ false = ap is_some none in cc)))

-- All faults

-- what was counted of those behind a place and of those before it, with what was ticked for these
abbrev pub RisesSoFar : ℕ → ℕ → ℕ → ℕ → ℕ → ℕ → Type 0
RisesSoFar from ticked left before mixed after = after + from + ticked ≤ before + mixed + left

-- one fault more
pub one-more : (from ticked left less mixed other one new tick before mid after : ℕ) → RisesSoFar from ticked left before mixed mid → left ≡ less + tick → other + one ≡ mixed + new →
    RisesWithin one new mid (after + tick) → RisesSoFar from ticked less before other after
one-more from ticked left less mixed other one new tick before mid after so_far left_is other_is rises = omega (arith, so_far, left_is, other_is, rises)

-- a slot behind faults that entered it
pub slot-rises : (old entered new ticked first before mid after : ℕ) → old ≤ entered → first ≡ 0 → RisesWithin first ticked before mid → RisesWithin entered new mid (after + ticked) →
    RisesWithin old new before after
slot-rises old entered new ticked first before mid after more none rises left = omega (arith, more, none, rises, left)
