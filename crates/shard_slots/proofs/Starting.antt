-- Faults before the first slot (strobes by the plan; slots by IEEE 1364-2001, clause 5).
use Rattle.std.proofs.Common.{◌≡◌, ℕ, zero, suc, ◌+◌, ◌<◌, Bool, true, List, [], ◌∷◌, length, refl, sym, ap, subst, ◌∙◌, inl, inr, arith}
use Rattle.std.specs.Prelude.{Option, Some, None, option_map, replicate, slice_get}
use Rattle.std.proofs.lemmas.List.{length-replicate}
use Rattle.std.proofs.lemmas.Option.{same_Some}
use Rattle.vf_base.specs.Lists.{AllHold}
use Rattle.vf_base.specs.declared.finding.End.{End}
use Rattle.v_design.specs.Designs.{FlatDesign, Machine, StuckAt, TestPlan, good_machine, faulty_machine}
use Rattle.v_design.specs.Plain.{grade_of}
use Rattle.v_design.specs.Runs.{FirstSlot, first_run}
use Rattle.v_design.specs.States.{State, start}
use Rattle.v_design.specs.WellFormed.{KeepsRules}
use Rattle.copy_laws.specs.Differences.{Differences}
use Rattle.copy_laws.specs.Windows.{good_slots}
use Rattle.good_trace.specs.Traces.{WindowKept}
use Rattle.order_laws.specs.FirstRuns.{FirstRunsGoOn, Follow}
use Rattle.phase_order.specs.Order.{PhasesFollow}
use Rattle.between_slots.proofs.Leading.{through-get}
use Rattle.beside_laws.specs.GoodRuns.{GoodRunGoesOn}
use Rattle.copy_state.specs.Kept.{CopyKept, nothing_kept}
use Rattle.lockstep_laws.specs.Lockstep.{AreInLockstep}
use Rattle.lockstep_laws.specs.Slots.{KeepsNothingSame}
use Rattle.start_copy.specs.Start.{KeepsStart, StartsInLockstep, value_differences}
use Rattle.start_copy.specs.lockstep_slots.Kept.{kept_of, kept_within}
use Rattle.copy_lockstep.specs.slot_laws.Copies.{MayBeginSlot, lockstep_differences}
use Rattle.copy_lockstep.specs.block_events.declared.runner.Runner.{Runner}
use Rattle.copy_lockstep.specs.lockstep_room.declared.counts.Counts.{Counts}
use Rattle.copy_lockstep.specs.lockstep_block.Rooms.{IsLockstepRoom}
use Rattle.copy_lockstep.specs.moment_laws.Places.{IsAtSlot}
use Rattle.copy_lockstep.specs.moment_laws.Shown.{MomentKept}
use Rattle.start_copy.specs.lockstep_slots.Places.{first_place, state_there}
use Rattle.copy_lockstep.proofs.slot_laws.Begins.{first-begins, slot-shown}
use Rattle.copy_lockstep.proofs.slot_laws.Rooms.{shows-whole}
use Rattle.copy_lockstep.specs.copy_window.declared.fault.ShardFault.{ShardFault}
use Rattle.copy_lockstep.specs.phase_faults.declared.beside.FaultBeside.{FaultBeside}
use Rattle.copy_lockstep.specs.copy_window.ShardFaults.{IsShardFault}
use Rattle.copy_lockstep.specs.window_strobes.Passed.{HasPassed}
use Rattle.copy_lockstep.specs.window_faults.Within.{IsWithin}
use Rattle.copy_lockstep.specs.window_faults.declared.at.FaultAt.{FaultAt}
use Rattle.copy_lockstep.proofs.lockstep_shards.Laws.{fine-there, last, last-there}
use Rattle.shard_slots.specs.Slots.{AllEntered, Enters, EntersFirst, HaveEntered, HaveEnteredFirst}
use Rattle.shard_slots.proofs.Beside.{enter-all}

-- Where a copy may begin the first slot

-- it keeps what the faulty machine has otherwise than the good one at the start
pub may-first : StartsInLockstep → GoodRunGoesOn → (design : FlatDesign) (plan : TestPlan) → KeepsRules design → 1 < length (good_slots design plan) → (fault : StuckAt) (number gone : ℕ)
    (copy : CopyKept) → KeepsStart design fault (nothing_kept number) copy → gone ≡ 0 → MayBeginSlot design plan fault gone copy
may-first law good design plan rules more fault number gone copy keeps none =
    let starts = law design fault number copy keeps in
    let alike : value_differences copy.values ≡ lockstep_differences copy =
    ap (λ (k : CopyKept). record { values = copy.values; activities = []; updates = k.updates }) (sym starts.0) in
    record {
      none = ap (λ (k : CopyKept). k.states) starts.0;
      slot = last good design plan rules 0 more;
      stands = subst (λ (n : ℕ). slice_get (good_slots design plan) n ≡ Some (last good design plan rules 0 more)) (sym none) (last-there good design plan rules 0 more);
      fine = fine-there good design plan rules 0 more;
      begins = start (faulty_machine design fault);
      given = inr (record {
        number_is = none;
        begins_is = refl;
        together = record {
          rules = rules;
          lockstep =
              subst
              (λ (d : Differences). AreInLockstep (kept_within (kept_of d) (start (good_machine design))) (start (good_machine design)) (start (faulty_machine design fault))) alike
              starts.1.lockstep;
          nothing_same =
              subst (λ (d : Differences). KeepsNothingSame (kept_within (kept_of d) (start (good_machine design))) (start (good_machine design))) alike starts.1.nothing_same;
        };
      });
    }

-- Of each of some

pub all-get : {A : Type 0} (P : A → Type 0) (xs : List A) (place : ℕ) (x : A) → AllHold P xs → slice_get xs place ≡ Some x → P x
all-get P [] place x all here = cc
all-get P (first ∷ xs) zero x all here = subst P (same_Some first x here) all.0
all-get P (first ∷ xs) (suc place) x all here = all-get P xs place x all.1 here

pub all-held : {A : Type 0} (P Q : A → Type 0) → ((x : A) → P x → Q x) → (xs : List A) → AllHold P xs → AllHold Q xs
all-held P Q law [] all = tt
all-held P Q law (x ∷ xs) all = (law x all.0, all-held P Q law xs all.1)

-- What is known of it then

-- behind no slot nothing is found
pub none-found : (design : FlatDesign) (plan : TestPlan) (passed : ℕ) (own : ShardFault) → IsShardFault design plan 0 passed own → own.end ≡ None
none-found design plan passed own stands = go own.end (stands.beside.none_before refl)
  where
    go : (end : Option End) → option_map grade_of end ≡ None → end ≡ None
    go None none = refl
    go (Some found) none = cc

-- it comes to the first slot, before which no strobe is
module _ (design : FlatDesign) (plan : TestPlan) (through passed : ℕ) (has : HasPassed design plan 0 passed) (low : 0 < through) where
  at-first : (own : ShardFault) (at : FaultAt) → at.slot ≡ 0 → at.passed ≡ 0 → IsShardFault design plan 0 passed own → IsWithin design plan 0 through own at
  at-first own at slot_is passed_is stands =
      let none : passed ≡ 0 = has.none refl in
      record {
        within = omega (arith, slot_is, low);
        stands =
            subst (λ (n : ℕ). IsShardFault design plan (0 + n) at.passed own) (sym slot_is)
            (subst (λ (n : ℕ). IsShardFault design plan 0 n own) (none ∙ sym passed_is) stands);
        has_passed = λ nothing.
            subst (λ (n : ℕ). HasPassed design plan (0 + n) at.passed) (sym slot_is) (subst (HasPassed design plan 0) (none ∙ sym passed_is) has);
      }

  enters-at : 1 < length (good_slots design plan) → (own : ShardFault) (at : FaultAt) (beside : FaultBeside) → at.slot ≡ 0 → at.passed ≡ 0 → IsShardFault design plan 0 passed own →
      EntersFirst design plan through own beside → Enters design plan 0 through 0 own at beside
  enters-at more own at beside slot_is passed_is stands enters = record {
    within = at-first own at slot_is passed_is stands;
    come = λ none. omega (arith, slot_is);
    listed = enters.listed;
    tried = enters.tried;
    goes = λ goes. record {
      slot_is = slot_is;
      fine = inl more;
      none = none-found design plan passed own stands;
      enters = inr refl;
      place = enters.place goes;
      states = enters.states goes;
    };
    begins = λ goes. enters.begins goes;
  }

  -- so do all
  have-entered : 1 < length (good_slots design plan) → (faults : List ShardFault) (ats : List FaultAt) (besides : List FaultBeside) →
      ((place : ℕ) (own : ShardFault) → slice_get faults place ≡ Some own → IsShardFault design plan 0 passed own) → length ats ≡ length faults →
      ((place : ℕ) (at : FaultAt) → slice_get ats place ≡ Some at → (at.slot ≡ 0) × (at.passed ≡ 0)) → HaveEnteredFirst design plan through faults besides →
      AllEntered design plan 0 through 0 faults ats besides
  have-entered more faults ats besides all count start entered = record {
    count = count;
    beside = entered.beside;
    each = λ place own at beside here there one.
        enters-at more own at beside (start place at there).0 (start place at there).1 (all place own here) (entered.each place own beside here one);
  }

-- all of them stand alike
some-at : (one other : FaultAt) → Some one ≡ Some other → one ≡ other
some-at one other e = cc

pub all-alike : (count place : ℕ) (first at : FaultAt) → slice_get (replicate count first) place ≡ Some at → at ≡ first
all-alike zero place first at here = cc
all-alike (suc count) zero first at here = sym (some-at first at here)
all-alike (suc count) (suc place) first at here = all-alike count place first at here

-- in a window that begins with the first slot, where they are seen as a slice
pub all-entered : (design : FlatDesign) (plan : TestPlan) (run window : WindowKept) (passed count : ℕ) (faults lent : List ShardFault) (ats : List FaultAt) (entered : List Bool) (besides : List FaultBeside) →
    window ≡ run → run.before ≡ 0 → run.through ≡ 1 → 1 < length (good_slots design plan) → HasPassed design plan run.before passed → AllHold (IsShardFault design plan run.before passed) faults →
    lent ≡ faults → count ≡ length faults → ats ≡ replicate count (record { slot = 0; passed = 0; seen = 0; possible = None }) → entered ≡ replicate count true → HaveEnteredFirst design plan window.through lent besides →
    HaveEntered design plan window.before window.through 0 faults ats entered besides
all-entered design plan run window passed count faults lent ats entered besides is none one more has stands same many ats_are told firsts =
    let first : FaultAt = record { slot = 0; passed = 0; seen = 0; possible = None } in
    let begins : window.before ≡ 0 = ap (λ (w : WindowKept). w.before) is ∙ none in
    let through : window.through ≡ 1 = ap (λ (w : WindowKept). w.through) is ∙ one in
    let low : 0 < window.through = omega (arith, through) in
    let counted : ats ≡ replicate (length faults) first = ats_are ∙ ap (λ (n : ℕ). replicate n first) many in
    enter-all design plan window.before window.through 0 faults ats entered besides
    (subst (λ (n : ℕ). AllEntered design plan n window.through 0 faults ats besides) (sym begins)
    (have-entered design plan window.through passed (subst (λ (n : ℕ). HasPassed design plan n passed) none has) low more faults ats besides
    (λ place own here. subst (λ (n : ℕ). IsShardFault design plan n passed own) none (all-get (IsShardFault design plan run.before passed) faults place own stands here))
    (ap length counted ∙ length-replicate (length faults) first)
    (λ place at here.
    let alike : at ≡ first = all-alike (length faults) place first at (subst (λ (l : List FaultAt). slice_get l place ≡ Some at) counted here) in
    (ap (λ (a : FaultAt). a.slot) alike, ap (λ (a : FaultAt). a.passed) alike))
    (subst (λ (l : List ShardFault). HaveEnteredFirst design plan window.through l besides) same firsts)))
    (told ∙ ap (λ (n : ℕ). replicate n true) many)

-- The start

some-slot : (one other : FirstSlot) → Some one ≡ Some other → one ≡ other
some-slot one other e = cc

-- a first run begins with a slot that begins in the start state
begins-first : (machine : Machine) (end : ℕ) (slots : List FirstSlot) (slot : FirstSlot) → Follow machine end (Some (start machine)) slots → slice_get slots 0 ≡ Some slot →
    slot.begins ≡ start machine
begins-first machine end [] slot follow here = absurd follow
begins-first machine end (first ∷ slots) slot follow here = ap (λ (s : FirstSlot). s.begins) (sym (some-slot first slot here) ∙ follow.0)

-- a moment at the first slot's beginning shows what the good machine holds at the start
pub start-values : FirstRunsGoOn → PhasesFollow → (design : FlatDesign) (plan : TestPlan) → KeepsRules design → (from until : ℕ) (good : MomentKept) → from ≡ 0 →
    IsAtSlot design plan from until 0 good → good.values ≡ (start (good_machine design)).values
start-values runs follow design plan rules from until good none at =
    let machine = good_machine design in
    let there : from + 0 ≡ 0 = omega (arith, none) in
    let here : slice_get (first_run machine plan.end) 0 ≡ Some at.shown.slot =
    through-get machine (first_run machine plan.end) 0 at.shown.slot (ap (slice_get (good_slots design plan)) (sym there) ∙ slot-shown follow design plan from until 0 good at) in
    at.shown.shows.values
    ∙ ap (λ (s : State). s.values) (first-begins follow design plan from until 0 good at ∙ begins-first machine plan.end (first_run machine plan.end) at.shown.slot (runs.follow machine plan.end rules) here)

-- the room's moments are whole there
pub room-there : (design : FlatDesign) (plan : TestPlan) (from until : ℕ) (runner : Runner) (before behind new : MomentKept) (counts : Counts) → IsLockstepRoom design runner before behind counts →
    IsAtSlot design plan from until 0 new → IsLockstepRoom design runner new behind counts
room-there design plan from until runner before behind new counts room at = record {
  whole = room.whole;
  design_is = room.design_is;
  before_is = shows-whole design (state_there (good_machine design) (first_place at.first at.later)) new at.shown.shows;
  behind_is = room.behind_is;
  counts_are = room.counts_are;
}
