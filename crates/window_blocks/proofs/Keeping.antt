-- What is kept of the blocks of slots, slot by slot.
use Rattle.std.proofs.Common.{◌≡◌, ℕ, suc, ◌+◌, ◌^◌, ◌<◌, ◌≤◌, List, [], ◌∷◌, ◌++◌, length, map, false, sym, ap, subst, ◌∙◌, arith}
use Rattle.std.specs.Prelude.{Option, Some, None, slice_get}
use Rattle.std.specs.List.Sorted.{IsNonDecreasing}
use Rattle.std.proofs.lemmas.List.{map-append}
use Rattle.std.proofs.lemmas.Option.{slice_get_within}
use Rattle.vf_base.specs.Lists.{AllHold}
use Rattle.v_design.specs.Designs.{FlatDesign, TestPlan, Machine, good_machine}
use Rattle.v_design.specs.Grades.{Phase, phases}
use Rattle.v_design.specs.Runs.{FirstSlot, is_hyper, happened, made, Turns}
use Rattle.v_design.specs.States.{State, Event, TurnKind, turn_of}
use Rattle.v_design.specs.WellFormed.{KeepsRules}
use Rattle.copy_laws.specs.Beside.{AreFirst}
use Rattle.copy_laws.specs.Windows.{good_slots}
use Rattle.machine_laws.specs.SlotLoop.{slot_from}
use Rattle.between_slots.specs.Between.{window_phases}
use Rattle.between_slots.specs.WindowLaws.{window_phases-none, window_phases-more}
use Rattle.between_slots.proofs.Ends.{IsAsked, good-asked, asked-few}
use Rattle.between_slots.proofs.Resting.{LoopLaws}
use Rattle.phase_order.specs.Order.{IsFirstPhase, ComeNext, FollowOrder, PhasesFollow}
use Rattle.phase_blocks.specs.Blocks.{BlocksBegin}
use Rattle.causal_monitor.specs.declared.slot.SlotLog.{SlotLog}
use Rattle.slot_record.specs.Records.{event_of}
use Rattle.window_blocks.specs.Blocks.{AreBlockMoments, AreFirstEvents, ArePhaseEnds}
use Rattle.window_blocks.specs.Gathered.{all_beginnings, all_firsts, all_ends, moment_behind, phase_events, slot_events, GathersBlocks, HasNoBlock}
use Rattle.window_blocks.specs.Kept.{IsLoggedAt, AreBlocksOf, IsInOrder, KeepsBlocks}
use Rattle.window_blocks.specs.declared.table.BlockTable.{BlockTable}
use Rattle.window_blocks.proofs.Listed.{beginnings-append, firsts-append, ends-append, behind-append}
use Rattle.window_blocks.proofs.Told.{beginnings-rise, block-moments, block-firsts, phase-ends}

-- The phases of a slot are in the first order

first-in-order : (machine : Machine) (turn : Option TurnKind) (begins : State) (phase : Phase) → IsFirstPhase machine turn begins phase → IsInOrder machine phase
first-in-order machine turn begins phase first = subst (λ s. AreFirst machine s phase.events) (sym first.begins_is) first.first

next-in-order : (machine : Machine) (end : State) (phases : List Phase) → ComeNext machine end phases → AllHold (IsInOrder machine) phases
next-in-order machine end [] next = tt
next-in-order machine end (phase ∷ rest) next = (
  first-in-order machine (turn_of end) (made machine end Turns) phase next.1,
  next-in-order machine (happened machine (made machine end Turns) phase.events) rest next.2,
)

follow-in-order : (machine : Machine) (turn : Option TurnKind) (begins : State) (phases : List Phase) → FollowOrder machine turn begins phases → AllHold (IsInOrder machine) phases
follow-in-order machine turn begins [] follow = absurd follow
follow-in-order machine turn begins (phase ∷ rest) follow = (
  first-in-order machine turn begins phase follow.0,
  next-in-order machine (happened machine begins phase.events) rest follow.1,
)

-- of a slot of the good first run
slot-in-order : LoopLaws → PhasesFollow → (design : FlatDesign) (plan : TestPlan) (number : ℕ) (slot : FirstSlot) → KeepsRules design → slice_get (good_slots design plan) number ≡ Some slot →
    is_hyper slot ≡ false → AllHold (IsInOrder (good_machine design)) (phases (good_machine design) slot)
slot-in-order laws follow design plan number slot rules here few =
    subst (λ moves. AllHold (IsInOrder machine) (phases machine (record { begins = slot.begins; moves = moves }))) (sym asked.moves)
    (follow-in-order machine None slot.begins (phases machine (slot_from machine slot.begins)) (follow machine slot.begins rules asked.asked (asked-few machine slot asked few)).follow)
  where
    machine : Machine
    machine = good_machine design

    asked : IsAsked (good_machine design) slot
    asked = good-asked laws design plan rules number slot here

all-append : {A : Type 0} (P : A → Type 0) (xs ys : List A) → AllHold P xs → AllHold P ys → AllHold P (xs ++ ys)
all-append P [] ys h k = k
all-append P (x ∷ xs) ys h k = (h.0, all-append P xs ys h.1 k)

-- No slot

pub KeepsBlocks-none : (design : FlatDesign) (plan : TestPlan) (number : ℕ) (table : BlockTable) → KeepsRules design → length (good_slots design plan) < 2 ^ 63 → HasNoBlock table →
    KeepsBlocks design plan number number table
KeepsBlocks-none design plan number table rules fits none = record {
  rules = rules;
  run_fits = fits;
  order = omega arith;
  in_order = subst (AllHold (IsInOrder (good_machine design))) (sym empty) tt;
  moments_are = none.moments ∙ ap (λ l. all_beginnings 0 (phase_events l)) (sym empty);
  firsts_are = ap (map event_of) none.actors ∙ ap (λ l. all_firsts (phase_events l)) (sym empty);
  ends_are = none.ends ∙ ap (λ l. all_ends 0 (phase_events l)) (sym empty);
  moment_is = none.moment ∙ ap (λ l. moment_behind 0 (phase_events l)) (sym empty);
}
  where
    empty : window_phases design plan number number ≡ []
    empty = window_phases-none design plan number

-- One slot more

pub push-fits : (design : FlatDesign) (plan : TestPlan) (number : ℕ) (log : SlotLog) → length (good_slots design plan) < 2 ^ 63 → IsLoggedAt design plan number log → number + 1 < 2 ^ 64
push-fits design plan number log fits logged = let low : number < length (good_slots design plan) = slice_get_within (good_slots design plan) number logged.slot logged.stands in omega (arith, low, fits)

-- what is gathered behind nothing is all
whole : (phases : List (List Event)) (table : BlockTable) (xs : List (List Event)) (old : BlockTable) → old.moments.items ≡ all_beginnings 0 xs →
    map event_of old.actors.items ≡ all_firsts xs → old.ends.items ≡ all_ends 0 xs →
    old.moment ≡ moment_behind 0 xs → GathersBlocks phases old table →
    (table.moments.items ≡ all_beginnings 0 (xs ++ phases)) × (map event_of table.actors.items ≡ all_firsts (xs ++ phases)) × (table.ends.items ≡ all_ends 0 (xs ++ phases)) × (table.moment ≡ moment_behind 0 (xs ++ phases))
whole phases table xs old moments firsts ends moment grown = (
  grown.moments ∙ (λ i. moments i ++ all_beginnings (moment i) phases) ∙ sym (beginnings-append 0 xs phases),
  grown.firsts ∙ ap (λ l. l ++ all_firsts phases) firsts ∙ sym (firsts-append xs phases),
  grown.ends ∙ (λ i. ends i ++ all_ends (moment i) phases) ∙ sym (ends-append 0 xs phases),
  grown.moment ∙ ap (λ m. moment_behind m phases) moment ∙ sym (behind-append 0 xs phases),
)

pub KeepsBlocks-push : LoopLaws → PhasesFollow → (design : FlatDesign) (plan : TestPlan) (before through : ℕ) (log : SlotLog) (old new : BlockTable) →
    KeepsBlocks design plan before through old → IsLoggedAt design plan through log → GathersBlocks (slot_events log) old new → KeepsBlocks design plan before (through + 1) new
KeepsBlocks-push laws follow design plan before through log old new kept logged grown = record {
  rules = kept.rules;
  run_fits = kept.run_fits;
  order = (let z : before ≤ through = kept.order in omega (arith, z));
  in_order =
      subst (AllHold (IsInOrder (good_machine design))) (sym more)
      (all-append (IsInOrder (good_machine design)) (window_phases design plan before through) (phases (good_machine design) logged.slot) kept.in_order
      (slot-in-order laws follow design plan through logged.slot kept.rules logged.stands logged.few_steps));
  moments_are = all.0 ∙ ap (all_beginnings 0) (sym events);
  firsts_are = all.1 ∙ ap all_firsts (sym events);
  ends_are = all.2 ∙ ap (all_ends 0) (sym events);
  moment_is = all.3 ∙ ap (moment_behind 0) (sym events);
}
  where
    more : window_phases design plan before (through + 1) ≡ window_phases design plan before through ++ phases (good_machine design) logged.slot
    more =
        (let z : through + 1 ≡ suc through = omega arith in ap (λ n. window_phases design plan before n) z)
        ∙ window_phases-more design plan before through logged.slot kept.order logged.stands

    events : phase_events (window_phases design plan before (through + 1)) ≡ phase_events (window_phases design plan before through) ++ slot_events log
    events =
        ap phase_events more ∙ map-append (λ (phase : Phase). phase.events) (window_phases design plan before through) (phases (good_machine design) logged.slot)
        ∙ ap (λ l. phase_events (window_phases design plan before through) ++ l) (sym logged.logged.actors_are)

    all : (new.moments.items ≡ all_beginnings 0 (phase_events (window_phases design plan before through) ++ slot_events log))
        × (map event_of new.actors.items ≡ all_firsts (phase_events (window_phases design plan before through) ++ slot_events log))
        × (new.ends.items ≡ all_ends 0 (phase_events (window_phases design plan before through) ++ slot_events log))
        × (new.moment ≡ moment_behind 0 (phase_events (window_phases design plan before through) ++ slot_events log))
    all = whole (slot_events log) new (phase_events (window_phases design plan before through)) old kept.moments_are kept.firsts_are kept.ends_are kept.moment_is grown

-- the moments that are kept ascend
pub moments-rise : (design : FlatDesign) (plan : TestPlan) (before through : ℕ) (table : BlockTable) → KeepsBlocks design plan before through table → IsNonDecreasing table.moments.items
moments-rise design plan before through table kept = subst IsNonDecreasing (sym kept.moments_are) (beginnings-rise 0 (window_phases design plan before through))

-- What is kept are the blocks of the slots

pub blocks-stand : BlocksBegin → (design : FlatDesign) (plan : TestPlan) (before through : ℕ) (table : BlockTable) → KeepsBlocks design plan before through table →
    AreBlocksOf design plan (record { before = before; through = through; moments = table.moments.items; firsts = map event_of table.actors.items; ends = table.ends.items })
blocks-stand law design plan before through table kept = record {
  moments =
      subst (λ l. AreBlockMoments (good_machine design) (window_phases design plan before through) l) (sym kept.moments_are)
      (block-moments law (good_machine design) (window_phases design plan before through) kept.in_order);
  firsts =
      subst (λ l. AreFirstEvents (window_phases design plan before through) table.moments.items l) (sym kept.firsts_are)
      (subst (λ l. AreFirstEvents (window_phases design plan before through) l (all_firsts (phase_events (window_phases design plan before through)))) (sym kept.moments_are)
      (block-firsts (window_phases design plan before through)));
  ends = subst (ArePhaseEnds (window_phases design plan before through)) (sym kept.ends_are) (phase-ends (window_phases design plan before through));
}
