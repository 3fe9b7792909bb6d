-- Both machines between two slots: the states there, and their next slots.
use Rattle.std.proofs.Common.{◌≡◌, ℕ, zero, suc, List, [], ◌∷◌, Bool, true, false, refl, sym, ap, subst, ◌∙◌}
use Rattle.std.specs.Prelude.{Option, Some, None, nat_le, slice_get}
use Rattle.v_design.specs.Assignments.{ValueUpdate}
use Rattle.v_design.specs.Designs.{FlatDesign, Machine, StuckAt, TestPlan, good_machine, faulty_machine}
use Rattle.v_design.specs.States.{State, TurnKind, PostponedTurn, UpdatesTurn, TimeTurn, process_at, start, is_any, is_quiescent, turn_of, time_turn}
use Rattle.v_design.specs.Runs.{FirstSlot, first_run, slot_end, is_hyper, only_if, next_slot_at, next_slot}
use Rattle.v_design.specs.Grades.{SlotOutcome, Fine, Race, Hyper, slot_outcome}
use Rattle.v_design.specs.OwnSteps.{slots_through_stop}
use Rattle.order_laws.specs.FirstRuns.{Follow, FirstRunsGoOn}
use Rattle.order_laws.proofs.StepsMeet.{ended_process}
use Rattle.machine_laws.specs.SlotLoop.{slot_from}
use Rattle.copy_laws.specs.Differences.{Differences}
use Rattle.copy_laws.specs.Rest.{within_of}
use Rattle.copy_laws.specs.Windows.{good_slots, state_at}
use Rattle.between_slots.specs.Between.{state_through}
use Rattle.between_slots.specs.FewLaws.{fine-few}
use Rattle.beside_laws.specs.Stands.{HasRun, RunsGoOn, RunsStand}
use Rattle.beside_laws.specs.GoodRuns.{GoodRunGoesOn}
use Rattle.lockstep_laws.specs.Lockstep.{AreInLockstep}
use Rattle.lockstep_laws.specs.Slots.{BeginsInLockstep, LockstepBegins, LockstepStops, NothingBecomesSame}
use Rattle.quiet_slots.specs.FirstSlots.{RestsAfterSlot, FirstSlotsStand}
use Rattle.quiet_slots.specs.SlotMoves.{through-get}
use Rattle.lockstep_slots.specs.Standing.{SlotsInLockstep}
use Rattle.lockstep_copies.specs.Copies.{IsCopyInLockstep}

-- the laws on which this stands
pub record CopyLaws : Type 0 where
  pub goes : SlotsInLockstep
  pub begins : LockstepBegins
  pub stops : LockstepStops
  pub same : NothingBecomesSame
  pub slots : FirstSlotsStand
  pub runs : RunsGoOn
  pub stand : RunsStand
  pub good : GoodRunGoesOn
  pub follow : FirstRunsGoOn

-- The slot behind one

some-slot : (one other : FirstSlot) → Some one ≡ Some other → one ≡ other
some-slot one other e = cc

follow-back : (machine : Machine) (end : ℕ) (begins : Option State) (slots : List FirstSlot) → Follow machine end begins slots → (number : ℕ) (slot next : FirstSlot) →
    slice_get slots number ≡ Some slot → slice_get slots (suc number) ≡ Some next → next_slot machine end slot ≡ Some next.begins
follow-back machine end None [] follow number slot next here there = cc
follow-back machine end None (first ∷ slots) follow number slot next here there = absurd follow
follow-back machine end (Some state) [] follow number slot next here there = absurd follow
follow-back machine end (Some state) (first ∷ slots) follow zero slot next here there =
    ap (next_slot machine end) (sym (some-slot first slot here)) ∙ go (next_slot machine end first) slots follow.1 there
  where
    go : (found : Option State) (slots : List FirstSlot) → Follow machine end found slots → slice_get slots 0 ≡ Some next → found ≡ Some next.begins
    go None [] f e = cc
    go None (second ∷ slots) f e = absurd f
    go (Some state) [] f e = absurd f
    go (Some state) (second ∷ slots) f e = ap (λ (s : FirstSlot). Some s.begins) (sym f.0 ∙ some-slot second next e)
follow-back machine end (Some state) (first ∷ slots) follow (suc number) slot next here there =
    follow-back machine end (next_slot machine end first) slots follow.1 number slot next here there

-- the slots behind one with an outcome
abbrev behind : Machine → List FirstSlot → SlotOutcome → List FirstSlot
behind machine slots outcome = elim outcome as (λ _. List FirstSlot) [ Fine ↦ slots_through_stop machine slots | Race pair ↦ [] | Hyper ↦ [] ]

-- behind a fine one the next slot stands among those through the first stop, if there is one
through-next : (machine : Machine) (slots : List FirstSlot) (number : ℕ) (last : FirstSlot) → slice_get (slots_through_stop machine slots) number ≡ Some last →
    slot_outcome machine last ≡ Fine → slice_get (slots_through_stop machine slots) (suc number) ≡ slice_get slots (suc number)
through-next machine [] number last here fine = cc
through-next machine (first ∷ slots) zero last here fine =
    ap (λ (outcome : SlotOutcome). slice_get (behind machine slots outcome) 0) (ap (slot_outcome machine) (some-slot first last here) ∙ fine) ∙ head slots
  where
    head : (slots : List FirstSlot) → slice_get (slots_through_stop machine slots) 0 ≡ slice_get slots 0
    head [] = refl
    head (slot ∷ slots) = refl
through-next machine (first ∷ slots) (suc number) last here fine = go (slot_outcome machine first) here (λ h. through-next machine slots number last h fine)
  where
    go : (outcome : SlotOutcome) → slice_get (behind machine slots outcome) number ≡ Some last →
        (slice_get (slots_through_stop machine slots) number ≡ Some last → slice_get (slots_through_stop machine slots) (suc number) ≡ slice_get slots (suc number)) →
        slice_get (behind machine slots outcome) (suc number) ≡ slice_get slots (suc number)
    go Fine h rest = rest h
    go (Race pair) h rest = cc
    go Hyper h rest = cc

-- The next slot of a state

pub record ComesNext (end : ℕ) (state begins : State) (turn : Option TurnKind) : Type 0 where
  pub turn_is : turn ≡ Some (TimeTurn begins.time)
  pub is : begins ≡ time_turn begins.time state
  pub low : nat_le begins.time end ≡ true

pub comes-next : (end : ℕ) (state begins : State) (turn : Option TurnKind) → next_slot_at end state turn ≡ Some begins → ComesNext end state begins turn
comes-next end state begins None e = cc
comes-next end state begins (Some PostponedTurn) e = cc
comes-next end state begins (Some UpdatesTurn) e = cc
comes-next end state begins (Some (TimeTurn time)) e = go (nat_le time end) refl e
  where
    some-state : (one other : State) → Some one ≡ Some other → one ≡ other
    some-state one other f = cc

    at : nat_le time end ≡ true → time_turn time state ≡ begins → ComesNext end state begins (Some (TimeTurn time))
    at low is =
        let same : time ≡ begins.time = ap (λ (s : State). s.time) is in
        record {
          turn_is = ap (λ (t : ℕ). Some (TimeTurn t)) same;
          is = sym is ∙ ap (λ (t : ℕ). time_turn t state) same;
          low = ap (λ (t : ℕ). nat_le t end) (sym same) ∙ low;
        }

    go : (b : Bool) → nat_le time end ≡ b → only_if b (time_turn time state) ≡ Some begins → ComesNext end state begins (Some (TimeTurn time))
    go true low f = at low (some-state (time_turn time state) begins f)
    go false low f = cc

-- another state with the same turn goes on to the same time
pub next-like : (end : ℕ) (state other begins : State) (turn : Option TurnKind) → ComesNext end state begins turn → next_slot_at end other turn ≡ Some (time_turn begins.time other)
next-like end state other begins turn n = ap (next_slot_at end other) n.turn_is ∙ ap (λ b. only_if b (time_turn begins.time other)) n.low

-- Between two slots

-- both machines at a time between two slots, in lockstep
pub record StandBetween (design : FlatDesign) (plan : TestPlan) (fault : StuckAt) (number time : ℕ) (d : Differences) (last : FirstSlot) : Type 0 where
  pub here : slice_get (first_run (good_machine design) plan.end) number ≡ Some last
  pub good_next : next_slot (good_machine design) plan.end last ≡ next_slot_at plan.end (state_at (good_machine design) plan.end time) (turn_of (state_at (good_machine design) plan.end time))
  pub own_run : HasRun (faulty_machine design fault) plan.end (Some time)
      (next_slot_at plan.end (state_at (faulty_machine design fault) plan.end time) (turn_of (state_at (faulty_machine design fault) plan.end time)))
      (state_at (faulty_machine design fault) plan.end time)
  pub own_rests : RestsAfterSlot (faulty_machine design fault) (state_at (faulty_machine design fault) plan.end time)
  pub turn : turn_of (state_at (faulty_machine design fault) plan.end time) ≡ turn_of (state_at (good_machine design) plan.end time)
  pub lockstep : (at : ℕ) → AreInLockstep (within_of d (time_turn at (state_at (good_machine design) plan.end time))) (time_turn at (state_at (good_machine design) plan.end time))
      (time_turn at (state_at (faulty_machine design fault) plan.end time))
  pub lanes : (process : ℕ) → (process_at (state_at (good_machine design) plan.end time) process).lane ≡ []

-- the good state behind one of its slots
pub through-is : (design : FlatDesign) (plan : TestPlan) (number : ℕ) (last : FirstSlot) → slice_get (good_slots design plan) number ≡ Some last →
    state_through design plan (suc number) ≡ slot_end (good_machine design) last
through-is design plan number last here =
    ap (λ (found : Option FirstSlot). elim found as (λ _. State) [ None ↦ start (good_machine design) | Some slot ↦ slot_end (good_machine design) slot ]) here

next-few : (machine : Machine) (end : ℕ) (slot : FirstSlot) → is_hyper slot ≡ false → next_slot machine end slot ≡ next_slot_at end (slot_end machine slot) (turn_of (slot_end machine slot))
next-few machine end slot few =
    ap (λ (hyper : Bool). elim hyper as (λ _. Option State) [ true ↦ None | false ↦ next_slot_at end (slot_end machine slot) (turn_of (slot_end machine slot)) ]) few

-- where no event is possible the lanes are empty
empty-lane : (state : State) → is_quiescent state ≡ true → (process : ℕ) → (process_at state process).lane ≡ []
empty-lane state quiet process = empty (process_at state process).lane (ended_process state process quiet).1
  where
    empty : (lane : List ValueUpdate) → is_any lane ≡ false → lane ≡ []
    empty [] e = refl
    empty (update ∷ lane) e = cc

pub stand-between : CopyLaws → (design : FlatDesign) (plan : TestPlan) (fault : StuckAt) (number time : ℕ) (d : Differences) (c : IsCopyInLockstep design plan fault number time d) →
    StandBetween design plan fault number time d c.last
stand-between laws design plan fault number time d c = record {
  here = here;
  good_next = next-few (good_machine design) plan.end c.last few ∙ ap (λ (s : State). next_slot_at plan.end s (turn_of s)) (sym good_is);
  own_run = laws.stand.again (faulty_machine design fault) plan.end time c.rules c.own_on;
  own_rests = own_rests;
  turn = both.turn good_rests.no_turn own_rests.no_turn;
  lockstep = both.lockstep;
  lanes = empty-lane (state_at (good_machine design) plan.end time) good_rests.quiescent;
}
  where
    here : slice_get (first_run (good_machine design) plan.end) number ≡ Some c.last
    here = through-get (good_machine design) (first_run (good_machine design) plan.end) number c.last c.stands

    few : is_hyper c.last ≡ false
    few = fine-few (good_machine design) c.last c.fine

    good_is : state_at (good_machine design) plan.end time ≡ slot_end (good_machine design) c.last
    good_is = laws.good.stands design plan number time c.last c.rules c.stands c.fine c.since c.before ∙ through-is design plan number c.last c.stands

    good_rests : RestsAfterSlot (good_machine design) (state_at (good_machine design) plan.end time)
    good_rests = subst (RestsAfterSlot (good_machine design)) (sym good_is) (laws.slots.rests (good_machine design) plan.end number c.last c.rules here few)

    own_rests : RestsAfterSlot (faulty_machine design fault) (state_at (faulty_machine design fault) plan.end time)
    own_rests =
        let s = laws.stand.slot (faulty_machine design fault) plan.end time c.rules c.own_on in
        subst (RestsAfterSlot (faulty_machine design fault)) (sym s.state_is)
        (laws.slots.rests (faulty_machine design fault) plan.end s.number s.slot c.rules s.stands (fine-few (faulty_machine design fault) s.slot s.fine))

    both : BeginsInLockstep d (state_at (good_machine design) plan.end time) (state_at (faulty_machine design fault) plan.end time)
    both = laws.begins d (state_at (good_machine design) plan.end time) (state_at (faulty_machine design fault) plan.end time) c.copy.stands
        (λ process. empty-lane (state_at (faulty_machine design fault) plan.end time) own_rests.quiescent process
        ∙ sym (empty-lane (state_at (good_machine design) plan.end time) good_rests.quiescent process)) c.may

-- Their next slots

-- where the faulty machine has a next slot the good one has one at its time
pub good-too : CopyLaws → (design : FlatDesign) (plan : TestPlan) (fault : StuckAt) (number time : ℕ) (d : Differences) (c : IsCopyInLockstep design plan fault number time d) (begins : State) →
    next_slot_at plan.end (state_at (faulty_machine design fault) plan.end time) (turn_of (state_at (faulty_machine design fault) plan.end time)) ≡ Some begins →
    slice_get (good_slots design plan) (suc number) ≡ Some (slot_from (good_machine design) (time_turn begins.time (state_at (good_machine design) plan.end time)))
good-too laws design plan fault number time d c begins e =
    through-next (good_machine design) (first_run (good_machine design) plan.end) number c.last c.stands c.fine
    ∙ laws.slots.next (good_machine design) plan.end number c.last (time_turn begins.time (state_at (good_machine design) plan.end time)) c.rules s.here
    (s.good_next ∙ ap (next_slot_at plan.end (state_at (good_machine design) plan.end time)) (sym s.turn)
    ∙ next-like plan.end (state_at (faulty_machine design fault) plan.end time) (state_at (good_machine design) plan.end time) begins
    (turn_of (state_at (faulty_machine design fault) plan.end time))
    (comes-next plan.end (state_at (faulty_machine design fault) plan.end time) begins (turn_of (state_at (faulty_machine design fault) plan.end time)) e))
  where
    s : StandBetween design plan fault number time d c.last
    s = stand-between laws design plan fault number time d c

-- where the good machine has one
pub record BothNext (design : FlatDesign) (plan : TestPlan) (fault : StuckAt) (time : ℕ) (slot : FirstSlot) : Type 0 where
  pub good_begins : slot.begins ≡ time_turn slot.begins.time (state_at (good_machine design) plan.end time)
  pub own_begins : next_slot_at plan.end (state_at (faulty_machine design fault) plan.end time) (turn_of (state_at (faulty_machine design fault) plan.end time))
      ≡ Some (time_turn slot.begins.time (state_at (faulty_machine design fault) plan.end time))

pub both-next : CopyLaws → (design : FlatDesign) (plan : TestPlan) (fault : StuckAt) (number time : ℕ) (d : Differences) (c : IsCopyInLockstep design plan fault number time d) (slot : FirstSlot) →
    slice_get (good_slots design plan) (suc number) ≡ Some slot → BothNext design plan fault time slot
both-next laws design plan fault number time d c slot there = record {
  good_begins = n.is;
  own_begins = ap (next_slot_at plan.end (state_at (faulty_machine design fault) plan.end time)) s.turn
      ∙ next-like plan.end (state_at (good_machine design) plan.end time) (state_at (faulty_machine design fault) plan.end time) slot.begins (turn_of (state_at (good_machine design) plan.end time)) n;
}
  where
    s : StandBetween design plan fault number time d c.last
    s = stand-between laws design plan fault number time d c

    n : ComesNext plan.end (state_at (good_machine design) plan.end time) slot.begins (turn_of (state_at (good_machine design) plan.end time))
    n = comes-next plan.end (state_at (good_machine design) plan.end time) slot.begins (turn_of (state_at (good_machine design) plan.end time))
        (sym s.good_next
        ∙ follow-back (good_machine design) plan.end (Some (start (good_machine design))) (first_run (good_machine design) plan.end) (laws.follow.follow (good_machine design) plan.end c.rules)
        number c.last slot s.here
        (through-get (good_machine design) (first_run (good_machine design) plan.end) (suc number) slot there))
