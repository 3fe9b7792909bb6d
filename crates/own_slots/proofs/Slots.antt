-- The steps that were taken in a slot so far.
use Rattle.std.proofs.Common.{◌≡◌, ℕ, zero, suc, ◌+◌, ◌≤◌, Bool, true, false, List, [], ◌∷◌, ◌++◌, length, drop, map, nat_eq, refl, sym, ap, subst, ◌∙◌, inl, inr, arith}
use Rattle.std.specs.Prelude.{Option, find, slice_get}
use Rattle.std.proofs.lemmas.Bool.{true≢false}
use Rattle.std.proofs.lemmas.List.{append_assoc, append-nil, length-append}
use Rattle.vf_base.specs.Base.{process_number}
use Rattle.vf_base.specs.Lists.{joined}
use Rattle.v_design.specs.Designs.{Machine}
use Rattle.v_design.specs.Grades.{Phase, phases}
use Rattle.v_design.specs.OwnSteps.{ProcessRun, beside, good_runs, phase_beside, phases_if, slot_beside}
use Rattle.v_design.specs.Runs.{FirstSlot}
use Rattle.v_design.specs.States.{State, TurnKind, Event}
use Rattle.machine_laws.specs.SlotLoop.{Moment, ComesTo, present_phase, slot_from, first_moment, after_events, after_turn}
use Rattle.own_counts.specs.Counts.{AtMostOwn, OwnStepsCount}
use Rattle.own_counts.specs.Joins.{phases_beside}
use Rattle.own_counts.specs.Slots.{OwnStepsOfPhases, OwnStepsOfSlots, OwnTicks, behind_events}
use Rattle.good_runs.specs.declared.tried.TriedStep.{TriedStep}
use Rattle.own_slots.specs.Slots.{KeepsBeside, OwnSoFar, PhaseKeeps, PhasesKeep, TriedStepsGoOn, WereTried}
use Rattle.own_slots.proofs.Kept.{kept-join, kept-none, kept-phase}

-- Lists

abbrev first_phase : ℕ → List TriedStep → ℕ
first_phase number [] = number
first_phase number (one ∷ tried) = one.phase

abbrev any_tried : List TriedStep → Bool
any_tried [] = false
any_tried (one ∷ tried) = true

cons-some : (one : TriedStep) (tried : List TriedStep) → one ∷ tried ≡ [] → ⊥
cons-some one tried is = true≢false (ap any_tried is)

beside-none : (others : List Phase) → beside others [] ≡ []
beside-none [] = refl
beside-none (other ∷ others) = refl

-- the phase of a number, beside the one of its number
beside-first : (others : List Phase) (number : ℕ) (phase : Phase) (some : List Phase) →
    beside (drop number others) (phase ∷ some) ≡ (slice_get others number, phase) ∷ beside (drop (suc number) others) some
beside-first [] zero phase some = refl
beside-first [] (suc number) phase some = refl
beside-first (other ∷ others) zero phase some = refl
beside-first (other ∷ others) (suc number) phase some = beside-first others number phase some

-- Phases

module _ (good faulty : Machine) (others : List Phase) where
  -- the good machine's runs beside a phase
  abbrev goods_of : Option Phase → Option TurnKind → ℕ → List ProcessRun
  goods_of other turn process = good_runs good process turn other

  pub phase-none : (other : Option Phase) (number : ℕ) (phase : Phase) → PhaseKeeps good faulty other number phase []
  phase-none other number phase = kept-none (goods_of other phase.turn) (λ process. 0) faulty number phase.begins [] phase.events

  pub phases-none : (number : ℕ) (phases : List Phase) → PhasesKeep good faulty others number phases []
  phases-none number [] = refl
  phases-none number (phase ∷ phases) = record {
    one = [];
    rest = [];
    are = refl;
    first = phase-none (slice_get others number) number phase;
    later = phases-none (number + 1) phases;
  }

  pub phases-join : (number : ℕ) (some others_behind : List Phase) (tried more : List TriedStep) → PhasesKeep good faulty others number some tried →
      PhasesKeep good faulty others (number + length some) others_behind more → PhasesKeep good faulty others number (some ++ others_behind) (tried ++ more)
  phases-join number [] behind tried more low high =
      let same : number + length {A = Phase} [] ≡ number = omega arith in
      subst (λ (l : List TriedStep). PhasesKeep good faulty others number behind (l ++ more)) (sym low)
      (subst (λ (n : ℕ). PhasesKeep good faulty others n behind more) same high)
  phases-join number (phase ∷ some) behind tried more low high =
      let same : number + length (phase ∷ some) ≡ (number + 1) + length some = omega arith in
      record {
        one = low.one;
        rest = low.rest ++ more;
        are = ap (λ (l : List TriedStep). l ++ more) low.are ∙ append_assoc low.one low.rest more;
        first = low.first;
        later = phases-join (number + 1) some behind low.rest more low.later (subst (λ (n : ℕ). PhasesKeep good faulty others n behind more) same high);
      }

  pub phase-first : (number : ℕ) (phase : Phase) (phases : List Phase) (tried : List TriedStep) → PhaseKeeps good faulty (slice_get others number) number phase tried →
      PhasesKeep good faulty others number (phase ∷ phases) tried
  phase-first number phase phases tried kept = record {
    one = tried;
    rest = [];
    are = sym (append-nil tried);
    first = kept;
    later = phases-none (number + 1) phases;
  }

  -- the first is of one of these phases
  phases-from-parts : (number : ℕ) (phase : Phase) (phases : List Phase) (one : TriedStep) (tried here rest : List TriedStep) → one ∷ tried ≡ here ++ rest →
      PhaseKeeps good faulty (slice_get others number) number phase here →
      ((other : TriedStep) (behind : List TriedStep) → rest ≡ other ∷ behind → number + 1 ≤ other.phase) → number ≤ one.phase
  phases-from-parts number phase phases one tried [] rest are kept later = let low = later one tried (sym are) in omega (arith, low)
  phases-from-parts number phase phases one tried (other ∷ here) rest are kept later =
      let is : other.phase ≡ number = kept-phase (goods_of (slice_get others number) phase.turn) (λ process. 0) faulty number phase.begins [] phase.events other here kept in
      let same : one.phase ≡ other.phase = ap (first_phase one.phase) are in
      omega (arith, is, same)

  pub phases-from : (number : ℕ) (phases : List Phase) (one : TriedStep) (tried : List TriedStep) → PhasesKeep good faulty others number phases (one ∷ tried) → number ≤ one.phase
  phases-from number [] one tried kept = absurd (cons-some one tried kept)
  phases-from number (phase ∷ phases) one tried kept =
      phases-from-parts number phase phases one tried kept.one kept.rest kept.are kept.first
      (λ other behind is. phases-from (number + 1) phases other behind (subst (PhasesKeep good faulty others (number + 1) phases) is kept.later))

-- The whole slot

whole-behind : (slots : OwnStepsOfSlots) (good faulty : Machine) (others : List Phase) (to : Moment) (tried : List TriedStep) → ComesTo faulty to → OwnSoFar good faulty others to tried →
    PhasesKeep good faulty others 0 (phases faulty (slot_from faulty to.begins)) tried
whole-behind slots good faulty others to tried comes own =
    let on = slots.goes_on faulty to comes in
    let number = length to.ended in
    let phase = behind_events (present_phase to) on.more in
    let other = slice_get others number in
    let zero_more : number ≡ 0 + number = omega arith in
    let longer : KeepsBeside good faulty other to.turn number to.phase_begins [] (to.events ++ on.more) (own.now ++ []) =
    kept-join (λ process. good_runs good process to.turn other) (λ process. 0) faulty number to.phase_begins [] to.events on.more own.now [] own.present
    (kept-none (λ process. good_runs good process to.turn other) (λ process. 0) faulty number to.phase_begins to.events on.more) in
    let present : PhaseKeeps good faulty other number phase own.now =
    subst (KeepsBeside good faulty other to.turn number to.phase_begins [] (to.events ++ on.more)) (append-nil own.now) longer in
    let later = phase-first good faulty others number phase on.later own.now present in
    let all =
    phases-join good faulty others 0 to.ended (phase ∷ on.later) own.before own.now own.ended
    (subst (λ (n : ℕ). PhasesKeep good faulty others n (phase ∷ on.later) own.now) zero_more later) in
    subst (λ (l : List Phase). PhasesKeep good faulty others 0 l tried) (sym on.are)
    (subst (PhasesKeep good faulty others 0 (to.ended ++ phase ∷ on.later)) (sym own.total) all)

pub whole : (slots : OwnStepsOfSlots) (good faulty : Machine) (others : List Phase) (begins : State) (tried : List TriedStep) → WereTried good faulty others begins tried →
    PhasesKeep good faulty others 0 (phases faulty (slot_from faulty begins)) tried
whole slots good faulty others begins tried of =
    subst (λ (state : State). PhasesKeep good faulty others 0 (phases faulty (slot_from faulty state)) tried) of.begins_is
    (whole-behind slots good faulty others of.to tried of.comes of.own)

-- Bounds

module _ (count : OwnStepsCount) (ticking : OwnStepsOfPhases) (good faulty : Machine) where
  -- each of a phase's steps ticked
  ticks-kept : (other : Option Phase) (turn : Option TurnKind) (number : ℕ) (begins : State) (before events : List Event) (tried : List TriedStep) (ticked : ℕ) →
      KeepsBeside good faulty other turn number begins before events tried → OwnTicks good faulty other (record { turn = turn; begins = begins; events = before }) ticked →
      OwnTicks good faulty other (record { turn = turn; begins = begins; events = before ++ events }) (ticked + length tried)
  ticks-kept other turn number begins before [] [] ticked kept so_far =
      let same : ticked ≡ ticked + length {A = TriedStep} [] = omega arith in
      subst (OwnTicks good faulty other (record { turn = turn; begins = begins; events = before ++ [] })) same
      (subst (λ (l : List Event). OwnTicks good faulty other (record { turn = turn; begins = begins; events = l }) ticked) (sym (append-nil before)) so_far)
  ticks-kept other turn number begins before [] (one ∷ tried) ticked kept so_far = absurd kept
  ticks-kept other turn number begins before (event ∷ events) [] ticked kept so_far =
      subst (λ (l : List Event). OwnTicks good faulty other (record { turn = turn; begins = begins; events = l }) (ticked + length {A = TriedStep} [])) (append_assoc before (event ∷ []) events)
      (ticks-kept other turn number begins (before ++ event ∷ []) events [] ticked kept
      (ticking.later good faulty other (record { turn = turn; begins = begins; events = before }) (event ∷ []) ticked so_far))
  ticks-kept other turn number begins before (event ∷ events) (one ∷ tried) ticked (inl kept) so_far =
      subst (λ (l : List Event). OwnTicks good faulty other (record { turn = turn; begins = begins; events = l }) (ticked + length (one ∷ tried)))
      (append_assoc before (event ∷ []) events)
      (ticks-kept other turn number begins (before ++ event ∷ []) events (one ∷ tried) ticked kept
      (ticking.later good faulty other (record { turn = turn; begins = begins; events = before }) (event ∷ []) ticked so_far))
  ticks-kept other turn number begins before (event ∷ events) (one ∷ tried) ticked (inr first) so_far =
      let process = process_number one.process in
      let step = ticking.own good faulty other (record { turn = turn; begins = begins; events = before }) process ticked first.1.there first.1.own so_far in
      let here : OwnTicks good faulty other (record { turn = turn; begins = begins; events = before ++ event ∷ [] }) (ticked + 1) =
      subst (λ (e : Event). OwnTicks good faulty other (record { turn = turn; begins = begins; events = before ++ e ∷ [] }) (ticked + 1)) (sym first.0) step in
      let same : (ticked + 1) + length tried ≡ ticked + length (one ∷ tried) = omega arith in
      subst (λ (l : List Event). OwnTicks good faulty other (record { turn = turn; begins = begins; events = l }) (ticked + length (one ∷ tried)))
      (append_assoc before (event ∷ []) events)
      (subst (OwnTicks good faulty other (record { turn = turn; begins = begins; events = (before ++ event ∷ []) ++ events })) same
      (ticks-kept other turn number begins (before ++ event ∷ []) events tried (ticked + 1) first.2 here))

  phase-within : (other : Option Phase) (number : ℕ) (phase : Phase) (tried : List TriedStep) → PhaseKeeps good faulty other number phase tried →
      AtMostOwn (phase_beside good faulty other phase) (length tried)
  phase-within other number phase tried kept =
      ticking.ends good faulty other phase (length tried)
      (let same : 0 + length tried ≡ length tried = omega arith in
      subst (OwnTicks good faulty other phase) same
      (ticks-kept other phase.turn number phase.begins [] phase.events tried 0 kept (ticking.begins good faulty other phase.turn phase.begins)))

  abbrev side_by_side : Option Phase × Phase → List (Option ProcessRun × ProcessRun)
  side_by_side pair = phase_beside good faulty pair.0 pair.1

  phases-within : (others : List Phase) (number : ℕ) (some : List Phase) (tried : List TriedStep) → PhasesKeep good faulty others number some tried →
      AtMostOwn (joined (map side_by_side (beside (drop number others) some))) (length tried)
  phases-within others number [] tried none =
      subst (λ (l : List TriedStep). AtMostOwn (joined (map side_by_side (beside (drop number others) []))) (length l)) (sym none)
      (subst (λ (l : List (Option Phase × Phase)). AtMostOwn (joined (map side_by_side l)) 0) (sym (beside-none (drop number others))) count.none)
  phases-within others number (phase ∷ some) tried kept =
      let one = phase-within (slice_get others number) number phase kept.one kept.first in
      let rest = phases-within others (number + 1) some kept.rest kept.later in
      let total : length tried ≡ length kept.one + length kept.rest = ap length kept.are ∙ length-append kept.one kept.rest in
      let next : suc number ≡ number + 1 = omega arith in
      subst (λ (l : List (Option Phase × Phase)). AtMostOwn (joined (map side_by_side l)) (length tried)) (sym (beside-first others number phase some))
      (subst (AtMostOwn (joined (map side_by_side ((slice_get others number, phase) ∷ beside (drop (suc number) others) some)))) (sym total)
      (subst
      (λ (n : ℕ). AtMostOwn (joined (map side_by_side ((slice_get others number, phase) ∷ beside (drop n others) some))) (length kept.one + length kept.rest)) (sym next)
      (count.joins (phase_beside good faulty (slice_get others number) phase) (joined (map side_by_side (beside (drop (number + 1) others) some))) (length kept.one) (length kept.rest) one
      rest)))

-- The laws

module _ (count : OwnStepsCount) (ticking : OwnStepsOfPhases) (slots : OwnStepsOfSlots) where
  goes : (good faulty : Machine) (others : List Phase) (at : Moment) (events : List Event) (tried more : List TriedStep) → OwnSoFar good faulty others at tried →
      KeepsBeside good faulty (slice_get others (length at.ended)) at.turn (length at.ended) at.phase_begins at.events events more →
      OwnSoFar good faulty others (after_events faulty events at) (tried ++ more)
  goes good faulty others at events tried more own kept =
      let behind = after_events faulty events at in
      let number = length at.ended in
      let other = slice_get others number in
      let longer : PhaseKeeps good faulty other number (behind_events (present_phase at) events) (own.now ++ more) =
      kept-join (λ process. good_runs good process at.turn other) (λ process. 0) faulty number at.phase_begins [] at.events events own.now more own.present kept in
      record {
        before = own.before;
        now = own.now ++ more;
        ended = subst (λ (l : List Phase). PhasesKeep good faulty others 0 l own.before) (sym (slots.ended faulty events at)) own.ended;
        present =
            subst (λ (l : List Phase). PhaseKeeps good faulty (slice_get others (length l)) (length l) (present_phase behind) (own.now ++ more)) (sym (slots.ended faulty events at))
            (subst (λ (phase : Phase). PhaseKeeps good faulty other number phase (own.now ++ more)) (sym (slots.present faulty events at)) longer);
        total = ap (λ (l : List TriedStep). l ++ more) own.total ∙ append_assoc own.before own.now more;
      }

  passes : (good faulty : Machine) (others : List Phase) (at : Moment) (events : List Event) (tried : List TriedStep) → OwnSoFar good faulty others at tried →
      OwnSoFar good faulty others (after_events faulty events at) tried
  passes good faulty others at events tried own =
      subst (OwnSoFar good faulty others (after_events faulty events at)) (append-nil tried)
      (goes good faulty others at events tried [] own
      (kept-none (λ process. good_runs good process at.turn (slice_get others (length at.ended))) (λ process. 0) faulty (length at.ended) at.phase_begins at.events events))

  turns : (good faulty : Machine) (others : List Phase) (at : Moment) (turn : TurnKind) (tried : List TriedStep) → OwnSoFar good faulty others at tried →
      OwnSoFar good faulty others (after_turn turn at) tried
  turns good faulty others at turn tried own =
      let number = length at.ended in
      let same : number ≡ 0 + number = omega arith in
      record {
        before = own.before ++ own.now;
        now = [];
        ended =
            phases-join good faulty others 0 at.ended (present_phase at ∷ []) own.before own.now own.ended
            (subst (λ (n : ℕ). PhasesKeep good faulty others n (present_phase at ∷ []) own.now) same (phase-first good faulty others number (present_phase at) [] own.now own.present));
        present = tt;
        total = own.total ∙ sym (append-nil (own.before ++ own.now));
      }

  begins : (good faulty : Machine) (others : List Phase) (begins : State) → OwnSoFar good faulty others (first_moment begins) []
  begins good faulty others state = record { before = []; now = []; ended = refl; present = tt; total = refl }

  within : (good faulty : Machine) (good_slots : List FirstSlot) (found : Option FirstSlot) (begins : State) (tried : List TriedStep) →
      find (λ (other : FirstSlot). nat_eq other.begins.time begins.time) good_slots ≡ found → WereTried good faulty (phases_if good found) begins tried →
      AtMostOwn (slot_beside good faulty good_slots (slot_from faulty begins)) (length tried)
  within good faulty good_slots found begins tried is of =
      subst (λ (f : Option FirstSlot). AtMostOwn (phases_beside good faulty (phases_if good f) (phases faulty (slot_from faulty begins))) (length tried)) (sym is)
      (phases-within count ticking good faulty (phases_if good found) 0 (phases faulty (slot_from faulty begins)) tried (whole slots good faulty (phases_if good found) begins tried of))

  pub tried_steps_go_on : TriedStepsGoOn
  tried_steps_go_on = record {
    begins = begins;
    goes = goes;
    passes = passes;
    turns = turns;
    none = λ good faulty others state comes. record { to = first_moment state; comes = comes; begins_is = refl; own = begins good faulty others state };
    within = within;
  }
