-- A slot that is run again.
use Rattle.std.proofs.Common.{◌≡◌, ℕ, zero, suc, ◌+◌, ◌-◌, ◌<◌, Bool, List, [], ◌∷◌, ◌++◌, length, drop, nat_eq, refl, sym, ap, subst, ◌∙◌, arith}
use Rattle.std.specs.Prelude.{Option, Some, None, find, slice_get}
use Rattle.std.proofs.lemmas.List.{append_assoc, append_cancel_left, append-nil, length-append, length-drop}
use Rattle.std.proofs.lemmas.Option.{none-some, slice_get_within}
use Rattle.vf_base.specs.Lists.{AllHold}
use Rattle.v_design.specs.Designs.{Machine}
use Rattle.v_design.specs.Grades.{Phase, phases}
use Rattle.v_design.specs.OwnSteps.{good_runs, phases_if, process_runs, slot_beside}
use Rattle.v_design.specs.Laws.{BeginsPhase}
use Rattle.v_design.specs.Runs.{FirstSlot}
use Rattle.v_design.specs.States.{State, TurnKind, Event, Step, found_or}
use Rattle.machine_laws.specs.SlotLoop.{Moment, ComesTo, EndsAt, SlotsBegin, present_phase, phases_so_far, slot_from, first_moment, after_event, after_events, after_turn}
use Rattle.copy_laws.specs.OwnRuns.{RunsGrow, StepsGrow}
use Rattle.own_counts.specs.Counts.{AtMostOwn, OwnLast, OwnStepsCount, behind_event}
use Rattle.own_counts.specs.Slots.{OwnCountSoFar, OwnStepsOfPhases, OwnStepsOfSlots, behind_events}
use Rattle.good_runs.specs.Kept.{KeptAt}
use Rattle.good_runs.specs.declared.tried.TriedStep.{TriedStep}
use Rattle.own_slots.specs.Again.{AreAhead, ComesAgain, IsAgain, IsNextPlace, IsNoStep, SecondRuns}
use Rattle.own_slots.specs.Slots.{KeepsBeside, PhasesKeep, WereTried}
use Rattle.own_slots.proofs.Kept.{kept-empty, kept-here, kept-other, kept-past}
use Rattle.own_slots.proofs.Slots.{phases-from, whole}

-- Lists

abbrev head_of : List TriedStep → Option TriedStep
head_of [] = None
head_of (one ∷ tried) = Some one

abbrev tail_of : List TriedStep → List TriedStep
tail_of [] = []
tail_of (one ∷ tried) = tried

get-drop : (number : ℕ) (tried : List TriedStep) (one : TriedStep) (rest : List TriedStep) → drop number tried ≡ one ∷ rest → slice_get tried number ≡ Some one
get-drop zero [] one rest is = absurd (none-some one (ap head_of is))
get-drop zero (other ∷ tried) one rest is = ap head_of is
get-drop (suc number) [] one rest is = absurd (none-some one (ap head_of is))
get-drop (suc number) (other ∷ tried) one rest is = get-drop number tried one rest is

drop-get : (number : ℕ) (tried : List TriedStep) (one : TriedStep) → slice_get tried number ≡ Some one → drop number tried ≡ one ∷ drop (suc number) tried
drop-get zero [] one is = absurd (none-some one is)
drop-get zero (other ∷ tried) one is = ap (λ (t : TriedStep). t ∷ tried) (ap (found_or other) is)
drop-get (suc number) [] one is = absurd (none-some one is)
drop-get (suc number) (other ∷ tried) one is = drop-get number tried one is

-- Moments

begins-behind : (machine : Machine) (events : List Event) (at : Moment) → (after_events machine events at).begins ≡ at.begins
begins-behind machine [] at = refl
begins-behind machine (event ∷ events) at = begins-behind machine events (after_event machine event at)

-- the events of the first phase behind some
abbrev events_first : List Phase → List Event
events_first [] = []
events_first (phase ∷ phases) = phase.events

abbrev phases_behind : List Phase → List Phase
phases_behind [] = []
phases_behind (phase ∷ phases) = phases

-- a slot goes on in one way
record SameFuture (more others : List Event) (later behind : List Phase) : Type 0 where
  events : more ≡ others
  phases : later ≡ behind

same-future : (all ended : List Phase) (turn : Option TurnKind) (begins : State) (events more others : List Event) (later behind : List Phase) →
    all ≡ ended ++ record { turn = turn; begins = begins; events = events ++ more } ∷ later →
    all ≡ ended ++ record { turn = turn; begins = begins; events = events ++ others } ∷ behind → SameFuture more others later behind
same-future all ended turn begins events more others later behind one other =
    let here =
    append_cancel_left ended (record { turn = turn; begins = begins; events = events ++ more } ∷ later) (record { turn = turn; begins = begins; events = events ++ others } ∷ behind)
    (sym one ∙ other) in
    record { events = append_cancel_left events more others (ap events_first here); phases = ap phases_behind here }

module _ (slots : OwnStepsOfSlots) (good faulty : Machine) (others : List Phase) (at : Moment) where
  abbrev number : ℕ
  number = length at.ended

  abbrev other : Option Phase
  other = slice_get others (length at.ended)

  -- the slot goes on with some events
  record Events (events more : List Event) (later : List Phase) : Type 0 where
    left : List Event
    behind : List Phase
    more_is : more ≡ events ++ left
    later_is : later ≡ behind
    are : phases faulty (slot_from faulty (after_events faulty events at).begins)
        ≡ (after_events faulty events at).ended ++ behind_events (present_phase (after_events faulty events at)) left ∷ behind

  with-events : (events : List Event) (tried : List TriedStep) (ahead : AreAhead good faulty others at tried) → ComesTo faulty (after_events faulty events at) →
      Events events ahead.more ahead.later
  with-events events tried ahead comes =
      let next = after_events faulty events at in
      let on = slots.goes_on faulty next comes in
      let there : phases faulty (slot_from faulty at.begins)
      ≡ at.ended ++ record { turn = at.turn; begins = at.phase_begins; events = at.events ++ (events ++ on.more) } ∷ on.later =
      ap (λ (state : State). phases faulty (slot_from faulty state)) (sym (begins-behind faulty events at)) ∙ on.are
      ∙ ap (λ (l : List Phase). l ++ behind_events (present_phase next) on.more ∷ on.later) (slots.ended faulty events at)
      ∙ ap (λ (phase : Phase). at.ended ++ behind_events phase on.more ∷ on.later) (slots.present faulty events at)
      ∙ ap (λ (l : List Event). at.ended ++ record { turn = at.turn; begins = at.phase_begins; events = l } ∷ on.later) (append_assoc at.events events on.more) in
      let same =
      same-future (phases faulty (slot_from faulty at.begins)) at.ended at.turn at.phase_begins at.events ahead.more (events ++ on.more) ahead.later on.later ahead.phases_are there in
      record { left = on.more; behind = on.later; more_is = same.events; later_is = same.phases; are = on.are }

  -- what is kept then from the moment behind them on
  ahead-behind : (events more : List Event) (later : List Phase) (is : Events events more later) (tried first rest : List TriedStep) →
      KeepsBeside good faulty other at.turn number at.phase_begins (at.events ++ events) is.left first → PhasesKeep good faulty others (number + 1) later rest → tried ≡ first ++ rest →
      AreAhead good faulty others (after_events faulty events at) tried
  ahead-behind events more later is tried first rest kept kept_later are =
      let next = after_events faulty events at in
      record {
        more = is.left;
        later = is.behind;
        first = first;
        rest = rest;
        phases_are = is.are;
        keeps =
            subst
            (λ (l : List Phase).
            KeepsBeside good faulty (slice_get others (length l)) (present_phase next).turn (length l) (present_phase next).begins (present_phase next).events is.left first)
            (sym (slots.ended faulty events at))
            (subst (λ (phase : Phase). KeepsBeside good faulty other phase.turn number phase.begins phase.events is.left first) (sym (slots.present faulty events at)) kept);
        keeps_later =
            subst (λ (l : List Phase). PhasesKeep good faulty others (length l + 1) is.behind rest) (sym (slots.ended faulty events at))
            (subst (λ (l : List Phase). PhasesKeep good faulty others (number + 1) l rest) is.later_is kept_later);
        are = are;
      }

  -- events that are no steps
  ahead-past : (events : List Event) (tried : List TriedStep) → AllHold IsNoStep events → ComesTo faulty (after_events faulty events at) → AreAhead good faulty others at tried →
      AreAhead good faulty others (after_events faulty events at) tried
  ahead-past events tried none comes ahead =
      let is = with-events events tried ahead comes in
      ahead-behind events ahead.more ahead.later is tried ahead.first ahead.rest
      (kept-past (λ process. good_runs good process at.turn other) (λ process. 0) faulty number at.phase_begins at.events events is.left ahead.first none
      (subst (λ (l : List Event). KeepsBeside good faulty other at.turn number at.phase_begins at.events l ahead.first) is.more_is ahead.keeps)) ahead.keeps_later ahead.are

  -- another step than the first that is kept
  ahead-other : (tried : List TriedStep) (process next : ℕ) → ((one : TriedStep) → slice_get tried next ≡ Some one → IsNextPlace faulty at process one → ⊥) →
      ComesTo faulty (after_event faulty (Step process) at) → AreAhead good faulty others at (drop next tried) → AreAhead good faulty others (after_event faulty (Step process) at) (drop next tried)
  ahead-other tried process next differs comes ahead =
      let is = with-events (Step process ∷ []) (drop next tried) ahead comes in
      ahead-behind (Step process ∷ []) ahead.more ahead.later is (drop next tried) ahead.first ahead.rest
      (kept-other (λ p. good_runs good p at.turn other) (λ p. 0) faulty number at.phase_begins at.events process is.left ahead.first
      (λ one rest first phase_is process_is place.
      differs one (get-drop next tried one (rest ++ ahead.rest) (ahead.are ∙ ap (λ (l : List TriedStep). l ++ ahead.rest) first))
      (record { phase_is = phase_is; process_is = process_is; place = place }))
      (subst (λ (l : List Event). KeepsBeside good faulty other at.turn number at.phase_begins at.events l ahead.first) is.more_is ahead.keeps)) ahead.keeps_later ahead.are

  -- the first that is kept
  record Found (process : ℕ) (one : TriedStep) (tried : List TriedStep) : Type 0 where
    kept : KeptAt (λ p. good_runs good p at.turn other) (λ p. 0) faulty number at.phase_begins at.events process one
    ahead : AreAhead good faulty others (after_event faulty (Step process) at) tried

  module _ (steps_grow : StepsGrow) (runs_grow : RunsGrow) where
    ahead-parts : (process : ℕ) (one : TriedStep) (tried : List TriedStep) (more : List Event) (later : List Phase) (is : Events (Step process ∷ []) more later) (first rest : List TriedStep) →
        one ∷ tried ≡ first ++ rest → KeepsBeside good faulty other at.turn number at.phase_begins at.events (Step process ∷ is.left) first →
        PhasesKeep good faulty others (number + 1) later rest → IsNextPlace faulty at process one → Found process one tried
    ahead-parts process one tried more later is [] rest are kept kept_later place =
        let low = phases-from good faulty others (number + 1) later one tried (subst (PhasesKeep good faulty others (number + 1) later) (sym are) kept_later) in
        let same = place.phase_is in
        absurd (omega (arith, low, same))
    ahead-parts process one tried more later is (first ∷ behind) rest are kept kept_later place =
        let same : first ≡ one = sym (ap (found_or first) (ap head_of are)) in
        let here =
        kept-here (λ p. good_runs good p at.turn other) (λ p. 0) faulty number at.phase_begins steps_grow runs_grow at.events process is.left one behind place.process_is place.place
        (subst (λ (t : TriedStep). KeepsBeside good faulty other at.turn number at.phase_begins at.events (Step process ∷ is.left) (t ∷ behind)) same kept) in
        record { kept = here.0; ahead = ahead-behind (Step process ∷ []) more later is tried behind rest here.1 kept_later (ap tail_of are) }

    ahead-here : (process : ℕ) (one : TriedStep) (tried : List TriedStep) → ComesTo faulty (after_event faulty (Step process) at) → IsNextPlace faulty at process one →
        AreAhead good faulty others at (one ∷ tried) → Found process one tried
    ahead-here process one tried comes place ahead =
        let is = with-events (Step process ∷ []) (one ∷ tried) ahead comes in
        ahead-parts process one tried ahead.more ahead.later is ahead.first ahead.rest ahead.are
        (subst (λ (l : List Event). KeepsBeside good faulty other at.turn number at.phase_begins at.events l ahead.first) is.more_is ahead.keeps) ahead.keeps_later place

  -- a turn
  ahead-turned : (turn : TurnKind) (tried : List TriedStep) → ComesTo faulty (after_turn turn at) → AreAhead good faulty others at tried → AreAhead good faulty others (after_turn turn at) tried
  ahead-turned turn tried comes ahead =
      let next = after_turn turn at in
      let on = slots.goes_on faulty next comes in
      let phase = behind_events (present_phase next) on.more in
      let there : phases faulty (slot_from faulty at.begins)
      ≡ at.ended ++ record { turn = at.turn; begins = at.phase_begins; events = at.events ++ [] } ∷ phase ∷ on.later =
      on.are ∙ append_assoc at.ended (present_phase at ∷ []) (phase ∷ on.later)
      ∙ ap (λ (l : List Event). at.ended ++ record { turn = at.turn; begins = at.phase_begins; events = l } ∷ phase ∷ on.later) (sym (append-nil at.events)) in
      let same =
      same-future (phases faulty (slot_from faulty at.begins)) at.ended at.turn at.phase_begins at.events ahead.more [] ahead.later (phase ∷ on.later) ahead.phases_are there in
      let none : ahead.first ≡ [] =
      kept-empty (λ p. good_runs good p at.turn other) (λ p. 0) faulty number at.phase_begins at.events ahead.first
      (subst (λ (l : List Event). KeepsBeside good faulty other at.turn number at.phase_begins at.events l ahead.first) same.events ahead.keeps) in
      let parts = subst (λ (l : List Phase). PhasesKeep good faulty others (number + 1) l ahead.rest) same.phases ahead.keeps_later in
      let long : number + 1 ≡ length (phases_so_far at) = sym (length-append at.ended (present_phase at ∷ [])) in
      record {
        more = on.more;
        later = on.later;
        first = parts.one;
        rest = parts.rest;
        phases_are = on.are;
        keeps = subst (λ (n : ℕ). KeepsBeside good faulty (slice_get others n) next.turn n next.phase_begins [] on.more parts.one) long parts.first;
        keeps_later = subst (λ (n : ℕ). PhasesKeep good faulty others (n + 1) on.later parts.rest) long parts.later;
        are = ahead.are ∙ ap (λ (l : List TriedStep). l ++ ahead.rest) none ∙ parts.are;
      }

  -- the end
  ahead-ended : (hyper : Bool) (tried : List TriedStep) → EndsAt faulty hyper at → AreAhead good faulty others at tried → tried ≡ []
  ahead-ended hyper tried ends ahead =
      let there : phases faulty (slot_from faulty at.begins)
      ≡ at.ended ++ record { turn = at.turn; begins = at.phase_begins; events = at.events ++ [] } ∷ [] =
      ends.phases_are ∙ ap (λ (l : List Event). at.ended ++ record { turn = at.turn; begins = at.phase_begins; events = l } ∷ []) (sym (append-nil at.events)) in
      let same = same-future (phases faulty (slot_from faulty at.begins)) at.ended at.turn at.phase_begins at.events ahead.more [] ahead.later [] ahead.phases_are there in
      let none : ahead.first ≡ [] =
      kept-empty (λ p. good_runs good p at.turn other) (λ p. 0) faulty number at.phase_begins at.events ahead.first
      (subst (λ (l : List Event). KeepsBeside good faulty other at.turn number at.phase_begins at.events l ahead.first) same.events ahead.keeps) in
      let last : ahead.rest ≡ [] = subst (λ (l : List Phase). PhasesKeep good faulty others (number + 1) l ahead.rest) same.phases ahead.keeps_later in
      ahead.are ∙ ap (λ (l : List TriedStep). l ++ ahead.rest) none ∙ last

-- The laws

module _ (count : OwnStepsCount) (ticking : OwnStepsOfPhases) (slots : OwnStepsOfSlots) (steps_grow : StepsGrow) (runs_grow : RunsGrow) (slot_begins : SlotsBegin) where
  begins : (good faulty : Machine) (others : List Phase) (begins : State) (tried : List TriedStep) → WereTried good faulty others begins tried →
      IsAgain good faulty others tried (first_moment begins) 0 0
  begins good faulty others state tried of =
      let comes = slot_begins faulty state (subst (BeginsPhase faulty) of.begins_is of.comes.slot_asked) in
      let on = slots.goes_on faulty (first_moment state) comes in
      let parts =
      subst (λ (l : List Phase). PhasesKeep good faulty others 0 l tried) on.are (whole slots good faulty others state tried of) in
      let ahead : AreAhead good faulty others (first_moment state) tried = record {
        more = on.more;
        later = on.later;
        first = parts.one;
        rest = parts.rest;
        phases_are = on.are;
        keeps = parts.first;
        keeps_later = parts.later;
        are = parts.are;
      } in
      record { few = omega arith; ahead = ahead; counts = slots.begins good faulty others state }

  passes : (good faulty : Machine) (others : List Phase) (tried : List TriedStep) (at : Moment) (events : List Event) (next ticked : ℕ) → AllHold IsNoStep events →
      ComesTo faulty (after_events faulty events at) → IsAgain good faulty others tried at next ticked → IsAgain good faulty others tried (after_events faulty events at) next ticked
  passes good faulty others tried at events next ticked none comes again = record {
    few = again.few;
    ahead = ahead-past slots good faulty others at events (drop next tried) none comes again.ahead;
    counts = slots.passes good faulty others at events (ticked + next) again.counts;
  }

  follows : (good faulty : Machine) (others : List Phase) (tried : List TriedStep) (at : Moment) (process next ticked : ℕ) → ComesTo faulty (after_event faulty (Step process) at) →
      ((one : TriedStep) → slice_get tried next ≡ Some one → IsNextPlace faulty at process one → ⊥) → IsAgain good faulty others tried at next ticked →
      IsAgain good faulty others tried (after_event faulty (Step process) at) next ticked
  follows good faulty others tried at process next ticked comes differs again = record {
    few = again.few;
    ahead = ahead-other slots good faulty others at tried process next differs comes again.ahead;
    counts = slots.passes good faulty others at (Step process ∷ []) (ticked + next) again.counts;
  }

  -- a step that is own is one more
  counts-more : (good faulty : Machine) (others : List Phase) (at : Moment) (process ticked : ℕ) → process < length faulty.design.processes →
      OwnLast (good_runs good process at.turn (slice_get others (length at.ended))) (process_runs faulty process (behind_event (present_phase at) (Step process))) →
      OwnCountSoFar good faulty others at ticked → OwnCountSoFar good faulty others (after_event faulty (Step process) at) (ticked + 1)
  counts-more good faulty others at process ticked there own counts =
      slots.goes good faulty others at (Step process ∷ []) ticked 1
      (λ now so_far. ticking.own good faulty (slice_get others (length at.ended)) (present_phase at) process now there own so_far) counts

  ticks : (good faulty : Machine) (others : List Phase) (tried : List TriedStep) (at : Moment) (process next ticked : ℕ) → ComesTo faulty (after_event faulty (Step process) at) →
      process < length faulty.design.processes →
      OwnLast (good_runs good process at.turn (slice_get others (length at.ended))) (process_runs faulty process (behind_event (present_phase at) (Step process))) →
      ((one : TriedStep) → slice_get tried next ≡ Some one → IsNextPlace faulty at process one → ⊥) → IsAgain good faulty others tried at next ticked →
      IsAgain good faulty others tried (after_event faulty (Step process) at) next (ticked + 1)
  ticks good faulty others tried at process next ticked comes there own differs again =
      let same : (ticked + next) + 1 ≡ (ticked + 1) + next = omega arith in
      record {
        few = again.few;
        ahead = ahead-other slots good faulty others at tried process next differs comes again.ahead;
        counts = subst (OwnCountSoFar good faulty others (after_event faulty (Step process) at)) same (counts-more good faulty others at process (ticked + next) there own again.counts);
      }

  tells : (good faulty : Machine) (others : List Phase) (tried : List TriedStep) (at : Moment) (process next ticked : ℕ) (one : TriedStep) →
      ComesTo faulty (after_event faulty (Step process) at) → slice_get tried next ≡ Some one → IsNextPlace faulty at process one → IsAgain good faulty others tried at next ticked →
      ComesAgain good faulty others tried at process next ticked one
  tells good faulty others tried at process next ticked one comes is place again =
      let found =
      ahead-here slots good faulty others at steps_grow runs_grow process one (drop (suc next) tried) comes place
      (subst (AreAhead good faulty others at) (drop-get next tried one is) again.ahead) in
      let low = slice_get_within tried next one is in
      let same : (ticked + next) + 1 ≡ ticked + (next + 1) = omega arith in
      let up : suc next ≡ next + 1 = omega arith in
      record {
        kept = found.kept;
        on = record {
          few = omega (arith, low);
          ahead = subst (λ (n : ℕ). AreAhead good faulty others (after_event faulty (Step process) at) (drop n tried)) up found.ahead;
          counts =
              subst (OwnCountSoFar good faulty others (after_event faulty (Step process) at)) same
              (counts-more good faulty others at process (ticked + next) found.kept.there found.kept.own again.counts);
        };
      }

  turns : (good faulty : Machine) (others : List Phase) (tried : List TriedStep) (at : Moment) (turn : TurnKind) (next ticked : ℕ) → ComesTo faulty (after_turn turn at) →
      IsAgain good faulty others tried at next ticked → IsAgain good faulty others tried (after_turn turn at) next ticked
  turns good faulty others tried at turn next ticked comes again = record {
    few = again.few;
    ahead = ahead-turned slots good faulty others at turn (drop next tried) comes again.ahead;
    counts = slots.turns good faulty others at turn (ticked + next) again.counts;
  }

  ends : (good faulty : Machine) (good_slots : List FirstSlot) (found : Option FirstSlot) (tried : List TriedStep) (at : Moment) (hyper : Bool) (next ticked : ℕ) → ComesTo faulty at →
      EndsAt faulty hyper at → find (λ (other : FirstSlot). nat_eq other.begins.time at.begins.time) good_slots ≡ found → IsAgain good faulty (phases_if good found) tried at next ticked →
      AtMostOwn (slot_beside good faulty good_slots (slot_from faulty at.begins)) (ticked + length tried)
  ends good faulty good_slots found tried at hyper next ticked comes end is again =
      let none = ahead-ended slots good faulty (phases_if good found) at hyper (drop next tried) end again.ahead in
      let left : length tried - next ≡ 0 = sym (length-drop next tried) ∙ ap length none in
      count.less (slot_beside good faulty good_slots (slot_from faulty at.begins)) (ticked + next) (ticked + length tried) (omega (arith, left))
      (slots.within good faulty good_slots found at (ticked + next) comes is again.counts)

  pub second_runs : SecondRuns
  second_runs = record {
    begins = begins;
    passes = passes;
    tells = tells;
    follows = follows;
    ticks = ticks;
    turns = turns;
    ends = ends;
  }
