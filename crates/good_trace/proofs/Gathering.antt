-- What is gathered of a window's slots as they are pushed.
use Rattle.std.proofs.Common.{◌≡◌, ℕ, zero, suc, ◌+◌, ◌≤◌, List, [], ◌∷◌, ◌++◌, map, length, take, refl, sym, ap, subst, ◌∙◌, inl, inr, arith, length-append}
use Rattle.std.specs.Prelude.{Some, slice_get}
use Rattle.std.proofs.lemmas.List.{length-map, length_push, map-append, take_all, take-append-le}
use Rattle.std.proofs.lemmas.Option.{slice_get_within}
use Rattle.v_design.specs.Accesses.{ObjectAccess}
use Rattle.v_design.specs.Designs.{FlatDesign, TestPlan, good_machine}
use Rattle.v_design.specs.Grades.{Phase, phases}
use Rattle.v_design.specs.Runs.{FirstSlot}
use Rattle.v_design.specs.States.{Event}
use Rattle.causal_monitor.specs.declared.slot.SlotLog.{SlotLog}
use Rattle.slot_record.specs.SlotLogs.{IsSlotLog}
use Rattle.copy_laws.specs.Windows.{good_slots}
use Rattle.between_slots.specs.Between.{window_phases}
use Rattle.between_slots.specs.WindowLaws.{window_phases-none}
use Rattle.trace_window.specs.declared.list.EventList.{EventList}
use Rattle.trace_window.specs.declared.sizes.Sizes.{Sizes}
use Rattle.trace_window.specs.Acted.{events_of, evaluations_from, steps_from}
use Rattle.trace_window.specs.GatherLaws.{writes_from-append, touches_from-append, evaluations_from-append, steps_from-append, below-append}
use Rattle.trace_window.specs.Gathered.{Gathers, BeginsAt}
use Rattle.trace_window.specs.Listed.{log_accesses, log_events, AreAccessesOf, AreListed}
use Rattle.trace_window.specs.LogLaws.{all_zip-append, slot-listed, slot-events}
use Rattle.trace_window.specs.Moments.{Seen, slot_seen, window_events}
use Rattle.trace_window.specs.Occurring.{below}
use Rattle.trace_window.specs.Touched.{touches_from}
use Rattle.trace_window.specs.TouchLaws.{listed-length}
use Rattle.trace_window.specs.Writes.{Written, written_of, writes_from}
use Rattle.good_trace.specs.declared.pushed.SlotBeginning.{SlotBeginning}
use Rattle.good_trace.specs.Beginnings.{IsTimeAt, AreTimes, IsBeginning, AreBeginnings, first_beginning}
use Rattle.good_trace.specs.Events.{sizes_of, IsGathered, AreGathered}
use Rattle.good_trace.specs.Slots.{first_turn}
use Rattle.good_trace.proofs.Growing.{slice_get-push}
use Rattle.good_trace.proofs.Windows.{window_events-none, window_events-more, events-within}

-- Times

-- of no slot
pub AreTimes-none : (design : FlatDesign) (plan : TestPlan) (number : ℕ) (times : List ℕ) → times ≡ [] → AreTimes design plan number number times
AreTimes-none design plan number times none = subst (AreTimes design plan number number) (sym none) (record {
  held = omega arith;
  each = λ place time here. let low = slice_get_within [] place time here in absurd (omega (arith, low));
})

-- of one slot more
pub AreTimes-more : (design : FlatDesign) (plan : TestPlan) (closed pushed : ℕ) (times : List ℕ) (time : ℕ) → AreTimes design plan closed pushed times → IsTimeAt design plan pushed time →
    AreTimes design plan closed (pushed + 1) (times ++ time ∷ [])
AreTimes-more design plan closed pushed times time had is = record {
  held = let long = length_push times time in omega (arith, long, had.held);
  each = λ place other here. elim (slice_get-push times time other place here) [
    | inl h ↦ had.each place other h
    | inr h ↦
        let there : pushed ≡ closed + place = omega (arith, had.held, h.0) in
        subst (λ n. IsTimeAt design plan n other) there (subst (IsTimeAt design plan pushed) h.1 is)
  ];
}

-- Events

-- of no slot
IsGathered-none : (sizes : Sizes) (list : EventList) → BeginsAt 0 list → IsGathered sizes [] [] list
IsGathered-none sizes list none = record {
  as_many = refl;
  moment = none.moment_is;
  changes = ap (map written_of) none.changes;
  touches = none.touches;
  evaluations = none.evaluations;
  steps = none.steps;
}

pub AreGathered-none : (design : FlatDesign) (plan : TestPlan) (number : ℕ) (list : EventList) → BeginsAt 0 list → AreGathered design plan number number [] list
AreGathered-none design plan number list none = record {
  listed = subst (λ (seen : List Seen). AreListed (good_machine design) seen []) (sym (window_events-none design plan number)) tt;
  gathered =
      subst (λ (seen : List Seen). IsGathered (sizes_of design) [] (events_of seen) list) (sym (window_events-none design plan number)) (IsGathered-none (sizes_of design) list none);
}

-- of some events and then of others
IsGathered-more : (sizes : Sizes) (xs ys : List (List ObjectAccess)) (es fs : List Event) (old new : EventList) → IsGathered sizes xs es old → Gathers sizes ys fs old new →
    IsGathered sizes (xs ++ ys) (es ++ fs) new
IsGathered-more sizes xs ys es fs old new had more =
    let at : old.moment ≡ 0 + length xs = omega (arith, had.moment) in
    let acted : old.moment ≡ 0 + length es = omega (arith, had.moment, had.as_many) in
    record {
      as_many = let long = length-append xs ys in let many = length-append es fs in omega (arith, had.as_many, more.as_many, long, many);
      moment = let long = length-append xs ys in omega (arith, had.moment, more.moment, long);
      changes = more.changes ∙ (λ i. had.changes i ++ writes_from (at i) ys) ∙ sym (writes_from-append 0 xs ys);
      touches =
          more.touches ∙ (λ i. had.touches i ++ below sizes.objects (touches_from (at i) ys))
          ∙ sym (ap (below sizes.objects) (touches_from-append 0 xs ys) ∙ below-append sizes.objects (touches_from 0 xs) (touches_from (0 + length xs) ys));
      evaluations =
          more.evaluations ∙ (λ i. had.evaluations i ++ below sizes.nodes (evaluations_from (acted i) fs))
          ∙ sym (ap (below sizes.nodes) (evaluations_from-append 0 es fs) ∙ below-append sizes.nodes (evaluations_from 0 es) (evaluations_from (0 + length es) fs));
      steps =
          more.steps ∙ (λ i. had.steps i ++ below sizes.processes (steps_from (acted i) fs))
          ∙ sym (ap (below sizes.processes) (steps_from-append 0 es fs) ∙ below-append sizes.processes (steps_from 0 es) (steps_from (0 + length es) fs));
    }

-- of one slot more
pub AreGathered-more : (design : FlatDesign) (plan : TestPlan) (closed pushed : ℕ) (accesses : List (List ObjectAccess)) (slot : FirstSlot) (log : SlotLog) (old new : EventList) → closed ≤ pushed →
    slice_get (good_slots design plan) pushed ≡ Some slot → IsSlotLog (good_machine design) (first_turn pushed) (phases (good_machine design) slot) log →
    AreGathered design plan closed pushed accesses old → Gathers (sizes_of design) (log_accesses log) (log_events log) old new →
    AreGathered design plan closed (pushed + 1) (accesses ++ log_accesses log) new
AreGathered-more design plan closed pushed accesses slot log old new low stands logged had more = record {
  listed =
      subst (λ (seen : List Seen). AreListed (good_machine design) seen (accesses ++ log_accesses log)) (sym wider)
      (all_zip-append (AreAccessesOf (good_machine design)) (window_events design plan closed pushed) accesses (slot_seen (good_machine design) slot) (log_accesses log) had.listed
      (slot-listed (good_machine design) (first_turn pushed) slot log logged));
  gathered =
      subst (λ (acted : List Event). IsGathered (sizes_of design) (accesses ++ log_accesses log) acted new) (sym own)
      (IsGathered-more (sizes_of design) accesses (log_accesses log) (events_of (window_events design plan closed pushed)) (log_events log) old new had.gathered more);
}
  where
    wider : window_events design plan closed (pushed + 1) ≡ window_events design plan closed pushed ++ slot_seen (good_machine design) slot
    wider = window_events-more design plan closed pushed slot stands low

    own : events_of (window_events design plan closed (pushed + 1)) ≡ events_of (window_events design plan closed pushed) ++ log_events log
    own =
        ap events_of (window_events-more design plan closed pushed slot stands low)
        ∙ map-append (λ (one : Seen). one.event) (window_events design plan closed pushed) (slot_seen (good_machine design) slot)
        ∙ ap (λ l. events_of (window_events design plan closed pushed) ++ l) (slot-events (good_machine design) (first_turn pushed) slot log logged)

-- Beginnings

-- of no slot
pub AreBeginnings-none : (design : FlatDesign) (plan : TestPlan) (number : ℕ) (beginnings : List SlotBeginning) → beginnings ≡ first_beginning ∷ [] →
    AreBeginnings design plan number number [] beginnings
AreBeginnings-none design plan number beginnings is = subst (AreBeginnings design plan number number []) (sym is) (record {
  count = omega arith;
  each = one;
})
  where
    first : IsBeginning design plan number number [] first_beginning
    first = record {
      moment = sym (ap (λ (l : List Seen). length l) (window_events-none design plan number));
      changes = sym (ap (λ (l : List Seen). length (writes_from 0 (take (length l) []))) (window_events-none design plan number));
      phases = sym (ap (λ (l : List Phase). length l) (window_phases-none design plan number));
    }

    one : (place : ℕ) (beginning : SlotBeginning) → slice_get (first_beginning ∷ []) place ≡ Some beginning → IsBeginning design plan number (number + place) [] beginning
    one zero beginning here =
        let same : first_beginning ≡ beginning = cc in
        subst (IsBeginning design plan number (number + 0) []) same
        (let e : number ≡ number + 0 = omega arith in subst (λ n. IsBeginning design plan number n [] first_beginning) e first)
    one (suc place) beginning here = cc

-- with the events of one slot more it begins where it did
begins-still : (design : FlatDesign) (plan : TestPlan) (closed number pushed : ℕ) (accesses more : List (List ObjectAccess)) (beginning : SlotBeginning) → closed ≤ number → number ≤ pushed →
    length accesses ≡ length (window_events design plan closed pushed) → IsBeginning design plan closed number accesses beginning →
    IsBeginning design plan closed number (accesses ++ more) beginning
begins-still design plan closed number pushed accesses more beginning low high long had = record {
  moment = had.moment;
  changes =
      had.changes
      ∙ ap (λ (l : List (List ObjectAccess)). length (writes_from 0 l))
      (sym (take-append-le (length (window_events design plan closed number)) accesses more
      (let within = events-within design plan closed number pushed low high in omega (arith, within, long))));
  phases = had.phases;
}

-- behind all events
pub begins-behind : (design : FlatDesign) (plan : TestPlan) (before number phases : ℕ) (accesses : List (List ObjectAccess)) (list : EventList) → AreGathered design plan before number accesses list →
    phases ≡ length (window_phases design plan before number) →
    IsBeginning design plan before number accesses (record { moment = list.moment; changes = length list.changes.items; phases = phases })
begins-behind design plan before number phases accesses list had count = record {
  moment = had.gathered.moment ∙ listed-length (good_machine design) (window_events design plan before number) accesses had.listed;
  changes =
      sym (length-map list.changes.items written_of) ∙ ap (λ (l : List Written). length l) had.gathered.changes
      ∙ ap (λ (l : List (List ObjectAccess)). length (writes_from 0 l))
      (sym (take_all (length (window_events design plan before number)) accesses
      (let long = listed-length (good_machine design) (window_events design plan before number) accesses had.listed in omega (arith, long))));
  phases = count;
}

-- of one slot more, behind which another one would begin so
pub AreBeginnings-more : (design : FlatDesign) (plan : TestPlan) (closed pushed : ℕ) (accesses more : List (List ObjectAccess)) (beginnings : List SlotBeginning) (next : SlotBeginning) →
    closed ≤ pushed → length accesses ≡ length (window_events design plan closed pushed) → AreBeginnings design plan closed pushed accesses beginnings →
    IsBeginning design plan closed (pushed + 1) (accesses ++ more) next → AreBeginnings design plan closed (pushed + 1) (accesses ++ more) (beginnings ++ next ∷ [])
AreBeginnings-more design plan closed pushed accesses more beginnings next low long had is = record {
  count = let longer = length_push beginnings next in omega (arith, longer, had.count);
  each = λ place other here. elim (slice_get-push beginnings next other place here) [
    | inl h ↦
        let within = slice_get_within beginnings place other h in
        begins-still design plan closed (closed + place) pushed accesses more other (omega arith) (omega (arith, within, had.count)) long (had.each place other h)
    | inr h ↦
        let there : pushed + 1 ≡ closed + place = omega (arith, had.count, h.0) in
        subst (λ n. IsBeginning design plan closed n (accesses ++ more) other) there (subst (IsBeginning design plan closed (pushed + 1) (accesses ++ more)) h.1 is)
  ];
}
