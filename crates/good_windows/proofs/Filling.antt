-- Slots that are put into a trace until its window is full, or no further slot is one of a window.
use Rattle.std.proofs.Common.{◌≡◌, ℕ, zero, suc, ◌+◌, ◌-◌, ◌<◌, ◌≤◌, Bool, true, false, List, length, take, drop, refl, sym, ap, subst, ◌∙◌, arith, ◌⊎◌, inl, inr}
use Rattle.std.specs.Prelude.{Option, Some, None, ◌&&◌, ◌||◌, nat_eq, nat_le, nat_lt, slice_get, sum_by}
use Rattle.std.proofs.Math.ListN.{drop_of_length-le}
use Rattle.std.proofs.lemmas.Bool.{and_left, and_right, le-ltb, leb-true, leb-false, ne_eqb, or_from, or_parts}
use Rattle.std.proofs.lemmas.List.{length-take}
use Rattle.std.proofs.lemmas.Option.{slice_get_within}
use Rattle.vf_base.specs.Base.{ReportedPair, reported_pair}
use Rattle.vf_base.specs.declared.finding.Pair.{Pair}
use Rattle.v_design.specs.Designs.{FlatDesign, TestPlan, good_machine}
use Rattle.v_design.specs.Runs.{FirstSlot, is_hyper, counted_steps}
use Rattle.v_design.specs.Grades.{SlotOutcome, Fine, Race, Hyper, race_or_fine, first_race, phases}
use Rattle.run_ends.specs.RunEnds.{AreCodesOf}
use Rattle.copy_laws.specs.Windows.{WindowEnd, IsOpen, IsThrough, IsRaced, good_slots, window_steps}
use Rattle.machine.specs.declared.parts.Machine.{Machine as Simulated}
use Rattle.good_trace.specs.Slots.{end_of, is_full}
use Rattle.good_trace.specs.Traces.{TraceKept}
use Rattle.good_windows.specs.declared.stage.Stage.{Stage}
use Rattle.good_windows.specs.declared.stage.Stage.TheVariants.{Open, Through, Raced, Looped}
use Rattle.good_windows.specs.Next.{IsNextWindow, EndsWindows, AllStand, LoopsBehind, is_full_at}
use Rattle.good_windows.specs.Stages.{StandsAfter, IsUsable, next_by, ending, stage_by}
use Rattle.good_windows.specs.Puts.{StandsAt, PutsFine, PutsRaced, IsGathered, IsFilled, window_kept, one_more}
use Rattle.good_windows.proofs.Ahead.{known, none-within, all-stand, none-at, stands-here}

-- What stands

-- slots stand in the trace since its last close, and the last of them is fine
pub record HasFine (design : FlatDesign) (plan : TestPlan) (closed pushed : ℕ) : Type 0 where
  pub some : closed < pushed
  pub last : (before : ℕ) → pushed ≡ suc before → StandsAt design plan before Fine

-- the window has room for slots, of which this one is next
pub record IsFilling (design : FlatDesign) (plan : TestPlan) (end closed : ℕ) (m : Simulated) (trace : TraceKept) (some : Bool) (next : Option ℕ) : Type 0 where
  pub codes : AreCodesOf design trace.codes
  pub closed_is : trace.closed ≡ closed
  pub next_is : next ≡ next_by end m
  pub stands : StandsAfter design plan trace.pushed m
  pub fine : some ≡ true → HasFine design plan trace.closed trace.pushed
  pub none : some ≡ false → trace.pushed ≡ trace.closed
  pub room : (number : ℕ) → trace.closed ≤ number → number ≤ trace.pushed → is_full_at design plan trace.closed number ≡ false

-- no slot is left out of the good first run
pub stands-within : (design : FlatDesign) (plan : TestPlan) (number : ℕ) (outcome : SlotOutcome) → StandsAt design plan number outcome → number < length (good_slots design plan)
stands-within design plan number outcome at = slice_get_within (good_slots design plan) number at.slot at.stands

-- Windows

-- the end of a window before a slot, if there is one, whose last slot has this outcome
abbrev end_by : Option FirstSlot → SlotOutcome → WindowEnd
end_by next outcome = elim outcome as (λ _. WindowEnd) [
  | Fine ↦ elim next as (λ _. WindowEnd) [ None ↦ IsThrough | Some later ↦ IsOpen ]
  | Race pair ↦ IsRaced pair
  | Hyper ↦ IsThrough
]

window-of : (design : FlatDesign) (plan : TestPlan) (trace : TraceKept) (stage : Stage) (outcome : SlotOutcome) (pushed : ℕ) → trace.pushed ≡ pushed → trace.closed < pushed →
    ((before : ℕ) → pushed ≡ suc before → StandsAt design plan before outcome) → end_of (ending stage) ≡ end_by (slice_get (good_slots design plan) pushed) outcome →
    ((number : ℕ) → trace.closed < number → number < pushed → is_full_at design plan trace.closed number ≡ false) →
    (is_full_at design plan trace.closed pushed ≡ true) ⊎ EndsWindows design plan pushed → IsNextWindow design plan trace.closed (window_kept trace stage)
window-of design plan trace stage outcome zero at some last end room ends = absurd (omega (arith, some))
window-of design plan trace stage outcome (suc before) at some last end room ends =
    subst (λ n. IsNextWindow design plan trace.closed (record { before = trace.closed; through = n; ending = end_of (ending stage) })) (sym at)
    record {
      before_is = refl;
      window_is = record {
        some = some;
        last = (last before refl).slot;
        stands = λ other e.
            let same : before ≡ other = omega (arith, e) in
            subst (λ n. slice_get (good_slots design plan) n ≡ Some (last before refl).slot) same (last before refl).stands;
        end_is = end ∙ ap (end_by (slice_get (good_slots design plan) (suc before))) (sym (last before refl).outcome_is);
      };
      not_full_before = room;
      ends_where = ends;
    }

none-ends : (design : FlatDesign) (plan : TestPlan) (number : ℕ) → slice_get (good_slots design plan) number ≡ None → EndsWindows design plan number
none-ends design plan number none slot e = cc

hyper-is : (hyper : Bool) (race : Option ReportedPair) → elim hyper as (λ _. SlotOutcome) [ true ↦ Hyper | false ↦ race_or_fine race ] ≡ Hyper → hyper ≡ true
hyper-is true race e = refl
hyper-is false None e = cc
hyper-is false (Some pair) e = cc

hyper-ends : (design : FlatDesign) (plan : TestPlan) (number : ℕ) → StandsAt design plan number Hyper → EndsWindows design plan number
hyper-ends design plan number at slot e =
    let same : at.slot ≡ slot = some-is at.slot slot (sym at.stands ∙ e) in
    ap is_hyper (sym same) ∙ hyper-is (is_hyper at.slot) (first_race (good_machine design) 1 (phases (good_machine design) at.slot)) at.outcome_is
  where
    some-is : (one other : FirstSlot) → Some one ≡ Some other → one ≡ other
    some-is one other f = cc

-- one slot more than fits below a number
last-one : (design : FlatDesign) (plan : TestPlan) (number : ℕ) (outcome : SlotOutcome) → StandsAt design plan number outcome → (before : ℕ) → number + 1 ≡ suc before →
    StandsAt design plan before outcome
last-one design plan number outcome at before e = let same : number ≡ before = omega (arith, e) in subst (λ n. StandsAt design plan n outcome) same at

gathered-some : (design : FlatDesign) (plan : TestPlan) (trace : TraceKept) (stage : Stage) → IsNextWindow design plan trace.closed (window_kept trace stage) →
    IsGathered design plan trace (record { stage = stage; some = true })
gathered-some design plan trace stage window = record { window = λ _. window; none = λ e. cc }

module _ (design : FlatDesign) (plan : TestPlan) (closed : ℕ) (m : Simulated) (trace : TraceKept) (some : Bool) (next : Option ℕ) (at : IsFilling design plan plan.end closed m trace some next) where
  room-below : (number : ℕ) → trace.closed < number → number < trace.pushed → is_full_at design plan trace.closed number ≡ false
  room-below number low high = at.room number (omega (arith, low)) (omega (arith, high))

  closed-low : (b : Bool) → some ≡ b → trace.closed ≤ trace.pushed
  closed-low true e = let low : trace.closed < trace.pushed = (at.fine e).some in omega (arith, low)
  closed-low false e = let same : trace.pushed ≡ trace.closed = at.none e in omega (arith, same)

  -- so it may be put into the trace
  pub room-next : is_full (trace.pushed - trace.closed) (window_steps design plan trace.closed trace.pushed) ≡ false
  room-next =
      (or_parts (nat_lt 0 trace.pushed && nat_eq trace.closed 0) (is_full (trace.pushed - trace.closed) (window_steps design plan trace.closed trace.pushed))
      (at.room trace.pushed (closed-low some refl) (omega arith))).1

  room-through : (number : ℕ) → trace.closed < number → number < trace.pushed + 1 → is_full_at design plan trace.closed number ≡ false
  room-through number low high = at.room number (omega (arith, low)) (omega (arith, high))

  -- the next slot is hyperactive
  pub filled-looped : (new : Simulated) (time : ℕ) → LoopsBehind design plan trace.pushed time → StandsAt design plan trace.pushed Hyper → (after : TraceKept) → after ≡ trace →
      IsFilled design plan closed new after (record { stage = Looped time; some = some })
  filled-looped new time loops hyper after same =
      subst (λ (t : TraceKept). IsFilled design plan closed new t (record { stage = Looped time; some = some })) (sym same)
      record {
        codes = at.codes;
        closed_is = at.closed_is;
        gathered = record {
          window = λ e.
              window-of design plan trace (Looped time) Fine trace.pushed refl (at.fine e).some (at.fine e).last (ap (λ found. end_by found Fine) (sym hyper.stands)) room-below
              (inr (hyper-ends design plan trace.pushed hyper));
          none = λ e. (at.none e, subst (λ n. LoopsBehind design plan n time) (at.none e) loops);
        };
        goes_on = loops;
      }

  -- no slot comes up to the plan's end
  pub filled-through : (after : Simulated) → next ≡ None → IsFilled design plan closed after trace (record { stage = Through; some = some })
  filled-through after none = record {
    codes = at.codes;
    closed_is = at.closed_is;
    gathered = record {
      window = λ e.
          window-of design plan trace Through Fine trace.pushed refl (at.fine e).some (at.fine e).last (ap (λ found. end_by found Fine) (sym (none-at design plan trace.pushed all))) room-below
          (inr (none-ends design plan trace.pushed (none-at design plan trace.pushed all)));
      none = λ e. (at.none e, subst (AllStand design plan) (at.none e) all);
    };
    goes_on = all;
  }
    where
      all : AllStand design plan trace.pushed
      all = all-stand design plan trace.pushed m at.stands (none-within plan.end m (sym at.next_is ∙ none))

  -- the next slot has a race
  pub filled-raced : (new : Simulated) (pair : Pair) (after : TraceKept) → PutsRaced design plan trace pair after → IsFilled design plan closed new after (record { stage = Raced pair; some = true })
  filled-raced new pair after puts =
      subst (λ (t : TraceKept). IsFilled design plan closed new t (record { stage = Raced pair; some = true })) (sym puts.trace_is)
      record {
        codes = at.codes;
        closed_is = at.closed_is;
        gathered =
            gathered-some design plan (one_more trace) (Raced pair)
            (window-of design plan (one_more trace) (Raced pair) (Race (reported_pair pair)) (trace.pushed + 1) refl (let low = closed-low some refl in omega (arith, low))
            (last-one design plan trace.pushed (Race (reported_pair pair)) puts.slot) refl room-through
            (inr (none-ends design plan (trace.pushed + 1) (none-at design plan (trace.pushed + 1) puts.all))));
        goes_on = puts.all;
      }

  -- the next slot is put into the trace, which then is full
  pub filled-full : (new : Simulated) (after : TraceKept) → PutsFine design plan trace true new after →
      IsFilled design plan closed new after (record { stage = stage_by (next_by plan.end new); some = true })
  filled-full new after puts =
      subst (λ (t : TraceKept). IsFilled design plan closed new t (record { stage = stage_by (next_by plan.end new); some = true })) (sym puts.trace_is) (go (next_by plan.end new) refl)
    where
      window : (stage : Stage) → end_of (ending stage) ≡ end_by (slice_get (good_slots design plan) (trace.pushed + 1)) Fine →
          IsNextWindow design plan trace.closed (window_kept (one_more trace) stage)
      window stage end =
          window-of design plan (one_more trace) stage Fine (trace.pushed + 1) refl (let low = closed-low some refl in omega (arith, low))
          (last-one design plan trace.pushed Fine puts.slot) end room-through
          (inl puts.full_is)

      go : (found : Option ℕ) → next_by plan.end new ≡ found → IsFilled design plan closed new (one_more trace) (record { stage = stage_by found; some = true })
      go None e =
          let all = all-stand design plan (trace.pushed + 1) new puts.stands (none-within plan.end new e) in
          record {
            codes = at.codes;
            closed_is = at.closed_is;
            gathered =
                gathered-some design plan (one_more trace) Through (window Through (ap (λ found. end_by found Fine) (sym (none-at design plan (trace.pushed + 1) all))));
            goes_on = all;
          }
      go (Some time) e =
          let k = known plan.end new time e in
          record {
            codes = at.codes;
            closed_is = at.closed_is;
            gathered =
                gathered-some design plan (one_more trace) Open
                (window Open (ap (λ found. end_by found Fine) (sym (stands-here design plan (trace.pushed + 1) new puts.stands k.begins k.within_is))));
            goes_on = puts.stands;
          }

  -- the next slot is put into the trace, which has room for more
  pub filling-more : (new : Simulated) (after : TraceKept) (later : Option ℕ) → PutsFine design plan trace false new after → later ≡ next_by plan.end new →
      IsFilling design plan plan.end closed new after true later
  filling-more new after later puts is =
      subst (λ (t : TraceKept). IsFilling design plan plan.end closed new t true later) (sym puts.trace_is)
      record {
        codes = at.codes;
        closed_is = at.closed_is;
        next_is = is;
        stands = puts.stands;
        fine = λ _. record { some = let low = closed-low some refl in omega (arith, low); last = last-one design plan trace.pushed Fine puts.slot };
        none = λ e. cc;
        room = λ number low high. room number low high (nat_le number trace.pushed) refl;
      }
    where
      room : (number : ℕ) → trace.closed ≤ number → number ≤ trace.pushed + 1 → (b : Bool) → nat_le number trace.pushed ≡ b → is_full_at design plan trace.closed number ≡ false
      room number low high true e = at.room number low (leb-true number trace.pushed e)
      room number low high false e =
          let past : trace.pushed < number = leb-false number trace.pushed e in
          let same : trace.pushed + 1 ≡ number = omega (arith, past, high) in
          subst (λ n. is_full_at design plan trace.closed n ≡ false) same puts.full_is

  -- fewer slots are left
  pub fewer-left : (new : Simulated) (after : TraceKept) (full : Bool) → PutsFine design plan trace full new after →
      length (good_slots design plan) - after.pushed < length (good_slots design plan) - trace.pushed
  fewer-left new after full puts =
      let within : trace.pushed < length (good_slots design plan) = stands-within design plan trace.pushed Fine puts.slot in
      let more : after.pushed ≡ trace.pushed + 1 = ap (λ (t : TraceKept). t.pushed) puts.trace_is in omega (arith, within, more)

-- Room for the first slot

no-steps : (slots : List FirstSlot) (number : ℕ) → sum_by (λ (slot : FirstSlot). counted_steps slot.moves) (drop number (take number slots)) ≡ 0
no-steps slots number =
    let long = length-take number slots in ap (λ l. sum_by (λ (slot : FirstSlot). counted_steps slot.moves) l) (drop_of_length-le (take number slots) {i = number} (omega arith))

room-none : (design : FlatDesign) (plan : TestPlan) (number : ℕ) → is_full (number - number) (window_steps design plan number number) ≡ false
room-none design plan number = let none : number - number ≡ 0 = omega arith in (λ i. is_full (none i) (no-steps (good_slots design plan) number i))

pub room-first : (design : FlatDesign) (plan : TestPlan) (number : ℕ) → is_full_at design plan number number ≡ false
room-first design plan zero =
    or_from (nat_lt 0 zero && nat_eq zero 0) (is_full (zero - zero) (window_steps design plan zero zero)) (and_left (nat_lt 0 zero) (nat_eq zero 0) (le-ltb 0 zero (omega arith)))
    (room-none design plan zero)
room-first design plan (suc number) =
    or_from (nat_lt 0 (suc number) && nat_eq (suc number) 0) (is_full (suc number - suc number) (window_steps design plan (suc number) (suc number)))
    (and_right (nat_lt 0 (suc number)) (nat_eq (suc number) 0) (ne_eqb (suc number) 0 (λ e. omega (arith, e)))) (room-none design plan (suc number))

-- before the first slot is put into the trace
pub filling-first : (design : FlatDesign) (plan : TestPlan) (closed : ℕ) (m : Simulated) (trace : TraceKept) (next : Option ℕ) → IsUsable design plan m trace Open → trace.closed ≡ closed →
    next ≡ next_by plan.end m →
    IsFilling design plan plan.end closed m trace false next
filling-first design plan closed m trace next usable closed_is is = record {
  codes = usable.codes;
  closed_is = closed_is;
  next_is = is;
  stands = subst (λ n. StandsAfter design plan n m) (sym usable.all_closed) usable.goes_on;
  fine = λ e. cc;
  none = λ _. usable.all_closed;
  room = λ number low high.
      let all : trace.pushed ≡ trace.closed = usable.all_closed in
      let same : trace.closed ≡ number = omega (arith, all, low, high) in
      subst (λ n. is_full_at design plan trace.closed n ≡ false) same (room-first design plan trace.closed);
}
