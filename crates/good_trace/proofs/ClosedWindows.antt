-- What a trace and its window keep once the window is closed.
use Rattle.std.proofs.Common.{◌≡◌, ℕ, ◌≤◌, List, sym, subst, ◌∙◌, arith}
use Rattle.v_design.specs.Designs.{FlatDesign, TestPlan}
use Rattle.process_code.specs.declared.code.Code.{Code}
use Rattle.copy_laws.specs.Windows.{WindowEnd, IsWindow, window_steps}
use Rattle.between_slots.specs.Between.{RunsLead}
use Rattle.between_slots.specs.Updates.{UpdatesArePending}
use Rattle.trace_window.specs.declared.sizes.Sizes.{Sizes}
use Rattle.trace_window.specs.Acted.{events_of}
use Rattle.trace_window.specs.Gathered.{BeginsAt}
use Rattle.trace_window.specs.Moments.{window_events}
use Rattle.window_runs.specs.RunLaws.{EndsStand, EndsLead, EndsPart, EndsAppend}
use Rattle.good_trace.specs.declared.between.BetweenSlots.{BetweenSlots}
use Rattle.good_trace.specs.declared.closing.Closed.{Closed}
use Rattle.good_trace.specs.declared.pushed.PushedSlots.{PushedSlots}
use Rattle.good_trace.specs.declared.pushed.SlotTable.{SlotTable}
use Rattle.good_trace.specs.Closing.{IsClosed}
use Rattle.good_trace.specs.Events.{sizes_of}
use Rattle.good_trace.specs.Pushes.{HasNoSlot}
use Rattle.good_trace.specs.RunsKept.{AreRunsKept, KeepsTrace, KeepsWindow}
use Rattle.good_trace.proofs.Boundaries.{AreUpdatesAt-closed}
use Rattle.good_trace.proofs.Following.{ends-within, later-is}
use Rattle.good_trace.proofs.Keeping.{IsTrace-none}
use Rattle.good_trace.proofs.RunsKeeping.{AreRunsKept-none, AreStatesAt-closed}

-- the window
pub window-kept : (codes : List Code) (design : FlatDesign) (plan : TestPlan) (pushed closed steps phases : ℕ) (before given : BetweenSlots) (slots : PushedSlots) (out : SlotTable) (sizes : Sizes)
    (done : Closed) (ending : WindowEnd) → sizes ≡ sizes_of design → KeepsTrace codes design plan pushed closed steps phases before slots → IsWindow design plan closed pushed ending →
    IsClosed sizes phases before slots done → given ≡ before → out ≡ slots.table → KeepsWindow design plan closed pushed ending phases given done.events out done.index
window-kept codes design plan pushed closed steps phases before given slots out sizes done ending sized had window is gives outs =
    let kept = had.slots_kept in
    let own : IsClosed (sizes_of design) phases before slots done = subst (λ s. IsClosed s phases before slots done) sized is in
    subst (λ b. KeepsWindow design plan closed pushed ending phases b done.events out done.index) (sym gives)
    (subst (λ t. KeepsWindow design plan closed pushed ending phases before done.events t done.index) (sym outs) (record {
      window = record {
        stands = record {
          window = window;
          few_slots = omega (arith, kept.times_are.held, kept.few_slots);
          few_steps = few steps (window_steps design plan closed pushed) kept.counted kept.few_steps;
        };
        events_are = record {
          rules = kept.rules;
          values_are = kept.values_are;
          values_count = kept.values_count;
          accesses = kept.accesses;
          listed = kept.events_are.listed;
          events_are = own.events kept.accesses (events_of (window_events design plan closed pushed)) kept.events_are.gathered;
        };
        beginnings_are = kept.beginnings_are;
        times_are = kept.times_are;
      };
      has_runs = record { codes = codes; kept = had.runs_kept; index_is = own.index_is };
      has_updates = had.updates_kept;
    }))
  where
    few : (a b : ℕ) → a ≡ b → a ≤ 300000 → b ≤ 300000
    few a b e h = omega arith

-- and what the trace goes on from
pub trace-kept : RunsLead → EndsStand → EndsLead → UpdatesArePending → EndsPart → EndsAppend → (codes : List Code) (design : FlatDesign) (plan : TestPlan) (pushed closed steps phases : ℕ)
    (before kept : BetweenSlots) (slots new : PushedSlots) (sizes : Sizes) (done : Closed) (ending : WindowEnd) → sizes ≡ sizes_of design →
    KeepsTrace codes design plan pushed closed steps phases before slots → IsWindow design plan closed pushed ending → IsClosed sizes phases before slots done → kept ≡ done.later →
    HasNoSlot new.table → BeginsAt 0 new.list → KeepsTrace codes design plan pushed pushed 0 0 kept new
trace-kept lead stand does pends part append codes design plan pushed closed steps phases before kept slots new sizes done ending sized had window is keeps none empty =
    let own : IsClosed (sizes_of design) phases before slots done = subst (λ s. IsClosed s phases before slots done) sized is in
    let within = ends-within design plan closed pushed ending window in
    let times = slots.table.times.items in
    let runs = slots.table.runs.items in
    subst (λ b. KeepsTrace codes design plan pushed pushed 0 0 b new) (sym keeps) (record {
      slots_kept =
          IsTrace-none design plan pushed done.later.values.items new had.slots_kept.rules
          (later-is design plan closed pushed before.values.items done.events ending done.later.values.items window (record {
            rules = had.slots_kept.rules;
            values_are = had.slots_kept.values_are;
            values_count = had.slots_kept.values_count;
            accesses = had.slots_kept.accesses;
            listed = had.slots_kept.events_are.listed;
            events_are = own.events had.slots_kept.accesses (events_of (window_events design plan closed pushed)) had.slots_kept.events_are.gathered;
          }) own.values_count own.values) (own.values_count ∙ had.slots_kept.values_count) had.slots_kept.run_fits none empty;
      runs_kept =
          subst (AreRunsKept codes design plan pushed pushed 0 done.later.states.items) (sym none.runs)
          (AreRunsKept-none codes design plan pushed done.later.states.items had.runs_kept.codes_are
          (AreStatesAt-closed lead stand does codes design plan pushed closed phases times before.states.items done.later.states.items runs had.slots_kept.rules had.slots_kept.times_are had.runs_kept
          within.0 within.1 own.states));
      updates_kept =
          AreUpdatesAt-closed pends part append codes design plan pushed closed phases own.time times before.states.items before.updates.items done.later.updates.items runs had.slots_kept.rules
          had.slots_kept.times_are had.runs_kept had.updates_kept window.some own.last own.updates;
    })
