-- What came of a slot that was run.
use Rattle.std.proofs.Common.{◌≡◌, ℕ, ◌+◌, ◌-◌, Bool, true, false, ◌&&◌, ◌||◌, List, refl, sym, ap, subst, ◌∙◌, arith}
use Rattle.std.proofs.lemmas.Bool.{lt-ltb}
use Rattle.std.specs.Prelude.{nat_eq}
use Rattle.vf_base.specs.Base.{reported_pair}
use Rattle.v_design.specs.Designs.{FlatDesign, TestPlan, Machine, good_machine}
use Rattle.v_design.specs.Runs.{is_hyper}
use Rattle.v_design.specs.Grades.{SlotOutcome, Fine, Race, Hyper, race_or_fine, first_race, phases}
use Rattle.machine_laws.specs.SlotLoop.{slot_from}
use Rattle.causal_monitor.specs.declared.slot.Turn.{Turn}
use Rattle.causal_monitor.specs.declared.slot.Turn.TheVariants.{Time}
use Rattle.causal_monitor.specs.declared.slot.SlotLog.{SlotLog}
use Rattle.process_code.specs.declared.state.RunEnd.{RunEnd}
use Rattle.run_ends.specs.RunEnds.{AreCodesOf, AreRunEnds}
use Rattle.copy_laws.specs.Windows.{window_steps}
use Rattle.machine.specs.Standing.{RunsSlot, StaysStanding, machine_kept, notes_runs, runs_kept, outcome_of, first_turn as turn_next}
use Rattle.machine.specs.declared.end.SlotEnd.{SlotEnd}
use Rattle.machine.specs.declared.end.SlotEnd.TheVariants as slot
use Rattle.machine.specs.declared.parts.Machine.{Machine as Simulated}
use Rattle.good_trace.specs.Slots.{IsSlotAt, is_full, first_turn}
use Rattle.good_trace.specs.Traces.{TraceKept}
use Rattle.good_windows.specs.declared.slot.Put.TheVariants.{Looped}
use Rattle.good_windows.specs.Stages.{StandsAfter}
use Rattle.good_windows.specs.Puts.{PutsSlot, PutsFine, StandsAt, put_by, one_more}
use Rattle.good_windows.proofs.Ahead.{Known, stands-here, fine-after, raced-here, loops-here}

few-by : (hyper : Bool) (outcome : SlotOutcome) → (elim hyper as (λ _. SlotOutcome) [ true ↦ Hyper | false ↦ outcome ] ≡ Hyper → ⊥) → hyper ≡ false
few-by true outcome h = absurd (h refl)
few-by false outcome h = refl

-- a slot whose end isn't that of a hyperactive one
end-hyper : (end : SlotEnd) → outcome_of end ≡ Hyper → end ≡ slot.Hyper
end-hyper slot.Fine e = cc
end-hyper (slot.Race pair) e = cc
end-hyper slot.Hyper e = refl

module _ (design : FlatDesign) (plan : TestPlan) (time : ℕ) (trace : TraceKept) (m ran : Simulated) (end : SlotEnd) (log : SlotLog) (stands : StandsAfter design plan trace.pushed m)
    (known : Known plan.end m time) (runs : RunsSlot (machine_kept m) known.begins (turn_next m.stage) end ran log) where
  runs-good : RunsSlot (good_machine design) known.begins (first_turn trace.pushed) end ran log
  runs-good =
      subst (λ (first : Turn). RunsSlot (good_machine design) known.begins first end ran log) stands.turn_is
      (subst (λ (machine : Machine). RunsSlot machine known.begins (turn_next m.stage) end ran log) stands.machine_is runs)

  few : (end ≡ slot.Hyper → ⊥) → is_hyper (slot_from (good_machine design) known.begins) ≡ false
  few not_hyper =
      few-by (is_hyper (slot_from (good_machine design) known.begins)) (race_or_fine (first_race (good_machine design) 1 (phases (good_machine design) (slot_from (good_machine design) known.begins))))
      (λ e. not_hyper (end-hyper end (runs-good.outcome ∙ e)))

  -- it is the slot that the trace asks for
  pub is-slot : (taken : List RunEnd) → (end ≡ slot.Hyper → ⊥) → AreCodesOf design trace.codes → notes_runs ran ≡ true → taken ≡ runs_kept ran → IsSlotAt trace.codes design plan trace.pushed log taken
  is-slot taken not_hyper codes notes is = record {
    slot = slot_from (good_machine design) known.begins;
    stands = stands-here design plan trace.pushed m stands known.begins known.within_is;
    logged = runs-good.logged;
    log_time = runs-good.log_time;
    runs_are =
        subst (AreRunEnds trace.codes (good_machine design) (phases (good_machine design) (slot_from (good_machine design) known.begins))) (sym is)
        (runs-good.runs notes (few not_hyper) trace.codes codes);
    few_steps = few not_hyper;
  }

  stands-at : (outcome : SlotOutcome) → outcome_of end ≡ outcome → StandsAt design plan trace.pushed outcome
  stands-at outcome is = record {
    slot = slot_from (good_machine design) known.begins;
    stands = stands-here design plan trace.pushed m stands known.begins known.within_is;
    outcome_is = sym runs-good.outcome ∙ is;
  }

  -- a slot that is hyperactive
  pub puts-looped : (new : Simulated) (after : TraceKept) → end ≡ slot.Hyper → after ≡ trace → PutsSlot design plan time trace Looped new after
  puts-looped new after hyper same = (
    loops-here design plan trace.pushed m stands known.begins known.within_is time (sym runs-good.outcome ∙ ap outcome_of hyper) known.time_is,
    stands-at Hyper (ap outcome_of hyper),
    same,
  )

  -- one that isn't, after which the machine stands as it did
  module _ (new : Simulated) (after : TraceKept) (same : machine_kept ran ≡ machine_kept m) (notes : notes_runs new ≡ true) (turn : turn_next ran.stage ≡ Time) (stays : StaysStanding ran new)
      (grown : after ≡ one_more trace) where
    puts-fine : (full : Bool) → outcome_of end ≡ Fine → full ≡ (nat_eq trace.closed 0 || is_full (after.pushed - after.closed) (window_steps design plan after.closed after.pushed)) →
        PutsFine design plan trace full new after
    puts-fine full fine is = record {
      trace_is = grown;
      slot = stands-at Fine fine;
      stands =
          fine-after design plan trace.pushed m stands known.begins known.within_is new (sym runs-good.outcome ∙ fine) (stays.machine_is ∙ same ∙ stands.machine_is) stays.standing notes
          (stays.turn_is ∙ turn) (stays.begins_is ∙ runs-good.next);
      full_is =
          ap (λ b. (b && nat_eq trace.closed 0) || is_full ((trace.pushed + 1) - trace.closed) (window_steps design plan trace.closed (trace.pushed + 1)))
          (lt-ltb 0 (trace.pushed + 1) (omega arith))
          ∙ sym (is ∙ ap (λ (t : TraceKept). nat_eq trace.closed 0 || is_full (t.pushed - t.closed) (window_steps design plan t.closed t.pushed)) grown);
    }

    pub puts : (told : SlotEnd) (full : Bool) → end ≡ told → (told ≡ slot.Hyper → ⊥) →
        full ≡ (nat_eq trace.closed 0 || is_full (after.pushed - after.closed) (window_steps design plan after.closed after.pushed)) →
        PutsSlot design plan time trace (put_by told full) new after
    puts slot.Fine true is not_hyper full_is = puts-fine true (ap outcome_of is) full_is
    puts slot.Fine false is not_hyper full_is = puts-fine false (ap outcome_of is) full_is
    puts (slot.Race pair) full is not_hyper full_is = record {
      trace_is = grown;
      slot = stands-at (Race (reported_pair pair)) (ap outcome_of is);
      all = raced-here design plan trace.pushed m stands known.begins known.within_is (reported_pair pair) (sym runs-good.outcome ∙ ap outcome_of is);
    }
    puts slot.Hyper full is not_hyper full_is = absurd (not_hyper refl)
