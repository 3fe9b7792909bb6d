-- So many steps of a process or of its lane (IEEE 1364-2001, clause 5).
use Rattle.std.proofs.Common.{◌≡◌, ℕ, zero, suc, ◌+◌, ◌<◌, ◌≤◌, ◌^◌, length, Bool, true, false, ◌&&◌, refl, sym, ap, ◌∙◌, arith}
use Rattle.std.specs.Prelude.{Option, None, slice_get, nat_lt}
use Rattle.std.proofs.lemmas.Bool.{lt-ltb}
use Rattle.std.proofs.lemmas.Option.{slice_get_past}
use Rattle.v_design.specs.PlainDesigns.{design_of}
use Rattle.v_design.specs.RulesHold.{rules_hold}
use Rattle.v_design.specs.WellFormed.{KeepsRules}
use Rattle.v_design.specs.Designs.{FlatDesign, Machine}
use Rattle.v_design.specs.States.{ProcessState, Event, idle_process, found_or, is_ready, is_any, possible}
use Rattle.v_design.specs.Runs.{then_state, only_if, most_steps}
use Rattle.net_state.specs.States.{machine_in}
use Rattle.process_table.specs.Arranged.{table_of}
use Rattle.machine_events.specs.PartLaws.{table-count}
use Rattle.cert_laws.specs.Replays.{Replay, stepped_on, step_on, steps_on, if_allowed, next_line}
use Rattle.cert_replay.specs.declared.replaying.Replaying.{Replaying}
use Rattle.cert_replay.specs.declared.replaying.Stepper.{Stepper}
use Rattle.cert_replay.specs.declared.replaying.Stepper.TheVariants.{Process, Lane}
use Rattle.cert_replay.specs.Kept.{Keeps, SameRun, Follows, claims_race, bound_kept, event_by, line_by}
use Rattle.cert_replay.specs.Deeds.{may_step}
use Rattle.cert_replay.proofs.Going.{same-run, may-is}

-- some steps were taken, and so many are left
pub record Stepping (machine : Machine) (event : Event) (count left : ℕ) (replay : Replay) (r : Replaying) : Type 0 where
  pub now : Replay
  pub rest_is : steps_on count machine event replay ≡ steps_on left machine event now
  pub keeps : Keeps machine now r

abbrev on_steps : ℕ → Machine → Event → Option Replay → Option Replay
on_steps count machine event found = then_state found (λ next. steps_on count machine event next)

pub stepping-goes : (machine : Machine) (event : Event) (count left less : ℕ) (replay : Replay) (old new : Replaying) → left ≡ less + 1 →
    Follows (λ machine replay. step_on machine event replay) true old new →
    Stepping machine event count left replay old → Stepping machine event count less replay new
stepping-goes machine event count left less replay old new is one s =
    let o = one.goes_on machine s.now s.keeps in
    record {
      now = o.0;
      rest_is = s.rest_is ∙ (let z : left ≡ suc less = omega (arith, is) in ap (λ n. steps_on n machine event s.now) z) ∙ ap (on_steps less machine event) o.1;
      keeps = o.2;
    }

pub stepping-fails : (machine : Machine) (event : Event) (count left : ℕ) (replay : Replay) (old new : Replaying) → 0 < left → Follows (λ machine replay. step_on machine event replay) false old new →
    Stepping machine event count left replay old → steps_on count machine event replay ≡ None
stepping-fails machine event count zero replay old new low one s = absurd (omega (arith, low))
stepping-fails machine event count (suc less) replay old new low one s = s.rest_is ∙ ap (on_steps less machine event) (one.goes_on machine s.now s.keeps)

-- A line of steps

line-is : (stepper : Stepper) (process count : ℕ) (race : Bool) (machine : Machine) (bound : ℕ) (replay : Replay) →
    next_line race machine bound (line_by stepper process count) replay ≡ if_allowed (nat_lt 0 count) (steps_on count machine (event_by stepper process) replay)
line-is Process process count race machine bound replay = refl
line-is Lane process count race machine bound replay = refl

-- the steps that a line says
abbrev Line : Stepper → ℕ → ℕ → Replaying → Machine → Replay → Option Replay
Line stepper process count old machine replay = next_line (claims_race old) machine (bound_kept old) (line_by stepper process count) replay

not-allowed : (b : Bool) (o : Option Replay) → o ≡ None → if_allowed b o ≡ None
not-allowed true o e = e
not-allowed false o e = refl

-- no step at all
pub line-none : (stepper : Stepper) (process count : ℕ) (old : Replaying) → count ≡ 0 → Follows (Line stepper process count old) false old old
line-none stepper process count old none = record {
  same = same-run old;
  goes_on = λ machine replay k.
      line-is stepper process count old.race machine old.bound replay
      ∙ ap (λ n. if_allowed (nat_lt 0 n) (steps_on n machine (event_by stepper process) replay)) none;
}

-- a step isn't possible, or the slot would have too many
pub line-fails : (stepper : Stepper) (process count left : ℕ) (old mid new : Replaying) → 0 < left → SameRun old new →
    Follows (λ machine replay. step_on machine (event_by stepper process) replay) false mid new →
    ((machine : Machine) (replay : Replay) → Keeps machine replay old → Stepping machine (event_by stepper process) count left replay mid) → Follows (Line stepper process count old) false old new
line-fails stepper process count left old mid new low same one stepping = record {
  same = same;
  goes_on = λ machine replay k.
      line-is stepper process count old.race machine old.bound replay
      ∙ not-allowed (nat_lt 0 count) (steps_on count machine (event_by stepper process) replay)
      (stepping-fails machine (event_by stepper process) count left replay mid new low one (stepping machine replay k));
}

-- all steps were taken
pub line-goes : (stepper : Stepper) (process count left : ℕ) (old new : Replaying) → 0 < count → left ≡ 0 → SameRun old new →
    ((machine : Machine) (replay : Replay) → Keeps machine replay old → Stepping machine (event_by stepper process) count left replay new) → Follows (Line stepper process count old) true old new
line-goes stepper process count left old new some over same stepping = record {
  same = same;
  goes_on = λ machine replay k.
      let s = stepping machine replay k in (
        s.now,
        line-is stepper process count old.race machine old.bound replay
            ∙ ap (λ b. if_allowed b (steps_on count machine (event_by stepper process) replay)) (lt-ltb 0 count some)
            ∙ s.rest_is
            ∙ ap (λ n. steps_on n machine (event_by stepper process) s.now) over,
        s.keeps,
      );
}

-- Processes that aren't there

far-may : (machine : Machine) (replay : Replay) (r : Replaying) (stepper : Stepper) (process : ℕ) → Keeps machine replay r → 2 ^ 32 ≤ process → may_step (table_of r.table) stepper process ≡ false
far-may machine replay r stepper process k far = by stepper
  where
    rules : KeepsRules (machine_in r.nets).design
    rules = rules_hold (design_of r.nets.objects.settle.graph.now.design.now) r.nets.objects.settle.graph.now.design.now.rules

    count : length (table_of r.table).processes ≡ length (machine_in r.nets).design.processes
    count = table-count r.table k.amid.arranged
        ∙ ap (λ (d : FlatDesign). length d.processes) (k.amid.both.table_is.design ∙ sym (ap (λ (m : Machine). m.design) k.amid.both.machine_is))

    past : slice_get (table_of r.table).processes process ≡ None
    past = slice_get_past (table_of r.table).processes process (omega (arith, count, rules.few_processes, far))

    by : (s : Stepper) → may_step (table_of r.table) s process ≡ false
    by Process = ap (λ (o : Option ProcessState). is_ready (found_or idle_process o).activity) past
    by Lane = ap (λ (o : Option ProcessState). is_any (found_or idle_process o).lane) past

pub line-far : (stepper : Stepper) (process count : ℕ) (old : Replaying) → 2 ^ 32 ≤ process → Follows (Line stepper process count old) false old old
line-far stepper process count old far = record {
  same = same-run old;
  goes_on = λ machine replay k.
      line-is stepper process count old.race machine old.bound replay
      ∙ nothing machine replay count (sym (may-is machine replay old stepper process k) ∙ far-may machine replay old stepper process k far);
}
  where
    nothing : (machine : Machine) (replay : Replay) (n : ℕ) → possible replay.now (event_by stepper process) ≡ false →
        if_allowed (nat_lt 0 n) (steps_on n machine (event_by stepper process) replay) ≡ None
    nothing machine replay zero e = refl
    nothing machine replay (suc n) e =
        not-allowed (nat_lt 0 (suc n)) (steps_on (suc n) machine (event_by stepper process) replay)
        (ap (λ b. on_steps n machine (event_by stepper process) (only_if (b && nat_lt replay.steps most_steps) (stepped_on machine (event_by stepper process) replay))) e)
