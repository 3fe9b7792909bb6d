-- A grading on its way through the samples of a window (strobes by the plan; slots by IEEE 1364-2001, clause 5).
use Rattle.std.proofs.Common.{◌≡◌, ℕ, ◌+◌, ◌<◌, ◌≤◌, ◌^◌, Bool, List, [], ◌∷◌, drop, get_or, length, map, refl, sym, ap, subst, ◌∙◌, arith}
use Rattle.std.specs.Prelude.{Option, Some, None}
use Rattle.std.proofs.lemmas.List.{drop_more, drop_all}
use Rattle.vf_base.specs.Base.{WatchedBit}
use Rattle.vf_base.specs.Lists.{AllHold}
use Rattle.vf_base.specs.declared.finding.End.{End}
use Rattle.v_design.specs.Designs.{FlatDesign, StuckAt, TestPlan}
use Rattle.v_design.specs.Grades.{Sample}
use Rattle.v_design.specs.Plain.{grade_of}
use Rattle.kept_samples.specs.Plain.{sample_of}
use Rattle.kept_samples.specs.declared.kept.Sample.{Sample as Kept}
use Rattle.grade_laws.specs.Ahead.{StopsAfter}
use Rattle.grade_laws.specs.Grading.{good_stop}
use Rattle.grade_laws.specs.Strobes.{all-since}
use Rattle.own_counts.specs.Joins.{IsByToo}
use Rattle.machine.specs.declared.parts.Machine.{Machine as Simulated}
use Rattle.beside_laws.specs.Stands.{IsSince}
use Rattle.fault_strobes.specs.Said.{Said, keeps, plan_by}
use Rattle.fault_strobes.specs.Strobes.{EndsWith}
use Rattle.window_grade.specs.Beside.{GoesUpTo, IsKnownBeside, TicksTo}
use Rattle.window_grade.specs.Rises.{OwnStepsRise}
use Rattle.window_grade.specs.Running.{CanRunTo}
use Rattle.window_grade.specs.Grading.{IsGradingAt, CanPass, CanGrade, GradingLeads}
use Rattle.window_grade.specs.declared.beside.RunBeside.{RunBeside}
use Rattle.window_grade.proofs.Passing.{after-since, ends-later, goes-on}
use Rattle.window_grade.proofs.Slots.{by-since, by-too-more, known-later, known-part}

-- these samples are next, all up to a time, and a counter rose by at most the own steps so far, by the strobes that may end the grading
pub record Comes (design : FlatDesign) (plan : TestPlan) (fault : StuckAt) (kept : Bool) (later : List ℕ) (until : ℕ) (next : List Sample) (beside : RunBeside) (from : Option ℕ)
    (before after : ℕ) (m : Simulated) (said : Said) : Type 0 where
  pub now : Option ℕ
  pub at : IsGradingAt design plan fault now m next later said
  pub since : IsSince now until
  pub by_then : AllHold (λ (sample : Sample). sample.time ≤ until) next
  pub kind : keeps said ≡ kept
  pub known : IsKnownBeside design (plan_by kept plan) fault now until beside
  pub by_now : IsByToo from now
  pub ticks : TicksTo design (plan_by kept plan) fault beside from now before after

-- so many of some samples were passed
abbrev pub IsOnWay : FlatDesign → TestPlan → StuckAt → Bool → List ℕ → ℕ → ℕ → List Kept → RunBeside → Option ℕ → ℕ → ℕ → Simulated → Said → Type 0
IsOnWay design plan fault kept later until index samples beside from before after m said =
    Comes design plan fault kept later until (map sample_of (drop index samples)) beside from before after m said

pub way-begins : OwnStepsRise → (watched : List WatchedBit) (samples : List Kept) (until counter : ℕ) (beside : RunBeside) (m : Simulated) (said : Said) (of : CanGrade watched samples until beside m said) →
    IsOnWay of.design of.plan of.fault (keeps said) of.later until 0 samples beside of.now counter counter m said
way-begins rises watched samples until counter beside m said of = record {
  now = of.now;
  at = of.at;
  since = of.since;
  by_then = of.by_then;
  kind = refl;
  known = of.known;
  by_now = λ time by. by;
  ticks = rises.stays of.design (plan_by (keeps said) of.plan) of.fault beside of.now counter;
}

module _ (rises : OwnStepsRise) (design : FlatDesign) (plan : TestPlan) (fault : StuckAt) (kept : Bool) (later : List ℕ) (until index : ℕ) (samples : List Kept) (beside : RunBeside)
    (from : Option ℕ) (before after : ℕ) (m : Simulated) (said : Said) (way : IsOnWay design plan fault kept later until index samples beside from before after m said) where
  -- one more sample is next
  module _ (sample : Kept) (low : index < length samples) (is : sample ≡ get_or samples index sample) where
    pub sample-next : Comes design plan fault kept later until (sample_of sample ∷ map sample_of (drop (index + 1) samples)) beside from before after m said
    sample-next =
        subst (λ (l : List Sample). Comes design plan fault kept later until l beside from before after m said)
        (ap (map sample_of) (drop_more samples index sample low ∙ ap (λ (x : Kept). x ∷ drop (index + 1) samples) (sym is))) way

    abbrev pub can-pass : (watched : List WatchedBit) → plan.watched ≡ watched → CanPass watched (sample_of sample) beside m said
    can-pass watched watched_are = record {
      design = design;
      plan = plan;
      fault = fault;
      now = sample-next.now;
      next = map sample_of (drop (index + 1) samples);
      later = later;
      watched_are = watched_are;
      at = sample-next.at;
      known =
          subst (λ (k : Bool). IsKnownBeside design (plan_by k plan) fault sample-next.now sample.time beside) (sym sample-next.kind)
          (known-part design (plan_by kept plan) fault sample-next.now sample-next.now until sample.time beside (λ time a. a) sample-next.by_then.0 sample-next.known);
    }

    sample-since : IsSince sample-next.now sample.time
    sample-since = after-since sample-next.now sample.time sample-next.at.grading.later.0

    -- what ticks up to the sample
    pub sample-ticks : (counter : ℕ) → TicksTo design (plan_by (keeps said) plan) fault beside sample-next.now (Some sample.time) after counter →
        TicksTo design (plan_by kept plan) fault beside from (Some sample.time) before counter
    sample-ticks counter ticks =
        rises.joins design (plan_by kept plan) fault beside from sample-next.now (Some sample.time) before after counter sample-next.by_now (by-since sample-next.now sample.time sample-since)
        sample-next.ticks (subst (λ (k : Bool). TicksTo design (plan_by k plan) fault beside sample-next.now (Some sample.time) after counter) sample-next.kind ticks)

    -- the grading goes on behind it, or it ended
    pub way-on : (counter : ℕ) (new : Simulated) (shown : Said) → GradingLeads design plan fault sample.time (map sample_of (drop (index + 1) samples)) later None new shown →
        keeps shown ≡ keeps said → TicksTo design (plan_by (keeps said) plan) fault beside sample-next.now (Some sample.time) after counter →
        IsOnWay design plan fault kept later until (index + 1) samples beside from before counter new shown
    way-on counter new shown at kind ticks = record {
      now = Some sample.time;
      at = at;
      since = sample-next.by_then.0;
      by_then = sample-next.by_then.1;
      kind = kind ∙ sample-next.kind;
      known = known-later design (plan_by kept plan) fault sample-next.now sample.time until until beside sample-since (omega arith) sample-next.known;
      by_now = by-too-more from sample-next.now (Some sample.time) sample-next.by_now (by-since sample-next.now sample.time sample-since);
      ticks = sample-ticks counter ticks;
    }

    pub way-ticks : (counter : ℕ) → TicksTo design (plan_by (keeps said) plan) fault beside sample-next.now (Some sample.time) after counter →
        TicksTo design (plan_by kept plan) fault beside from (Some until) before counter
    way-ticks counter ticks =
        rises.joins design (plan_by kept plan) fault beside from (Some sample.time) (Some until) before counter counter
        (by-too-more from sample-next.now (Some sample.time) sample-next.by_now (by-since sample-next.now sample.time sample-since))
        (by-since (Some sample.time) until sample-next.by_then.0) (sample-ticks counter ticks)
        (rises.taken design (plan_by kept plan) fault beside (Some sample.time) (Some until) counter sample-next.known.taken)

    pub way-ends : (new : Simulated) (shown : Said) (end : End) →
        GradingLeads design plan fault sample.time (map sample_of (drop (index + 1) samples)) later (Some end) new shown → EndsWith design plan fault until (grade_of end) shown
    way-ends new shown end e = ends-later design plan fault sample.time until (grade_of end) shown sample-next.by_then.0 e

  -- no sample is left
  pub none-left : length samples ≤ index → Comes design plan fault kept later until [] beside from before after m said
  none-left past = subst (λ (l : List Kept). Comes design plan fault kept later until (map sample_of l) beside from before after m said) (drop_all index samples past) way

  abbrev pub can-run-on : length samples ≤ index → AllHold (λ strobe. until < strobe) later → StopsAfter until (good_stop design plan) → until ≤ plan.end → until ≤ 2 ^ 63 → CanRunTo until beside m
  can-run-on past behind good within early = record {
    design = design;
    plan = plan;
    fault = fault;
    now = (none-left past).now;
    kept = kept;
    at = (none-left past).at.at;
    known = (none-left past).known;
    goes =
        subst (λ (k : Bool). GoesUpTo design (plan_by k plan) fault until) (none-left past).kind
        (goes-on design plan fault (none-left past).now (none-left past).at.passed later said until (none-left past).at.grading (all-since until until later (omega arith) behind) good within);
    since = (none-left past).since;
    within = within;
    early = early;
  }

  -- what ticks up to the time
  pub rest-ticks : (past : length samples ≤ index) (counter : ℕ) → TicksTo design (plan_by kept plan) fault beside (none-left past).now (Some until) after counter →
      TicksTo design (plan_by kept plan) fault beside from (Some until) before counter
  rest-ticks past counter ticks =
      rises.joins design (plan_by kept plan) fault beside from (none-left past).now (Some until) before after counter (none-left past).by_now
      (by-since (none-left past).now until (none-left past).since) (none-left past).ticks ticks
