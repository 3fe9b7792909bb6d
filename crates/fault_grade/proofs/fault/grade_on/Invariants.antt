-- Each grading that began is on its way, and the counter rose by what its machine ran.
use Rattle.std.proofs.Common.{ℕ, drop, map}
use Rattle.grade_laws.specs.Grading.{times}
use Rattle.fault_grade.specs.Gradings.{IsGradable, IsGradingAt}
use Rattle.fault_grade.specs.Ticks.{IsTicked, TickedAt, last_bound}
use Rattle.kept_samples.specs.Plain.{sample_of}
use Rattle.fault_grade.proofs.fault.grade_on.Given as goal

abbrev pub invariant-strobes : goal.invariant-strobes
invariant-strobes g l = record {
  goes : (of : IsGradable l.good l.fn.end l.fn.machine l.fn.grader) → IsGradingAt of.design of.plan of.fault l.machine (map sample_of (drop l.sample-index l.good.samples.items)) l.grader;
  ticks : (of : IsGradable l.good l.fn.end l.fn.machine l.fn.grader) (start : ℕ) → IsTicked start 0 l.fn.machine l.fn.steps →
      TickedAt start (last_bound l.good.race l.fn.end) l.machine (times (map sample_of (drop l.sample-index l.good.samples.items))) l.steps;
}
