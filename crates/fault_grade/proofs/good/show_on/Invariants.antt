-- Each good machine went on, what it shows at the strobes so far is kept, and the counter rose by what it ran.
use Rattle.std.proofs.Common.{ℕ, suc, drop, map}
use Rattle.v_design.specs.PlainDesigns.{plan_of}
use Rattle.kept_samples.specs.Plain.{sample_of}
use Rattle.fault_grade.specs.Gradings.{IsShowable, SamplesAt}
use Rattle.fault_grade.specs.Ticks.{IsTicked, TickedAt}
use Rattle.fault_grade.proofs.good.show_on.Given as goal

abbrev pub invariant-strobes : goal.invariant-strobes
invariant-strobes g l = record {
  samples : (of : IsShowable (plan_of l.plan) l.fn.machine) → SamplesAt of.design (plan_of l.plan) l.machine (map sample_of l.samples.items) (drop l.strobe-index l.strobe-items);
  ticks : (of : IsShowable (plan_of l.plan) l.fn.machine) (start : ℕ) → IsTicked start 0 l.fn.machine l.fn.steps →
      TickedAt start (suc (plan_of l.plan).end) l.machine (drop l.strobe-index l.strobe-items) l.steps;
}
