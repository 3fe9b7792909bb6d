-- What a grading stands on (nothing of the language).
use Rattle.std.specs.Prelude.{◌≡◌, ◌<◌, length}
use Rattle.vf_base.specs.Base.{WatchedBit}
use Rattle.v_design.specs.Designs.{FlatDesign, TestPlan}
use Rattle.v_design.specs.PlainDesigns.{design_of, plan_of}
use Rattle.v_design.specs.WellFormed.{IsPlanOf}
use Rattle.fault_grade.specs.declared.bench.Bench.{Bench}

-- the design and the plan
abbrev pub bench_design : Bench → FlatDesign
bench_design bench = design_of bench.design.now

abbrev pub bench_plan : Bench → TestPlan
bench_plan bench = plan_of bench.plan.now

-- the graph is that of the design, and the plan is one over it
pub record IsBench (bench : Bench) : Type 0 where
  pub graph : bench.graph.now.design.now ≡ bench.design.now
  pub plan : IsPlanOf (bench_design bench) (bench_plan bench)

-- a watched bit is of an object of the design
abbrev pub IsObjectOf : FlatDesign → WatchedBit → Type 0
IsObjectOf design watched = watched.object < length design.objects
