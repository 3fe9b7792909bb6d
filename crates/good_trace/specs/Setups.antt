-- What all windows of a run stand on (nothing of the language).
use Rattle.std.specs.Prelude.{◌≡◌, ℕ, List, Some, length, slice_get}
use Rattle.v_design.specs.Designs.{FlatDesign, TestPlan}
use Rattle.v_design.specs.PlainDesigns.{design_of, plan_of}
use Rattle.v_design.specs.WellFormed.{IsPlanOf}
use Rattle.v_design.specs.declared.plan.Design.{Design}
use Rattle.v_design.specs.declared.plan.Plan.{Plan}
use Rattle.v_design.specs.declared.plan.Process.{Process}
use Rattle.net_graph.specs.declared.graph.Graph.{Graph}
use Rattle.process_code.specs.declared.code.Code.{Code}
use Rattle.process_code.specs.Codes.{IsCodeOf}

-- the compiled code of each of some processes, by the processes' numbers
pub record AreCompiled (processes : List Process) (codes : List Code) : Type 0 where
  pub count : length codes ≡ length processes
  pub each : (number : ℕ) (process : Process) (code : Code) → slice_get processes number ≡ Some process → slice_get codes number ≡ Some code → IsCodeOf process code

-- what contracts see of it: the design, its graph, the plan, and the code of each process by the process's number
pub record SetupKept : Type 0 where
  pub design : Design
  pub graph : Graph
  pub plan : Plan
  pub codes : List Code

-- it is that of a world: the graph is the design's, the plan is one over the design, and each process has its code
pub record IsSetup (design : FlatDesign) (plan : TestPlan) (kept : SetupKept) : Type 0 where
  pub design_is : design ≡ design_of kept.design
  pub plan_is : plan ≡ plan_of kept.plan
  pub graph_is : kept.graph.design.now ≡ kept.design
  pub plan_fits : IsPlanOf (design_of kept.design) (plan_of kept.plan)
  pub codes_are : AreCompiled kept.design.processes kept.codes
