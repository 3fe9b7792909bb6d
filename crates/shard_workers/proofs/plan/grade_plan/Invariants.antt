-- The world is that of the call.
use Rattle.v_design.specs.PlainDesigns.{design_of, plan_of}
use Rattle.shard_workers.proofs.plan.grade_plan.Given as goal

abbrev pub ghosts-grade_world : goal.ghosts-grade_world
ghosts-grade_world g a = record { design = design_of a.design.now; plan = plan_of a.plan.now }
