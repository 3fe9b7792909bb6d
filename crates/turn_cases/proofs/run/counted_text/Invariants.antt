-- The world is that of the call.
use Rattle.v_design.specs.PlainDesigns.{design_of, plan_of}
use Rattle.turn_cases.proofs.run.counted_text.Given as goal

abbrev pub ghosts-world_text : goal.ghosts-world_text
ghosts-world_text g a = record { design = design_of a.design.now; plan = plan_of a.plan.now }
