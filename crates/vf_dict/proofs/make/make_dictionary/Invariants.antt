-- The world is that of the call.
use Rattle.v_design.specs.PlainDesigns.{design_of, plan_of}
use Rattle.vf_dict.proofs.make.make_dictionary.Given as goal

abbrev pub ghosts-dictionary_of : goal.ghosts-dictionary_of
ghosts-dictionary_of g a = record { design = design_of a.design.now; plan = plan_of a.plan.now }
