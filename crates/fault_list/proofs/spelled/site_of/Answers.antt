use Rattle.v_design.specs.PlainDesigns.{design_of}
use Rattle.fault_list.proofs.Answered.{answer_listed}
use Rattle.fault_list.proofs.spelled.site_of.Goals as goal

pub returns-clause-listed : goal.returns-clause-listed
returns-clause-listed c = answer_listed (design_of c.args.design.now) c.args.word.now c.answer_of.result c.answer_of.ensures
