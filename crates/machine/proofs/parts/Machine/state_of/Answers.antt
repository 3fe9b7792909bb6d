use Rattle.std.proofs.Common.{sym, subst}
use Rattle.vf_base.specs.Base.{process_number}
use Rattle.v_design.specs.Designs.{FlatDesign}
use Rattle.run_ends.specs.RunEnds.{IsCodeAt}
use Rattle.machine.proofs.parts.Machine.state_of.Goals as goal

pub state_of-requires-clause-kept : goal.state_of-requires-clause-kept
state_of-requires-clause-kept c = c.requires.standing.table

pub returns-clause-state : goal.returns-clause-state
returns-clause-state c = λ code at. c.state_of.ensures.state code (subst (λ (d : FlatDesign). IsCodeAt d (process_number c.args.process) code) (sym c.requires.standing.design) at)

pub returns-clause-activity : goal.returns-clause-activity
returns-clause-activity c = λ code at. c.state_of.ensures.activity code (subst (λ (d : FlatDesign). IsCodeAt d (process_number c.args.process) code) (sym c.requires.standing.design) at)
