use Rattle.std.proofs.Common.{◌∙◌, ap, sym}
use Rattle.std.specs.Prelude.{not}
use Rattle.vf_base.specs.Base.{object_number}
use Rattle.v_design.specs.PlainDesigns.{design_of}
use Rattle.reach_search.proofs.Steps.{read-some, read-none}
use Rattle.reach_search.proofs.search.is_read.Goals as goal

pub returns-clause-read : goal.returns-clause-read
returns-clause-read c = λ is_read.
    read-some (design_of c.args.graph.now.design.now) (object_number c.args.object) c.readers.result.now c.readers.ensures (ap not (sym c.is_empty.ensures) ∙ is_read)

pub returns-clause-alone : goal.returns-clause-alone
returns-clause-alone c = λ unread.
    read-none (design_of c.args.graph.now.design.now) c.args.graph.now.design.now.rules (object_number c.args.object) c.readers.result.now c.readers.ensures
    (ap not (sym c.is_empty.ensures) ∙ unread)
