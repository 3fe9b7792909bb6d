use Rattle.std.proofs.Common.{lit<}
use Rattle.v_design.specs.PlainDesigns.{design_of}
use Rattle.vf_words.specs.Forms.{plain_source}
use Rattle.vf_words.specs.Words.{Faults}
use Rattle.top_call.specs.Outside.{counts_of}
use Rattle.top_call.proofs.OneAnswer.{faults_next, faults-form}
use Rattle.top_call.proofs.Making.{err-gives, err-ends, source-ends, not-read, faults-made}
use Rattle.top_call.proofs.make.faults_output.Goals as goal

pub returns-in_err-design-clause-gives : goal.returns-in_err-design-clause-gives
returns-in_err-design-clause-gives g c =
    let held = g.S.Shelf.held c.args.shelf.now in let source = plain_source c.args.source in let status = c.in_err-design.field-0.0 in
    let old = counts_of g.S.Shelf c.args.shelf.now in
    let new = counts_of g.S.Shelf c.read_source.new.shelf in
    err-gives (Faults source) held old new c.from_residual.result status c.from_residual.ensures.1
    (not-read (Faults source) source (λ files. faults_next) (λ files answer t. faults-form source files answer t) held old new status c.in_err-design.ensures.reads c.in_err-design.ensures.gives)

pub returns-in_err-design-clause-ends : goal.returns-in_err-design-clause-ends
returns-in_err-design-clause-ends g c =
    let held = g.S.Shelf.held c.args.shelf.now in let source = plain_source c.args.source in let status = c.in_err-design.field-0.0 in
    let old = counts_of g.S.Shelf c.args.shelf.now in
    let new = counts_of g.S.Shelf c.read_source.new.shelf in
    err-ends (Faults source) c.from_residual.result status c.from_residual.ensures.1 (source-ends (Faults source) held source old new status (lit< tt) c.in_err-design.ensures.gives)

pub returns-in-Ok-clause-gives : goal.returns-in-Ok-clause-gives
returns-in-Ok-clause-gives g c = faults-made (g.S.Shelf.held c.args.shelf.now) (plain_source c.args.source)
    (design_of c.in_ok-design.design) c.in-Ok.text.items c.in_ok-design.ensures.gives c.in-Ok.ensures
