use Rattle.std.proofs.Common.{◌∙◌, ap}
use Rattle.std.proofs.lemmas.List.{get_or_read}
use Rattle.vf_base.specs.Base.{process_number}
use Rattle.event_causes.specs.Causes.{place_within}
use Rattle.event_causes.specs.CauseLaws.{step-cause}
use Rattle.event_causes.proofs.causes.Causes.cause_of_step.Goals as goal

pub returns : goal.returns
returns c = λ machine earlier had.
    let p = process_number c.args.process in
    let causes = c.args.self.now in
    c.place_of.ensures ∙ ap (place_within causes.base) (get_or_read causes.steps.items p c.index.result.now c.requires c.index.ensures 0) ∙ step-cause machine earlier causes p had c.requires
