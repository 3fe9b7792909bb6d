use Rattle.std.proofs.Common.{sym, subst}
use Rattle.vf_words.specs.Forms.{plain_form}
use Rattle.top_call.specs.Outside.{counts_of, files_for}
use Rattle.top_call.specs.Making.{OutputGives}
use Rattle.top_call.proofs.make.make_output.Goals as goal

pub returns-in-Soak-clause-gives : goal.returns-in-Soak-clause-gives
returns-in-Soak-clause-gives g c =
    let held = g.S.Shelf.held c.args.shelf.now in
    let counts = counts_of g.S.Shelf c.args.shelf.now in
    subst (λ form. OutputGives (plain_form form) (files_for (plain_form form) held) counts counts c.soak_output.result) (sym c.in-Soak.is) (c.soak_output.ensures.gives counts counts)
