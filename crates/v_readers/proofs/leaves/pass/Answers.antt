use Rattle.std.proofs.Common.{sym, ◌∙◌, ap}
use Rattle.v_tree.specs.Tokens.{SourceToken}
use Rattle.v_readers.specs.Classes.{class_of}
use Rattle.v_readers.specs.ClassLaws.{same_class-true}
use Rattle.v_readers.proofs.leaves.pass.Goals as goal

pub returns-in-len1-up-clause-class : goal.returns-in-len1-up-clause-class
returns-in-len1-up-clause-class c = ap (λ (t : SourceToken). class_of t.kind) c.token.ensures ∙ sym c.class.ensures
    ∙ sym (same_class-true c.args.class c.class.result (sym c.is.ensures ∙ c.if-is.true))
