use Rattle.std.proofs.Common.{sym, ◌∙◌, arith}
use Rattle.cert_text.proofs.Numbers.{short-none, short-found}
use Rattle.cert_text.proofs.number.short_number.Goals as goal

pub returns-in_default : goal.returns-in_default
returns-in_default c = short-none c.args.word.now (sym c.in_default.is ∙ c.number.ensures)

pub returns : goal.returns
returns c = short-found c.args.word.now c.in-Some.number (sym c.in-Some.is ∙ c.number.ensures) (omega arith)
