use Rattle.std.proofs.Common.{◌≡◌, [], arith, rules, false, sym, ◌∙◌}
use Rattle.plan_read.proofs.FormLemmas.{line_of-one, line_of-three, line_of-four, line_of-five}
use Rattle.plan_read.proofs.form.line_of.Goals as goal

pub returns-in-len1 : goal.returns-in-len1
returns-in-len1 c = line_of-one c.args.words.now (omega arith)

pub returns-else-eq : goal.returns-else-eq
returns-else-eq c = line_of-three c.args.words.now (record { ref_ptr = (0, 0); now = [] }) (omega arith) (rw c.as_slice.ensures at (sym c.eq.ensures ∙ c.if-eq.false))

pub returns-else-eq-2 : goal.returns-else-eq-2
returns-else-eq-2 c = line_of-four c.args.words.now (record { ref_ptr = (0, 0); now = [] }) (omega arith) (rw c.as_slice-in-len4.ensures at (sym c.eq-in-len4.ensures ∙ c.if-eq-2.false))

pub returns-in-len5-up : goal.returns-in-len5-up
returns-in-len5-up c = line_of-five c.args.words.now (omega arith)
