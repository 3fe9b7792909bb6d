use Rattle.std.proofs.Common.{[]}
use Rattle.plan_read.proofs.Reading.{lines-more, lines-refused, err-same}
use Rattle.plan_read.proofs.read.read_lines.Goals as goal

pub lines-preserved : goal.lines-preserved
lines-preserved c = lines-more _ c.args.lines.now c.lines.place (record { ref_ptr = (0, 0); now = [] }) _ _ _ _ _ c.lines-test.true c.in_ok-words.ensures c.as_slice.ensures.value c.line_of.ensures
    c.lines.invariant c.in_ok-add_line.ensures.good c.in_ok-add_line.ensures.ok

pub returns-in_err-add_line-clause-fault : goal.returns-in_err-add_line-clause-fault
returns-in_err-add_line-clause-fault c =
    let fault = lines-refused _ c.args.lines.now c.lines.place (record { ref_ptr = (0, 0); now = [] }) _ _ _ _ _ c.lines-test.true c.in_ok-words.ensures c.as_slice.ensures.value c.line_of.ensures
    c.lines.invariant c.in_err-add_line.ensures.fault in
    err-same _ _ _ c.from_residual-in_err-add_line.ensures.1 fault
