use Rattle.std.proofs.Common.{sym, ◌∙◌}
use Rattle.response_text.proofs.Heads.{sample-other_length, sample-unread, sample-read}
use Rattle.response_text.proofs.sample.sample_if.Goals as goal

pub returns-then-bytes-width : goal.returns-then-bytes-width
returns-then-bytes-width c = sample-other_length c.args.time c.args.width c.args.bytes.now c.if-bytes-width.true

pub returns-in_default : goal.returns-in_default
returns-in_default c = sample-unread c.args.time c.args.width c.args.bytes.now (sym c.in_default.is ∙ c.in_ok-bits.ensures)

pub returns : goal.returns
returns c = sample-read c.args.time c.args.width c.args.bytes.now c.in-Some.bits c.if-bytes-width.false (sym c.in-Some.is ∙ c.in_ok-bits.ensures)
