-- A run without a bound has no lines.
use Rattle.std.proofs.Common.{◌∙◌, sym}
use Rattle.text_lines.specs.Plain.{plain_texts}
use Rattle.cert_laws.specs.Valid.{lines_said}
use Rattle.cert_runs.proofs.Passing.{section-none, section-breaks}
use Rattle.cert_runs.proofs.section.no_section.Goals as goal

pub returns-then-begins_run : goal.returns-then-begins_run
returns-then-begins_run c machine =
    section-breaks c.args.asked machine (lines_said (plain_texts c.args.lines.now)) c.requires (sym c.begins_run.ensures ∙ c.if-begins_run.true)

pub returns-else-begins_run : goal.returns-else-begins_run
returns-else-begins_run c machine =
    section-none c.args.asked machine (lines_said (plain_texts c.args.lines.now)) c.requires (sym c.begins_run.ensures ∙ c.if-begins_run.false)
