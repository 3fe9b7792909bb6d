use Rattle.std.proofs.Common.{take}
use Rattle.v_design.specs.PlainDesigns.{design_of}
use Rattle.text_lines.specs.Plain.{plain_texts}
use Rattle.plan_read.specs.Spelled.{lines_say}
use Rattle.plan_read.specs.Steps.{IsRead}
use Rattle.plan_read.proofs.read.read_lines.Given as goal

abbrev pub invariant-lines : goal.invariant-lines
invariant-lines l = IsRead (design_of l.names.design.now) (lines_say (plain_texts (take l.place l.lines))) l.draft
