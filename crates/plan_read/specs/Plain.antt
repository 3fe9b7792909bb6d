-- What the code's lines and bits stand for (nothing of the language).
use Rattle.std.specs.Prelude.{List, map}
use Rattle.vf_base.specs.declared.ids.WatchBit.{WatchBit}
use Rattle.vf_base.specs.Base.{WatchedBit, watched_bit}
use Rattle.plan_read.specs.declared.form.Line.{Line}
use Rattle.plan_read.specs.declared.form.Line.TheVariants.{Empty as EmptyLine, Ends as EndsLine, Watches as WatchesLine, Strobes as StrobesLine, Lists as ListsLine, ListsAll as ListsAllLine}
use Rattle.plan_read.specs.declared.form.Line.TheVariants.{Formless as FormlessLine}
use Rattle.plan_read.specs.Forms.{PlanLine, Empty, Ends, Watches, Strobes, Lists, ListsAll, Formless}

-- a line
abbrev pub plain_line : Line → PlanLine
plain_line EmptyLine = Empty
plain_line (EndsLine time) = Ends time
plain_line (WatchesLine name) = Watches name.now
plain_line (StrobesLine times) = Strobes times.from times.step times.to
plain_line (ListsLine name value) = Lists name.now value
plain_line ListsAllLine = ListsAll
plain_line FormlessLine = Formless

-- watched bits
abbrev pub watched_bits : List WatchBit → List WatchedBit
watched_bits bits = map watched_bit bits
