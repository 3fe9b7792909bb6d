use Rattle.std.proofs.Common.{◌<◌, ◌∙◌, ap, sym, map, length, arith}
use Rattle.std.proofs.lemmas.List.{get_or_read, get_or-map, length-map}
use Rattle.v_design.specs.PhaseLogs.{noted_at}
use Rattle.event_causes.specs.Causes.{writer_of, cause_writer}
use Rattle.event_causes.specs.CauseLaws.{kept-writer}
use Rattle.event_causes.proofs.causes.Causes.writer_of.Goals as goal

pub returns-in-Some : goal.returns-in-Some
returns-in-Some c = λ machine earlier had.
    let writers = c.args.self.now.writers.items in
    let place = c.in-Some.place in
    let writer = c.index.result.now in
    let low : place < length writers = c.requires place c.in-Some.is in
    ap writer_of (get_or_read writers place writer low c.index.ensures writer)
    ∙ sym (get_or-map writer_of writers place writer (writer_of writer) low)
    ∙ kept-writer earlier (map writer_of writers) place (writer_of writer) had.writers (omega (arith, length-map writers writer_of))
    ∙ sym (ap (λ k. cause_writer (noted_at earlier k)) c.in-Some.is)
