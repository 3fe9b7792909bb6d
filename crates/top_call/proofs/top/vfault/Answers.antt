use Rattle.std.proofs.Common.{sym, subst}
use Rattle.vf_words.specs.Words.{form_of, bytes_of}
use Rattle.vf_words.specs.Forms.{plain_form}
use Rattle.top_call.specs.Outside.{IfTold, counts_of, files_for, IsOutput}
use Rattle.top_call.proofs.Making.{keeps-at-err, loops-at-err, keeps-at-end, same-at-end, reads-at-end, puts-at-err, puts-at-end}
use Rattle.top_call.proofs.Completing.{done-at-err, done-at-end}
use Rattle.top_call.proofs.top.vfault.Goals as goal

pub returns-in-Err-clause-exactly : goal.returns-in-Err-clause-exactly
returns-in-Err-clause-exactly g c =
    let held = g.S.Shelf.held c.args.shelf.now in let form = plain_form c.in-Some.form in
    let old = counts_of g.S.Shelf c.args.shelf.now in
    let new = counts_of g.S.Shelf c.make_output.new.shelf in
    keeps-at-err (form_of (bytes_of c.args.words.now)) form c.in-Some.ensures.form held old new (g.K.Sink.faults c.args.sink.now)
    (g.K.Sink.faults c.args.sink.now) c.in-Err.status c.in-Err.ensures.gives

pub returns-clause-exactly : goal.returns-clause-exactly
returns-clause-exactly g c =
    let held = g.S.Shelf.held c.args.shelf.now in let form = plain_form c.in-Some.form in
    let old = counts_of g.S.Shelf c.args.shelf.now in
    let new = counts_of g.S.Shelf c.make_output.new.shelf in
    let made = subst (λ text. IfTold (files_for form held) (λ files. IsOutput form files text)) (sym c.as_slice.ensures.value) c.in-Ok.ensures.gives in
    keeps-at-end (form_of (bytes_of c.args.words.now)) form c.in-Some.ensures.form held old new c.as_slice.result.now made (g.K.Sink.contents c.args.sink.now) (g.K.Sink.contents c.put_all.new.sink)
    (g.K.Sink.faults c.args.sink.now) (g.K.Sink.faults c.put_all.new.sink) c.put_all.result c.put_all.ensures.gives

pub returns-clause-same_bytes : goal.returns-clause-same_bytes
returns-clause-same_bytes g c =
    let held = g.S.Shelf.held c.args.shelf.now in let form = plain_form c.in-Some.form in
    let old = counts_of g.S.Shelf c.args.shelf.now in
    let made = subst (λ text. IfTold (files_for form held) (λ files. IsOutput form files text)) (sym c.as_slice.ensures.value) c.in-Ok.ensures.gives in
    same-at-end (form_of (bytes_of c.args.words.now)) form c.in-Some.ensures.form held old old c.as_slice.result.now made (g.K.Sink.contents c.args.sink.now) (g.K.Sink.contents c.put_all.new.sink)
    (g.K.Sink.faults c.args.sink.now) (g.K.Sink.faults c.put_all.new.sink) c.put_all.result c.put_all.ensures.gives

pub returns-in-Err-clause-few_puts : goal.returns-in-Err-clause-few_puts
returns-in-Err-clause-few_puts g c =
    let old = counts_of g.S.Shelf c.args.shelf.now in let told = g.K.Sink.contents c.args.sink.now in
    puts-at-err (form_of (bytes_of c.args.words.now)) (plain_form c.in-Some.form) c.in-Some.ensures.form (g.S.Shelf.held c.args.shelf.now) old old told told (g.K.Sink.puts c.args.sink.now)

pub returns-clause-few_puts : goal.returns-clause-few_puts
returns-clause-few_puts g c =
    let held = g.S.Shelf.held c.args.shelf.now in let form = plain_form c.in-Some.form in
    let old = counts_of g.S.Shelf c.args.shelf.now in
    let made = subst (λ text. IfTold (files_for form held) (λ files. IsOutput form files text)) (sym c.as_slice.ensures.value) c.in-Ok.ensures.gives in
    puts-at-end (form_of (bytes_of c.args.words.now)) form c.in-Some.ensures.form held old old c.as_slice.result.now made (g.K.Sink.contents c.args.sink.now) (g.K.Sink.contents c.put_all.new.sink)
    (g.K.Sink.puts c.args.sink.now) (g.K.Sink.puts c.put_all.new.sink) c.put_all.ensures.few

pub returns-in-Err-clause-few_reads : goal.returns-in-Err-clause-few_reads
returns-in-Err-clause-few_reads g c =
    let old = counts_of g.S.Shelf c.args.shelf.now in
    reads-at-end (form_of (bytes_of c.args.words.now)) (plain_form c.in-Some.form) c.in-Some.ensures.form (g.S.Shelf.held c.args.shelf.now) old old
    (g.S.Shelf.reads c.args.shelf.now) (g.S.Shelf.reads c.make_output.new.shelf) c.in-Err.ensures.reads

pub returns-clause-few_reads : goal.returns-clause-few_reads
returns-clause-few_reads g c =
    let old = counts_of g.S.Shelf c.args.shelf.now in
    reads-at-end (form_of (bytes_of c.args.words.now)) (plain_form c.in-Some.form) c.in-Some.ensures.form (g.S.Shelf.held c.args.shelf.now) old old
    (g.S.Shelf.reads c.args.shelf.now) (g.S.Shelf.reads c.make_output.new.shelf) c.in-Ok.ensures.reads

pub returns-in-Err-clause-loops : goal.returns-in-Err-clause-loops
returns-in-Err-clause-loops g c =
    let old = counts_of g.S.Shelf c.args.shelf.now in
    let new = counts_of g.S.Shelf c.make_output.new.shelf in
    loops-at-err (form_of (bytes_of c.args.words.now)) (plain_form c.in-Some.form) c.in-Some.ensures.form (g.S.Shelf.held c.args.shelf.now) old new c.in-Err.status c.in-Err.ensures.gives

pub returns-in-Err-clause-completes : goal.returns-in-Err-clause-completes
returns-in-Err-clause-completes g c =
    done-at-err (form_of (bytes_of c.args.words.now)) (plain_form c.in-Some.form) c.in-Some.ensures.form c.in-Some.ensures.fits c.answers_exist.ensures (g.S.Shelf.held c.args.shelf.now)
    (counts_of g.S.Shelf c.args.shelf.now) (counts_of g.S.Shelf c.make_output.new.shelf) (g.K.Sink.faults c.args.sink.now) (g.K.Sink.faults c.args.sink.now) c.in-Err.status c.in-Err.ensures.gives

pub returns-clause-completes : goal.returns-clause-completes
returns-clause-completes g c =
    done-at-end (form_of (bytes_of c.args.words.now)) (plain_form c.in-Some.form) c.in-Some.ensures.form c.in-Some.ensures.fits c.answers_exist.ensures (g.S.Shelf.held c.args.shelf.now)
    (counts_of g.S.Shelf c.args.shelf.now) (counts_of g.S.Shelf c.make_output.new.shelf) c.as_slice.result.now (g.K.Sink.contents c.args.sink.now) (g.K.Sink.contents c.put_all.new.sink)
    (g.K.Sink.faults c.args.sink.now) (g.K.Sink.faults c.put_all.new.sink) c.put_all.result c.put_all.ensures.gives
