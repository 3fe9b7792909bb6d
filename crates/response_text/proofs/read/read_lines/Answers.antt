use Rattle.std.proofs.Common.{◌≡◌, ◌+◌, ◌∙◌, [], Err, option_map, ap, sym, arith}
use Rattle.std.proofs.lemmas.List.{map_push}
use Rattle.kept_samples.specs.Plain.{sample_of}
use Rattle.kept_samples.specs.Kept.{samples_kept}
use Rattle.text_lines.specs.Plain.{plain_texts}
use Rattle.response_text.specs.Reading.{samples_on}
use Rattle.response_text.proofs.ReadLines.{samples_behind, samples-first, line-read, line-bad, lines-odd, lines-all}
use Rattle.response_text.proofs.read.read_lines.Goals as goal

pub lines-init : goal.lines-init
lines-init c =
    let meant = samples_on c.args.width 1 c.args.strobes.now (plain_texts c.args.lines.now) in
    samples-first meant ∙ ap (λ l. samples_behind (samples_kept l) meant) (sym c.new-samples.ensures.items)

pub lines-preserved : goal.lines-preserved
lines-preserved c =
    line-read c.args.width c.lines.place c.args.strobes.now c.args.lines.now (record { ref_ptr = (0, 0); now = [] }) _ _ _ (sample_of c.in-Some.sample)
    (omega arith) (omega arith) c.lines.invariant (ap (option_map sample_of) (sym c.in-Some.is) ∙ c.in_ok-sample.ensures)
    (ap samples_kept c.in_ok-push_sample.ensures ∙ map_push sample_of c.lines.samples.items c.in-Some.sample)

pub returns-in_default-clause-fault : goal.returns-in_default-clause-fault
returns-in_default-clause-fault c =
    line-bad c.args.width c.lines.place c.args.strobes.now c.args.lines.now (record { ref_ptr = (0, 0); now = [] }) _ _
    (omega arith) (omega arith) c.lines.invariant (ap (option_map sample_of) (sym c.in_default.is) ∙ c.in_ok-sample.ensures)

pub returns-then-lines-strobes-clause-fault : goal.returns-then-lines-strobes-clause-fault
returns-then-lines-strobes-clause-fault c =
    let far : c.lines.place ≡ c.min-count.result = omega arith in
    lines-odd c.args.width c.lines.place c.args.strobes.now c.args.lines.now _ _ (far ∙ c.min-count.ensures) c.if-lines-strobes.true c.lines.invariant
    ∙ ap (λ n. Err (n + 1)) far

pub returns-clause-samples : goal.returns-clause-samples
returns-clause-samples c =
    let far : c.lines.place ≡ c.min-count.result = omega arith in
    lines-all c.args.width c.lines.place c.args.strobes.now c.args.lines.now _ _ (far ∙ c.min-count.ensures) c.if-lines-strobes.false c.lines.invariant
