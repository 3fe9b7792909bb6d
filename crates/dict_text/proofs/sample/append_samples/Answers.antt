-- Each sample's line comes behind its word.
use Rattle.std.proofs.Common.{◌++◌, ap, ◌∙◌, append_assoc}
use Rattle.v_design.specs.Grades.{Sample}
use Rattle.kept_samples.specs.Plain.{sample_of}
use Rattle.dict_text.specs.Texts.{sample_line}
use Rattle.dict_text.proofs.Written.{lines-more, lines-all}
use Rattle.dict_text.proofs.sample.append_samples.Goals as goal

pub samples-preserved : goal.samples-preserved
samples-preserved c =
    lines-more (λ (sample : Sample). c.args.word.now ++ sample_line sample) sample_of c.args.samples.now c.samples.sample-index c.sample-item.result c.samples.out.items c.append_sample.new.out.items _
    c.samples-test.true c.sample-item.is c.samples.invariant
    (c.in_ok-append_sample.ensures ∙ ap (λ l. l ++ sample_line (sample_of c.sample-item.result)) c.in_ok-append.ensures
    ∙ append_assoc c.samples.out.items c.args.word.now (sample_line (sample_of c.sample-item.result)))

pub returns : goal.returns
returns c = lines-all (λ (sample : Sample). c.args.word.now ++ sample_line sample) sample_of c.args.samples.now c.samples.sample-index c.samples.out.items _ c.samples-test.false c.samples.invariant
