-- With the lines of the samples that are left, the text is whole.
use Rattle.std.proofs.Common.{◌≡◌, ◌++◌, map, drop}
use Rattle.vf_base.specs.Lists.{joined}
use Rattle.v_design.specs.Grades.{Sample}
use Rattle.kept_samples.specs.Kept.{samples_kept}
use Rattle.dict_text.specs.Texts.{sample_line}
use Rattle.dict_text.proofs.sample.append_samples.Given as goal

abbrev pub invariant-samples : goal.invariant-samples
invariant-samples l =
    (l.out.items ++ joined (map (λ (sample : Sample). l.word ++ sample_line sample) (samples_kept (drop l.sample-index l.samples))))
    ≡ (l.initial.out.items ++ joined (map (λ (sample : Sample). l.word ++ sample_line sample) (samples_kept l.samples)))
