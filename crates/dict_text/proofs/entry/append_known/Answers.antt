-- The line tells how many samples differ, and their lines follow.
use Rattle.std.proofs.Common.{◌++◌, length, map, ap, sym, ◌∙◌, append_assoc}
use Rattle.std.proofs.lemmas.List.{length-map}
use Rattle.vf_base.specs.Lists.{joined}
use Rattle.v_design.specs.Plain.{fault_of}
use Rattle.v_design.specs.PlainDesigns.{design_of}
use Rattle.kept_samples.specs.Plain.{sample_of}
use Rattle.kept_samples.specs.Kept.{samples_kept}
use Rattle.dict_text.specs.Texts.{sample_line, known_line}
use Rattle.dict_text.proofs.entry.append_known.Goals as goal

pub returns : goal.returns
returns c =
    c.in_ok-append_samples.ensures
    ∙ ap (λ l. l ++ joined (map sample_line (samples_kept c.args.differs.now)))
    (c.in_ok-append_known_line.ensures ∙ ap (λ n. c.args.out.now.items ++ known_line (design_of c.args.design.now) (fault_of c.args.fault) n) (sym (length-map c.args.differs.now sample_of)))
    ∙ append_assoc c.args.out.now.items (known_line (design_of c.args.design.now) (fault_of c.args.fault) (length (samples_kept c.args.differs.now)))
    (joined (map sample_line (samples_kept c.args.differs.now)))
