-- The test of the bits one by one.
use Rattle.std.proofs.Common.{◌∙◌, sym, ap}
use Rattle.v_design.specs.Grades.{is_possible, some_sample}
use Rattle.vf_audit.specs.Strobes.{test_of}
use Rattle.vf_audit.proofs.SampleLists.{list_any-zip}
use Rattle.vf_audit.proofs.strobes.passes.Goals as goal

pub returns-in-Possible : goal.returns-in-Possible
returns-in-Possible c =
    c.is_possibly_detected.ensures ∙ list_any-zip is_possible c.args.good.now c.args.faulty.now
    ∙ ap (λ test. some_sample (test_of test) c.args.good.now c.args.faulty.now) (sym c.in-Possible.is)
