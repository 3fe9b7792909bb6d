-- Where something is claimed, the lines are those of the claim.
use Rattle.std.proofs.Common.{sym, ◌∙◌}
use Rattle.v_design.specs.Plain.{fault_of, grade_of}
use Rattle.cert_laws.specs.Written.{claim_as}
use Rattle.fault_grade.specs.Benches.{bench_design, bench_plan}
use Rattle.vf_certify.proofs.Texts.{claimed-lines}
use Rattle.vf_certify.proofs.lines.append_lines.Goals as goal

pub returns-in_ok-append_claimed : goal.returns-in_ok-append_claimed
returns-in_ok-append_claimed g c =
    let bench = c.args.bench.now in
    claimed-lines (bench_design bench) (bench_plan bench) (fault_of c.args.fault) (claim_as (bench_design bench) (grade_of c.args.end)) c.args.out.now.items c.append_claimed.new.out.items
    (sym (c.has_claim.ensures (bench_design bench)) ∙ c.if-has_claim.true) c.in_ok-append_claimed.ensures
