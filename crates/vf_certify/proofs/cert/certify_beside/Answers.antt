-- The certificate is read back.
use Rattle.v_design.specs.Plain.{fault_of, grade_of}
use Rattle.v_design.specs.RulesHold.{rules_hold, plan_rules_hold}
use Rattle.fault_grade.specs.Benches.{bench_design, bench_plan}
use Rattle.vf_certify.proofs.Loops.{no-loop}
use Rattle.vf_certify.proofs.Readings.{is-read}
use Rattle.vf_certify.proofs.cert.certify_beside.Goals as goal

pub returns-clause-read : goal.returns-clause-read
returns-clause-read g c = λ line claim site graded claimed.
    let bench = c.args.bench.now in
    is-read c.certificates_are_read.ensures.read c.races_name_parts.ensures (bench_design bench) (bench_plan bench) (fault_of c.args.fault) (grade_of c.in_ok-end.end) line claim
    c.in_ok-text.text.items (rules_hold (bench_design bench) bench.design.now.rules) (plan_rules_hold (bench_plan bench) bench.plan.now.rules)
    c.in_ok-end.ensures.grade c.in_ok-text.ensures site graded claimed

pub returns-clause-no_loop : goal.returns-clause-no_loop
returns-clause-no_loop g c = no-loop (bench_design c.args.bench.now) (bench_plan c.args.bench.now) c.args.good.now.race c.requires.good.stop_is
