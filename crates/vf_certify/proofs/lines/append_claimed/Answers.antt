-- Both runs stand between their lines.
use Rattle.std.proofs.Common.{refl}
use Rattle.v_design.specs.Plain.{fault_of}
use Rattle.cert_laws.specs.Valid.{GoodBegins, FaultyBegins, Closes}
use Rattle.fault_grade.specs.Benches.{bench_design, bench_plan}
use Rattle.vf_certify.proofs.Texts.{adds-one, adds-claimed}
use Rattle.vf_certify.proofs.lines.append_claimed.Goals as goal

pub returns : goal.returns
returns g c = λ claim is.
    let bench = c.args.bench.now in
    let old = c.args.out.now.items in
    let one = c.append_cert_line.new.out.items in
    let two = c.append_bounded.new.out.items in
    let three = c.append_cert_line-2.new.out.items in
    let four = c.append_bounded-2.new.out.items in
    let new = c.append_cert_line-3.new.out.items in
    adds-claimed (bench_design bench) (bench_plan bench) (fault_of c.args.fault) claim c.bound_of.result c.bound_of-2.result old one two three four new
    (c.bound_of.ensures (bench_design bench) (bench_plan bench) claim refl is) (c.bound_of-2.ensures (bench_design bench) (bench_plan bench) claim refl is)
    (adds-one GoodBegins old one c.in_ok-append_cert_line.ensures.text tt) c.in_ok-append_bounded.ensures (adds-one FaultyBegins two three c.in_ok-append_cert_line-2.ensures.text tt)
    c.in_ok-append_bounded-2.ensures (adds-one Closes four new c.in_ok-append_cert_line-3.ensures.text tt)
