use Rattle.std.proofs.Common.{◌≡◌, ◌≤◌, ◌++◌, length, Option, refl, ap, arith}
use Rattle.std.proofs.lemmas.Result.{err_from_is_err_and}
use Rattle.v_elab.specs.Refusals.{Refusal, unless_refused}
use Rattle.elab_walk.proofs.Counting.{front-within, counted-behind}
use Rattle.elab_walk.proofs.walked.Walked.count_from.Goals as goal

pub returns-in_err-few : goal.returns-in_err-few
returns-in_err-few c before front more counted pushed at =
    let p = err_from_is_err_and c.from_residual.result c.from_residual.ensures.1 in
    let within : length front ≤ length c.args.self.now.parts.items = front-within front more c.args.self.now.parts.items pushed in
    let from : c.min-start.result ≡ length front = omega arith in
    rw (p.1, p.2)
    (c.in_err-few.ensures (before ++ more) (counted-behind before front more c.args.self.now.parts.items c.deref.result.now c.min-start.result c.add_all.new.self c.deref.ensures.value pushed from
    (c.add_all.ensures before counted)))

pub returns : goal.returns
returns c before front more counted pushed at =
    let within : length front ≤ length c.args.self.now.parts.items = front-within front more c.args.self.now.parts.items pushed in
    let from : c.min-start.result ≡ length front = omega arith in
    let all = counted-behind before front more c.args.self.now.parts.items c.deref.result.now c.min-start.result c.add_all.new.self c.deref.ensures.value pushed from
    (c.add_all.ensures before counted) in
    record {
      few = ap (λ (r : Option Refusal). unless_refused r (before ++ more)) (c.in_ok-few.ensures (before ++ more) all);
      kept = refl;
      counted = all;
    }
