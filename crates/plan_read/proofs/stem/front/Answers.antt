use Rattle.std.proofs.Common.{◌≡◌, ◌+◌, ◌-◌, false, drop, sym, subst, arith}
use Rattle.vf_base.specs.Lists.{has}
use Rattle.plan_read.proofs.StemCuts.{front-at, front-none}
use Rattle.plan_read.proofs.stem.front.Goals as goal

pub returns-then-word-i-eq46 : goal.returns-then-word-i-eq46
returns-then-word-i-eq46 c =
    let next : c.bytes.i ≡ c.bytes.i - 1 + 1 = omega arith in
    sym (front-at c.args.word.now (c.bytes.i - 1) (omega arith) (subst (λ n. has (drop n c.args.word.now) 46 ≡ false) next c.bytes.invariant) c.if-word-i-eq46.true)

pub returns : goal.returns
returns c =
    let done : c.bytes.i ≡ 0 = omega arith in
    sym (front-none c.args.word.now (subst (λ n. has (drop n c.args.word.now) 46 ≡ false) done c.bytes.invariant))
