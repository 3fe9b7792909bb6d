use Rattle.std.proofs.Common.{◌≡◌, take_all, subst, false, nat_eq}
use Rattle.std.specs.List.{AllByRecursion}
use Rattle.cert_text.proofs.Cutting.{cut-at, cut-none}
use Rattle.cert_text.proofs.parts.cut.Goals as goal

pub returns-then-byte-separator-clause-parts : goal.returns-then-byte-separator-clause-parts
returns-then-byte-separator-clause-parts c =
    rw c.before-then-byte-separator.ensures
    (cut-at c.args.separator c.args.text.now _ c.behind.result.now _ c.behind.ensures c.bytes.invariant c.if-byte-separator.true)

pub returns-clause-parts : goal.returns-clause-parts
returns-clause-parts c =
    cut-none c.args.separator c.args.text.now
    (subst (AllByRecursion (λ byte. nat_eq byte c.args.separator ≡ false)) (take_all c.bytes.place c.args.text.now c.bytes-test.false) c.bytes.invariant)
