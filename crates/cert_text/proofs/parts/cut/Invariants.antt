use Rattle.std.proofs.Common.{◌≡◌, take, false, nat_eq}
use Rattle.std.specs.List.{AllByRecursion}
use Rattle.cert_text.proofs.parts.cut.Given as goal

abbrev pub invariant-bytes : goal.invariant-bytes
invariant-bytes l = AllByRecursion (λ byte. nat_eq byte l.separator ≡ false) (take l.place l.text)
