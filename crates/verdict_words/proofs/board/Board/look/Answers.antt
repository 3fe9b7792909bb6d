use Rattle.std.proofs.Common.{rules, arith, sym, ◌≡◌, ◌-◌, ◌+◌, ap, ◌∙◌, Some}
use Rattle.vf_base.specs.Base.{fault_number}
use Rattle.verdict_words.proofs.Steps.{look_allowed}
use Rattle.verdict_words.proofs.Told.{told_code}
use Rattle.verdict_words.proofs.board.Board.look.Goals as goal
use Rattle.verdict_words.proofs.board.Board.look.Goals.{then-found-eq0, else-found-eq0}

pub load-found-requires : goal.load-found-requires
load-found-requires g c = let fault = fault_number c.args.fault in let is : fault + 1 - 1 ≡ fault = omega arith in
    (search rules, search rules, rw is (look_allowed _ _ _ _ c.args.seat.seat.me fault c.args.seat.has_share))

pub returns-clause-again : goal.returns-clause-again
returns-clause-again g c k known = let fault = fault_number c.args.fault in let is : fault + 1 - 1 ≡ fault = omega arith in
    let told = rw is at c.load-found.ensures.2 in let same = told.was.again k known in
    elim c.if-found-eq0.branch [
      | then-found-eq0 w ↦ absurd (same.1 (sym same.0 ∙ w.if-found-eq0.true))
      | else-found-eq0 w ↦ w.code-is ∙ ap Some same.0
    ]

pub returns-clause-some : goal.returns-clause-some
returns-clause-some g c = let fault = fault_number c.args.fault in let is : fault + 1 - 1 ≡ fault = omega arith in
    let told = rw is at c.load-found.ensures.2 in
    elim c.if-found-eq0.branch [
      | then-found-eq0 w ↦ rw w.code-is tt
      | else-found-eq0 w ↦ rw w.code-is (told_code _ _ _ _ _ _ _ told w.if-found-eq0.false)
    ]
