use Rattle.std.proofs.Common.{rules, arith, ◌≡◌, ◌<◌, ◌-◌, ◌+◌}
use Rattle.vf_base.specs.Base.{fault_number}
use Rattle.verdict_words.specs.CodeLaws.{IsCode-code_of}
use Rattle.verdict_words.proofs.Steps.{settle_allowed}
use Rattle.verdict_words.proofs.Told.{told_moved, told_was}
use Rattle.verdict_words.proofs.board.Board.settle.Goals as goal
use Rattle.verdict_words.proofs.board.Board.settle.Goals.{then-found-eq0, else-found-eq0}

pub compare_exchange-found-requires : goal.compare_exchange-found-requires
compare_exchange-found-requires g c = let fault = fault_number c.args.fault in
    let inside : fault < c.args.self.now.table.shared.key.faults = rw (c.args.self.now.key) c.requires.fault in
    let is : fault + 1 - 1 ≡ fault = omega arith in
    let code = IsCode-code_of g.N.World.design g.N.World.plan fault c.args.code c.requires.code in
    (search rules, search rules, rw is (settle_allowed _ _ _ _ c.args.seat.seat.me fault c.args.code inside code.0 code.1 c.args.seat.has_share))

pub returns-clause-told : goal.returns-clause-told
returns-clause-told g c = let fault = fault_number c.args.fault in let is : fault + 1 - 1 ≡ fault = omega arith in
    let told = rw is at c.compare_exchange-found.ensures.2 in let code = IsCode-code_of g.N.World.design g.N.World.plan fault c.args.code c.requires.code in
    elim c.if-found-eq0.branch [
      | then-found-eq0 w ↦ told_moved _ _ _ _ _ _ _ _ told w.if-found-eq0.true w.settled-is
      | else-found-eq0 w ↦ told_was _ _ _ _ _ _ _ _ told w.if-found-eq0.false code.0 w.settled-is
    ]
