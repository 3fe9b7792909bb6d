use Rattle.std.proofs.Common.{refl}
use Rattle.v_scan.proofs.PieceLaws.{line-front, block-front, open-front}
use Rattle.v_scan.proofs.pieces.behind_comment.Goals as goal

pub returns-in-Some-after_byte-clause-told : goal.returns-in-Some-after_byte-clause-told
returns-in-Some-after_byte-clause-told c = λ leading.
    line-front leading c.args.text.now c.in-Some.second.now c.in-Some-after_byte.body.now c.behind.result.now c.in-Some.ensures.found c.in-Some-after_byte.ensures.found c.behind.ensures

pub returns-in-Some-behind_close-clause-told : goal.returns-in-Some-behind_close-clause-told
returns-in-Some-behind_close-clause-told c = λ leading.
    block-front leading c.args.text.now c.in-Some.second.now c.in-Some-after_byte-2.body.now c.in-Some-behind_close.back.now
    c.in-Some.ensures.found c.in-Some-after_byte-2.ensures.found c.in-Some-behind_close.ensures.found

pub returns-in-None-clause-open : goal.returns-in-None-clause-open
returns-in-None-clause-open c =
    (refl, open-front c.args.text.now c.in-Some.second.now c.in-Some-after_byte-2.body.now c.in-Some.ensures.found c.in-Some-after_byte-2.ensures.found c.in-None.ensures.none)
