use Rattle.std.proofs.Common.{◌≡◌, false, sym, ◌∙◌, ne_eqb}
use Rattle.v_scan.specs.Texts.{begins_comment}
use Rattle.v_scan.proofs.PieceLaws.{blank-front, word-front-is, word-stops}
use Rattle.v_scan.proofs.pieces.piece.Goals as goal

pub returns-then-is_blank-clause-found : goal.returns-then-is_blank-clause-found
returns-then-is_blank-clause-found c =
    blank-front c.args.leading c.args.text.now c.args.first c.args.rest.now c.requires (sym c.is_blank.ensures ∙ c.if-is_blank.true)

pub returns-in-Ok-clause-found : goal.returns-in-Ok-clause-found
returns-in-Ok-clause-found c =
    let free : begins_comment c.args.text.now ≡ false = rw c.in_default.is at c.in_ok-back.ensures.told in
    word-front-is c.args.leading c.args.text.now c.args.first c.args.rest.now c.in-Ok.kind c.in-Ok.back.now c.requires free c.in-Ok.ensures.found

pub returns-in-Err-clause-stops : goal.returns-in-Err-clause-stops
returns-in-Err-clause-stops c =
    let free : begins_comment c.args.text.now ≡ false = rw c.in_default.is at c.in_ok-back.ensures.told in
    word-stops c.args.leading c.args.place c.args.text.now c.args.first c.args.rest.now c.in-Err.fault c.requires (sym c.is_blank.ensures ∙ c.if-is_blank.false) free
    (ne_eqb c.args.first 96 c.if-first-eq96.false) c.in-Err.ensures.none
