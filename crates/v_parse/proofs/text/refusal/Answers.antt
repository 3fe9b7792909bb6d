use Rattle.std.proofs.Common.{false, ◌-◌, take, length, subst}
use Rattle.v_parse.specs.Refusals.{StopsAtLeftOut, Decides}
use Rattle.v_parse.proofs.Places.{front-is}
use Rattle.v_parse.proofs.text.refusal.Goals as goal

pub returns-in-Ok-true : goal.returns-in-Ok-true
returns-in-Ok-true c =
    let tokens = c.args.tokens.now in
    let rest = c.args.rest.now in
    let stops = subst (λ b. Decides b (StopsAtLeftOut (take (length tokens - length rest) tokens) rest)) c.in-Ok-true.field-0-test c.in-Ok-true.ensures in
    (rest, c.requires, c.place_at-place.ensures, subst (λ front. StopsAtLeftOut front rest) (front-is tokens c.requires.front rest c.requires.whole) stops)

pub returns-in-Ok-false : goal.returns-in-Ok-false
returns-in-Ok-false c =
    let tokens = c.args.tokens.now in
    let rest = c.args.rest.now in
    let goes = subst (λ b. Decides b (StopsAtLeftOut (take (length tokens - length rest) tokens) rest)) c.in-Ok-false.field-0-test c.in-Ok-false.ensures in
    (rest, c.requires, c.place_at-place.ensures, subst (λ front. Decides false (StopsAtLeftOut front rest)) (front-is tokens c.requires.front rest c.requires.whole) goes)
