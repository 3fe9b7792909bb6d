use Rattle.std.proofs.Common.{ap, length, length-append, subst, arith}
use Rattle.std.proofs.lemmas.List.{append-nil}
use Rattle.v_scan.specs.declared.pieces.Part.TheVariants as parts
use Rattle.v_scan.specs.Texts.{start}
use Rattle.v_scan.specs.Reading.{IsFront}
use Rattle.v_scan.proofs.TextLaws.{read-more}
use Rattle.v_scan.proofs.tokens.tokens_of.Goals as goal

pub pieces-preserved-in-Gap : goal.pieces-preserved-in-Gap
pieces-preserved-in-Gap c =
    let w = c.before-in-len1-up.ensures in
    let f = subst (λ p. IsFront c.pieces.leading c.pieces.rest.now p c.in_ok-part.back.now) c.in-Gap.is c.in_ok-part.ensures.found in
    let more = read-more start c.args.text.now c.pieces.rest.now c.in_ok-part.back.now c.pieces.leading c.pieces.place c.pieces.tokens.items parts.Gap c.before-in-len1-up.result.now
    c.pieces.invariant.reads f w in
    record {
      reads = rw c.place_behind-next.ensures.place (rw append-nil at more);
      line = omega (arith, ap length w, length-append c.before-in-len1-up.result.now c.in_ok-part.back.now, c.place_behind-next.ensures.line);
      column = omega (arith, ap length w, length-append c.before-in-len1-up.result.now c.in_ok-part.back.now, c.place_behind-next.ensures.column);
      first = c.place_behind-next.ensures.first;
    }

pub pieces-preserved-in-Directive : goal.pieces-preserved-in-Directive
pieces-preserved-in-Directive c =
    let w = c.before-in-len1-up.ensures in
    let f = subst (λ p. IsFront c.pieces.leading c.pieces.rest.now p c.in_ok-part.back.now) c.in-Directive.is c.in_ok-part.ensures.found in
    let more = read-more start c.args.text.now c.pieces.rest.now c.in_ok-part.back.now c.pieces.leading c.pieces.place c.pieces.tokens.items parts.Directive c.before-in-len1-up.result.now
    c.pieces.invariant.reads f w in
    record {
      reads = rw c.place_behind-next.ensures.place (rw append-nil at more);
      line = omega (arith, ap length w, length-append c.before-in-len1-up.result.now c.in_ok-part.back.now, c.place_behind-next.ensures.line);
      column = omega (arith, ap length w, length-append c.before-in-len1-up.result.now c.in_ok-part.back.now, c.place_behind-next.ensures.column);
      first = c.place_behind-next.ensures.first;
    }

pub pieces-preserved : goal.pieces-preserved
pieces-preserved c =
    let w = c.before-in-len1-up.ensures in
    let f = subst (λ p. IsFront c.pieces.leading c.pieces.rest.now p c.in_ok-part.back.now) c.in-Token.is c.in_ok-part.ensures.found in
    let more = read-more start c.args.text.now c.pieces.rest.now c.in_ok-part.back.now c.pieces.leading c.pieces.place c.pieces.tokens.items
    (parts.Token c.in-Token.kind) c.before-in-len1-up.result.now c.pieces.invariant.reads f w in
    record {
      reads = rw (c.place_behind-next.ensures.place, c.in_ok-push-in-Token.ensures.items, c.new.ensures) more;
      line = omega (arith, ap length w, length-append c.before-in-len1-up.result.now c.in_ok-part.back.now, c.place_behind-next.ensures.line);
      column = omega (arith, ap length w, length-append c.before-in-len1-up.result.now c.in_ok-part.back.now, c.place_behind-next.ensures.column);
      first = c.place_behind-next.ensures.first;
    }
