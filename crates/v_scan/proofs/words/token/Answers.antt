use Rattle.std.proofs.Common.{◌≡◌, ◌||◌, false, sym, ◌∙◌, ne_eqb, refl}
use Rattle.std.specs.Prelude.{◌==◌}
use Rattle.v_scan.specs.Bytes.{is_digit}
use Rattle.v_scan.proofs.PieceLaws.{mark-sort}
use Rattle.v_scan.proofs.words.token.Goals as goal

pub mark-requires-clause-sorted : goal.mark-requires-clause-sorted
mark-requires-clause-sorted c =
    let digit : is_digit c.args.first ≡ false = sym c.is_digit.ensures ∙ c.if-is_digit.false in
    let quote : (c.args.first == 39) ≡ false = ne_eqb c.args.first 39 c.if-first-eq39.false in
    let neither : (is_digit c.args.first || (c.args.first == 39)) ≡ false = rw (digit, quote) refl in
    mark-sort c.args.first (sym c.is_letter.ensures ∙ c.if-is_letter.false) (ne_eqb c.args.first 36 c.if-first-eq36.false) (ne_eqb c.args.first 34 c.if-first-eq34.false) neither
