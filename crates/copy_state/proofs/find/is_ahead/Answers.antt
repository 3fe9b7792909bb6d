-- The entry at the place.
use Rattle.std.proofs.Common.{◌≡◌, get_or, sym, ap, arith}
use Rattle.std.proofs.lemmas.Bool.{leb-true}
use Rattle.copy_state.proofs.ListLaws.{number_at}
use Rattle.copy_state.proofs.find.is_ahead.Goals as goal

pub returns : goal.returns
returns g c ahead inside =
    let entry = c.index-entries-place.result in
    let here = number_at c.args.entries.now c.args.place entry inside in
    let read : (get_or c.args.entries.now c.args.place entry).number ≡ entry.number = ap (λ own. own.number) (sym c.index-entries-place.is) in
    let less = leb-true c.args.number entry.number ahead in
    omega (arith, here, read, less)
