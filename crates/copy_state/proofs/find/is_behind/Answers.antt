-- The entry before the place.
use Rattle.std.proofs.Common.{◌≡◌, ◌-◌, get_or, sym, ap, arith}
use Rattle.std.proofs.lemmas.Bool.{ltb-true}
use Rattle.copy_state.proofs.ListLaws.{number_at}
use Rattle.copy_state.proofs.find.is_behind.Goals as goal

pub returns : goal.returns
returns g c behind some =
    let entry = c.index-entries-place.result in
    let here = number_at c.args.entries.now (c.args.place - 1) entry (omega (arith, some, c.requires)) in
    let read : (get_or c.args.entries.now (c.args.place - 1) entry).number ≡ entry.number = ap (λ own. own.number) (sym c.index-entries-place.is) in
    let less = ltb-true entry.number c.args.number behind in
    omega (arith, here, read, less)
