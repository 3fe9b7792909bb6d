use Rattle.std.proofs.Common.{sym, arith}
use Rattle.v_scan.proofs.PieceLaws.{mark-fits, reads-mark, no-mark}
use Rattle.v_scan.proofs.words.mark.Goals as goal

pub without-requires : goal.without-requires
without-requires c =
    let fits = mark-fits c.args.text.now c.args.first c.args.rest.now c.in-Some.mark c.requires.begins (sym c.in-Some.ensures) in
    omega (arith, fits, c.mark_len.ensures)

pub returns-in-Some-clause-found : goal.returns-in-Some-clause-found
returns-in-Some-clause-found c =
    reads-mark c.args.text.now c.args.first c.args.rest.now c.without.result.now c.in-Some.mark c.mark_len.result c.requires.begins c.requires.sorted
    (sym c.in-Some.ensures) c.mark_len.ensures c.without.ensures

pub returns-in-None-clause-none : goal.returns-in-None-clause-none
returns-in-None-clause-none c = no-mark c.args.place c.args.first c.args.rest.now c.requires.sorted (sym c.in-None.ensures)
