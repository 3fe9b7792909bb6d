-- One fault after the other.
use Rattle.std.proofs.Common.{◌≡◌, ◌+◌, ◌++◌, ◌∷◌, [], map, take, sym, ap, ◌∙◌, arith}
use Rattle.std.proofs.lemmas.List.{map-append, take_all, take_more}
use Rattle.phase_faults.specs.Beside.{stop_of}
use Rattle.phase_faults.proofs.ahead.stops_of.Goals as goal

pub faults-preserved : goal.faults-preserved
faults-preserved c =
    let f = stop_of c.args.end in
    let xs = c.args.faults.now in
    let i = c.faults.each-index in
    let each = c.each-item.result in
    c.in_ok-push.ensures.items
    ∙ (λ k. c.faults.invariant k ++ c.stop_of-stop.ensures k ∷ [])
    ∙ sym (map-append f (take i xs) (each ∷ []))
    ∙ ap (λ (x : _). map f (take i xs ++ x ∷ [])) c.each-item.is
    ∙ ap (map f) (sym (take_more xs i each c.faults-test.true))

pub returns : goal.returns
returns c = c.faults.invariant ∙ ap (map (stop_of c.args.end)) (take_all c.faults.each-index c.args.faults.now (omega (arith, c.faults-test.false)))
