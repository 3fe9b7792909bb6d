use Rattle.std.proofs.Common.{◌≡◌, true, false, refl, sym, subst}
use Rattle.vf_base.specs.Base.{process_number}
use Rattle.copy_state.specs.Kept.{CopyKept}
use Rattle.copy_between.specs.Differing.{IsOwnState, IsKeptAt}
use Rattle.copy_between.proofs.Gone.{kept-with, kept-without, none-state, own-state}
use Rattle.copy_between.proofs.processes.keep_state.Goals as goal

pub returns-then-same-clause-kept : goal.returns-then-same-clause-kept
returns-then-same-clause-kept c =
    let good = c.args.good.now in
    let own = c.args.own.now in
    let process = process_number c.args.process in
    let old = c.args.copy.now.states in
    subst (λ (k : CopyKept). IsKeptAt (IsOwnState good own) process old k.states) (sym c.rejoin.ensures)
    (kept-without (IsOwnState good own) process old (none-state good own (λ code. sym (c.if-same.ensures.activity refl code))))

pub returns-clause-kept : goal.returns-clause-kept
returns-clause-kept c =
    let good = c.args.good.now in
    let own = c.args.own.now in
    let process = process_number c.args.process in
    let old = c.args.copy.now.states in
    let kept = c.in_ok-kept.kept in
    subst (λ (k : CopyKept). IsKeptAt (IsOwnState good own) process old k.states) (sym c.in_ok-split.ensures.ok)
    (kept-with (IsOwnState good own) process kept old
    (own-state good own kept c.in_ok-kept.ensures.point c.in_ok-kept.ensures.state
    (λ code of same. let wrong : false ≡ true = (c.if-same.ensures.equal code of.places of.code_is of.good_is of.own_is).1 (sym same) in cc)))
