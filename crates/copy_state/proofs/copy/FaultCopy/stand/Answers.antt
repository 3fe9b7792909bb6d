use Rattle.std.proofs.Common.{◌≡◌, false, true, refl, sym, subst}
use Rattle.vf_base.specs.Base.{process_number}
use Rattle.copy_state.specs.Kept.{CopyKept, StandsIn}
use Rattle.copy_state.specs.KeptLaws.{stands-alike, stands-apart}
use Rattle.copy_state.proofs.copy.FaultCopy.stand.Goals as goal

pub returns-then-same-clause-ok : goal.returns-then-same-clause-ok
returns-then-same-clause-ok c =
    subst (λ (k : CopyKept). StandsIn (process_number c.args.process) c.args.good.now c.args.own c.args.self.now k) (sym c.rejoin.ensures)
    (stands-alike (process_number c.args.process) c.args.good.now c.args.own c.args.self.now (λ code of. sym (c.if-same.ensures.activity refl code)))

pub returns-clause-ok : goal.returns-clause-ok
returns-clause-ok c =
    subst (λ (k : CopyKept). StandsIn (process_number c.args.process) c.args.good.now c.args.own c.args.self.now k) (sym c.in_ok-split.ensures.ok)
    (stands-apart (process_number c.args.process) c.args.good.now c.args.own c.args.self.now
    (λ code of same. let wrong : false ≡ true = (c.if-same.ensures.equal code of.places of.code_is of.good_is of.own_is).1 (sym same) in cc))
