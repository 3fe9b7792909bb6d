-- One update more.
use Rattle.std.proofs.Common.{◌++◌, ◌∷◌, [], take, sym, ap, subst, ◌∙◌, arith}
use Rattle.std.proofs.lemmas.List.{take_all, take_more}
use Rattle.window_runs.proofs.Dues.{DueBy, due-later, due-push}
use Rattle.window_runs.proofs.latest.latest_due.Goals as goal

pub updates-init : goal.updates-init
updates-init c = record { since = omega arith; all = tt }

pub updates-preserved : goal.updates-preserved
updates-preserved c =
    let front = take c.updates.due-index c.args.updates.now in
    record {
      since = omega (arith, c.updates.invariant.since, c.later-next.ensures.one);
      all =
          subst (DueBy c.later-next.result)
          (sym (take_more c.args.updates.now c.updates.due-index c.due-item.result c.updates-test.true ∙ ap (λ d. front ++ d ∷ []) (sym c.due-item.is)))
          (due-push c.later-next.result front c.due-item.result c.later-next.ensures.other
          (due-later c.updates.latest c.later-next.result front c.later-next.ensures.one c.updates.invariant.all));
    }

pub returns-clause-since : goal.returns-clause-since
returns-clause-since c = c.updates.invariant.since

pub returns-clause-all : goal.returns-clause-all
returns-clause-all c = subst (DueBy c.updates.latest) (take_all c.updates.due-index c.args.updates.now c.updates-test.false) c.updates.invariant.all
