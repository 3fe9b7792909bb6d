-- The laws are proved in `Unawaited` and `OneRun`.
use Rattle.sole_touches.proofs.Unawaited.{untouched_are_unused, unawaited_are_unheld, sole_touches_are_free, unread_nets_are_free}
use Rattle.sole_touches.proofs.OneRun.{sole_runs_touch_free}
use Rattle.sole_touches.proofs.unawaited_objects.Goals as goal

pub returns-clause-unused : goal.returns-clause-unused
returns-clause-unused c = untouched_are_unused c.only_texts_wait.ensures.accesses

pub returns-clause-unheld : goal.returns-clause-unheld
returns-clause-unheld c = unawaited_are_unheld c.only_texts_wait.ensures.accesses

pub returns-clause-sole : goal.returns-clause-sole
returns-clause-sole c = sole_touches_are_free c.only_texts_wait.ensures.accesses

pub returns-clause-run : goal.returns-clause-run
returns-clause-run c = sole_runs_touch_free c.only_texts_wait.ensures.accesses c.only_texts_wait.ensures.runs c.objects.ensures.run

pub returns-clause-unread : goal.returns-clause-unread
returns-clause-unread c = unread_nets_are_free c.only_texts_wait.ensures.accesses c.objects.ensures.written
