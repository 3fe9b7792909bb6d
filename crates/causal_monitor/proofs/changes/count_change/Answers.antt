use Rattle.std.proofs.Common.{◌≡◌, ◌+◌, ◌∷◌, ◌++◌, [], get_or, set, sym, subst, rules, arith}
use Rattle.std.proofs.lemmas.List.{get_or_read}
use Rattle.vf_base.specs.Base.{object_number}
use Rattle.causal_monitor.specs.Changes.{CountChanges}
use Rattle.causal_monitor.proofs.ChangeLaws.{CountChanges-here, CountChanges-past}
use Rattle.causal_monitor.proofs.changes.count_change.Goals as goal

pub returns-then-count-lt2-clause-counted : goal.returns-then-count-lt2-clause-counted
returns-then-count-lt2-clause-counted c = λ changes had.
    subst (λ n. CountChanges (changes ++ object_number c.args.object ∷ []) (set c.args.counts.now.items (object_number c.args.object) (n + 1)))
    (sym (get_or_read c.args.counts.now.items (object_number c.args.object) c.index-count.result.now (search rules) c.index-count.ensures 0))
    (CountChanges-here changes c.args.counts.now.items (object_number c.args.object) (search rules) had)

pub returns-else-count-lt2-clause-counted : goal.returns-else-count-lt2-clause-counted
returns-else-count-lt2-clause-counted c = λ changes had.
    CountChanges-past changes c.args.counts.now.items (object_number c.args.object) (search rules)
    (let read : c.index-count.result.now ≡ get_or c.args.counts.now.items (object_number c.args.object) 0 =
    get_or_read c.args.counts.now.items (object_number c.args.object) c.index-count.result.now (search rules) c.index-count.ensures 0 in omega (arith, read, c.if-count-lt2.false)) had
