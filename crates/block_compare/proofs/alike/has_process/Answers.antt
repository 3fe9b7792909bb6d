-- It is there at the place, or nowhere.
use Rattle.std.proofs.Common.{◌≡◌, map, true, sym, subst, ◌∙◌}
use Rattle.vf_base.specs.Base.{process_number}
use Rattle.vf_base.specs.Lists.{has}
use Rattle.vf_base.specs.declared.ids.ProcId.{ProcId}
use Rattle.block_compare.proofs.Same.{all-taken, none-more, one-there}
use Rattle.block_compare.proofs.alike.has_process.Goals as goal

abbrev none : ProcId
none = record { 0 = 0 }

pub returns-then-list-place : goal.returns-then-list-place
returns-then-list-place c =
    sym (subst (λ n. has (map process_number c.args.list.now) n ≡ true) c.if-list-place.true (one-there process_number c.args.list.now c.list.place none c.list-test.true))

pub list-preserved : goal.list-preserved
list-preserved c =
    none-more process_number c.args.list.now c.list.place (process_number c.args.process) none c.list-test.true c.list.invariant c.if-list-place.false

pub returns : goal.returns
returns c = sym (sym (all-taken process_number c.args.list.now c.list.place (process_number c.args.process) c.list-test.false) ∙ c.list.invariant)
