use Rattle.std.proofs.Common.{◌+◌, ◌∷◌, ◌++◌, [], map, take, append-nil, sym, ap, ◌∙◌}
use Rattle.std.proofs.lemmas.List.{take_all}
use Rattle.causal_monitor.specs.Notes.{IsNoted, noted_access}
use Rattle.trace_window.specs.Writes.{written_of, writes_in}
use Rattle.trace_window.proofs.Gathering.{hold-at, writes_in-more, grown-more}
use Rattle.trace_window.proofs.list.push_writes.Goals as goal

pub accesses-init : goal.accesses-init
accesses-init c = sym (append-nil (map written_of c.args.changes.now.items))

pub push_write-requires : goal.push_write-requires
push_write-requires c = hold-at IsNoted c.args.accesses.now c.accesses.noted-index c.noted-item.result c.requires c.accesses-test.true c.noted-item.is

pub accesses-preserved : goal.accesses-preserved
accesses-preserved c =
    grown-more (map written_of c.args.changes.now.items) (map written_of c.accesses.changes.items) (map written_of c.push_write.new.changes.items)
    (writes_in c.args.moment (noted_access c.noted-item.result ∷ []))
    (writes_in c.args.moment (map noted_access (take c.accesses.noted-index c.args.accesses.now)))
    (writes_in c.args.moment (map noted_access (take (c.accesses.noted-index + 1) c.args.accesses.now)))
    c.accesses.invariant c.in_ok-push_write.ensures (writes_in-more c.args.moment c.args.accesses.now c.accesses.noted-index c.noted-item.result c.accesses-test.true c.noted-item.is)

pub returns : goal.returns
returns c =
    c.accesses.invariant
    ∙ ap (λ l. map written_of c.args.changes.now.items ++ writes_in c.args.moment (map noted_access l)) (take_all c.accesses.noted-index c.args.accesses.now c.accesses-test.false)
