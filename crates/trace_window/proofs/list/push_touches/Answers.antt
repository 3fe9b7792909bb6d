use Rattle.std.proofs.Common.{◌+◌, ◌∷◌, ◌++◌, [], map, take, append-nil, sym, ap, ◌∙◌}
use Rattle.std.proofs.lemmas.List.{take_all}
use Rattle.causal_monitor.specs.Notes.{noted_access}
use Rattle.trace_window.specs.GatherLaws.{below-append}
use Rattle.trace_window.specs.Occurring.{below}
use Rattle.trace_window.specs.Touched.{touches_in}
use Rattle.trace_window.proofs.Gathering.{touches_in-more, grown-more}
use Rattle.trace_window.proofs.list.push_touches.Goals as goal

pub accesses-init : goal.accesses-init
accesses-init c = sym (append-nil c.args.touches.now.items)

pub accesses-preserved : goal.accesses-preserved
accesses-preserved c =
    grown-more c.args.touches.now.items c.accesses.touches.items c.push_touch.new.touches.items (below c.args.objects (touches_in c.args.moment (noted_access c.noted-item.result ∷ [])))
    (below c.args.objects (touches_in c.args.moment (map noted_access (take c.accesses.noted-index c.args.accesses.now))))
    (below c.args.objects (touches_in c.args.moment (map noted_access (take (c.accesses.noted-index + 1) c.args.accesses.now))))
    c.accesses.invariant c.in_ok-push_touch.ensures
    (ap (below c.args.objects) (touches_in-more c.args.moment c.args.accesses.now c.accesses.noted-index c.noted-item.result c.accesses-test.true c.noted-item.is)
    ∙ below-append c.args.objects (touches_in c.args.moment (map noted_access (take c.accesses.noted-index c.args.accesses.now))) (touches_in c.args.moment (noted_access c.noted-item.result ∷ [])))

pub returns : goal.returns
returns c =
    c.accesses.invariant ∙ ap (λ l. c.args.touches.now.items ++ below c.args.objects (touches_in c.args.moment (map noted_access l))) (take_all c.accesses.noted-index c.args.accesses.now c.accesses-test.false)
