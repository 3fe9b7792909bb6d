use Rattle.std.proofs.Common.{◌++◌, List, append-nil, sym, ap, ◌∙◌, rules}
use Rattle.window_index.specs.declared.occurrence.Occurrence.{Occurrence}
use Rattle.trace_window.specs.Occurring.{below}
use Rattle.trace_window.proofs.Gathering.{noted-touch, noted-untouched}
use Rattle.trace_window.proofs.list.push_touch.Goals as goal

pub returns-then-not-is_touched : goal.returns-then-not-is_touched
returns-then-not-is_touched c =
    sym (append-nil c.args.touches.now.items)
    ∙ ap (λ (l : List Occurrence). c.args.touches.now.items ++ below c.args.objects l) (sym (noted-untouched c.args.moment c.args.noted.now (search rules)))

pub returns : goal.returns
returns c =
    c.in_ok-push_below.ensures
    ∙ ap (λ (l : List Occurrence). c.args.touches.now.items ++ below c.args.objects l) (sym (noted-touch c.args.moment c.args.noted.now (search rules)))
