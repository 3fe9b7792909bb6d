use Rattle.std.proofs.Common.{◌++◌, List, map, append-nil, sym, ap, ◌∙◌, rules}
use Rattle.std.proofs.lemmas.List.{map_push}
use Rattle.trace_window.specs.Writes.{Written, written_of}
use Rattle.trace_window.proofs.Gathering.{write-has, noted-write, noted-none}
use Rattle.trace_window.proofs.list.push_write.Goals as goal

pub returns-then-not-writes : goal.returns-then-not-writes
returns-then-not-writes c =
    sym (append-nil (map written_of c.args.changes.now.items))
    ∙ ap (λ (l : List Written). map written_of c.args.changes.now.items ++ l) (sym (noted-none c.args.moment c.args.noted.now (search rules)))

pub unwrap-value-requires : goal.unwrap-value-requires
unwrap-value-requires c =
    write-has c.args.noted.now.access.kind c.args.noted.now.old c.args.noted.now.new c.args.noted.now.entry c.requires (search rules)

pub returns : goal.returns
returns c =
    ap (map written_of) c.in_ok-push.ensures.items
    ∙ map_push written_of c.args.changes.now.items (record { moment = c.args.moment; object = c.args.noted.now.access.object; value = c.unwrap-value.result })
    ∙ ap (λ (l : List Written). map written_of c.args.changes.now.items ++ l)
    (sym (noted-write c.args.moment c.args.noted.now c.unwrap-value.result (search rules) c.unwrap-value.ensures))
