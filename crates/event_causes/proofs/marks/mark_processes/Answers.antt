use Rattle.std.proofs.Common.{rules, ◌≡◌, ◌<◌, ◌+◌, ◌++◌, ◌∷◌, [], ◌∙◌, ap, sym, subst, get_or, set, take, map, length, arith}
use Rattle.std.proofs.lemmas.List.{take_more, take_all, map_push}
use Rattle.vf_base.specs.Base.{process_number}
use Rattle.event_causes.specs.Causes.{Marks}
use Rattle.event_causes.specs.CauseLaws.{Marks-none, Marks-more}
use Rattle.event_causes.proofs.marks.mark_processes.Goals as goal

pub processes-init : goal.processes-init
processes-init c = Marks-none c.args.number c.args.table.now.items

pub processes-preserved : goal.processes-preserved
processes-preserved c =
    let i = c.processes.process-index in
    let xs = c.args.processes.now in
    let more : map process_number (take (i + 1) xs) ≡ map process_number (take i xs) ++ process_number (get_or xs i (record { 0 = 0 })) ∷ [] =
    ap (map process_number) (take_more xs i (record { 0 = 0 }) (search rules)) ∙ map_push process_number (take i xs) (get_or xs i (record { 0 = 0 })) in
    let low : process_number (get_or xs i (record { 0 = 0 })) < length c.args.table.now.items = c.requires i (record { 0 = 0 }) (search rules) in
    let long = c.processes.invariant.same_length in
    let within : process_number (get_or xs i (record { 0 = 0 })) < length c.processes.table.items = omega (arith, low, long) in
    subst (λ t. Marks t c.args.number c.args.table.now.items (set c.processes.table.items (process_number (get_or xs i (record { 0 = 0 }))) c.args.number)) (sym more)
    (Marks-more (map process_number (take i xs)) c.args.number c.args.table.now.items c.processes.table.items (process_number (get_or xs i (record { 0 = 0 }))) c.processes.invariant within)

pub returns : goal.returns
returns c =
    subst (λ t. Marks (map process_number t) c.args.number c.args.table.now.items c.processes.table.items)
    (take_all c.processes.process-index c.args.processes.now c.processes-test.false) c.processes.invariant
