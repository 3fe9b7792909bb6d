use Rattle.std.proofs.Common.{rules, ◌≡◌, ◌<◌, ◌+◌, ◌++◌, ◌∷◌, [], ◌∙◌, ap, sym, subst, get_or, set, take, map, length, arith}
use Rattle.std.proofs.lemmas.List.{take_more, take_all, map_push}
use Rattle.vf_base.specs.Base.{object_number}
use Rattle.event_causes.specs.Causes.{Marks}
use Rattle.event_causes.specs.CauseLaws.{Marks-none, Marks-more}
use Rattle.event_causes.proofs.marks.mark_objects.Goals as goal

pub objects-init : goal.objects-init
objects-init c = Marks-none c.args.number c.args.table.now.items

pub objects-preserved : goal.objects-preserved
objects-preserved c =
    let i = c.objects.object-index in
    let xs = c.args.objects.now in
    let more : map object_number (take (i + 1) xs) ≡ map object_number (take i xs) ++ object_number (get_or xs i (record { 0 = 0 })) ∷ [] =
    ap (map object_number) (take_more xs i (record { 0 = 0 }) (search rules)) ∙ map_push object_number (take i xs) (get_or xs i (record { 0 = 0 })) in
    let low : object_number (get_or xs i (record { 0 = 0 })) < length c.args.table.now.items = c.requires i (record { 0 = 0 }) (search rules) in
    let long = c.objects.invariant.same_length in
    let within : object_number (get_or xs i (record { 0 = 0 })) < length c.objects.table.items = omega (arith, low, long) in
    subst (λ t. Marks t c.args.number c.args.table.now.items (set c.objects.table.items (object_number (get_or xs i (record { 0 = 0 }))) c.args.number)) (sym more)
    (Marks-more (map object_number (take i xs)) c.args.number c.args.table.now.items c.objects.table.items (object_number (get_or xs i (record { 0 = 0 }))) c.objects.invariant within)

pub returns : goal.returns
returns c =
    subst (λ t. Marks (map object_number t) c.args.number c.args.table.now.items c.objects.table.items) (take_all c.objects.object-index c.args.objects.now c.objects-test.false) c.objects.invariant
