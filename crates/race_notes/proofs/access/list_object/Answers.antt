-- An object at the end of a list.
use Rattle.std.proofs.Common.{◌≡◌, ◌||◌, ◌&&◌, [], ◌∷◌, map, true, sym, ap, ◌∙◌, nat_eq, rules}
use Rattle.std.specs.Prelude.{is_none}
use Rattle.std.proofs.lemmas.List.{map-append}
use Rattle.vf_base.specs.Base.{object_number}
use Rattle.vf_base.specs.Lists.{has}
use Rattle.graph_order.specs.ListLaws.{has-append, or-false}
use Rattle.race_notes.proofs.access.list_object.Goals as goal

pub returns-in_ok-push : goal.returns-in_ok-push
returns-in_ok-push c = λ other.
    let old = map object_number c.args.noted.now.items in
    let object = object_number c.args.object in
    let fresh : is_none c.args.note.since ≡ true = search rules in
    ap (λ l. has l other) (ap (map object_number) c.in_ok-push.ensures.items ∙ map-append object_number c.args.noted.now.items (c.args.object ∷ []))
    ∙ has-append old (object ∷ []) other ∙ ap (λ b. has old other || b) (or-false (nat_eq object other) ∙ ap (λ b. b && nat_eq object other) (sym fresh))
