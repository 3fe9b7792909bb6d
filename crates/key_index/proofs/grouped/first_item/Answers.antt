use Rattle.std.proofs.Common.{◌<◌, [], Some, length, arith, ap, ◌∙◌, sym}
use Rattle.key_index.specs.Places.{key_from}
use Rattle.key_index.proofs.Grouping.{first-none, first-some, place-low}
use Rattle.key_index.proofs.grouped.first_item.Goals as goal

pub offset_bounds-items-place : goal.offset_bounds-items-place
offset_bounds-items-place g c =
    let low : c.in-Some.place < length c.args.items.now =
    place-low c.args.items.now c.args.key.now 0 c.in-Some.place (sym c.in-Some.is ∙ c.first.ensures ∙ ap (λ keys. key_from keys c.args.key.now 0) c.requires) in
    omega (arith, low)

pub bounds-items-place : goal.bounds-items-place
bounds-items-place g c = place-low c.args.items.now c.args.key.now 0 c.in-Some.place (sym c.in-Some.is ∙ c.first.ensures ∙ ap (λ keys. key_from keys c.args.key.now 0) c.requires)

pub bounds-items-place-in-Some : goal.bounds-items-place-in-Some
bounds-items-place-in-Some g c = place-low c.args.items.now c.args.key.now 0 c.in-Some.place (sym c.in-Some.is ∙ c.first.ensures ∙ ap (λ keys. key_from keys c.args.key.now 0) c.requires)

pub returns-in-None : goal.returns-in-None
returns-in-None g c = first-none c.args.items.now c.args.key.now (sym c.in-None.is ∙ c.first.ensures ∙ ap (λ keys. key_from keys c.args.key.now 0) c.requires)

pub returns-in-Some : goal.returns-in-Some
returns-in-Some g c =
    ap (λ k. Some k.item) (sym c.index-items-place.is)
    ∙ first-some c.args.items.now c.args.key.now c.in-Some.place c.index-items-place.result
    (sym c.in-Some.is ∙ c.first.ensures ∙ ap (λ keys. key_from keys c.args.key.now 0) c.requires) c.index-items-place.is
