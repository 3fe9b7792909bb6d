use Rattle.std.proofs.Common.{◌≡◌, ◌<◌, ◌+◌, ◌++◌, ◌∷◌, [], List, ℕ, Option, Some, get_or, map, length, ap, sym, subst, ◌∙◌, arith, rules}
use Rattle.key_index.specs.Places.{key_from}
use Rattle.key_index.specs.Groups.{keyed_of, key_of}
use Rattle.key_index.specs.Walks.{places_left}
use Rattle.key_index.proofs.Grouping.{AreFound, all_keys, long-keys, found-begins, found-low, found-goes, found_all, found-smaller}
use Rattle.key_index.proofs.grouped.all_items.Goals as goal

pub places-init : goal.places-init
places-init g c =
    found-begins c.args.items.now c.args.key.now _ c.first-at.result (search rules) (c.first-at.ensures ∙ ap (λ keys. key_from keys c.args.key.now 0) c.requires)

-- the place that the search has come to
stands : (P : Option ℕ → Type 0) (at : Option ℕ) (place : ℕ) → at ≡ Some place → P at → P (Some place)
stands P at place is h = subst P is h

pub offset_bounds-items-place : goal.offset_bounds-items-place
offset_bounds-items-place g c =
    let low : c.in-Some.place < length c.args.items.now =
    found-low c.args.items.now c.args.key.now c.places.found.items c.in-Some.place (stands
    (AreFound c.args.items.now c.args.key.now c.places.found.items) c.places.at c.in-Some.place c.in-Some.is c.places.invariant) in
    omega (arith, low)

pub bounds-items-place : goal.bounds-items-place
bounds-items-place g c =
    found-low c.args.items.now c.args.key.now c.places.found.items c.in-Some.place (stands
    (AreFound c.args.items.now c.args.key.now c.places.found.items) c.places.at c.in-Some.place c.in-Some.is c.places.invariant)

pub bounds-items-place-in-Some : goal.bounds-items-place-in-Some
bounds-items-place-in-Some g c =
    found-low c.args.items.now c.args.key.now c.places.found.items c.in-Some.place (stands
    (AreFound c.args.items.now c.args.key.now c.places.found.items) c.places.at c.in-Some.place c.in-Some.is c.places.invariant)

pub next-at-requires : goal.next-at-requires
next-at-requires g c =
    let low : c.in-Some.place < length c.args.items.now =
    found-low c.args.items.now c.args.key.now c.places.found.items c.in-Some.place (stands
    (AreFound c.args.items.now c.args.key.now c.places.found.items) c.places.at c.in-Some.place c.in-Some.is c.places.invariant) in
    subst (λ l. c.in-Some.place < length l) (sym c.requires) (omega (arith, low, long-keys c.args.items.now))

pub places-smaller : goal.places-smaller
places-smaller g c =
    let low : c.in-Some.place < length c.args.items.now =
    found-low c.args.items.now c.args.key.now c.places.found.items c.in-Some.place (stands
    (AreFound c.args.items.now c.args.key.now c.places.found.items) c.places.at c.in-Some.place c.in-Some.is c.places.invariant) in
    subst (λ at. places_left (length c.args.items.now) c.next-at.result < places_left (length c.args.items.now) at) (sym c.in-Some.is)
    (found-smaller c.args.items.now c.in-Some.place c.next-at.result low (subst (λ keys. c.next-at.result ≡ key_from keys (get_or keys c.in-Some.place []) (c.in-Some.place + 1)) c.requires
    c.next-at.ensures))

pub places-preserved : goal.places-preserved
places-preserved g c =
    found-goes c.args.items.now c.args.key.now c.places.found.items c.push.new.self.items c.in-Some.place c.index-items-place.result c.next-at.result
    (stands (AreFound c.args.items.now c.args.key.now c.places.found.items) c.places.at c.in-Some.place c.in-Some.is c.places.invariant) c.index-items-place.is
    (c.in_ok-push.ensures.items ∙ ap (λ k. c.places.found.items ++ k.item ∷ []) (sym c.index-items-place.is))
    (subst (λ keys. c.next-at.result ≡ key_from keys (get_or keys c.in-Some.place []) (c.in-Some.place + 1)) c.requires c.next-at.ensures)
