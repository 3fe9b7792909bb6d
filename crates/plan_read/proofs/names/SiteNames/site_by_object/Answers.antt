use Rattle.std.proofs.Common.{◌≡◌, ◌<◌, ◌+◌, [], List, ℕ, Option, Some, get_or, map, length, ap, sym, subst, ◌∙◌, arith}
use Rattle.std.proofs.lemmas.List.{length-map}
use Rattle.v_design.specs.Designs.{FlatObject}
use Rattle.v_design.specs.Plain.{object_of, site_of}
use Rattle.v_design.specs.PlainDesigns.{design_of}
use Rattle.fault_list.specs.Spelled.{object_spelled}
use Rattle.key_index.specs.Places.{key_from}
use Rattle.plan_read.specs.Stems.{stem, object_key}
use Rattle.plan_read.specs.StemLaws.{object-apart}
use Rattle.key_index.specs.Walks.{places_left}
use Rattle.plan_read.proofs.NameWalking.{IsWalk, walk-begins, walk-goes, walk-here, walk-place, walk-smaller}
use Rattle.plan_read.proofs.names.SiteNames.site_by_object.Goals as goal

pub places-init : goal.places-init
places-init c =
    walk-begins object_of (object_spelled (design_of c.args.self.now.design.now) c.args.word.now) object_key (stem c.args.word.now)
    (λ m y. object-apart (design_of c.args.self.now.design.now) c.args.word.now m y) c.args.self.now.design.now.objects c.first-at.result
    (c.first-at.ensures ∙ (ap (λ keys. key_from keys c.stem.result.now 0) c.args.self.now.objects_listed
    ∙ ap (λ key. key_from (map object_key (design_of c.args.self.now.design.now).objects) key 0) c.stem.ensures))

-- the place that the search has come to
stands : (P : Option ℕ → Type 0) (at : Option ℕ) (place : ℕ) → at ≡ Some place → P at → P (Some place)
stands P at place is h = subst P is h

pub bounds-objects-place : goal.bounds-objects-place
bounds-objects-place c =
    let walk = stands (IsWalk object_of (object_spelled (design_of c.args.self.now.design.now) c.args.word.now) object_key (stem c.args.word.now) c.args.self.now.design.now.objects) c.places.at
    c.in-Some.place c.in-Some.is c.places.invariant in
    let low : c.in-Some.place < length c.args.self.now.design.now.objects = walk-place object_of (object_spelled (design_of c.args.self.now.design.now) c.args.word.now) object_key
    (stem c.args.word.now) c.args.self.now.design.now.objects c.in-Some.place walk in
    subst (λ l. c.in-Some.place < length l) (sym c.as_slice-objects.ensures) low

pub site_in_object-found-requires : goal.site_in_object-found-requires
site_in_object-found-requires c =
    let walk = stands (IsWalk object_of (object_spelled (design_of c.args.self.now.design.now) c.args.word.now) object_key (stem c.args.word.now) c.args.self.now.design.now.objects) c.places.at
    c.in-Some.place c.in-Some.is c.places.invariant in
    let low : c.in-Some.place < length c.args.self.now.design.now.objects =
    walk-place object_of (object_spelled (design_of c.args.self.now.design.now) c.args.word.now) object_key (stem c.args.word.now) c.args.self.now.design.now.objects c.in-Some.place walk in
    omega (arith, low, length-map c.args.self.now.design.now.objects object_of)

pub returns-in-Some-found : goal.returns-in-Some-found
returns-in-Some-found c =
    let walk = stands (IsWalk object_of (object_spelled (design_of c.args.self.now.design.now) c.args.word.now) object_key (stem c.args.word.now) c.args.self.now.design.now.objects) c.places.at
    c.in-Some.place c.in-Some.is c.places.invariant in
    walk-here object_of (object_spelled (design_of c.args.self.now.design.now) c.args.word.now) object_key
    (stem c.args.word.now) c.args.self.now.design.now.objects c.in-Some.place c.index-objects-place.result (site_of c.in-Some-found.site) walk
    (subst (λ l. c.index-objects-place.result ≡ get_or l c.in-Some.place c.index-objects-place.result) c.as_slice-objects.ensures c.index-objects-place.is) (sym c.in-Some-found.ensures)

pub next-at-requires : goal.next-at-requires
next-at-requires c =
    let walk = stands (IsWalk object_of (object_spelled (design_of c.args.self.now.design.now) c.args.word.now) object_key (stem c.args.word.now) c.args.self.now.design.now.objects) c.places.at
    c.in-Some.place c.in-Some.is c.places.invariant in
    let low : c.in-Some.place < length c.args.self.now.design.now.objects = walk-place object_of (object_spelled (design_of c.args.self.now.design.now) c.args.word.now) object_key
    (stem c.args.word.now) c.args.self.now.design.now.objects c.in-Some.place walk in
    subst (λ l. c.in-Some.place < length l) (sym c.args.self.now.objects_listed) (omega (
      arith,
      low,
      length-map (design_of c.args.self.now.design.now).objects object_key,
      length-map c.args.self.now.design.now.objects object_of,
    ))

pub places-smaller : goal.places-smaller
places-smaller c =
    let walk = stands (IsWalk object_of (object_spelled (design_of c.args.self.now.design.now) c.args.word.now) object_key (stem c.args.word.now) c.args.self.now.design.now.objects) c.places.at
    c.in-Some.place c.in-Some.is c.places.invariant in
    let low : c.in-Some.place < length c.args.self.now.design.now.objects = walk-place object_of (object_spelled (design_of c.args.self.now.design.now) c.args.word.now) object_key
    (stem c.args.word.now) c.args.self.now.design.now.objects c.in-Some.place walk in
    subst (λ at. places_left (length c.args.self.now.design.now.objects) c.next-at.result < places_left (length c.args.self.now.design.now.objects) at) (sym c.in-Some.is)
    (walk-smaller object_of object_key (get_or (map object_key (design_of c.args.self.now.design.now).objects) c.in-Some.place []) c.args.self.now.design.now.objects c.in-Some.place c.next-at.result
    low
    (subst (λ keys. c.next-at.result ≡ key_from keys (get_or keys c.in-Some.place []) (c.in-Some.place + 1)) c.args.self.now.objects_listed c.next-at.ensures))

pub places-preserved : goal.places-preserved
places-preserved c =
    let walk = stands (IsWalk object_of (object_spelled (design_of c.args.self.now.design.now) c.args.word.now) object_key (stem c.args.word.now) c.args.self.now.design.now.objects) c.places.at
    c.in-Some.place c.in-Some.is c.places.invariant in
    walk-goes object_of (object_spelled (design_of c.args.self.now.design.now) c.args.word.now) object_key (stem c.args.word.now)
    (λ m y. object-apart (design_of c.args.self.now.design.now) c.args.word.now m y) c.args.self.now.design.now.objects c.in-Some.place c.index-objects-place.result c.next-at.result walk
    (subst (λ l. c.index-objects-place.result ≡ get_or l c.in-Some.place c.index-objects-place.result) c.as_slice-objects.ensures c.index-objects-place.is) (sym c.in_default-found.ensures)
    (subst (λ keys. c.next-at.result ≡ key_from keys (get_or keys c.in-Some.place []) (c.in-Some.place + 1)) c.args.self.now.objects_listed c.next-at.ensures)
