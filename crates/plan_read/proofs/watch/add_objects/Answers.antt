use Rattle.std.proofs.Common.{◌≡◌, ◌<◌, ◌+◌, ◌++◌, ℕ, [], Option, Some, None, get_or, map, length, ap, sym, subst, ◌∙◌, arith}
use Rattle.std.proofs.lemmas.List.{length-map}
use Rattle.v_design.specs.Plain.{object_of}
use Rattle.v_design.specs.PlainDesigns.{design_of}
use Rattle.plan_read.specs.Stems.{stem, object_key}
use Rattle.key_index.specs.Walks.{places_left}
use Rattle.plan_read.specs.Plain.{watched_bits}
use Rattle.plan_read.specs.Watched.{bits_in_object}
use Rattle.plan_read.proofs.Walking.{IsBitsWalk, bits-begin, bits-go, bits-place, bits-end, bits-smaller, numbered-plain, object-none}
use Rattle.plan_read.proofs.watch.add_objects.Goals as goal

pub places-init : goal.places-init
places-init c = bits-begin object_of (bits_in_object c.args.word.now) object_key (stem c.args.word.now) (λ m y. object-none c.args.word.now m y) c.args.names.now.design.now.objects
    (watched_bits c.args.bits.now.items) c.first_object-at.result c.first_object-at.ensures

-- the place that the search has come to
stands : (P : Option ℕ → Type 0) (at : Option ℕ) (place : ℕ) → at ≡ Some place → P at → P (Some place)
stands P at place is h = subst P is h

pub bounds-objects-place : goal.bounds-objects-place
bounds-objects-place c =
    let walk = stands (IsBitsWalk object_of (bits_in_object c.args.word.now) object_key (stem c.args.word.now) c.args.names.now.design.now.objects (watched_bits c.args.bits.now.items)
    (watched_bits c.places.bits.items)) c.places.at c.in-Some.place c.in-Some.is c.places.invariant in
    let low : c.in-Some.place < length c.args.names.now.design.now.objects = bits-place object_of (bits_in_object c.args.word.now) object_key
    (stem c.args.word.now) c.args.names.now.design.now.objects (watched_bits c.args.bits.now.items) (watched_bits c.places.bits.items) c.in-Some.place walk in
    subst (λ l. c.in-Some.place < length l) (sym c.as_slice-objects.ensures) low

pub next_object-at-requires : goal.next_object-at-requires
next_object-at-requires c =
    let walk = stands (IsBitsWalk object_of (bits_in_object c.args.word.now) object_key (stem c.args.word.now) c.args.names.now.design.now.objects (watched_bits c.args.bits.now.items)
    (watched_bits c.places.bits.items)) c.places.at c.in-Some.place c.in-Some.is c.places.invariant in
    let low : c.in-Some.place < length c.args.names.now.design.now.objects = bits-place object_of (bits_in_object c.args.word.now) object_key
    (stem c.args.word.now) c.args.names.now.design.now.objects (watched_bits c.args.bits.now.items) (watched_bits c.places.bits.items) c.in-Some.place walk in
    omega (arith, low, length-map c.args.names.now.design.now.objects object_of)

pub places-smaller : goal.places-smaller
places-smaller c =
    let walk = stands (IsBitsWalk object_of (bits_in_object c.args.word.now) object_key (stem c.args.word.now) c.args.names.now.design.now.objects (watched_bits c.args.bits.now.items)
    (watched_bits c.places.bits.items)) c.places.at c.in-Some.place c.in-Some.is c.places.invariant in
    let low : c.in-Some.place < length c.args.names.now.design.now.objects = bits-place object_of (bits_in_object c.args.word.now) object_key
    (stem c.args.word.now) c.args.names.now.design.now.objects (watched_bits c.args.bits.now.items) (watched_bits c.places.bits.items) c.in-Some.place walk in
    subst (λ at. places_left (length c.args.names.now.design.now.objects) c.next_object-at.result < places_left (length c.args.names.now.design.now.objects) at) (sym c.in-Some.is)
    (bits-smaller object_of object_key (get_or (map object_key (design_of c.args.names.now.design.now).objects) c.in-Some.place []) c.args.names.now.design.now.objects c.in-Some.place
    c.next_object-at.result low c.next_object-at.ensures)

pub places-preserved : goal.places-preserved
places-preserved c =
    let walk = stands (IsBitsWalk object_of (bits_in_object c.args.word.now) object_key (stem c.args.word.now) c.args.names.now.design.now.objects (watched_bits c.args.bits.now.items)
    (watched_bits c.places.bits.items)) c.places.at c.in-Some.place c.in-Some.is c.places.invariant in
    bits-go object_of (bits_in_object c.args.word.now) object_key (stem c.args.word.now) (λ m y. object-none c.args.word.now m y) c.args.names.now.design.now.objects
    (watched_bits c.args.bits.now.items) (watched_bits c.places.bits.items) (watched_bits c.add_spelled.new.bits.items) c.in-Some.place c.index-objects-place.result c.next_object-at.result walk
    (subst (λ l. c.index-objects-place.result ≡ get_or l c.in-Some.place c.index-objects-place.result) c.as_slice-objects.ensures c.index-objects-place.is)
    c.in_ok-add_spelled.ensures c.next_object-at.ensures

pub returns : goal.returns
returns c = bits-end object_of (bits_in_object c.args.word.now) object_key (stem c.args.word.now) c.args.names.now.design.now.objects (watched_bits c.args.bits.now.items)
    (watched_bits c.places.bits.items) (subst (IsBitsWalk object_of (bits_in_object c.args.word.now) object_key (stem c.args.word.now) c.args.names.now.design.now.objects
    (watched_bits c.args.bits.now.items) (watched_bits c.places.bits.items)) c.in_default.is c.places.invariant)
