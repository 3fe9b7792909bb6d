use Rattle.std.proofs.Common.{◌≡◌, ◌<◌, ◌+◌, ◌++◌, ℕ, [], Option, Some, None, get_or, map, length, ap, sym, subst, ◌∙◌, arith}
use Rattle.std.proofs.lemmas.List.{length-map}
use Rattle.v_design.specs.Plain.{name_joined}
use Rattle.v_design.specs.PlainDesigns.{design_of}
use Rattle.plan_read.specs.Stems.{stem, joined_key}
use Rattle.key_index.specs.Walks.{places_left}
use Rattle.plan_read.specs.Plain.{watched_bits}
use Rattle.plan_read.specs.Watched.{bits_in_joined}
use Rattle.plan_read.proofs.Walking.{IsBitsWalk, bits-begin, bits-go, bits-place, bits-end, bits-smaller, numbered-plain, name-none}
use Rattle.plan_read.proofs.watch.add_names.Goals as goal

pub places-init : goal.places-init
places-init c = bits-begin name_joined (λ (m : ℕ). bits_in_joined c.args.word.now) joined_key (stem c.args.word.now) (λ m y. name-none c.args.word.now y) c.args.names.now.design.now.joined
    (watched_bits c.args.bits.now.items) c.first_joined-at.result c.first_joined-at.ensures

-- the place that the search has come to
stands : (P : Option ℕ → Type 0) (at : Option ℕ) (place : ℕ) → at ≡ Some place → P at → P (Some place)
stands P at place is h = subst P is h

pub bounds-joined-place : goal.bounds-joined-place
bounds-joined-place c =
    let walk = stands (IsBitsWalk name_joined (λ (m : ℕ). bits_in_joined c.args.word.now) joined_key (stem c.args.word.now) c.args.names.now.design.now.joined (watched_bits c.args.bits.now.items)
    (watched_bits c.places.bits.items)) c.places.at c.in-Some.place c.in-Some.is c.places.invariant in
    let low : c.in-Some.place < length c.args.names.now.design.now.joined = bits-place name_joined (λ (m : ℕ). bits_in_joined c.args.word.now) joined_key
    (stem c.args.word.now) c.args.names.now.design.now.joined (watched_bits c.args.bits.now.items) (watched_bits c.places.bits.items) c.in-Some.place walk in
    subst (λ l. c.in-Some.place < length l) (sym c.as_slice-joined.ensures) low

pub next_joined-at-requires : goal.next_joined-at-requires
next_joined-at-requires c =
    let walk = stands (IsBitsWalk name_joined (λ (m : ℕ). bits_in_joined c.args.word.now) joined_key (stem c.args.word.now) c.args.names.now.design.now.joined (watched_bits c.args.bits.now.items)
    (watched_bits c.places.bits.items)) c.places.at c.in-Some.place c.in-Some.is c.places.invariant in
    let low : c.in-Some.place < length c.args.names.now.design.now.joined = bits-place name_joined (λ (m : ℕ). bits_in_joined c.args.word.now) joined_key
    (stem c.args.word.now) c.args.names.now.design.now.joined (watched_bits c.args.bits.now.items) (watched_bits c.places.bits.items) c.in-Some.place walk in
    omega (arith, low, length-map c.args.names.now.design.now.joined name_joined)

pub places-smaller : goal.places-smaller
places-smaller c =
    let walk = stands (IsBitsWalk name_joined (λ (m : ℕ). bits_in_joined c.args.word.now) joined_key (stem c.args.word.now) c.args.names.now.design.now.joined (watched_bits c.args.bits.now.items)
    (watched_bits c.places.bits.items)) c.places.at c.in-Some.place c.in-Some.is c.places.invariant in
    let low : c.in-Some.place < length c.args.names.now.design.now.joined = bits-place name_joined (λ (m : ℕ). bits_in_joined c.args.word.now) joined_key
    (stem c.args.word.now) c.args.names.now.design.now.joined (watched_bits c.args.bits.now.items) (watched_bits c.places.bits.items) c.in-Some.place walk in
    subst (λ at. places_left (length c.args.names.now.design.now.joined) c.next_joined-at.result < places_left (length c.args.names.now.design.now.joined) at) (sym c.in-Some.is)
    (bits-smaller name_joined joined_key (get_or (map joined_key (design_of c.args.names.now.design.now).joined) c.in-Some.place []) c.args.names.now.design.now.joined c.in-Some.place
    c.next_joined-at.result low c.next_joined-at.ensures)

pub places-preserved : goal.places-preserved
places-preserved c =
    let walk = stands (IsBitsWalk name_joined (λ (m : ℕ). bits_in_joined c.args.word.now) joined_key (stem c.args.word.now) c.args.names.now.design.now.joined (watched_bits c.args.bits.now.items)
    (watched_bits c.places.bits.items)) c.places.at c.in-Some.place c.in-Some.is c.places.invariant in
    bits-go name_joined (λ (m : ℕ). bits_in_joined c.args.word.now) joined_key (stem c.args.word.now) (λ m y. name-none c.args.word.now y) c.args.names.now.design.now.joined
    (watched_bits c.args.bits.now.items) (watched_bits c.places.bits.items) (watched_bits c.add_joined.new.bits.items) c.in-Some.place c.index-joined-place.result c.next_joined-at.result walk
    (subst (λ l. c.index-joined-place.result ≡ get_or l c.in-Some.place c.index-joined-place.result) c.as_slice-joined.ensures c.index-joined-place.is)
    c.in_ok-add_joined.ensures c.next_joined-at.ensures

pub returns : goal.returns
returns c = bits-end name_joined (λ (m : ℕ). bits_in_joined c.args.word.now) joined_key (stem c.args.word.now) c.args.names.now.design.now.joined (watched_bits c.args.bits.now.items)
    (watched_bits c.places.bits.items) (subst (IsBitsWalk name_joined (λ (m : ℕ). bits_in_joined c.args.word.now) joined_key (stem c.args.word.now) c.args.names.now.design.now.joined
    (watched_bits c.args.bits.now.items) (watched_bits c.places.bits.items)) c.in_default.is c.places.invariant)
    ∙ ap (λ l. watched_bits c.args.bits.now.items ++ l) (numbered-plain (bits_in_joined c.args.word.now) 0 (map name_joined c.args.names.now.design.now.joined))
