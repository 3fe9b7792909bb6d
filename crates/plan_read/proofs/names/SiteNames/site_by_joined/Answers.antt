use Rattle.std.proofs.Common.{◌≡◌, ◌<◌, ◌+◌, [], List, ℕ, Option, Some, get_or, map, length, ap, sym, subst, ◌∙◌, arith}
use Rattle.std.proofs.lemmas.List.{length-map}
use Rattle.v_design.specs.Designs.{NameJoined}
use Rattle.v_design.specs.Plain.{name_joined, site_of}
use Rattle.v_design.specs.PlainDesigns.{design_of}
use Rattle.fault_list.specs.Spelled.{name_spelled}
use Rattle.key_index.specs.Places.{key_from}
use Rattle.plan_read.specs.Stems.{stem, joined_key}
use Rattle.plan_read.specs.StemLaws.{joined-apart}
use Rattle.key_index.specs.Walks.{places_left}
use Rattle.plan_read.proofs.NameWalking.{IsWalk, walk-begins, walk-goes, walk-here, walk-place, walk-smaller}
use Rattle.plan_read.proofs.names.SiteNames.site_by_joined.Goals as goal

pub places-init : goal.places-init
places-init c =
    walk-begins name_joined (name_spelled (design_of c.args.self.now.design.now) c.args.word.now) joined_key (stem c.args.word.now)
    (λ m y. joined-apart (design_of c.args.self.now.design.now) c.args.word.now m y) c.args.self.now.design.now.joined c.first-at.result
    (c.first-at.ensures ∙ (ap (λ keys. key_from keys c.stem.result.now 0) c.args.self.now.joined_listed
    ∙ ap (λ key. key_from (map joined_key (design_of c.args.self.now.design.now).joined) key 0) c.stem.ensures))

-- the place that the search has come to
stands : (P : Option ℕ → Type 0) (at : Option ℕ) (place : ℕ) → at ≡ Some place → P at → P (Some place)
stands P at place is h = subst P is h

pub bounds-names-place : goal.bounds-names-place
bounds-names-place c =
    let walk = stands (IsWalk name_joined (name_spelled (design_of c.args.self.now.design.now) c.args.word.now) joined_key (stem c.args.word.now) c.args.self.now.design.now.joined) c.places.at
    c.in-Some.place c.in-Some.is c.places.invariant in
    let low : c.in-Some.place < length c.args.self.now.design.now.joined = walk-place name_joined (name_spelled (design_of c.args.self.now.design.now) c.args.word.now) joined_key
    (stem c.args.word.now) c.args.self.now.design.now.joined c.in-Some.place walk in
    subst (λ l. c.in-Some.place < length l) (sym c.as_slice-names.ensures) low

pub returns-in-Some-found : goal.returns-in-Some-found
returns-in-Some-found c =
    let walk = stands (IsWalk name_joined (name_spelled (design_of c.args.self.now.design.now) c.args.word.now) joined_key (stem c.args.word.now) c.args.self.now.design.now.joined) c.places.at
    c.in-Some.place c.in-Some.is c.places.invariant in
    walk-here name_joined (name_spelled (design_of c.args.self.now.design.now) c.args.word.now) joined_key
    (stem c.args.word.now) c.args.self.now.design.now.joined c.in-Some.place c.index-names-place.result (site_of c.in-Some-found.site) walk
    (subst (λ l. c.index-names-place.result ≡ get_or l c.in-Some.place c.index-names-place.result) c.as_slice-names.ensures c.index-names-place.is) (sym (c.in-Some-found.ensures c.in-Some.place))

pub next-at-requires : goal.next-at-requires
next-at-requires c =
    let walk = stands (IsWalk name_joined (name_spelled (design_of c.args.self.now.design.now) c.args.word.now) joined_key (stem c.args.word.now) c.args.self.now.design.now.joined) c.places.at
    c.in-Some.place c.in-Some.is c.places.invariant in
    let low : c.in-Some.place < length c.args.self.now.design.now.joined = walk-place name_joined (name_spelled (design_of c.args.self.now.design.now) c.args.word.now) joined_key
    (stem c.args.word.now) c.args.self.now.design.now.joined c.in-Some.place walk in
    subst (λ l. c.in-Some.place < length l) (sym c.args.self.now.joined_listed) (omega (
      arith,
      low,
      length-map (design_of c.args.self.now.design.now).joined joined_key,
      length-map c.args.self.now.design.now.joined name_joined,
    ))

pub places-smaller : goal.places-smaller
places-smaller c =
    let walk = stands (IsWalk name_joined (name_spelled (design_of c.args.self.now.design.now) c.args.word.now) joined_key (stem c.args.word.now) c.args.self.now.design.now.joined) c.places.at
    c.in-Some.place c.in-Some.is c.places.invariant in
    let low : c.in-Some.place < length c.args.self.now.design.now.joined = walk-place name_joined (name_spelled (design_of c.args.self.now.design.now) c.args.word.now) joined_key
    (stem c.args.word.now) c.args.self.now.design.now.joined c.in-Some.place walk in
    subst (λ at. places_left (length c.args.self.now.design.now.joined) c.next-at.result < places_left (length c.args.self.now.design.now.joined) at) (sym c.in-Some.is)
    (walk-smaller name_joined joined_key (get_or (map joined_key (design_of c.args.self.now.design.now).joined) c.in-Some.place []) c.args.self.now.design.now.joined c.in-Some.place c.next-at.result
    low
    (subst (λ keys. c.next-at.result ≡ key_from keys (get_or keys c.in-Some.place []) (c.in-Some.place + 1)) c.args.self.now.joined_listed c.next-at.ensures))

pub places-preserved : goal.places-preserved
places-preserved c =
    let walk = stands (IsWalk name_joined (name_spelled (design_of c.args.self.now.design.now) c.args.word.now) joined_key (stem c.args.word.now) c.args.self.now.design.now.joined) c.places.at
    c.in-Some.place c.in-Some.is c.places.invariant in
    walk-goes name_joined (name_spelled (design_of c.args.self.now.design.now) c.args.word.now) joined_key (stem c.args.word.now)
    (λ m y. joined-apart (design_of c.args.self.now.design.now) c.args.word.now m y) c.args.self.now.design.now.joined c.in-Some.place c.index-names-place.result c.next-at.result walk
    (subst (λ l. c.index-names-place.result ≡ get_or l c.in-Some.place c.index-names-place.result) c.as_slice-names.ensures c.index-names-place.is) (sym (c.in_default-found.ensures c.in-Some.place))
    (subst (λ keys. c.next-at.result ≡ key_from keys (get_or keys c.in-Some.place []) (c.in-Some.place + 1)) c.args.self.now.joined_listed c.next-at.ensures)
