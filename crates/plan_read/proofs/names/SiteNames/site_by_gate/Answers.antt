use Rattle.std.proofs.Common.{◌≡◌, ◌<◌, ◌+◌, [], List, ℕ, Option, Some, get_or, map, length, ap, sym, subst, ◌∙◌, arith}
use Rattle.std.proofs.lemmas.List.{length-map}
use Rattle.v_design.specs.Designs.{FlatNode}
use Rattle.v_design.specs.Plain.{node_of, site_of}
use Rattle.v_design.specs.PlainDesigns.{design_of}
use Rattle.fault_list.specs.Spelled.{node_spelled}
use Rattle.key_index.specs.Places.{key_from}
use Rattle.plan_read.specs.Stems.{front, gate_key}
use Rattle.plan_read.specs.StemLaws.{node-apart}
use Rattle.key_index.specs.Walks.{places_left}
use Rattle.plan_read.proofs.NameWalking.{IsWalk, walk-begins, walk-goes, walk-here, walk-place, walk-smaller}
use Rattle.plan_read.proofs.names.SiteNames.site_by_gate.Goals as goal

pub places-init : goal.places-init
places-init c =
    walk-begins node_of (node_spelled c.args.word.now) gate_key (front c.args.word.now) (λ m y. node-apart c.args.word.now m y) c.args.self.now.design.now.nodes c.first-at.result
    (c.first-at.ensures ∙ (ap (λ keys. key_from keys c.front.result.now 0) c.args.self.now.gates_listed
    ∙ ap (λ key. key_from (map gate_key (design_of c.args.self.now.design.now).nodes) key 0) c.front.ensures))

-- the place that the search has come to
stands : (P : Option ℕ → Type 0) (at : Option ℕ) (place : ℕ) → at ≡ Some place → P at → P (Some place)
stands P at place is h = subst P is h

pub bounds-nodes-place : goal.bounds-nodes-place
bounds-nodes-place c =
    let walk = stands (IsWalk node_of (node_spelled c.args.word.now) gate_key (front c.args.word.now) c.args.self.now.design.now.nodes) c.places.at c.in-Some.place c.in-Some.is c.places.invariant in
    let low : c.in-Some.place < length c.args.self.now.design.now.nodes = walk-place node_of (node_spelled c.args.word.now) gate_key
    (front c.args.word.now) c.args.self.now.design.now.nodes c.in-Some.place walk in
    subst (λ l. c.in-Some.place < length l) (sym c.as_slice-nodes.ensures) low

pub returns-in-Some-found : goal.returns-in-Some-found
returns-in-Some-found c =
    let walk = stands (IsWalk node_of (node_spelled c.args.word.now) gate_key (front c.args.word.now) c.args.self.now.design.now.nodes) c.places.at c.in-Some.place c.in-Some.is c.places.invariant in
    walk-here node_of (node_spelled c.args.word.now) gate_key (front c.args.word.now) c.args.self.now.design.now.nodes c.in-Some.place c.index-nodes-place.result (site_of c.in-Some-found.site) walk
    (subst (λ l. c.index-nodes-place.result ≡ get_or l c.in-Some.place c.index-nodes-place.result) c.as_slice-nodes.ensures c.index-nodes-place.is) (sym c.in-Some-found.ensures)

pub next-at-requires : goal.next-at-requires
next-at-requires c =
    let walk = stands (IsWalk node_of (node_spelled c.args.word.now) gate_key (front c.args.word.now) c.args.self.now.design.now.nodes) c.places.at c.in-Some.place c.in-Some.is c.places.invariant in
    let low : c.in-Some.place < length c.args.self.now.design.now.nodes = walk-place node_of (node_spelled c.args.word.now) gate_key
    (front c.args.word.now) c.args.self.now.design.now.nodes c.in-Some.place walk in
    subst (λ l. c.in-Some.place < length l) (sym c.args.self.now.gates_listed) (omega (
      arith,
      low,
      length-map (design_of c.args.self.now.design.now).nodes gate_key,
      length-map c.args.self.now.design.now.nodes node_of,
    ))

pub places-smaller : goal.places-smaller
places-smaller c =
    let walk = stands (IsWalk node_of (node_spelled c.args.word.now) gate_key (front c.args.word.now) c.args.self.now.design.now.nodes) c.places.at c.in-Some.place c.in-Some.is c.places.invariant in
    let low : c.in-Some.place < length c.args.self.now.design.now.nodes = walk-place node_of (node_spelled c.args.word.now) gate_key
    (front c.args.word.now) c.args.self.now.design.now.nodes c.in-Some.place walk in
    subst (λ at. places_left (length c.args.self.now.design.now.nodes) c.next-at.result < places_left (length c.args.self.now.design.now.nodes) at) (sym c.in-Some.is)
    (walk-smaller node_of gate_key (get_or (map gate_key (design_of c.args.self.now.design.now).nodes) c.in-Some.place []) c.args.self.now.design.now.nodes c.in-Some.place c.next-at.result low
    (subst (λ keys. c.next-at.result ≡ key_from keys (get_or keys c.in-Some.place []) (c.in-Some.place + 1)) c.args.self.now.gates_listed c.next-at.ensures))

pub places-preserved : goal.places-preserved
places-preserved c =
    let walk = stands (IsWalk node_of (node_spelled c.args.word.now) gate_key (front c.args.word.now) c.args.self.now.design.now.nodes) c.places.at c.in-Some.place c.in-Some.is c.places.invariant in
    walk-goes node_of (node_spelled c.args.word.now) gate_key (front c.args.word.now) (λ m y. node-apart c.args.word.now m y) c.args.self.now.design.now.nodes c.in-Some.place
    c.index-nodes-place.result c.next-at.result walk
    (subst (λ l. c.index-nodes-place.result ≡ get_or l c.in-Some.place c.index-nodes-place.result) c.as_slice-nodes.ensures c.index-nodes-place.is) (sym c.in_default-found.ensures)
    (subst (λ keys. c.next-at.result ≡ key_from keys (get_or keys c.in-Some.place []) (c.in-Some.place + 1)) c.args.self.now.gates_listed c.next-at.ensures)
