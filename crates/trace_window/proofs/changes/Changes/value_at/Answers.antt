use Rattle.std.proofs.Common.{◌≡◌, ◌<◌, ℕ, List, [], map, length, get_or, sym, ap, subst, ◌∙◌, rules}
use Rattle.std.specs.Prelude.{Some, slice_index_or}
use Rattle.vf_base.specs.Base.{object_number}
use Rattle.four_value.specs.Values.{LogicValue}
use Rattle.window_index.specs.Moments.{IsLastBefore}
use Rattle.trace_window.specs.declared.change.Change.{Change}
use Rattle.trace_window.specs.Writes.{written_of, latest}
use Rattle.trace_window.specs.Tables.{ChangesKept, AreChanges}
use Rattle.trace_window.proofs.Finding.{IsFound, found-none, found-some}
use Rattle.trace_window.proofs.changes.Changes.value_at.Goals as goal

-- an object that contracts see is one of the index
seen-low : (objects : ℕ) (changes : List Change) (kept : ChangesKept) (object : ℕ) → record { count = objects; writes = map written_of changes } ≡ kept → object < kept.count → object < objects
seen-low objects changes kept object view low = subst (λ (k : ChangesKept). object < k.count) (sym view) low

-- what the search found
found : (first : LogicValue) (objects : ℕ) (changes : List Change) (moments places : List (List ℕ)) (kept : ChangesKept) (object moment own : ℕ) → AreChanges objects changes moments places →
    record { count = objects; writes = map written_of changes } ≡ kept → object < kept.count → IsLastBefore (get_or moments object []) moment (Some own) →
    IsFound first changes places object moment own
found first objects changes moments places kept object moment own had view low some =
    found-some first objects changes moments places object moment own had (seen-low objects changes kept object view low) some

own-low : (own object : ℕ) (places : List (List ℕ)) (list : List ℕ) → list ≡ get_or places object [] → own < length (get_or places object []) → own < length list
own-low own object places list is low = subst (λ l. own < length l) (sym is) low

pub bounds-places-own : goal.bounds-places-own
bounds-places-own c =
    let f = found c.args.first c.self.inside.objects c.self.inside.changes.items c.self.inside.moments c.self.inside.places c.args.self.now
    (object_number c.args.object) c.args.moment c.in-Some.own c.self.invariant c.self.view_is c.requires c.in-Some.ensures in
    own-low c.in-Some.own (object_number c.args.object) c.self.inside.places c.moments-places.result.now c.moments-places.ensures.moments f.own_low

pub offset_bounds-places-own : goal.offset_bounds-places-own
offset_bounds-places-own c =
    let f = found c.args.first c.self.inside.objects c.self.inside.changes.items c.self.inside.moments c.self.inside.places c.args.self.now
    (object_number c.args.object) c.args.moment c.in-Some.own c.self.invariant c.self.view_is c.requires c.in-Some.ensures in
    let low : c.in-Some.own < length c.moments-places.result.now = own-low c.in-Some.own (object_number c.args.object) c.self.inside.places c.moments-places.result.now
    c.moments-places.ensures.moments f.own_low in
    search rules

pub index-requires : goal.index-requires
index-requires c =
    let f = found c.args.first c.self.inside.objects c.self.inside.changes.items c.self.inside.moments c.self.inside.places c.args.self.now
    (object_number c.args.object) c.args.moment c.in-Some.own c.self.invariant c.self.view_is c.requires c.in-Some.ensures in
    let low : slice_index_or c.moments-places.result.now c.in-Some.own 0 < length c.self.inside.changes.items =
    subst (λ l. get_or l c.in-Some.own 0 < length c.self.inside.changes.items) (sym c.moments-places.ensures.moments) f.place_low in
    search rules

pub returns-in-None : goal.returns-in-None
returns-in-None c =
    found-none c.args.first c.self.inside.objects c.self.inside.changes.items c.self.inside.moments c.self.inside.places (object_number c.args.object) c.args.moment c.self.invariant
    (seen-low c.self.inside.objects c.self.inside.changes.items c.args.self.now (object_number c.args.object) c.self.view_is c.requires) c.in-None.ensures
    ∙ ap (λ (k : ChangesKept). latest c.args.first (object_number c.args.object) c.args.moment k.writes) c.self.view_is

pub returns-in-Some : goal.returns-in-Some
returns-in-Some c =
    let f = found c.args.first c.self.inside.objects c.self.inside.changes.items c.self.inside.moments c.self.inside.places c.args.self.now
    (object_number c.args.object) c.args.moment c.in-Some.own c.self.invariant c.self.view_is c.requires c.in-Some.ensures in
    ap (λ (x : Change). x.value) c.index.ensures
    ∙ ap (λ l. (get_or c.self.inside.changes.items (get_or l c.in-Some.own 0) c.index.result.now).value) c.moments-places.ensures.moments ∙ f.value_is c.index.result.now
    ∙ ap (λ (k : ChangesKept). latest c.args.first (object_number c.args.object) c.args.moment k.writes) c.self.view_is
