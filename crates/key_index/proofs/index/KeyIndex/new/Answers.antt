use Rattle.std.proofs.Common.{◌≡◌, ◌<◌, ◌+◌, ◌-◌, ◌++◌, ◌∷◌, [], length, get_or, ap, sym, subst, ◌∙◌, arith}
use Rattle.std.proofs.lemmas.List.{get_or-map, length-map}
use Rattle.key_index.specs.Places.{keys_of, place_in}
use Rattle.key_index.proofs.Steps.{Noted, Noted-more}
use Rattle.key_index.proofs.index.KeyIndex.new.Goals as goal

pub keys-preserved : goal.keys-preserved
keys-preserved c =
    let keys = c.args.keys.items in
    let i = c.keys.place - 1 in
    let next : c.keys.place ≡ c.keys.place - 1 + 1 = omega arith in
    let had : Noted (keys_of c.args.keys.items) (place_in c.keys.firsts) c.keys.nexts.items (c.keys.place - 1 + 1) =
    subst (Noted (keys_of c.args.keys.items) (place_in c.keys.firsts) c.keys.nexts.items) next c.keys.invariant in
    let count : length c.keys.nexts.items + c.keys.place ≡ length (keys_of c.args.keys.items) = c.keys.invariant.count in
    let size : length (keys_of c.args.keys.items) ≡ length c.args.keys.items = length-map c.args.keys.items (λ key. key.now) in
    let low : c.keys.place - 1 < length c.args.keys.items = omega arith in
    let read : get_or (keys_of c.args.keys.items) (c.keys.place - 1) [] ≡ c.index.result.now.now =
    get_or-map (λ key. key.now) c.args.keys.items (c.keys.place - 1) c.index.result.now [] low ∙ ap (λ key. key.now) (sym c.index.ensures) in
    Noted-more (keys_of c.args.keys.items) (c.keys.place - 1) (place_in c.keys.firsts) (place_in c.note.new.firsts) c.keys.nexts.items c.push.new.self.items c.in_ok-next.next had
    (c.in_ok-next.ensures.old ∙ ap (place_in c.keys.firsts) (sym read))
    (rw read c.in_ok-next.ensures.noted)
    c.in_ok-push.ensures.items

pub invariant_of-result : goal.invariant_of-result
invariant_of-result c =
    let done : c.keys.place ≡ 0 = omega arith in
    let all : Noted (keys_of c.args.keys.items) (place_in c.keys.firsts) c.keys.nexts.items 0 =
    subst (Noted (keys_of c.args.keys.items) (place_in c.keys.firsts) c.keys.nexts.items) done c.keys.invariant in
    let count : length c.keys.nexts.items + 0 ≡ length (keys_of c.args.keys.items) = all.count in
    record {
      firsts = all.firsts_found;
      count = omega arith;
      nexts = λ place low. all.nexts_found place (omega arith) low;
    }
