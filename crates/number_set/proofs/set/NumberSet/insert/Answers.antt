use Rattle.std.proofs.Common.{◌∙◌, ◌<◌, ◌/◌, length, subst, sym}
use Rattle.std.proofs.lemmas.List.{get_or_default}
use Rattle.number_set.specs.Members.{NumberBits}
use Rattle.number_set.proofs.WordLaws.{words-more, inserts-more, place-within}
use Rattle.number_set.proofs.set.NumberSet.insert.Goals as goal

pub invariant_of-self : goal.invariant_of-self
invariant_of-self c =
    let set = c.self.inside in
    let low : c.args.number < set.bound = subst (λ (bits : NumberBits). c.args.number < bits.bound) (sym c.self.view_is) c.requires in
    let there : c.args.number / 64 < length set.words.items = place-within set.bound set.first set.past c.args.number set.words.items c.self.invariant low in
    words-more set.bound set.first set.past c.min-self-inside.result c.max-self-inside.result c.args.number c.index_mut.result.now set.words.items c.self.invariant low
    (c.index_mut.ensures.value ∙ get_or_default set.words.items (c.args.number / 64) c.index_mut.result.now 0 there) c.min-self-inside.ensures c.max-self-inside.ensures

pub returns : goal.returns
returns c =
    let set = c.self.inside in
    let low : c.args.number < set.bound = subst (λ (bits : NumberBits). c.args.number < bits.bound) (sym c.self.view_is) c.requires in
    let there : c.args.number / 64 < length set.words.items = place-within set.bound set.first set.past c.args.number set.words.items c.self.invariant low in
    inserts-more set.bound c.args.number c.index_mut.result.now set.words.items c.args.self.now c.self.view_is there
    (c.index_mut.ensures.value ∙ get_or_default set.words.items (c.args.number / 64) c.index_mut.result.now 0 there)
