use Rattle.std.proofs.Common.{◌+◌, sym, ◌∙◌, ap}
use Rattle.vf_base.specs.Base.{SourcePlace}
use Rattle.vf_base.specs.declared.ids.Place.{Place}
use Rattle.v_parse.proofs.Places.{end_place_is}
use Rattle.v_parse.proofs.text.end_place.Goals as goal

pub returns-in-len1-up : goal.returns-in-len1-up
returns-in-len1-up c =
    let after : Place → SourcePlace = λ p. record { line = p.line; column = p.column + 1 } in
    ap after c.place-place.ensures.place ∙ sym (end_place_is c.args.tokens.now c.last-item.result c.in-len1-up.len_at_least (sym c.last-item.is))
