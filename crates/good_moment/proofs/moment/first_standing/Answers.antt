-- One process more.
use Rattle.std.proofs.Common.{◌∙◌, sym, ap}
use Rattle.std.specs.Prelude.{Some}
use Rattle.std.proofs.lemmas.Option.{slice_get-get_or}
use Rattle.good_moment.proofs.First.{begun-more}
use Rattle.good_moment.proofs.moment.first_standing.Goals as goal

pub new-requires : goal.new-requires
new-requires c =
    c.requires c.codes.code-index c.code-item.result
    (slice_get-get_or c.args.codes.now c.codes.code-index c.code-item.result c.codes-test.true ∙ ap Some (sym c.code-item.is))

pub codes-preserved : goal.codes-preserved
codes-preserved c =
    begun-more c.args.codes.now c.codes.code-index c.code-item.result c.codes.states.items c.push.new.self.items c.codes.later.items c.push-in-codes.new.self.items c.codes.lanes.items c.push-in-codes-2.new.self.items
    c.codes.ran.items c.push-in-codes-3.new.self.items c.in_ok-state.state _ _ _ c.codes-test.true c.code-item.is c.in_ok-state.ensures.state c.in_ok-push.ensures.items c.in_ok-push-2.ensures.items
    c.in_ok-push-3.ensures.items c.in_ok-push-4.ensures.items c.codes.invariant
