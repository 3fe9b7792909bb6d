use Rattle.std.proofs.Common.{◌+◌, length, take, refl, sym, subst}
use Rattle.std.proofs.lemmas.Option.{slice_get_read}
use Rattle.good_trace.specs.Starting.{AreFirstStates}
use Rattle.good_trace.proofs.Starting.{AreFirstStates-more}
use Rattle.good_trace.proofs.between.first_states.Goals as goal

pub new-requires : goal.new-requires
new-requires c =
    c.requires c.codes.code-index c.code-item.result (slice_get_read c.args.codes.now (length c.args.codes.now) c.codes.code-index c.code-item.result refl c.codes-test.true c.code-item.is)

pub codes-preserved : goal.codes-preserved
codes-preserved c =
    subst (AreFirstStates (take (c.codes.code-index + 1) c.args.codes.now)) (sym c.in_ok-push.ensures.items)
    (AreFirstStates-more c.args.codes.now c.codes.code-index c.code-item.result c.codes.states.items c.in_ok-state.state c.codes-test.true c.code-item.is c.codes.invariant
    (record { state_of = c.in_ok-state.ensures.state; does = c.in_ok-state.ensures.activity }))
