use Rattle.std.proofs.Common.{sym, subst}
use Rattle.vf_base.specs.Lists.{AllHold}
use Rattle.elab_wires.specs.SignalTables.{IsOwn}
use Rattle.elab_wires.proofs.signals.Signals.new.Goals as goal

pub invariant_of-result : goal.invariant_of-result
invariant_of-result c = subst (AllHold IsOwn) (sym c.in_ok-by_name.ensures) c.in_ok-items.ensures.own
