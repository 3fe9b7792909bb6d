use Rattle.std.proofs.Common.{◌≡◌, true, false, rules}
use Rattle.elab_wires.proofs.BlockLaws.{own-ported, own-unported}
use Rattle.elab_wires.proofs.blocks.is_own_target.Goals as goal

pub returns-then-has : goal.returns-then-has
returns-then-has c =
    let holds : c.has.result ≡ true = search rules in
    own-ported c.args.wiring.now c.args.number c.args.name.now c.has.result c.requires (search rules) holds

pub returns : goal.returns
returns c =
    let fails : c.has.result ≡ false = search rules in
    own-unported c.args.wiring.now c.args.number c.args.name.now c.outermost-object.result.now c.has.result c.in_ok-other.other c.requires (search rules) fails (search rules) c.in_ok-other.ensures
