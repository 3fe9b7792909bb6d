use Rattle.std.proofs.Common.{◌≡◌, true, false, not, ◌&&◌, ◌++◌, is_some, ap, sym, ◌∙◌, rules}
use Rattle.v_tree.specs.Trees.{has_name}
use Rattle.v_elab.specs.Drivers.{outermost}
use Rattle.elab_parts.specs.PartViews.{process_of}
use Rattle.elab_wires.specs.IndexLaws.{key-there}
use Rattle.elab_wires.proofs.BlockLaws.{other-read}
use Rattle.elab_wires.proofs.blocks.is_other_name.Goals as goal

pub returns-then-own : goal.returns-then-own
returns-then-own c =
    let holds : is_some c.first.result ≡ true = search rules in
    let there : has_name c.args.targets.now c.args.name.now ≡ true = sym (key-there c.args.targets.now c.args.name.now) ∙ ap is_some (sym c.first.ensures) ∙ holds in
    sym (ap (λ b. not b && has_name c.args.objects.now (outermost c.args.signals.now ((process_of c.args.process.now).path ++ c.args.name.now))) there)

pub returns : goal.returns
returns c =
    let fails : is_some c.first.result ≡ false = search rules in
    let absent : has_name c.args.targets.now c.args.name.now ≡ false = sym (key-there c.args.targets.now c.args.name.now) ∙ ap is_some (sym c.first.ensures) ∙ fails in
    other-read c.args.signals.now (process_of c.args.process.now) c.args.targets.now c.args.objects.now c.args.name.now c.outermost-object.result.now c.first-found.result c.is_some-other.result absent
    (search rules) c.first-found.ensures (search rules)
