use Rattle.std.proofs.Common.{◌≡◌, ◌++◌, true, false, map, refl, ap, ◌∙◌, rules}
use Rattle.v_names.specs.Scopes.{is_reg, looked_up}
use Rattle.elab_parts.specs.PartViews.{process_of}
use Rattle.elab_wires.specs.WrittenNames.{written_of}
use Rattle.elab_wires.proofs.WrittenTurns.{not-variable, one-variable}
use Rattle.elab_wires.proofs.written.push_variable.Goals as goal

pub returns-then-not-known : goal.returns-then-not-known
returns-then-not-known c =
    let fails : is_reg (looked_up (process_of c.args.process.now).scope c.args.name.now) ≡ false = search rules in
    not-variable (process_of c.args.process.now) c.args.part c.args.name.now (map written_of c.args.written.now.items) fails

pub returns : goal.returns
returns c =
    let holds : is_reg (looked_up (process_of c.args.process.now).scope c.args.name.now) ≡ true = search rules in
    one-variable (process_of c.args.process.now) c.args.part c.args.name.now c.args.written.now.items c.push.new.self.items _ holds
    (c.in_ok-name.ensures ∙ ap (λ p. p ++ c.args.name.now) c.deref-2.ensures) refl c.in_ok-push.ensures.items
