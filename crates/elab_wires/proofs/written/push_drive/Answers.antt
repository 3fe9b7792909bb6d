use Rattle.std.proofs.Common.{◌≡◌, map, refl, ◌∙◌, rules}
use Rattle.elab_wires.specs.WrittenNames.{written_of}
use Rattle.elab_wires.proofs.WrittenTurns.{no-drive, one-drive}
use Rattle.elab_wires.proofs.written.push_drive.Goals as goal

pub returns-then-outside : goal.returns-then-outside
returns-then-outside c =
    let none : c.args.drive.now.bits.width ≡ 0 = search rules in
    no-drive c.args.drive.now c.args.part (map written_of c.args.written.now.items) none

pub returns : goal.returns
returns c =
    let some : c.args.drive.now.bits.width ≡ 0 → ⊥ = search rules in
    one-drive c.args.drive.now c.args.part c.args.written.now.items c.push.new.self.items _ some (c.in_ok-name.ensures ∙ c.as_bytes.ensures) refl c.in_ok-push.ensures.items
