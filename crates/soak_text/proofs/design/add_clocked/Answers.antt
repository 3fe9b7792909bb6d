use Rattle.std.proofs.Common.{[], ◌∷◌, ◌++◌, ap, ◌∙◌, codes}
use Rattle.std.specs.Prelude.{string_bytes}
use Rattle.std.specs.Fmt.{decimal}
use Rattle.soak_text.proofs.Pieces.{pieces-joined}
use Rattle.soak_text.proofs.design.add_clocked.Goals as goal

pub returns : goal.returns
returns c =
    let number = decimal c.args.stage.now.number in
    c.in_ok-writeln.ensures.bytes ∙ ap (λ l. string_bytes c.args.text.now ++ l) (pieces-joined (codes "always @(posedge clk) r") (number ∷ codes " <= w" ∷ number ∷ codes ";\n" ∷ []))
