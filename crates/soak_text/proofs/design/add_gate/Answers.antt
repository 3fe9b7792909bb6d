use Rattle.std.proofs.Common.{ℕ, List, [], ◌∷◌, ◌++◌, ap, ◌∙◌, codes}
use Rattle.std.specs.Prelude.{string_bytes}
use Rattle.std.specs.Fmt.{decimal}
use Rattle.soak_text.proofs.Pieces.{leftwards, pieces-joined}
use Rattle.soak_text.proofs.design.add_gate.Goals as goal

pub returns : goal.returns
returns c =
    let stage = c.args.stage.now in
    let rest : List (List ℕ) =
    codes " g" ∷ decimal stage.number ∷ codes "(w" ∷ decimal stage.number ∷ codes ", r" ∷ decimal stage.left ∷ codes ", r" ∷ decimal stage.right ∷ codes ");\n" ∷ [] in
    c.in_ok-writeln.ensures.bytes ∙ ap (λ l. string_bytes c.args.text.now ++ l) (pieces-joined c.kind_word-word.result.now rest ∙ ap (λ k. leftwards k rest) c.kind_word-word.ensures)
