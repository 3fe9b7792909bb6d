use Rattle.std.proofs.Common.{◌++◌, ◌∙◌, map, ap}
use Rattle.v_design.specs.Plain.{piece_of}
use Rattle.process_operands.specs.PieceLaws.{words_pieces, words_pieces-all}
use Rattle.process_operands.proofs.pieces.push_words.Goals as goal

pub words-init : goal.words-init
words-init c =
    let memory = c.args.memory.now in
    ap (λ words. map piece_of c.args.pieces.now.items ++ words_pieces memory.width words) c.as_slice-words.ensures
    ∙ ap (λ all. map piece_of c.args.pieces.now.items ++ all) (words_pieces-all memory.width memory.words)
