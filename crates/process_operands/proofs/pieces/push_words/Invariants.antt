use Rattle.std.proofs.Common.{◌≡◌, ◌++◌, drop, map}
use Rattle.v_design.specs.Plain.{piece_of, memory_of}
use Rattle.v_design.specs.Expressions.{memory_pieces}
use Rattle.process_operands.specs.PieceLaws.{words_pieces}
use Rattle.process_operands.proofs.pieces.push_words.Given as goal

abbrev pub invariant-words : goal.invariant-words
invariant-words l = map piece_of l.pieces.items ++ words_pieces l.memory.width (drop l.word-index l.words) ≡ map piece_of l.initial.pieces.items ++ memory_pieces (memory_of l.memory)
