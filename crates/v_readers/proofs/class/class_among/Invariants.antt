use Rattle.std.proofs.Common.{◌≡◌, drop, map}
use Rattle.v_readers.specs.Classes.{class_among}
use Rattle.v_readers.proofs.class.class_among.Given as goal

abbrev pub invariant-loop-word : goal.invariant-loop-word
invariant-loop-word l = class_among (map (λ word. (word.0.now, word.1)) (drop l.word-index l.words)) l.bytes ≡ class_among (map (λ word. (word.0.now, word.1)) l.words) l.bytes
