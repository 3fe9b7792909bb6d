use Rattle.std.proofs.Common.{◌≡◌, ◌-◌, ◌++◌, map}
use Rattle.v_design.specs.Expressions.{up_from}
use Rattle.v_elab.specs.Objects as plain
use Rattle.elab_parts.specs.PartViews.{memory_of}
use Rattle.elab_objects.specs.ObjectViews.{held_objects}
use Rattle.elab_objects.proofs.words.push_words.Given as goal

abbrev pub invariant-words : goal.invariant-words
invariant-words l = held_objects l.objects.items ≡ held_objects l.initial.objects.items ++ map (plain.word_object (memory_of l.memory)) (up_from l.first (l.address - l.first))
