use Rattle.std.proofs.Common.{ap, ◌∙◌}
use Rattle.std.proofs.lemmas.List.{map_push}
use Rattle.elab_parts.specs.PartViews.{memory_of}
use Rattle.elab_objects.specs.ObjectViews.{held_of, held_objects}
use Rattle.elab_objects.specs.WordLaws.{words-more}
use Rattle.elab_objects.proofs.words.push_words.Goals as goal

pub words-preserved : goal.words-preserved
words-preserved c =
    words-more (memory_of c.args.memory.now) c.min-first.result c.words.address (held_objects c.args.objects.now.items) (held_objects c.words.objects.items) (held_objects c.push.new.self.items)
    (held_of c.in_ok-word.word) c.words.auto.address c.words.invariant
    (ap held_objects c.in_ok-push.ensures.items ∙ map_push held_of c.words.objects.items c.in_ok-word.word) c.in_ok-word.ensures
