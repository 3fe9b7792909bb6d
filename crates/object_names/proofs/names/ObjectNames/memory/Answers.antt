use Rattle.std.proofs.Common.{map, option_map, sym, ap, ◌∙◌}
use Rattle.key_index.specs.Groups.{first_under}
use Rattle.object_names.specs.NameTables.{NameTables, words_by, memory_found, memory_by}
use Rattle.object_names.specs.NameViews.{memory_borrowed, piece_seen}
use Rattle.object_names.proofs.Meanings.{memory-first, memory-is}
use Rattle.object_names.proofs.names.ObjectNames.memory.Goals as goal

pub returns-in-None : goal.returns-in-None
returns-in-None c =
    c.no_words.ensures
    ∙ ap (memory_found (map piece_seen c.self.inside.pieces)) (ap (option_map memory_borrowed) (sym c.in-None.is) ∙ memory-first c.self.inside.memories c.args.name.now c.first.result c.first.ensures)
    ∙ ap (λ (t : NameTables). memory_by t c.args.name.now) c.self.view_is

pub returns-in_ok-words-in-Some : goal.returns-in_ok-words-in-Some
returns-in_ok-words-in-Some c =
    let found = ap (option_map memory_borrowed) (sym c.in-Some.is) ∙ memory-first c.self.inside.memories c.args.name.now c.first.result c.first.ensures in
    memory-is c.in-Some.memory.now c.width.result _ c.args.self.now.pieces (first_under c.args.self.now.memories c.args.name.now) c.width.ensures
    (c.in_ok-words-in-Some.ensures ∙ ap (words_by c.args.self.now.pieces) c.as_bytes.ensures)
    (found ∙ ap (λ (t : NameTables). first_under t.memories c.args.name.now) c.self.view_is)
