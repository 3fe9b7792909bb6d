use Rattle.std.proofs.Common.{Some}
use Rattle.std.proofs.lemmas.Map.Text.{hash_map_updates_str}
use Rattle.key_index.proofs.index.note.Goals as goal

pub returns-in-Ok-clause-noted : goal.returns-in-Ok-clause-noted
returns-in-Ok-clause-noted c word = hash_map_updates_str c.args.key.now c.args.firsts.now c.insert.new.self (Some c.args.place) c.in-Ok.ensures.updates word
