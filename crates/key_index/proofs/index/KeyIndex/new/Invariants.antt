use Rattle.key_index.specs.Places.{keys_of, place_in}
use Rattle.key_index.proofs.Steps.{Noted}
use Rattle.key_index.proofs.index.KeyIndex.new.Given as goal

abbrev pub invariant-keys : goal.invariant-keys
invariant-keys l = Noted (keys_of l.keys.items) (place_in l.firsts) l.nexts.items l.place
