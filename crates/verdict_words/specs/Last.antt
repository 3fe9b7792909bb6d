-- What clauses say of a closed board (nothing of the language).
use Rattle.std.specs.Prelude.{ℕ, List}
use Rattle.verdict_words.specs.declared.view.View.{View}
use Rattle.verdict_words.specs.declared.rule.Sizes.{Sizes}
use Rattle.verdict_words.specs.declared.board.closed.Closed.{Closed}

module _ {N : Type 0} where
  -- the words by fault
  abbrev pub words_of : Closed N → List ℕ
  words_of c = c.words.items

  -- the numbers of faults and of claims
  abbrev pub sizes_of : Closed N → Sizes
  sizes_of c = c.sizes.value

  -- what the seat knew that closed the board
  abbrev pub last_view : Closed N → View
  last_view c = c.seat.value.me.0
