-- What clauses say of a board and of its seats (nothing of the language).
use Rattle.std.specs.Prelude.{◌≡◌, ℕ}
use Rattle.verdict_words.specs.declared.view.View.{View}
use Rattle.verdict_words.specs.declared.board.Board.{Board}
use Rattle.verdict_words.specs.declared.board.Seat.{Seat}

module _ {N : Type 0} where
  -- what the seat knows
  abbrev pub view : Seat N → View
  view s = s.seat.me.0

  -- the seat is one of the board
  abbrev pub IsSeatOf : Board N → Seat N → Type 0
  IsSeatOf b s = s.seat.table_id ≡ b.table.shared.table_id

  -- the number of faults
  abbrev pub faults_of : Board N → ℕ
  faults_of b = b.sizes.faults

  -- the number of claims
  abbrev pub claims_of : Board N → ℕ
  claims_of b = b.sizes.claims
