-- What a seat of a board knows, and what its calls change of that (nothing of the language).
use Rattle.std.specs.Prelude.{ℕ, ◌+◌, ◌-◌, ◌^◌, true, false, ◌||◌, [], ◌∷◌, ◌++◌}
use Rattle.verdict_words.specs.declared.view.View.{View}
use Rattle.verdict_words.specs.declared.view.Mark.{Mark}

-- a fault with a code
abbrev pub mark : ℕ → ℕ → Mark
mark fault code = record { fault = record { 0 = fault }; code = code }

-- a view that knows nothing and has no share
abbrev pub spent_view : View
spent_view = record { claimed = []; moved = []; seen = []; share = 0; calls = 0; dry = false }

-- the view of the first seat, which has the whole share
abbrev pub first_view : View
first_view = record { claimed = []; moved = []; seen = []; share = 2 ^ 62; calls = 0; dry = false }

-- after a claim was drawn
abbrev pub with_claim : ℕ → View → View
with_claim claim v = record v { claimed = v.claimed ++ claim ∷ []; calls = v.calls + 1 }

-- after no claim was left
abbrev pub with_none : View → View
with_none v = record v { calls = v.calls + 1; dry = true }

-- after the fault's word was found to be this code
abbrev pub with_seen : ℕ → ℕ → View → View
with_seen fault code v = record v { seen = v.seen ++ mark fault code ∷ [] }

-- after the fault's word was moved to this code
abbrev pub with_moved : ℕ → ℕ → View → View
with_moved fault code v = record v { moved = v.moved ++ mark fault code ∷ []; seen = v.seen ++ mark fault code ∷ [] }

-- the share that a new seat gets
abbrev pub lent_share : ℕ
lent_share = 2 ^ 33

-- the old seat, after a new one was split off
abbrev pub without_lent : View → View
without_lent v = record v { share = v.share - lent_share }

-- the new seat: no claims, no moves and no calls, and the codes that the old one has seen
abbrev pub newcomer : View → View
newcomer v = record { claimed = []; moved = []; seen = v.seen; share = lent_share; calls = 0; dry = false }

-- the lists, shares and calls of two seats
abbrev pub joined : View → View → View
joined v w =
    record { claimed = v.claimed ++ w.claimed; moved = v.moved ++ w.moved; seen = v.seen ++ w.seen; share = v.share + w.share; calls = v.calls + w.calls; dry = v.dry || w.dry }
