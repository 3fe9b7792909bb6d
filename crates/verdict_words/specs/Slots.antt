-- The rule of the jobs' table, and what its steps tell (nothing of the language).
use Rattle.std.specs.Prelude.{◌≡◌, ◌≢◌, ℕ, ◌+◌, ◌<◌, ◌⊎◌, ◌==◌, cond, List, [], ◌∷◌, ◌++◌, length, slice_index, sum_by}
use mathlib.Core.Option.{some, none}
use lib.ListN.{get_elem?}
use Rattle.atomic_table.specs.Table.{State, Me, Step}
use Rattle.verdict_words.specs.declared.jobs.rule.SlotValue.{SlotValue}
use Rattle.verdict_words.specs.declared.jobs.rule.SlotCalls.{SlotCalls}
use Rattle.verdict_words.specs.declared.jobs.rule.Hold.{Hold}
use Rattle.verdict_words.specs.declared.jobs.rule.Hold.TheVariants.{Spent, Free, Slot}

module _ {S : Type 0} where
  -- 1 where the view holds the slot, and else 0
  abbrev pub holds_slot : ℕ → Hold S → ℕ
  holds_slot slot Spent = 0
  holds_slot slot (Free calls) = 0
  holds_slot slot (Slot other calls) = cond (other == slot) 1 0

  -- of a seat that made no call
  abbrev pub no_calls : SlotCalls S
  no_calls = record { refusals = 0; takes = []; puts = [] }

  -- what the calls of a seat did
  abbrev pub hold_calls : Hold S → SlotCalls S
  hold_calls Spent = no_calls
  hold_calls (Free calls) = calls
  hold_calls (Slot slot calls) = calls

  -- a slot with a value
  abbrev pub slot_value : ℕ → S → SlotValue S
  slot_value slot value = record { slot = slot; value = value }

  -- after `take` found a slot held
  abbrev pub with_refusal : SlotCalls S → SlotCalls S
  with_refusal calls = record calls { refusals = calls.refusals + 1 }

  -- after `take` took the value from the slot
  abbrev pub with_take : ℕ → S → SlotCalls S → SlotCalls S
  with_take slot value calls = record calls { takes = calls.takes ++ slot_value slot value ∷ [] }

  -- after `put` put the value into the slot
  abbrev pub with_put : ℕ → S → SlotCalls S → SlotCalls S
  with_put slot value calls = record calls { puts = calls.puts ++ slot_value slot value ∷ [] }

  -- after the slot that was taken last was given back with the value that it has
  abbrev pub with_last_put : List (ℕ × S) → SlotCalls S → SlotCalls S
  with_last_put [] calls = calls
  with_last_put (held ∷ others) calls = with_put held.0 held.1 calls

  -- the calls of two seats
  abbrev pub joined_calls : SlotCalls S → SlotCalls S → SlotCalls S
  joined_calls one other = record { refusals = one.refusals + other.refusals; takes = one.takes ++ other.takes; puts = one.puts ++ other.puts }

  -- of two seats that hold no slot
  abbrev pub joined_hold : Hold S → Hold S → Hold S
  joined_hold one other = Free (joined_calls (hold_calls one) (hold_calls other))

  -- the slot's word is 1 and it is at home, or the word is 0 and exactly one view holds it
  abbrev pub Placed : State S (Hold S) → ℕ → Type 0
  Placed s slot =
      ((slice_index s.words slot ≡ 1) × ((y : S) × (get_elem? s.homes slot ≡ some (some y))) × (sum_by (holds_slot slot) s.views ≡ 0))
      ⊎ ((slice_index s.words slot ≡ 0) × (get_elem? s.homes slot ≡ some none) × (sum_by (holds_slot slot) s.views ≡ 1))

  -- the rule
  pub record Shelved (slots : ℕ) (s : State S (Hold S)) : Type 0 where
    pub words : length s.words ≡ slots
    pub placed : (k : ℕ) → k < slots → Placed s k

  -- what `take` is told: the seat holds the slot with the value that it took there, or it was refused once more
  pub record Takes (st : Step S) (before : Me S (Hold S)) (found : ℕ) (after : Me S (Hold S)) : Type 0 where
    pub got : found ≡ 1 → (y : S) × ((after.0 ≡ Slot st.word (with_take st.word y (hold_calls before.0))) × (after.1 ≡ (st.word, y) ∷ before.1))
    pub held : found ≢ 1 → after ≡ (Free (with_refusal (hold_calls before.0)), before.1)

  -- what `put` is told
  abbrev pub Puts : Step S → Me S (Hold S) → ℕ → Me S (Hold S) → Type 0
  Puts st before found after = after ≡ (Free (with_last_put before.1 (hold_calls before.0)), [])
