-- What clauses say of the jobs and of their seats (nothing of the language).
use Rattle.std.specs.Prelude.{◌≡◌, ℕ, ◌<◌, Option, [], ◌∷◌}
use Rattle.verdict_words.specs.declared.jobs.rule.Hold.TheVariants.{Free, Slot}
use Rattle.verdict_words.specs.Slots.{hold_calls}
use Rattle.verdict_words.specs.declared.jobs.rule.SlotCalls.{SlotCalls}
use Rattle.verdict_words.specs.declared.jobs.Jobs.{Jobs}
use Rattle.verdict_words.specs.declared.jobs.JobSeat.{JobSeat}
use Rattle.verdict_words.specs.declared.jobs.Taken.{Taken}
use Rattle.verdict_words.specs.declared.jobs.Taken.TheVariants.{Got, Held}

module _ {J : Type 0} where
  -- the seat is one of the jobs
  abbrev pub IsJobSeatOf : Jobs J → JobSeat J → Type 0
  IsJobSeatOf jobs s = s.seat.table_id ≡ jobs.table.shared.table_id

  -- the number of slots
  abbrev pub slots_of : Jobs J → ℕ
  slots_of jobs = jobs.slots

  -- what the calls of the seat did, and those of the seats that were joined into it
  abbrev pub calls_of : JobSeat J → SlotCalls (Option J)
  calls_of s = hold_calls s.seat.me.0

  -- the seat holds no slot
  abbrev pub IsFree : JobSeat J → Type 0
  IsFree s = s.seat.me ≡ (Free (calls_of s), [])

  -- the seat holds this slot of the jobs, with some value
  abbrev pub HoldsSlot : Jobs J → JobSeat J → ℕ → Type 0
  HoldsSlot jobs s slot = (slot < jobs.slots) × ((value : Option J) × (s.seat.me ≡ (Slot slot (calls_of s), (slot, value) ∷ [])))

  -- the first fact of what was taken where the answer is Got, and the second where it is Held
  abbrev pub MatchTaken : Taken J → (Option J → Type 0) → Type 0 → Type 0
  MatchTaken (Got job) p q = p job
  MatchTaken Held p q = q
