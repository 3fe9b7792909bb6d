-- The rule of a board: what its words and the views of its seats are to one another between any two steps (nothing of the language).
use Rattle.std.specs.Prelude.{◌≡◌, ◌≢◌, ℕ, ◌+◌, ◌^◌, ◌≤◌, ◌==◌, ◌&&◌, ◌⊎◌, min, nat_lt, if◌then◌else◌, IsTrue, List, length, slice_index, sum_by, count_by, All}
use mathlib.Core.Option.{some}
use lib.ListN.{get_elem?}
use Rattle.atomic_table.specs.Table.{State}
use Rattle.vf_base.specs.Base.{fault_number}
use Rattle.verdict_words.specs.declared.view.View.{View}
use Rattle.verdict_words.specs.declared.view.Mark.{Mark}
use Rattle.verdict_words.specs.declared.rule.Sizes.{Sizes}
use Rattle.verdict_words.specs.Codes.{code_of}
use Rattle.verdict_words.specs.Views.{spent_view}

-- how often a claim stands in a list
abbrev pub times : ℕ → List ℕ → ℕ
times claim claims = count_by (λ c. c == claim) claims

-- how often a fault stands in a list
abbrev pub marks : ℕ → List Mark → ℕ
marks fault list = count_by (λ (m : Mark). fault_number m.fault == fault) list

-- how often a fault stands in a list with this code
abbrev pub marks_with : ℕ → ℕ → List Mark → ℕ
marks_with fault code list = count_by (λ (m : Mark). (fault_number m.fault == fault) && (m.code == code)) list

-- how often a fault stands in the `moved` lists of all views
abbrev pub moves_of : ℕ → List View → ℕ
moves_of fault views = sum_by (λ (v : View). marks fault v.moved) views

-- how often a fault stands there with this code
abbrev pub moves_with : ℕ → ℕ → List View → ℕ
moves_with fault code views = sum_by (λ (v : View). marks_with fault code v.moved) views

-- 1 below a bound, and else 0
abbrev pub once_below : ℕ → ℕ → ℕ
once_below x bound = if nat_lt x bound then 1 else 0

-- word 0 counts the calls of `claim`
abbrev pub counter : List ℕ → ℕ
counter words = slice_index words 0

-- each fault has one further word
abbrev pub word_of : List ℕ → ℕ → ℕ
word_of words fault = slice_index words (fault + 1)

-- each view meets a fact
abbrev pub EachView : (View → Type 0) → List View → Type 0
EachView P views = (id : ℕ) (v : View) → get_elem? views id ≡ some v → P v

-- Of a fault, by its word and by how often it stands in `moved` lists, at all and with its code:
-- the word is 0 and no list has the fault; or the word is the code of the fault's grade, and the lists have the fault once, with this code.
abbrev pub Moved : List ℕ → ℕ → ℕ → ℕ → ℕ → Type 0
Moved codes fault word listed with_code =
    ((word ≡ 0) × (listed ≡ 0)) ⊎ ((word ≢ 0) × (word ≡ code_of codes fault) × (listed ≡ 1) × (with_code ≡ 1))

-- each pair is a fault with its word, which isn't 0
abbrev pub Seen : List ℕ → List Mark → Type 0
Seen words list = All (λ (m : Mark). (word_of words (fault_number m.fault) ≡ m.code) × (m.code ≢ 0)) list

-- the calls are within the share, and a view without a share is spent
abbrev pub Within : View → Type 0
Within v = (v.calls ≤ v.share) × (v.share ≡ 0 → v ≡ spent_view)

-- the words and the views of a board, by the codes of the faults' grades
pub record Kept (codes : List ℕ) (sizes : Sizes) (words : List ℕ) (views : List View) : Type 0 where
  pub one_each : length words ≡ sizes.faults + 1
  -- the `claimed` lists together have each number below both the counter and the claims once, and no other
  pub claimed : (x : ℕ) → sum_by (λ (v : View). times x v.claimed) views ≡ once_below x (min (counter words) sizes.claims)
  pub moved : (f : ℕ) → Moved codes f (word_of words f) (moves_of f views) (moves_with f (code_of codes f) views)
  pub seen : EachView (λ (v : View). Seen words v.seen) views
  pub shares : sum_by (λ (v : View). v.share) views ≡ 2 ^ 62
  pub calls : sum_by (λ (v : View). v.calls) views ≡ counter words
  pub within : EachView Within views
  -- where a view is dry, the counter has reached the claims
  pub dry : EachView (λ (v : View). IsTrue v.dry → sizes.claims ≤ counter words) views

-- the rule over a table's state
abbrev pub Holds : List ℕ → Sizes → State (Unit {0}) View → Type 0
Holds codes sizes s = Kept codes sizes s.words s.views

-- What is known once no other seat is left, of the words by fault and the last seat's view: the words that aren't 0 are those of the faults
-- that the seat moved, each code that it has seen is its fault's word, and where it is dry it drew each claim once.
pub record Closing (codes : List ℕ) (sizes : Sizes) (words : List ℕ) (v : View) : Type 0 where
  pub one_each : length words ≡ sizes.faults
  pub moved : (f : ℕ) → Moved codes f (slice_index words f) (marks f v.moved) (marks_with f (code_of codes f) v.moved)
  pub seen : All (λ (m : Mark). (slice_index words (fault_number m.fault) ≡ m.code) × (m.code ≢ 0)) v.seen
  pub claimed : IsTrue v.dry → (x : ℕ) → times x v.claimed ≡ once_below x sizes.claims
