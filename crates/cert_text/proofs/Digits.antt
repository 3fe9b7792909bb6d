-- Names and numbers are words.
use Rattle.std.proofs.Common.{◌≡◌, ℕ, zero, suc, ◌+◌, ◌≤◌, Bool, true, false, List, [], ◌∷◌, ◌++◌, ◌||◌, Option, Some, None, refl, subst, arith}
use Rattle.std.specs.Prelude.{◌/◌, ◌%◌, ◌==◌, nat_eq, nat_lt, slice_get, decimal, if◌then◌else◌}
use Rattle.std.specs.List.{list_any}
use Rattle.std.specs.Fmt.{digit_glyph, digits_onto, digits}
use Rattle.std.proofs.lemmas.Bool.{or_parts, or_from, ne_eqb}
use Rattle.std.proofs.lemmas.Option.{same_Some, none-some}
use Rattle.vf_base.specs.Lists.{AllHold}
use Rattle.v_design.specs.Designs.{FlatObject, FlatNode, FlatDesign, FaultSite, VariableBit, OutputBit, GateTerminal}
use Rattle.v_design.specs.Sites.{index_of_bit, index_text, bit_name, terminal_name, site_name}
use Rattle.v_design.specs.WellFormed.{ends_word, IsOneWord, HasNamesOfOneWord}
use Rattle.v_design.specs.declared.logic.ObjectKind.{ObjectKind}
use Rattle.v_design.specs.declared.logic.ObjectKind.TheVariants.{Var, Word, Net}
use Rattle.grade_report.specs.Objects.{has_pieces, between, bounds_text, piece_text, text_by_kind, text_if, object_text}

pub word-append : (one other : List ℕ) → IsOneWord one → IsOneWord other → IsOneWord (one ++ other)
word-append [] other h k = k
word-append (b ∷ bs) other h k = (h.0, word-append bs other h.1 k)

-- Numbers

high-word : (b : ℕ) → 48 ≤ b → ends_word b ≡ false
high-word b high =
    or_from (nat_eq b 9 || nat_eq b 10 || nat_eq b 13) (nat_eq b 32)
    (or_from (nat_eq b 9 || nat_eq b 10) (nat_eq b 13) (or_from (nat_eq b 9) (nat_eq b 10) (ne_eqb b 9 (λ e. omega arith)) (ne_eqb b 10 (λ e. omega arith))) (ne_eqb b 13 (λ e. omega arith)))
    (ne_eqb b 32 (λ e. omega arith))

glyph-high : (d : ℕ) → 48 ≤ digit_glyph false d
glyph-high d = by_test (nat_lt d 10)
  where
    by_test : (test : Bool) → 48 ≤ (if test then 48 + d else (if false then 55 + d else 87 + d))
    by_test true = omega arith
    by_test false = omega arith

digits-all : (P : ℕ → Type 0) → ((d : ℕ) → P (digit_glyph false d)) → (count n : ℕ) (behind : List ℕ) → AllHold P behind → AllHold P (digits_onto count 10 false n behind)
digits-all P each zero n behind h = h
digits-all P each (suc count) n behind h =
    let more = digit_glyph false (n % 10) ∷ behind in
    let here : AllHold P more = (each (n % 10), h) in
    by_test (n / 10 == 0) here (digits-all P each count (n / 10) more here)
  where
    by_test : (test : Bool) → AllHold P (digit_glyph false (n % 10) ∷ behind) → AllHold P (digits_onto count 10 false (n / 10) (digit_glyph false (n % 10) ∷ behind)) →
        AllHold P (if test then digit_glyph false (n % 10) ∷ behind else digits_onto count 10 false (n / 10) (digit_glyph false (n % 10) ∷ behind))
    by_test true here later = here
    by_test false here later = later

-- what holds of each byte from 48 on holds of the digits of a number
pub decimal-all : (P : ℕ → Type 0) → ((b : ℕ) → 48 ≤ b → P b) → (n : ℕ) → AllHold P (decimal n)
unfolding digits
decimal-all P each n = digits-all P (λ d. each (digit_glyph false d) (glyph-high d)) 64 n [] tt

-- they are a word
pub decimal-word : (n : ℕ) → IsOneWord (decimal n)
decimal-word n = decimal-all (λ (b : ℕ). ends_word b ≡ false) high-word n

-- a word that is written out
pub closed-word : (word : List ℕ) → list_any ends_word word ≡ false → IsOneWord word
closed-word [] h = tt
closed-word (b ∷ bs) h = let parts = or_parts (ends_word b) (list_any ends_word bs) h in (parts.0, closed-word bs parts.1)

-- Names

index-word : (ranged : Bool) (index : ℕ) → IsOneWord (index_text ranged index)
index-word true index = (refl, word-append (decimal index) (93 ∷ []) (decimal-word index) (refl, tt))
index-word false index = tt

bounds-word : (high low : ℕ) → IsOneWord (bounds_text high low)
bounds-word high low = by_test (nat_eq high low)
  where
    by_test : (test : Bool) → IsOneWord (if test then decimal high else decimal high ++ 58 ∷ decimal low)
    by_test true = decimal-word high
    by_test false = word-append (decimal high) (58 ∷ decimal low) (decimal-word high) (refl, decimal-word low)

between-word : (index : List ℕ) → IsOneWord index → IsOneWord (between index)
between-word index h = (refl, word-append index (93 ∷ []) h (refl, tt))

piece-word : (several : Bool) (object : FlatObject) → IsOneWord object.name → IsOneWord (piece_text several object)
piece-word true object h = word-append object.name (between (bounds_text object.high object.low)) h (between-word (bounds_text object.high object.low) (bounds-word object.high object.low))
piece-word false object h = h

kind-word : (design : FlatDesign) (object : FlatObject) (kind : ObjectKind) → IsOneWord object.name → IsOneWord (text_by_kind design object kind)
kind-word design object Var h = h
kind-word design object Word h = word-append object.name (between (decimal object.address)) h (between-word (decimal object.address) (decimal-word object.address))
kind-word design object Net h = piece-word (has_pieces design object.name) object h

held-at : {A : Type 0} (P : A → Type 0) (xs : List A) (i : ℕ) (x : A) → AllHold P xs → slice_get xs i ≡ Some x → P x
held-at P [] i x h e = absurd (none-some x e)
held-at P (y ∷ xs) zero x h e = subst P (same_Some y x e) h.0
held-at P (y ∷ xs) (suc i) x h e = held-at P xs i x h.1 e

-- the text of an object is a word
object-word : (design : FlatDesign) (found : Option FlatObject) → ((object : FlatObject) → found ≡ Some object → IsOneWord object.name) → IsOneWord (text_if design found)
object-word design None each = tt
object-word design (Some object) each = kind-word design object object.kind (each object refl)

pub object_text-word : (design : FlatDesign) (object : ℕ) → HasNamesOfOneWord design → IsOneWord (object_text design object)
object_text-word design object words =
    object-word design (slice_get design.objects object) (λ found e. held-at (λ (o : FlatObject). IsOneWord o.name) design.objects object found words.objects e)

bit-word : (found : Option FlatObject) (bit : ℕ) → ((object : FlatObject) → found ≡ Some object → IsOneWord object.name) → IsOneWord (bit_name found bit)
bit-word None bit each = tt
bit-word (Some object) bit each =
    word-append object.name (index_text object.ranged (index_of_bit object.high object.low bit)) (each object refl) (index-word object.ranged (index_of_bit object.high object.low bit))

terminal-word : (found : Option FlatNode) (terminal : ℕ) → ((node : FlatNode) → found ≡ Some node → IsOneWord node.name) → IsOneWord (terminal_name found terminal)
terminal-word None terminal each = tt
terminal-word (Some node) terminal each = word-append node.name (46 ∷ decimal terminal) (each node refl) (refl, decimal-word terminal)

-- the name of a site is a word
pub site-word : (design : FlatDesign) (site : FaultSite) → HasNamesOfOneWord design → IsOneWord (site_name design site)
site-word design (VariableBit object bit) words =
    bit-word (slice_get design.objects object) bit (λ found e. held-at (λ (o : FlatObject). IsOneWord o.name) design.objects object found words.objects e)
site-word design (OutputBit node object bit) words =
    bit-word (slice_get design.objects object) bit (λ found e. held-at (λ (o : FlatObject). IsOneWord o.name) design.objects object found words.objects e)
site-word design (GateTerminal node terminal) words =
    terminal-word (slice_get design.nodes node) terminal (λ found e. held-at (λ (n : FlatNode). IsOneWord n.name) design.nodes node found words.nodes e)
