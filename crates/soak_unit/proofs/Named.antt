-- The names of the generated text are names: no word of the language has a digit behind its first letter (IEEE 1364-2001, clause 2.7 and annex B).
use Rattle.std.proofs.Common.{◌≡◌, ℕ, ◌<◌, ◌^◌, Bool, true, false, ◌||◌, not, List, [], ◌∷◌, Some, None, refl, sym, ap, subst, ◌∙◌}
use Rattle.std.specs.Prelude.{if◌then◌else◌}
use Rattle.std.specs.List.{list_any, list_all}
use Rattle.std.specs.Fmt.{decimal}
use Rattle.std.specs.Str.{bytes_eq}
use Rattle.std.proofs.lemmas.Bool.{and_parts, false≢true}
use Rattle.std.proofs.lemmas.Slice.Eq.{bytes_eq-Decides}
use Rattle.v_scan.specs.Bytes.{is_digit}
use Rattle.v_readers.specs.declared.class.Class.{Class}
use Rattle.v_readers.specs.Classes.{grammar_words, refused_words, class_among, grammar_class, is_refused_word, other_class, class_or, word_class, IsName}
use Rattle.soak_tree.specs.SoakUnits.{clock_name, top_name, register_name, wire_name, gate_name}
use Rattle.soak_tree.proofs.Digits.{decimal-digits}

-- a digit stands behind the first byte
abbrev second_digit : List ℕ → Bool
second_digit [] = false
second_digit (a ∷ []) = false
second_digit (a ∷ b ∷ bs) = is_digit b

-- bytes with a second digit are no word without one
other-word : (bytes word : List ℕ) → second_digit bytes ≡ true → second_digit word ≡ false → bytes_eq bytes word ≡ false
other-word bytes word has none = by (bytes_eq bytes word) refl
  where
    by : (b : Bool) → bytes_eq bytes word ≡ b → b ≡ false
    by false e = refl
    by true e = absurd (false≢true (sym none ∙ (ap second_digit (sym ((bytes_eq-Decides bytes word).0 e)) ∙ has)))

abbrev lacks_digit : List ℕ → Bool
lacks_digit word = not (second_digit word)

not-true : (b : Bool) → not b ≡ true → b ≡ false
not-true false e = refl
not-true true e = absurd (false≢true e)

none-among : (words : List (List ℕ × Class)) (bytes : List ℕ) → list_all (λ (w : List ℕ × Class). lacks_digit w.0) words ≡ true → second_digit bytes ≡ true → class_among words bytes ≡ None
none-among [] bytes all has = refl
none-among (w ∷ words) bytes all has =
    let parts = and_parts (lacks_digit w.0) (list_all (λ (w : List ℕ × Class). lacks_digit w.0) words) all in
    ap (λ t. if t then Some w.1 else class_among words bytes) (other-word bytes w.0 has (not-true (second_digit w.0) parts.0)) ∙ none-among words bytes parts.1 has

none-refused : (words : List (List ℕ)) (bytes : List ℕ) → list_all lacks_digit words ≡ true → second_digit bytes ≡ true → list_any (bytes_eq bytes) words ≡ false
none-refused [] bytes all has = refl
none-refused (w ∷ words) bytes all has =
    let parts = and_parts (lacks_digit w) (list_all lacks_digit words) all in
    ap (λ t. t || list_any (bytes_eq bytes) words) (other-word bytes w has (not-true (second_digit w) parts.0)) ∙ none-refused words bytes parts.1 has

digit-name : (bytes : List ℕ) → second_digit bytes ≡ true → IsName bytes
unfolding word_class grammar_class is_refused_word
digit-name bytes has =
    ap (λ c. class_or c (other_class (is_refused_word bytes))) (none-among grammar_words bytes refl has) ∙ ap other_class (none-refused refused_words bytes refl has)

numbered-name : (letter n : ℕ) → n < 2 ^ 64 → IsName (letter ∷ decimal n)
numbered-name letter n low =
    let h = decimal-digits n low in
    digit-name (letter ∷ decimal n) (subst (λ ds. second_digit (letter ∷ ds) ≡ true) (sym h.whole) h.is)

pub register-named : (n : ℕ) → n < 2 ^ 64 → IsName (register_name n)
register-named n low = numbered-name 114 n low

pub wire-named : (n : ℕ) → n < 2 ^ 64 → IsName (wire_name n)
wire-named n low = numbered-name 119 n low

pub gate-named : (n : ℕ) → n < 2 ^ 64 → IsName (gate_name n)
gate-named n low = numbered-name 103 n low

pub clock-named : IsName clock_name
unfolding word_class grammar_class is_refused_word
clock-named = refl

pub top-named : IsName top_name
unfolding word_class grammar_class is_refused_word
top-named = refl
