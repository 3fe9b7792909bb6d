-- What the code reads of a number is the number that stands there.
use Rattle.std.proofs.Common.{◌≡◌, ℕ, Bool, true, false, not, List, [], ◌∷◌, ◌++◌, Option, Some, None, refl, sym, ◌∙◌, ap, subst, eqb-true, arith, ◌≤◌, ◌-◌, length, get_or, take, drop}
use Rattle.std.proofs.Math.Seq.{take-length}
use Rattle.std.specs.Prelude.{◌==◌, if◌then◌else◌}
use Rattle.v_scan.specs.declared.bytes.Base.{Base}
use Rattle.v_scan.specs.Bytes.{is_blank, goes_in_decimal}
use Rattle.v_scan.specs.Numbers.{Plain_decimal, base_of, is_empty, is_digits, form_of, width_of, value_in, written_as, Written, plain_value}
use Rattle.v_scan.specs.Reading.{front_while, back_while, sign_at, behind_sign, digits_at, behind_digits, Digits, NoDigits, tail_with, tail_behind, tail_from, tail_at, number_with, number_behind}
use Rattle.v_scan.specs.Reading.{number_after, number_at, IsTail, TellsNumber}
use Rattle.v_scan.specs.Classes.{IsRest}
use Rattle.v_scan.proofs.Spans.{cancel_back}
use Rattle.v_scan.proofs.NumberLaws.{digits-whole, TailIs, tail-found}

-- Numbers

read-behind : (text size after : List ℕ) → size ≡ front_while goes_in_decimal text → after ≡ back_while goes_in_decimal text →
    number_at text ≡ number_behind size after (front_while is_blank after) (back_while is_blank after)
unfolding number_at
read-behind text size after s a = ap (λ w. number_after w (back_while goes_in_decimal text)) (sym s) ∙ ap (number_after size) (sym a)

plain-behind : (size after gap rest : List ℕ) → ((tail : List ℕ) → rest ≡ 39 ∷ tail → ⊥) → number_behind size after gap rest ≡ (Plain_decimal size, after)
plain-behind size after gap [] h = refl
plain-behind size after gap (b ∷ tail) h = at (b == 39) refl
  where
    at : (t : Bool) → (b == 39) ≡ t → (if t then number_with size gap tail (tail_at tail) else (Plain_decimal size, after)) ≡ (Plain_decimal size, after)
    at true e = absurd (h tail (ap (λ d. d ∷ tail) (eqb-true b 39 e)))
    at false e = refl

pub tells-plain : (text size after rest : List ℕ) (value : Option Written) → size ≡ front_while goes_in_decimal text → after ≡ back_while goes_in_decimal text → rest ≡ back_while is_blank after
    → ((tail : List ℕ) → rest ≡ 39 ∷ tail → ⊥) → value ≡ plain_value size → TellsNumber (number_at text) value after
tells-plain text size after rest value s a r h v =
    let none : (tail : List ℕ) → back_while is_blank after ≡ 39 ∷ tail → ⊥ = λ tail e. h tail (r ∙ e) in
    let read = read-behind text size after s a ∙ plain-behind size after (front_while is_blank after) (back_while is_blank after) none in
    rw read (v, refl)

tail-read : (text size after rest tail : List ℕ) → size ≡ front_while goes_in_decimal text → after ≡ back_while goes_in_decimal text → rest ≡ back_while is_blank after → rest ≡ 39 ∷ tail
    → number_at text ≡ number_with size (front_while is_blank after) tail (tail_at tail)
tail-read text size after rest tail s a r e =
    read-behind text size after s a ∙ ap (number_behind size after (front_while is_blank after)) (sym r ∙ e)

pub tells-none : (text size after rest tail : List ℕ) → size ≡ front_while goes_in_decimal text → after ≡ back_while goes_in_decimal text → rest ≡ back_while is_blank after → rest ≡ 39 ∷ tail
    → tail_at tail ≡ NoDigits → TellsNumber (number_at text) None tail
tells-none text size after rest tail s a r e n =
    let read = tail-read text size after rest tail s a r e ∙ ap (number_with size (front_while is_blank after) tail) n in
    rw read (refl, refl)

pub tells-based : (text size after rest tail : List ℕ) (signed : Bool) (base : Base) (digits back : List ℕ) (value : Option Written)
    → size ≡ front_while goes_in_decimal text → after ≡ back_while goes_in_decimal text → rest ≡ back_while is_blank after → rest ≡ 39 ∷ tail
    → IsTail tail signed base digits back → value ≡ written_as (form_of size signed) (value_in (width_of size) base digits) → TellsNumber (number_at text) value back
tells-based text size after rest tail signed base digits back value s a r e t v =
    let read = tail-read text size after rest tail s a r e ∙ ap (number_with size (front_while is_blank after) tail) t.is in
    rw read (v ∙ ap (λ b. written_as (form_of size b) (value_in (width_of size) base digits)) t.signed_is, refl)

-- Tails

pub no-letter : (tail after : List ℕ) → after ≡ behind_sign tail → after ≡ [] → tail_at tail ≡ NoDigits
no-letter tail after a e = ap (tail_from (sign_at tail)) (sym a ∙ e)

pub no-base : (tail after : List ℕ) (letter : ℕ) (rest : List ℕ) → after ≡ behind_sign tail → after ≡ letter ∷ rest → base_of letter ≡ None → tail_at tail ≡ NoDigits
no-base tail after letter rest a e n = ap (tail_from (sign_at tail)) (sym a ∙ e) ∙ ap (λ o. tail_behind (sign_at tail) letter o rest) n

with-base : (tail after : List ℕ) (letter : ℕ) (base : Base) (rest text back digits : List ℕ) → after ≡ behind_sign tail → after ≡ letter ∷ rest → base_of letter ≡ Some base →
    text ≡ back_while is_blank rest
    → back ≡ behind_digits base text → text ≡ digits ++ back → tail_at tail ≡ tail_with (sign_at tail) letter base (front_while is_blank rest) digits back
with-base tail after letter base rest text back digits a e b t k w =
    let digits_is : digits ≡ digits_at base text = cancel_back digits (digits_at base text) back (sym w ∙ digits-whole base text ∙ ap (λ r. digits_at base text ++ r) (sym k)) in
    ap (tail_from (sign_at tail)) (sym a ∙ e) ∙ ap (λ o. tail_behind (sign_at tail) letter o rest) b
    ∙ ap (λ x. tail_with (sign_at tail) letter base (front_while is_blank rest) (digits_at base x) (behind_digits base x)) (sym t)
    ∙ ap (λ x. tail_with (sign_at tail) letter base (front_while is_blank rest) x (behind_digits base text)) (sym digits_is)
    ∙ ap (tail_with (sign_at tail) letter base (front_while is_blank rest) digits) (sym k)

pub no-digits : (tail after : List ℕ) (letter : ℕ) (base : Base) (rest text back digits : List ℕ) → after ≡ behind_sign tail → after ≡ letter ∷ rest → base_of letter ≡ Some base →
    text ≡ back_while is_blank rest
    → back ≡ behind_digits base text → text ≡ digits ++ back → digits ≡ [] → tail_at tail ≡ NoDigits
no-digits tail after letter base rest text back digits a e b t k w n =
    with-base tail after letter base rest text back digits a e b t k w ∙ ap (λ d. tail_with (sign_at tail) letter base (front_while is_blank rest) d back) n

some-digits : (sign : List ℕ) (letter : ℕ) (base : Base) (space digits back : List ℕ) → (digits ≡ [] → ⊥) → tail_with sign letter base space digits back ≡ Digits sign letter base space digits back
some-digits sign letter base space [] back h = absurd (h refl)
some-digits sign letter base space (b ∷ digits) back h = refl

pub is-tail : (tail after : List ℕ) (signed : Bool) (letter : ℕ) (base : Base) (rest text back digits : List ℕ) → signed ≡ not (is_empty (sign_at tail)) → after ≡ behind_sign tail →
    after ≡ letter ∷ rest
    → base_of letter ≡ Some base → text ≡ back_while is_blank rest → back ≡ behind_digits base text → text ≡ digits ++ back → (digits ≡ [] → ⊥) → IsTail tail signed base digits back
is-tail tail after signed letter base rest text back digits s a e b t k w n =
    record {
      sign = sign_at tail;
      letter = letter;
      space = front_while is_blank rest;
      is = with-base tail after letter base rest text back digits a e b t k w ∙ some-digits (sign_at tail) letter base (front_while is_blank rest) digits back n;
      signed_is = s;
    }

pub tail-digits : (tail : List ℕ) (signed : Bool) (base : Base) (digits back : List ℕ) → IsTail tail signed base digits back → is_digits base digits ≡ true
tail-digits tail signed base digits back t = (subst (TailIs tail) t.is (tail-found tail)).fine

pub digits-rest : (base : Base) (text back : List ℕ) → back ≡ behind_digits base text → IsRest text back
digits-rest base text back e = record { front = digits_at base text; whole = digits-whole base text ∙ ap (λ w. digits_at base text ++ w) (sym e) }

pub head-tail : (xs : List ℕ) → 1 ≤ length xs → xs ≡ get_or xs 0 0 ∷ take (length xs - 1) (drop 1 xs)
head-tail [] h = absurd (let q : 1 ≤ 0 = h in omega arith)
head-tail (x ∷ xs) h = let n : length (x ∷ xs) - 1 ≡ length xs = omega arith in ap (λ w. x ∷ w) (sym (ap (λ k. take k xs) n ∙ take-length xs))

pub empty-nil : (xs : List ℕ) → (length xs == 0) ≡ true → xs ≡ []
empty-nil [] h = refl
empty-nil (x ∷ xs) h = absurd (let q : length (x ∷ xs) ≡ 0 = eqb-true (length (x ∷ xs)) 0 h in omega arith)

pub some-nil : (xs : List ℕ) → (length xs == 0) ≡ false → xs ≡ [] → ⊥
some-nil xs h e = let q : false ≡ true = sym h ∙ ap (λ w. length w == 0) e in absurd (cc)
