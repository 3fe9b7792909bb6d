-- The number at the front of a text is the longest, and has one spelling.
use Rattle.std.proofs.Common.{◌≡◌, ℕ, suc, ◌+◌, ◌≤◌, Bool, true, false, ◌&&◌, ◌||◌, List, [], ◌∷◌, ◌++◌, length, Option, Some, None, refl, sym, ◌∙◌, ap, subst, arith, append_assoc, length-append}
use Rattle.std.proofs.Common.{inl, inr, ◌⊎◌, eqb-true, eq-eqb}
use Rattle.std.proofs.lemmas.Bool.Decides.{nat_tests}
use Rattle.std.proofs.lemmas.List.{append-nil}
use Rattle.std.specs.Prelude.{◌==◌, if◌then◌else◌}
use Rattle.v_scan.specs.declared.bytes.Base.{Base}
use Rattle.v_scan.specs.declared.bytes.Base.TheVariants.{Binary, Octal, Decimal, Hexadecimal}
use Rattle.v_scan.specs.Bytes.{is_blank, is_digit, goes_in_decimal, each, begins_and_goes_on, Stops}
use Rattle.v_scan.specs.Numbers.{Number, Plain_decimal, Unfinished, Based, base_of, is_digit_of, is_digits, goes_in_digits, stands_alone, is_empty, is_sign, is_unknown_digit, number_bytes, IsSize}
use Rattle.v_scan.specs.Numbers.{IsNumber}
use Rattle.v_scan.specs.Reading.{front_while, back_while, is_sign_byte, sign_at, behind_sign, digits_at, behind_digits, Tail, NoDigits, Digits, tail_with, tail_behind, tail_from, tail_at, Numbered}
use Rattle.v_scan.specs.Reading.{number_with, number_behind, number_after, number_at}
use Rattle.v_scan.proofs.Spans.{and-true, or-true, true-false, heads, tails, no_cons, while-whole, while-each, while-longest, while-exact, while-behind, while-all, while-rest}

-- Bytes

blank-decimal : (b : ℕ) → is_blank b ≡ true → goes_in_decimal b ≡ false
blank-decimal b h = grind (arith, nat_tests)

unknown-blank : (b : ℕ) → is_unknown_digit b ≡ true → is_blank b ≡ false
unknown-blank b h = grind (arith, nat_tests)

digit-blank : (base : Base) (b : ℕ) → is_digit_of base b ≡ true → is_blank b ≡ false
digit-blank Binary b h = grind (arith, nat_tests)
digit-blank Octal b h = grind (arith, nat_tests)
digit-blank Decimal b h = grind (arith, nat_tests)
digit-blank Hexadecimal b h = grind (arith, nat_tests)

alone-blank : (base : Base) (b : ℕ) → stands_alone base b ≡ true → is_blank b ≡ false
alone-blank Binary b h = absurd (let q : false ≡ true = h in cc)
alone-blank Octal b h = absurd (let q : false ≡ true = h in cc)
alone-blank Decimal b h = unknown-blank b h
alone-blank Hexadecimal b h = absurd (let q : false ≡ true = h in cc)

digit-decimal : (b : ℕ) → is_digit b ≡ true → goes_in_decimal b ≡ true
digit-decimal b h = rw h refl

-- no sign is a base
sign-base : (b : ℕ) (base : Base) → base_of b ≡ Some base → is_sign_byte b ≡ false
sign-base b base e = at (b == 115) (b == 83) refl refl
  where
    none : (base : Base) → ◌≡◌ {A = Option Base} None (Some base) → ⊥
    none base g = cc

    at : (s t : Bool) → (b == 115) ≡ s → (b == 83) ≡ t → (s || t) ≡ false
    at true t f g = absurd (none base (sym (ap base_of (eqb-true b 115 f)) ∙ e))
    at false true f g = absurd (none base (sym (ap base_of (eqb-true b 83 g)) ∙ e))
    at false false f g = refl

-- Digits

module _ (base : Base) where
  pub digits-whole : (text : List ℕ) → text ≡ digits_at base text ++ behind_digits base text
  digits-whole [] = refl
  digits-whole (b ∷ bs) = at (is_digit_of base b) (stands_alone base b)
    where
      at : (d s : Bool) → b ∷ bs ≡ (if d then b ∷ front_while (goes_in_digits base) bs else (if s then b ∷ [] else []))
          ++ (if d then back_while (goes_in_digits base) bs else (if s then bs else b ∷ bs))
      at true s = ap (λ w. b ∷ w) (while-whole (goes_in_digits base) bs)
      at false true = refl
      at false false = refl

  pub digits-fine : (text : List ℕ) → (digits_at base text ≡ []) ⊎ (is_digits base (digits_at base text) ≡ true)
  digits-fine [] = inl refl
  digits-fine (b ∷ bs) = at (is_digit_of base b) (stands_alone base b) refl refl
    where
      Fine : List ℕ → Type 0
      Fine w = (w ≡ []) ⊎ (is_digits base w ≡ true)

      or-all : (a : Bool) → (a || true) ≡ true
      or-all true = refl
      or-all false = refl

      at : (d s : Bool) → is_digit_of base b ≡ d → stands_alone base b ≡ s
          → ((if d then b ∷ front_while (goes_in_digits base) bs else (if s then b ∷ [] else [])) ≡ [])
          ⊎ (is_digits base (if d then b ∷ front_while (goes_in_digits base) bs else (if s then b ∷ [] else [])) ≡ true)
      at true s e f = inr (rw (e, while-each (goes_in_digits base) bs) refl)
      at false true e f = inr (rw (e, f) refl)
      at false false e f = inl refl

  pub digits-longest : (text v more : List ℕ) → is_digits base v ≡ true → v ++ more ≡ text → length v ≤ length (digits_at base text)
  digits-longest text [] more h e = omega arith
  digits-longest [] (c ∷ v) more h e = no_cons c (v ++ more) (sym e)
  digits-longest (b ∷ bs) (c ∷ v) more h e = subst (λ d. length (d ∷ v) ≤ length (digits_at base (b ∷ bs))) (sym same)
      (by (or-true (is_digit_of base c && each (goes_in_digits base) v) (stands_alone base c && is_empty v) h))
    where
      same : c ≡ b
      same = heads c b (v ++ more) bs e

      rest : v ++ more ≡ bs
      rest = tails c b (v ++ more) bs e

      empty-short : (w : List ℕ) → is_empty w ≡ true → length w ≤ 0
      empty-short [] g = omega arith
      empty-short (d ∷ w) g = absurd (let q : false ≡ true = g in cc)

      alone : (t : Bool) → stands_alone base b ≡ true → length v ≤ 0 → length (b ∷ v) ≤ length (if t then b ∷ front_while (goes_in_digits base) bs else (if stands_alone base b then b ∷ [] else []))
      alone true g short = omega (arith, short)
      alone false g short = rw g (omega (arith, short))

      by : (((is_digit_of base c && each (goes_in_digits base) v) ≡ true) ⊎ ((stands_alone base c && is_empty v) ≡ true)) → length (b ∷ v) ≤ length (digits_at base (b ∷ bs))
      by (inl g) =
          let both = and-true (is_digit_of base c) (each (goes_in_digits base) v) g in
          let digit : is_digit_of base b ≡ true = ap (is_digit_of base) (sym same) ∙ both.0 in
          rw digit (omega (arith, while-longest (goes_in_digits base) bs v more both.1 rest))
      by (inr g) =
          let both = and-true (stands_alone base c) (is_empty v) g in
          alone (is_digit_of base b) (ap (stands_alone base) (sym same) ∙ both.0) (empty-short v both.1)

  pub digits-all : (v : List ℕ) → is_digits base v ≡ true → digits_at base v ≡ v
  digits-all [] h = refl
  digits-all (c ∷ v) h = by (or-true (is_digit_of base c && each (goes_in_digits base) v) (stands_alone base c && is_empty v) h)
    where
      empty-nil : (w : List ℕ) → is_empty w ≡ true → w ≡ []
      empty-nil [] g = refl
      empty-nil (d ∷ w) g = absurd (let q : false ≡ true = g in cc)

      alone : (w : List ℕ) → w ≡ [] → stands_alone base c ≡ true → (t : Bool) → (if t then c ∷ front_while (goes_in_digits base) w else (if stands_alone base c then c ∷ [] else [])) ≡ c ∷ w
      alone w e g true = ap (λ u. c ∷ front_while (goes_in_digits base) u) e ∙ ap (λ u. c ∷ u) (sym e)
      alone w e g false = rw g (ap (λ u. c ∷ u) (sym e))

      by : (((is_digit_of base c && each (goes_in_digits base) v) ≡ true) ⊎ ((stands_alone base c && is_empty v) ≡ true)) → digits_at base (c ∷ v) ≡ c ∷ v
      by (inl g) =
          let both = and-true (is_digit_of base c) (each (goes_in_digits base) v) g in
          rw both.0 (ap (λ u. c ∷ u) (while-all (goes_in_digits base) v both.1))
      by (inr g) =
          let both = and-true (stands_alone base c) (is_empty v) g in
          alone v (empty-nil v both.1) both.0 (is_digit_of base c)

  pub digits-blank : (digits more : List ℕ) → is_digits base digits ≡ true → Stops is_blank (digits ++ more)
  digits-blank [] more h = absurd (let q : false ≡ true = h in cc)
  digits-blank (c ∷ v) more h = by (or-true (is_digit_of base c && each (goes_in_digits base) v) (stands_alone base c && is_empty v) h)
    where
      by : (((is_digit_of base c && each (goes_in_digits base) v) ≡ true) ⊎ ((stands_alone base c && is_empty v) ≡ true)) → is_blank c ≡ false
      by (inl g) = digit-blank base c (and-true (is_digit_of base c) (each (goes_in_digits base) v) g).0
      by (inr g) = alone-blank base c (and-true (stands_alone base c) (is_empty v) g).0

-- Signs

sign-whole : (tail : List ℕ) → tail ≡ sign_at tail ++ behind_sign tail
sign-whole [] = refl
sign-whole (b ∷ bs) = at (is_sign_byte b)
  where
    at : (t : Bool) → b ∷ bs ≡ (if t then b ∷ [] else []) ++ (if t then bs else b ∷ bs)
    at true = refl
    at false = refl

sign-fine : (tail : List ℕ) → is_sign (sign_at tail) ≡ true
sign-fine [] = refl
sign-fine (b ∷ bs) = at (is_sign_byte b) refl
  where
    at : (t : Bool) → is_sign_byte b ≡ t → is_sign (if t then b ∷ [] else []) ≡ true
    at true e = rw e refl
    at false e = refl

sign-read : (sign : List ℕ) (letter : ℕ) (base : Base) (after : List ℕ) → is_sign sign ≡ true → base_of letter ≡ Some base
    → (sign_at (sign ++ letter ∷ after) ≡ sign) × (behind_sign (sign ++ letter ∷ after) ≡ letter ∷ after)
sign-read [] letter base after h e = let no = sign-base letter base e in (rw no refl, rw no refl)
sign-read (s ∷ []) letter base after h e = let yes = (and-true (is_sign_byte s) true h).0 in (rw yes refl, rw yes refl)
sign-read (s ∷ c ∷ sign) letter base after h e = absurd (let q : false ≡ true = (and-true (is_sign_byte s) false h).1 in cc)

-- What stands behind the quote

tail-read : (sign : List ℕ) (letter : ℕ) (base : Base) (space digits more : List ℕ)
    → is_sign sign ≡ true → base_of letter ≡ Some base → each is_blank space ≡ true → is_digits base digits ≡ true
    → tail_at (sign ++ letter ∷ (space ++ (digits ++ more))) ≡ tail_with sign letter base space (digits_at base (digits ++ more)) (behind_digits base (digits ++ more))
tail-read sign letter base space digits more s l b d =
    let read = sign-read sign letter base (space ++ (digits ++ more)) s l in
    let stops = digits-blank base digits more d in
    let front = while-exact is_blank space (digits ++ more) b stops in
    let back = while-behind is_blank space (digits ++ more) b stops in
    rw (read.0, read.1, l, front, back) refl

-- the parts of a tail that has digits
pub record FineTail (tail sign : List ℕ) (letter : ℕ) (base : Base) (space digits back : List ℕ) : Type 0 where
  pub signed : is_sign sign ≡ true
  pub based : base_of letter ≡ Some base
  pub blank : each is_blank space ≡ true
  pub fine : is_digits base digits ≡ true
  pub whole : tail ≡ sign ++ letter ∷ (space ++ (digits ++ back))

abbrev pub TailIs : List ℕ → Tail → Type 0
TailIs tail NoDigits = Unit {0}
TailIs tail (Digits sign letter base space digits back) = FineTail tail sign letter base space digits back

tail-with : (tail sign : List ℕ) (letter : ℕ) (base : Base) (space digits back : List ℕ) → is_sign sign ≡ true → base_of letter ≡ Some base → each is_blank space ≡ true
    → ((digits ≡ []) ⊎ (is_digits base digits ≡ true)) → tail ≡ sign ++ letter ∷ (space ++ (digits ++ back)) → TailIs tail (tail_with sign letter base space digits back)
tail-with tail sign letter base space [] back s l b d w = tt
tail-with tail sign letter base space (c ∷ digits) back s l b (inl e) w = no_cons c digits (sym e)
tail-with tail sign letter base space (c ∷ digits) back s l b (inr h) w = record { signed = s; based = l; blank = b; fine = h; whole = w }

tail-behind : (tail sign : List ℕ) (letter : ℕ) (o : Option Base) (after : List ℕ) → base_of letter ≡ o → is_sign sign ≡ true → tail ≡ sign ++ letter ∷ after →
    TailIs tail (tail_behind sign letter o after)
tail-behind tail sign letter None after e s w = tt
tail-behind tail sign letter (Some base) after e s w =
    let behind = back_while is_blank after in
    tail-with tail sign letter base (front_while is_blank after) (digits_at base behind) (behind_digits base behind) s e (while-each is_blank after) (digits-fine base behind)
    (w ∙ ap (λ t. sign ++ letter ∷ t) (while-whole is_blank after) ∙ ap (λ t. sign ++ letter ∷ (front_while is_blank after ++ t)) (digits-whole base behind))

tail-from : (tail sign after : List ℕ) → is_sign sign ≡ true → tail ≡ sign ++ after → TailIs tail (tail_from sign after)
tail-from tail sign [] s w = tt
tail-from tail sign (b ∷ after) s w = tail-behind tail sign b (base_of b) after refl s w

pub tail-found : (tail : List ℕ) → TailIs tail (tail_at tail)
tail-found tail = tail-from tail (sign_at tail) (behind_sign tail) (sign-fine tail) (sign-whole tail)

-- Numbers with a quote

gap-stops : (gap tail : List ℕ) → each is_blank gap ≡ true → Stops goes_in_decimal (gap ++ 39 ∷ tail)
gap-stops [] tail h = refl
gap-stops (g ∷ gap) tail h = blank-decimal g (and-true (is_blank g) (each is_blank gap) h).0

pub number-sized : (size gap tail : List ℕ) → IsSize size gap → number_at (size ++ (gap ++ 39 ∷ tail)) ≡ number_with size gap tail (tail_at tail)
unfolding number_at
number-sized [] gap tail h = ap (λ g. number_at (g ++ 39 ∷ tail)) h ∙ ap (λ g. number_with [] g tail (tail_at tail)) (sym h)
number-sized (b ∷ size) gap tail h =
    let all : each goes_in_decimal (b ∷ size) ≡ true = rw (digit-decimal b h.0, h.1) refl in
    let stops = gap-stops gap tail h.2 in
    let front : front_while goes_in_decimal (b ∷ (size ++ (gap ++ 39 ∷ tail))) ≡ b ∷ size = while-exact goes_in_decimal (b ∷ size) (gap ++ 39 ∷ tail) all stops in
    let back : back_while goes_in_decimal (b ∷ (size ++ (gap ++ 39 ∷ tail))) ≡ gap ++ 39 ∷ tail = while-behind goes_in_decimal (b ∷ size) (gap ++ 39 ∷ tail) all stops in
    let blanks = while-exact is_blank gap (39 ∷ tail) h.2 refl in
    let quote = while-behind is_blank gap (39 ∷ tail) h.2 refl in
    ap (λ w. number_after w (back_while goes_in_decimal (b ∷ (size ++ (gap ++ 39 ∷ tail))))) front
    ∙ ap (λ w. number_after (b ∷ size) w) back
    ∙ ap (λ w. number_behind (b ∷ size) (gap ++ 39 ∷ tail) w (back_while is_blank (gap ++ 39 ∷ tail))) blanks
    ∙ ap (λ w. number_behind (b ∷ size) (gap ++ 39 ∷ tail) gap w) quote

-- The number at the front

-- a number, and the bytes behind it, that make up a text
pub record IsNumbered (text : List ℕ) (n : Numbered) : Type 0 where
  pub fine : IsNumber n.0
  pub whole : text ≡ number_bytes n.0 ++ n.1

quote-whole : (size gap tail : List ℕ) → size ++ (gap ++ 39 ∷ tail) ≡ (size ++ (gap ++ 39 ∷ [])) ++ tail
quote-whole size gap tail =
    ap (λ w. size ++ w) (sym (append_assoc gap (39 ∷ []) tail)) ∙ sym (append_assoc size (gap ++ 39 ∷ []) tail)

based-whole : (size gap sign : List ℕ) (letter : ℕ) (space digits back : List ℕ)
    → size ++ (gap ++ 39 ∷ (sign ++ letter ∷ (space ++ (digits ++ back)))) ≡ (size ++ (gap ++ 39 ∷ (sign ++ letter ∷ (space ++ digits)))) ++ back
based-whole size gap sign letter space digits back =
    ap (λ w. size ++ (gap ++ 39 ∷ (sign ++ letter ∷ w))) (sym (append_assoc space digits back))
    ∙ ap (λ w. size ++ (gap ++ 39 ∷ w)) (sym (append_assoc sign (letter ∷ (space ++ digits)) back))
    ∙ ap (λ w. size ++ w) (sym (append_assoc gap (39 ∷ (sign ++ letter ∷ (space ++ digits))) back))
    ∙ sym (append_assoc size (gap ++ 39 ∷ (sign ++ letter ∷ (space ++ digits))) back)

with-tail : (text size gap tail : List ℕ) (t : Tail) → IsSize size gap → TailIs tail t → text ≡ size ++ (gap ++ 39 ∷ tail) → IsNumbered text (number_with size gap tail t)
with-tail text size gap tail NoDigits s is w = record { fine = s; whole = w ∙ quote-whole size gap tail }
with-tail text size gap tail (Digits sign letter base space digits back) s is w =
    record {
      fine = (s, is.signed, is.based, is.blank, is.fine);
      whole = w ∙ ap (λ t. size ++ (gap ++ 39 ∷ t)) is.whole ∙ based-whole size gap sign letter space digits back;
    }

-- a byte that begins a number
abbrev pub Begins : ℕ → Type 0
Begins b = (is_digit b ≡ true) ⊎ (b ≡ 39)

behind-size : (text size after gap rest : List ℕ) → text ≡ size ++ after → after ≡ gap ++ rest → ((tail : List ℕ) → rest ≡ 39 ∷ tail → IsSize size gap)
    → (((tail : List ℕ) → rest ≡ 39 ∷ tail → ⊥) → begins_and_goes_on is_digit goes_in_decimal size ≡ true) → IsNumbered text (number_behind size after gap rest)
behind-size text size after gap [] w v sized plain = record { fine = plain (λ tail e. no_cons 39 tail e); whole = w }
behind-size text size after gap (b ∷ tail) w v sized plain = at (b == 39) refl
  where
    at : (t : Bool) → (b == 39) ≡ t → IsNumbered text (if t then number_with size gap tail (tail_at tail) else (Plain_decimal size, after))
    at true e =
        let is : b ≡ 39 = eqb-true b 39 e in
        let same : ◌≡◌ {A = List ℕ} (b ∷ tail) (39 ∷ tail) = ap (λ d. d ∷ tail) is in
        with-tail text size gap tail (tail_at tail) (sized tail same) (tail-found tail) (w ∙ ap (λ r. size ++ r) v ∙ ap (λ r. size ++ (gap ++ r)) same)
    at false e = record { fine = plain (λ other f. true-false (b == 39) (eq-eqb b 39 (heads b 39 tail other f)) e); whole = w }

-- the decimal number before the quote, or nothing
size-found : (b : ℕ) (rest : List ℕ) → Begins b → (t : Bool) → goes_in_decimal b ≡ t
    → (size after : List ℕ) → size ≡ (if t then b ∷ front_while goes_in_decimal rest else []) → after ≡ (if t then back_while goes_in_decimal rest else b ∷ rest)
    → ((tail : List ℕ) → back_while is_blank after ≡ 39 ∷ tail → IsSize size (front_while is_blank after))
    × (((tail : List ℕ) → back_while is_blank after ≡ 39 ∷ tail → ⊥) → begins_and_goes_on is_digit goes_in_decimal size ≡ true)
size-found b rest (inl d) true g size after s a =
    let each_one : each goes_in_decimal (front_while goes_in_decimal rest) ≡ true = while-each goes_in_decimal rest in (
      (λ tail e. subst (λ w. IsSize w (front_while is_blank after)) (sym s) (d, each_one, while-each is_blank after)),
      (λ no. subst (λ w. begins_and_goes_on is_digit goes_in_decimal w ≡ true) (sym s) (rw (d, each_one) refl)),
    )
size-found b rest (inl d) false g size after s a = true-false (goes_in_decimal b) (digit-decimal b d) g
size-found b rest (inr q) true g size after s a = let no : goes_in_decimal b ≡ false = ap goes_in_decimal q in true-false (goes_in_decimal b) g no
size-found b rest (inr q) false g size after s a =
    let is : after ≡ 39 ∷ rest = a ∙ ap (λ d. d ∷ rest) q in (
      (λ tail e. subst (λ w. IsSize w (front_while is_blank after)) (sym s) (ap (front_while is_blank) is)),
      (λ no. absurd (no rest (ap (back_while is_blank) is))),
    )

pub number-found : (b : ℕ) (rest : List ℕ) → Begins b → IsNumbered (b ∷ rest) (number_at (b ∷ rest))
unfolding number_at
number-found b rest h =
    let after = back_while goes_in_decimal (b ∷ rest) in
    let parts = size-found b rest h (goes_in_decimal b) refl (front_while goes_in_decimal (b ∷ rest)) after refl refl in
    behind-size (b ∷ rest) (front_while goes_in_decimal (b ∷ rest)) after (front_while is_blank after) (back_while is_blank after)
    (while-whole goes_in_decimal (b ∷ rest)) (while-whole is_blank after) parts.0 parts.1

-- The longest

with-length : (size gap tail : List ℕ) (t : Tail) → length size + (length gap + 1) ≤ length (number_bytes (number_with size gap tail t).0)
with-length size gap tail NoDigits = omega (arith, length-append size (gap ++ 39 ∷ []), length-append gap (39 ∷ []))
with-length size gap tail (Digits sign letter base space digits back) =
    omega (arith, length-append size (gap ++ 39 ∷ (sign ++ letter ∷ (space ++ digits))), length-append gap (39 ∷ (sign ++ letter ∷ (space ++ digits))))

behind-length : (size after gap rest : List ℕ) → length size ≤ length (number_bytes (number_behind size after gap rest).0)
behind-length size after gap [] = omega arith
behind-length size after gap (b ∷ tail) = at (b == 39)
  where
    at : (t : Bool) → length size ≤ length (number_bytes (if t then number_with size gap tail (tail_at tail) else (Plain_decimal size, after)).0)
    at true = omega (arith, with-length size gap tail (tail_at tail))
    at false = omega arith

decimal-length : (text : List ℕ) → length (front_while goes_in_decimal text) ≤ length (number_bytes (number_at text).0)
unfolding number_at
decimal-length text =
    let after = back_while goes_in_decimal text in
    behind-length (front_while goes_in_decimal text) after (front_while is_blank after) (back_while is_blank after)

decimal-each : (v : List ℕ) → begins_and_goes_on is_digit goes_in_decimal v ≡ true → each goes_in_decimal v ≡ true
decimal-each [] h = absurd (let q : false ≡ true = h in cc)
decimal-each (b ∷ v) h = let both = and-true (is_digit b) (each goes_in_decimal v) h in rw (digit-decimal b both.0, both.1) refl

based-length : (size gap sign : List ℕ) (letter : ℕ) (space digits : List ℕ)
    → length (size ++ (gap ++ 39 ∷ (sign ++ letter ∷ (space ++ digits)))) ≡ length size + (length gap + (1 + (length sign + (1 + (length space + length digits)))))
based-length size gap sign letter space digits =
    omega (
      arith,
      length-append size (gap ++ 39 ∷ (sign ++ letter ∷ (space ++ digits))),
      length-append gap (39 ∷ (sign ++ letter ∷ (space ++ digits))),
      length-append sign (letter ∷ (space ++ digits)),
      length-append space digits,
    )

digits-length : (size gap tail sign : List ℕ) (letter : ℕ) (base : Base) (space digits more found back : List ℕ) → is_digits base digits ≡ true → length digits ≤ length found
    → length (size ++ (gap ++ 39 ∷ (sign ++ letter ∷ (space ++ digits)))) ≤ length (number_bytes (number_with size gap tail (tail_with sign letter base space found back)).0)
digits-length size gap tail sign letter base space [] more found back d l = absurd (let q : false ≡ true = d in cc)
digits-length size gap tail sign letter base space (c ∷ digits) more [] back d l = absurd (let q : suc (length digits) ≤ 0 = l in omega arith)
digits-length size gap tail sign letter base space (c ∷ digits) more (e ∷ found) back d l =
    omega (arith, l, based-length size gap sign letter space (c ∷ digits), based-length size gap sign letter space (e ∷ found))

pub number-longest : (text : List ℕ) (v : Number) (more : List ℕ) → IsNumber v → number_bytes v ++ more ≡ text → length (number_bytes v) ≤ length (number_bytes (number_at text).0)
number-longest text (Plain_decimal digits) more h e =
    omega (arith, while-longest goes_in_decimal text digits more (decimal-each digits h) e, decimal-length text)
number-longest text (Unfinished size gap) more h e =
    let read : number_at text ≡ number_with size gap more (tail_at more) = ap number_at (sym e ∙ sym (quote-whole size gap more)) ∙ number-sized size gap more h in
    subst (λ n. length (size ++ (gap ++ 39 ∷ [])) ≤ length (number_bytes n.0)) (sym read)
    (omega (arith, with-length size gap more (tail_at more), length-append size (gap ++ 39 ∷ []), length-append gap (39 ∷ [])))
number-longest text (Based size gap sign letter base space digits) more h e =
    let tail = sign ++ letter ∷ (space ++ (digits ++ more)) in
    let read : number_at text ≡ number_with size gap tail (tail_at tail) = ap number_at (sym e ∙ sym (based-whole size gap sign letter space digits more)) ∙ number-sized size gap tail h.0 in
    let behind = tail-read sign letter base space digits more h.1 h.2 h.3 h.4 in
    subst (λ n. length (size ++ (gap ++ 39 ∷ (sign ++ letter ∷ (space ++ digits)))) ≤ length (number_bytes n.0)) (sym (read ∙ ap (number_with size gap tail) behind))
    (digits-length size gap tail sign letter base space digits more (digits_at base (digits ++ more)) (behind_digits base (digits ++ more)) h.4
    (digits-longest base (digits ++ more) digits more h.4 refl))

-- One spelling

tail-with-some : (sign : List ℕ) (letter : ℕ) (base : Base) (space digits back : List ℕ) → is_digits base digits ≡ true →
    tail_with sign letter base space digits back ≡ Digits sign letter base space digits back
tail-with-some sign letter base space [] back h = absurd (let q : false ≡ true = h in cc)
tail-with-some sign letter base space (c ∷ digits) back h = refl

decimal-alone : (digits : List ℕ) → each goes_in_decimal digits ≡ true → (number_at digits).0 ≡ Plain_decimal digits
unfolding number_at
decimal-alone digits h = rw (while-all goes_in_decimal digits h, while-rest goes_in_decimal digits h) refl

-- a number alone is read
pub number-alone : (v : Number) → IsNumber v → (number_at (number_bytes v)).0 ≡ v
number-alone (Plain_decimal digits) h = decimal-alone digits (decimal-each digits h)
number-alone (Unfinished size gap) h = ap (λ (n : Numbered). n.0) (number-sized size gap [] h)
number-alone (Based size gap sign letter base space digits) h =
    let tail = sign ++ letter ∷ (space ++ (digits ++ [])) in
    let whole : sign ++ letter ∷ (space ++ digits) ≡ tail = ap (λ w. sign ++ letter ∷ (space ++ w)) (sym (append-nil digits)) in
    let read = number-sized size gap tail h.0 in
    let behind = tail-read sign letter base space digits [] h.1 h.2 h.3 h.4 in
    let same : digits_at base (digits ++ []) ≡ digits = ap (digits_at base) (append-nil digits) ∙ digits-all base digits h.4 in
    let some : tail_at tail ≡ Digits sign letter base space digits (behind_digits base (digits ++ [])) =
    behind ∙ ap (λ w. tail_with sign letter base space w (behind_digits base (digits ++ []))) same ∙ tail-with-some sign letter base space digits (behind_digits base (digits ++ [])) h.4 in
    ap (λ w. (number_at (size ++ (gap ++ 39 ∷ w))).0) whole ∙ ap (λ (n : Numbered). n.0) (read ∙ ap (number_with size gap tail) some)

pub number-one : (v w : Number) → IsNumber v → IsNumber w → number_bytes v ≡ number_bytes w → v ≡ w
number-one v w h g e = sym (number-alone v h) ∙ ap (λ t. (number_at t).0) e ∙ number-alone w g
