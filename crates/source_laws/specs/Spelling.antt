-- Names of bits and of terminals tell apart what they name (IEEE 1364-2001, clause 2.7 for names, clause 12.4 for those of a hierarchy; that bits and terminals have names is own).
use Rattle.std.proofs.Common.{◌≡◌, ℕ, ◌<◌, ◌≤◌, ◌^◌, Bool, true, false, List, [], ◌∷◌, ◌++◌, refl, sym, ap, ◌∙◌, subst, inl, inr, ◌⊎◌, arith}
use Rattle.std.specs.Prelude.{nat_eq, decimal}
use Rattle.std.proofs.lemmas.Bool.{ne_eqb}
use Rattle.std.proofs.lemmas.Fmt.{decimal_injective, decimal_is_IsNumeral}
use Rattle.std.proofs.lemmas.List.{append_assoc, append_cancel_left, append_cancel_right}
use Rattle.std.proofs.lemmas.Str.Parse.{digit_from_value}
use Rattle.std.specs.Str.Parse.{AllDigits}
use Rattle.vf_base.specs.Lists.{AllHold}
use Rattle.v_design.specs.Sites.{index_text}
use Rattle.flat_laws.specs.Numbered.{AllHold-each, AllHold-append}
use Rattle.flat_laws.specs.Names.Spelled.{IsNameByte, IsSpelled}

-- Digits

-- bytes that are digits
abbrev pub AreDigits : List ℕ → Type 0
AreDigits bytes = AllHold (λ (byte : ℕ). (48 ≤ byte) × (byte ≤ 57)) bytes

digits-from : (bytes : List ℕ) → AllDigits 10 bytes → AreDigits bytes
digits-from [] h = tt
digits-from (byte ∷ bytes) h = let is = digit_from_value byte h.0 in ((omega (arith, is), omega (arith, is)), digits-from bytes h.1)

pub decimal-digits : (n : ℕ) → n < 2 ^ 64 → AreDigits (decimal n)
decimal-digits n small = digits-from (decimal n) (decimal_is_IsNumeral n small).0.1

-- Before the first `[`

abbrev pub IsPlainName : List ℕ → Type 0
IsPlainName name = AllHold (λ (byte : ℕ). byte ≡ 91 → ⊥) name

abbrev bracket_or : Bool → ℕ → List ℕ → List ℕ
bracket_or true byte rest = []
bracket_or false byte rest = byte ∷ rest

abbrev before_bracket : List ℕ → List ℕ
before_bracket [] = []
before_bracket (byte ∷ rest) = bracket_or (nat_eq byte 91) byte (before_bracket rest)

before-index : (name : List ℕ) (ranged : Bool) (index : ℕ) → IsPlainName name → before_bracket (name ++ index_text ranged index) ≡ name
before-index [] true index h = refl
before-index [] false index h = refl
before-index (byte ∷ name) ranged index h = ap (λ b. bracket_or b byte (before_bracket (name ++ index_text ranged index))) (ne_eqb byte 91 h.0)
    ∙ ap (λ (l : List ℕ). byte ∷ l) (before-index name ranged index h.1)

-- names of bits that are the same have the same name before their index
pub same-front : (one other : List ℕ) (ranged ranges : Bool) (index number : ℕ) → IsPlainName one → IsPlainName other → one ++ index_text ranged index ≡ other ++ index_text ranges number → one ≡ other
same-front one other ranged ranges index number plain plain_other e = sym (before-index one ranged index plain) ∙ ap before_bracket e ∙ before-index other ranges number plain_other

ends-alike : (one other : List ℕ) (a b : ℕ) → one ++ a ∷ [] ≡ other ++ b ∷ [] → one ≡ other
ends-alike [] [] a b e = refl
ends-alike [] (y ∷ other) a b e = absurd (never other (cc))
  where
    never : (rest : List ℕ) → [] ≡ rest ++ b ∷ [] → ⊥
    never [] d = absurd (cc)
    never (z ∷ rest) d = absurd (cc)
ends-alike (x ∷ one) [] a b e = absurd (never one (cc))
  where
    never : (rest : List ℕ) → rest ++ a ∷ [] ≡ [] → ⊥
    never [] d = absurd (cc)
    never (z ∷ rest) d = absurd (cc)
ends-alike (x ∷ one) (y ∷ other) a b e =
    let first : x ≡ y = cc in
    let rest : one ++ a ∷ [] ≡ other ++ b ∷ [] = cc in
    ap (λ (l : List ℕ). x ∷ l) (ends-alike one other a b rest) ∙ ap (λ n. n ∷ other) first

-- and so the same index, where there is one
pub same-index : (name : List ℕ) (index number : ℕ) → index < 2 ^ 64 → number < 2 ^ 64 → name ++ index_text true index ≡ name ++ index_text true number → index ≡ number
same-index name index number small few e =
    let text : index_text true index ≡ index_text true number = append_cancel_left name (index_text true index) (index_text true number) e in
    let digits : decimal index ++ 93 ∷ [] ≡ decimal number ++ 93 ∷ [] = behind text in
    decimal_injective index number small few (ends-alike (decimal index) (decimal number) 93 93 digits)
  where
    behind : index_text true index ≡ index_text true number → decimal index ++ 93 ∷ [] ≡ decimal number ++ 93 ∷ []
    behind d = cc

-- Behind the last `.`

abbrev pub HasNoDot : List ℕ → Type 0
HasNoDot bytes = AllHold (λ (byte : ℕ). byte ≡ 46 → ⊥) bytes

abbrev dot_or_later : Bool → Bool → Bool
dot_or_later true later = true
dot_or_later false later = later

abbrev has_dot : List ℕ → Bool
has_dot [] = false
has_dot (byte ∷ rest) = dot_or_later (nat_eq byte 46) (has_dot rest)

abbrev dot_here : Bool → Bool → ℕ → List ℕ → List ℕ → List ℕ
dot_here true here byte rest later = later
dot_here false true byte rest later = rest
dot_here false false byte rest later = byte ∷ rest

abbrev behind_dot : List ℕ → List ℕ
behind_dot [] = []
behind_dot (byte ∷ rest) = dot_here (has_dot rest) (nat_eq byte 46) byte rest (behind_dot rest)

no-dot : (bytes : List ℕ) → HasNoDot bytes → has_dot bytes ≡ false
no-dot [] h = refl
no-dot (byte ∷ rest) h = ap (λ here. dot_or_later here (has_dot rest)) (ne_eqb byte 46 h.0) ∙ no-dot rest h.1

some-dot : (front back : List ℕ) → has_dot (front ++ 46 ∷ back) ≡ true
some-dot [] back = refl
some-dot (byte ∷ front) back = by_test (nat_eq byte 46) (some-dot front back)
  where
    by_test : (test : Bool) → has_dot (front ++ 46 ∷ back) ≡ true → dot_or_later test (has_dot (front ++ 46 ∷ back)) ≡ true
    by_test true later = refl
    by_test false later = later

pub behind-none : (bytes : List ℕ) → HasNoDot bytes → behind_dot bytes ≡ bytes
behind-none [] h = refl
behind-none (byte ∷ rest) h = ap (λ later. dot_here later (nat_eq byte 46) byte rest (behind_dot rest)) (no-dot rest h.1)
    ∙ ap (λ here. dot_here false here byte rest (behind_dot rest)) (ne_eqb byte 46 h.0)

pub behind-last : (front back : List ℕ) → HasNoDot back → behind_dot (front ++ 46 ∷ back) ≡ back
behind-last [] back h = ap (λ later. dot_here later true 46 back (behind_dot back)) (no-dot back h)
behind-last (byte ∷ front) back h =
    ap (λ later. dot_here later (nat_eq byte 46) byte (front ++ 46 ∷ back) (behind_dot (front ++ 46 ∷ back))) (some-dot front back) ∙ behind-last front back h

-- Names of objects and of gates

-- an instance's path is empty or ends with a `.`
abbrev pub EndsInDot : List ℕ → Type 0
EndsInDot path = (path ≡ []) ⊎ ((front : List ℕ) × (path ≡ front ++ 46 ∷ []))

-- the name of a net or a variable: a declared name behind an instance's path, in which there is no `[`
pub record IsObjectName (name : List ℕ) : Type 0 where
  pub path : List ℕ
  pub own : List ℕ
  pub is : path ++ own ≡ name
  pub ends : EndsInDot path
  pub plain : IsPlainName path
  pub spelled : IsSpelled own

spelled-plain : (name : List ℕ) → AllHold IsNameByte name → IsPlainName name
spelled-plain name h = AllHold-each IsNameByte (λ (byte : ℕ). byte ≡ 91 → ⊥) name (λ byte k. k.no_bracket) h

pub own-plain : (name : List ℕ) → IsSpelled name → IsPlainName name
own-plain [] h = absurd h
own-plain (first ∷ rest) h = spelled-plain (first ∷ rest) h.1

own-dotless : (name : List ℕ) → IsSpelled name → HasNoDot name
own-dotless [] h = absurd h
own-dotless (first ∷ rest) h = AllHold-each IsNameByte (λ (byte : ℕ). byte ≡ 46 → ⊥) (first ∷ rest) (λ byte k. k.no_dot) h.1

pub object-plain : (name : List ℕ) → IsObjectName name → IsPlainName name
object-plain name h = subst IsPlainName h.is (AllHold-append (λ (byte : ℕ). byte ≡ 91 → ⊥) h.path h.own h.plain (own-plain h.own h.spelled))

digits-dotless : (digits : List ℕ) → AreDigits digits → HasNoDot digits
digits-dotless digits h = AllHold-each (λ (byte : ℕ). (48 ≤ byte) × (byte ≤ 57)) (λ (byte : ℕ). byte ≡ 46 → ⊥) digits (λ byte k e. omega (arith, k.0, e)) h

index-dotless : (ranged : Bool) (index : ℕ) → index < 2 ^ 64 → HasNoDot (index_text ranged index)
index-dotless false index small = tt
index-dotless true index small = (
  λ e. omega (arith, e),
  AllHold-append (λ (byte : ℕ). byte ≡ 46 → ⊥) (decimal index) (93 ∷ []) (digits-dotless (decimal index) (decimal-digits index small))
      (λ e. omega (arith, e), tt),
)

behind-path : (path back : List ℕ) → EndsInDot path → HasNoDot back → behind_dot (path ++ back) ≡ back
behind-path path back (inl none) h = ap (λ (p : List ℕ). behind_dot (p ++ back)) none ∙ behind-none back h
behind-path path back (inr ends) h = ap (λ (p : List ℕ). behind_dot (p ++ back)) ends.1 ∙ ap behind_dot (append_assoc ends.0 (46 ∷ []) back) ∙ behind-last ends.0 back h

not-digits : (own back digits : List ℕ) → IsSpelled own → AreDigits digits → own ++ back ≡ digits → ⊥
not-digits [] back digits h k e = h
not-digits (first ∷ own) back [] h k e = absurd (cc)
not-digits (first ∷ own) back (digit ∷ digits) h k e = let same : first ≡ digit = cc in omega (arith, same, h.0, k.0.1)

-- a bit doesn't have the name of a terminal
pub bit-no-terminal : (name gate : List ℕ) → IsObjectName name → (ranged : Bool) (index terminal : ℕ) → index < 2 ^ 64 → terminal < 2 ^ 64 →
    name ++ index_text ranged index ≡ gate ++ 46 ∷ decimal terminal → ⊥
bit-no-terminal name gate h ranged index terminal small few e =
    let back = h.own ++ index_text ranged index in
    let dotless : HasNoDot back = AllHold-append (λ (byte : ℕ). byte ≡ 46 → ⊥) h.own (index_text ranged index) (own-dotless h.own h.spelled) (index-dotless ranged index small) in
    let digits = decimal-digits terminal few in
    let first : behind_dot (name ++ index_text ranged index) ≡ back =
    ap (λ (n : List ℕ). behind_dot (n ++ index_text ranged index)) (sym h.is) ∙ ap behind_dot (append_assoc h.path h.own (index_text ranged index)) ∙ behind-path h.path back h.ends dotless in
    let second : behind_dot (gate ++ 46 ∷ decimal terminal) ≡ decimal terminal = behind-last gate (decimal terminal) (digits-dotless (decimal terminal) digits) in
    not-digits h.own (index_text ranged index) (decimal terminal) h.spelled digits (sym first ∙ ap behind_dot e ∙ second)

-- terminals of one name are one terminal of gates of one name
pub same-terminal : (one other : List ℕ) (terminal number : ℕ) → terminal < 2 ^ 64 → number < 2 ^ 64 → one ++ 46 ∷ decimal terminal ≡ other ++ 46 ∷ decimal number → (one ≡ other) × (terminal ≡ number)
same-terminal one other terminal number small few e =
    let first = behind-last one (decimal terminal) (digits-dotless (decimal terminal) (decimal-digits terminal small)) in
    let second = behind-last other (decimal number) (digits-dotless (decimal number) (decimal-digits number few)) in
    let text : decimal terminal ≡ decimal number = sym first ∙ ap behind_dot e ∙ second in
    let same : terminal ≡ number = decimal_injective terminal number small few text in
    (append_cancel_right one other (46 ∷ decimal number) (ap (λ n. one ++ 46 ∷ decimal n) (sym same) ∙ e), same)
