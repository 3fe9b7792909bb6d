-- The last digit of a number, and the digits before it.
use Rattle.std.proofs.Common.{◌⊎◌, ⊎_elim, ◌≡◌, ℕ, suc, ◌+◌, ◌/◌, ◌%◌, ◌<◌, ◌≤◌, ◌^◌, Bool, true, false, ◌&&◌, List, [], ◌∷◌, ◌++◌, length, take, drop, map, refl, ap, sym, ◌∙◌, subst, arith}
use Rattle.std.specs.Prelude.{nat_eq}
use Rattle.std.specs.Fmt.{decimal}
use Rattle.std.specs.Str.{bytes_eq}
use Rattle.std.specs.Int.Digits.{digits_of}
use Rattle.std.proofs.lemmas.Int.Digits.{digits_of_step}
use Rattle.std.proofs.lemmas.List.{map_push}
use Rattle.std.proofs.lemmas.Bool.{eq-eqb, eqb-true, ne_eqb, and_parts, false≢true}
use Rattle.std.proofs.lemmas.Fmt.{decimal-digits_of, decimal_digit, decimal_nonempty}

decimal-step : (n : ℕ) → 10 ≤ n → n < 2 ^ 64 → decimal n ≡ decimal (n / 10) ++ (48 + n % 10) ∷ []
decimal-step n high low =
    let front : 0 < n / 10 = omega arith in
    let less : n / 10 < 2 ^ 64 = omega arith in
    decimal-digits_of n (omega arith) low
    ∙ (ap (map (λ d. 48 + d)) (digits_of_step 10 n (omega arith) (omega arith))
    ∙ (map_push (λ d. 48 + d) (digits_of 10 (n / 10)) (n % 10)
    ∙ ap (λ l. l ++ (48 + n % 10) ∷ []) (sym (decimal-digits_of (n / 10) front less))))

and-false : (b : Bool) → (b && false) ≡ false
and-false true = refl
and-false false = refl

and-assoc : (a b c : Bool) → (a && (b && c)) ≡ ((a && b) && c)
and-assoc true b c = refl
and-assoc false b c = refl

snoc-not-empty : (xs : List ℕ) (a : ℕ) → bytes_eq (xs ++ a ∷ []) [] ≡ false
snoc-not-empty [] a = refl
snoc-not-empty (x ∷ xs) a = refl

empty-not-snoc : (ys : List ℕ) (b : ℕ) → bytes_eq [] (ys ++ b ∷ []) ≡ false
empty-not-snoc [] b = refl
empty-not-snoc (y ∷ ys) b = refl

-- two texts by their last bytes
pub eq-snoc : (xs ys : List ℕ) (a b : ℕ) → bytes_eq (xs ++ a ∷ []) (ys ++ b ∷ []) ≡ (bytes_eq xs ys && nat_eq a b)
eq-snoc [] [] a b = elim (nat_eq a b) as (λ t. (t && true) ≡ t) [ true ↦ refl | false ↦ refl ]
eq-snoc [] (y ∷ ys) a b = ap (λ t. nat_eq a y && t) (empty-not-snoc ys b) ∙ and-false (nat_eq a y)
eq-snoc (x ∷ xs) [] a b = ap (λ t. nat_eq x b && t) (snoc-not-empty xs a) ∙ and-false (nat_eq x b)
eq-snoc (x ∷ xs) (y ∷ ys) a b = ap (λ t. nat_eq x y && t) (eq-snoc xs ys a b) ∙ and-assoc (nat_eq x y) (bytes_eq xs ys) (nat_eq a b)

-- no digits
pub decimal-none : (n : ℕ) (digits : List ℕ) → n < 2 ^ 64 → length digits ≡ 0 → false ≡ bytes_eq (decimal n) digits
decimal-none n (d ∷ ds) low none = absurd (omega arith)
decimal-none n [] low none = by (decimal n) (decimal_nonempty n low)
  where
    by : (ds : List ℕ) → 0 < length ds → false ≡ bytes_eq ds []
    by [] some = absurd (omega arith)
    by (d ∷ ds) some = refl

-- one digit
pub decimal-small : (n last : ℕ) (front digits : List ℕ) → n < 10 → digits ≡ front ++ last ∷ [] → bytes_eq (decimal n) digits ≡ (bytes_eq [] front && nat_eq (48 + n % 10) last)
decimal-small n last front digits low parts =
    let same : n ≡ n % 10 = omega arith in
    ap (bytes_eq (decimal n)) parts ∙ (ap (λ l. bytes_eq l (front ++ last ∷ [])) (decimal_digit n low) ∙ (eq-snoc [] front (48 + n) last ∙ ap (λ k. bytes_eq [] front && nat_eq (48 + k) last) same))

-- more digits
pub decimal-more : (n last : ℕ) (front digits : List ℕ) → 10 ≤ n → n < 2 ^ 64 → digits ≡ front ++ last ∷ [] →
    bytes_eq (decimal n) digits ≡ (bytes_eq (decimal (n / 10)) front && nat_eq (48 + n % 10) last)
decimal-more n last front digits high low parts =
    ap (bytes_eq (decimal n)) parts ∙ (ap (λ l. bytes_eq l (front ++ last ∷ [])) (decimal-step n high low) ∙ eq-snoc (decimal (n / 10)) front (48 + n % 10) last)

either : (n : ℕ) → (n < 10) ⊎ (10 ≤ n)
either n = grind arith

-- a wrong last digit
pub decimal-wrong : (n last : ℕ) (front digits : List ℕ) → n < 2 ^ 64 → digits ≡ front ++ last ∷ [] → (48 + n % 10 ≡ last → ⊥) → false ≡ bytes_eq (decimal n) digits
decimal-wrong n last front digits low parts wrong =
    let other : nat_eq (48 + n % 10) last ≡ false = ne_eqb (48 + n % 10) last wrong in
    ⊎_elim (λ (small : n < 10). sym (decimal-small n last front digits small parts ∙ (ap (λ b. bytes_eq [] front && b) other ∙ and-false (bytes_eq [] front))))
    (λ (more : 10 ≤ n). sym (decimal-more n last front digits more low parts ∙ (ap (λ b. bytes_eq (decimal (n / 10)) front && b) other ∙ and-false (bytes_eq (decimal (n / 10)) front))))
    (either n)

and-true : (b : Bool) → (b && true) ≡ b
and-true true = refl
and-true false = refl

-- the right last digit, and the rest
pub decimal-rest : (n last : ℕ) (front digits : List ℕ) → 10 ≤ n → n < 2 ^ 64 → digits ≡ front ++ last ∷ [] → 48 + n % 10 ≡ last → bytes_eq (decimal (n / 10)) front ≡ bytes_eq (decimal n) digits
decimal-rest n last front digits more low parts right =
    sym (decimal-more n last front digits more low parts ∙ (ap (λ b. bytes_eq (decimal (n / 10)) front && b) (eq-eqb (48 + n % 10) last right) ∙ and-true (bytes_eq (decimal (n / 10)) front)))

pub decimal-one : (n last : ℕ) (front digits : List ℕ) → n < 10 → digits ≡ front ++ last ∷ [] → 48 + n % 10 ≡ last → bytes_eq [] front ≡ bytes_eq (decimal n) digits
decimal-one n last front digits small parts right =
    sym (decimal-small n last front digits small parts ∙ (ap (λ b. bytes_eq [] front && b) (eq-eqb (48 + n % 10) last right) ∙ and-true (bytes_eq [] front)))

-- a text is empty
pub empty-eq : (bs : List ℕ) → nat_eq (length bs) 0 ≡ bytes_eq [] bs
empty-eq [] = refl
empty-eq (b ∷ bs) = ne_eqb (suc (length bs)) 0 (λ e. omega arith)

-- an index between brackets
pub index-between : (index first last : ℕ) (word rest digits : List ℕ) → word ≡ first ∷ rest → rest ≡ digits ++ last ∷ [] →
    bytes_eq (91 ∷ decimal index ++ 93 ∷ []) word ≡ (nat_eq 91 first && (bytes_eq (decimal index) digits && nat_eq 93 last))
index-between index first last word rest digits one two =
    ap (bytes_eq (91 ∷ decimal index ++ 93 ∷ [])) one ∙ (ap (λ l. nat_eq 91 first && bytes_eq (decimal index ++ 93 ∷ []) l) two
    ∙ ap (λ b. nat_eq 91 first && b) (eq-snoc (decimal index) digits 93 last))

pub index-right : (index first last : ℕ) (word rest digits : List ℕ) → word ≡ first ∷ rest → rest ≡ digits ++ last ∷ [] → first ≡ 91 → last ≡ 93 →
    bytes_eq (decimal index) digits ≡ bytes_eq (91 ∷ decimal index ++ 93 ∷ []) word
index-right index first last word rest digits one two open_ close =
    sym (index-between index first last word rest digits one two
    ∙ (ap (λ b. b && (bytes_eq (decimal index) digits && nat_eq 93 last)) (eq-eqb 91 first (sym open_))
    ∙ (ap (λ b. bytes_eq (decimal index) digits && b) (eq-eqb 93 last (sym close)) ∙ and-true (bytes_eq (decimal index) digits))))

pub index-first : (index first : ℕ) (word rest : List ℕ) → word ≡ first ∷ rest → (first ≡ 91 → ⊥) → false ≡ bytes_eq (91 ∷ decimal index ++ 93 ∷ []) word
index-first index first word rest one wrong =
    sym (ap (bytes_eq (91 ∷ decimal index ++ 93 ∷ [])) one ∙ ap (λ b. b && bytes_eq (decimal index ++ 93 ∷ []) rest) (ne_eqb 91 first (λ e. wrong (sym e))))

pub index-last : (index first last : ℕ) (word rest digits : List ℕ) → word ≡ first ∷ rest → rest ≡ digits ++ last ∷ [] → (last ≡ 93 → ⊥) → false ≡ bytes_eq (91 ∷ decimal index ++ 93 ∷ []) word
index-last index first last word rest digits one two wrong =
    sym (index-between index first last word rest digits one two
    ∙ (ap (λ b. nat_eq 91 first && (bytes_eq (decimal index) digits && b)) (ne_eqb 93 last (λ e. wrong (sym e)))
    ∙ (ap (λ b. nat_eq 91 first && b) (and-false (bytes_eq (decimal index) digits)) ∙ and-false (nat_eq 91 first))))

pub index-short : (index first : ℕ) (word rest : List ℕ) → word ≡ first ∷ rest → length rest ≡ 0 → false ≡ bytes_eq (91 ∷ decimal index ++ 93 ∷ []) word
index-short index first word (r ∷ rest) one none = absurd (omega arith)
index-short index first word [] one none =
    sym (ap (bytes_eq (91 ∷ decimal index ++ 93 ∷ [])) one ∙ (ap (λ b. nat_eq 91 first && b) (snoc-not-empty (decimal index) 93) ∙ and-false (nat_eq 91 first)))

-- a text after a name: the name has to stand in front
pub name-found : (name word rest behind : List ℕ) → bytes_eq (take (length name) word) name ≡ true → rest ≡ drop (length name) word → bytes_eq (name ++ behind) word ≡ bytes_eq behind rest
name-found [] word rest behind same is = ap (bytes_eq behind) (sym is)
name-found (n ∷ name) [] rest behind same is = absurd (false≢true same)
name-found (n ∷ name) (w ∷ word) rest behind same is =
    let p = and_parts (nat_eq w n) (bytes_eq (take (length name) word) name) same in
    ap (λ b. b && bytes_eq (name ++ behind) word) (eq-eqb n w (sym (eqb-true w n p.0))) ∙ name-found name word rest behind p.1 is

pub name-missing : (name word behind : List ℕ) → bytes_eq (take (length name) word) name ≡ false → bytes_eq (name ++ behind) word ≡ false
name-missing [] word behind other = absurd (false≢true (sym other))
name-missing (n ∷ name) [] behind other = refl
name-missing (n ∷ name) (w ∷ word) behind other =
    elim (nat_eq w n) as (λ b. nat_eq w n ≡ b → bytes_eq ((n ∷ name) ++ behind) (w ∷ word) ≡ false) [
      | true ↦ λ e. ap (λ b. nat_eq n w && b) (name-missing name word behind (subst (λ b. (b && bytes_eq (take (length name) word) name) ≡ false) e other)) ∙ and-false (nat_eq n w)
      | false ↦ λ e. ap (λ b. b && bytes_eq (name ++ behind) word) (ne_eqb n w (λ s. false≢true (sym e ∙ eq-eqb w n (sym s))))
    ] refl

pub terminal-wrong : (terminal first : ℕ) (word digits : List ℕ) → word ≡ first ∷ digits → (first ≡ 46 → ⊥) → false ≡ bytes_eq (46 ∷ decimal terminal) word
terminal-wrong terminal first word digits one wrong =
    sym (ap (bytes_eq (46 ∷ decimal terminal)) one ∙ ap (λ b. b && bytes_eq (decimal terminal) digits) (ne_eqb 46 first (λ e. wrong (sym e))))

pub terminal-right : (terminal first : ℕ) (word digits : List ℕ) → word ≡ first ∷ digits → first ≡ 46 → bytes_eq (decimal terminal) digits ≡ bytes_eq (46 ∷ decimal terminal) word
terminal-right terminal first word digits one right =
    sym (ap (bytes_eq (46 ∷ decimal terminal)) one ∙ ap (λ b. b && bytes_eq (decimal terminal) digits) (eq-eqb 46 first (sym right)))
