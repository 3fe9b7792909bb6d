-- What the lines of the generated plan say (the format is this program's own).
use Rattle.std.proofs.Common.{◌≡◌, ℕ, zero, suc, ◌+◌, ◌-◌, ◌<◌, ◌≤◌, ◌&&◌, ◌||◌, Bool, true, false, List, [], ◌∷◌, ◌++◌, length, get_or, drop, map, refl, sym, ap, subst, ◌∙◌, append_assoc, arith}
use Rattle.std.specs.Prelude.{codes, nat_eq, nat_lt, count_by}
use Rattle.std.specs.List.{flat_map, range_with_len, slice_split, AllByRecursion, filter}
use Rattle.std.specs.Fmt.{decimal}
use Rattle.std.proofs.lemmas.Bool.{or_parts, or_from, and_right, and_parts, cond-false, ne_eqb, leb-true}
use Rattle.std.proofs.lemmas.List.Splits.{slice_split_at, slice_split_none, length-slice_split}
use Rattle.std.proofs.lemmas.List.Elements.{All-from_recursion, All-get_or}
use Rattle.vf_base.specs.Lists.{AllHold}
use Rattle.v_scan.specs.Bytes.{is_digit, each}
use Rattle.text_lines.specs.Text.{is_line_feed, is_space, is_hash, without_return, lines_of_pieces, lines_of, before_comment, is_word, words_of}
use Rattle.plan_read.specs.Forms.{PlanLine, Ends, Watches, Strobes, ListsAll, line_of}
use Rattle.plan_read.specs.Spelled.{lines_say, plan_lines}
use Rattle.soak_text.specs.Soak.{watch_line, watched, plan_text}
use Rattle.soak_tree.specs.SoakUnits.{register_name}
use Rattle.soak_tree.proofs.Digits.{decimal-digits}
use Rattle.soak_flat.proofs.Once.{all-weaker, all-append}

-- Bytes

-- a byte that ends no line, parts no words and begins no comment
abbrev IsPlain : ℕ → Type 0
IsPlain b = (nat_eq b 10 ≡ false) × (nat_eq b 13 ≡ false) × (nat_eq b 32 ≡ false) × (nat_eq b 9 ≡ false) × (nat_eq b 35 ≡ false)

digit-plain : (b : ℕ) → is_digit b ≡ true → IsPlain b
digit-plain b h =
    let low : 48 ≤ b = leb-true 48 b (and_parts _ _ h).0 in (
      ne_eqb b 10 (λ e. absurd (omega arith)),
      ne_eqb b 13 (λ e. absurd (omega arith)),
      ne_eqb b 32 (λ e. absurd (omega arith)),
      ne_eqb b 9 (λ e. absurd (omega arith)),
      ne_eqb b 35 (λ e. absurd (omega arith)),
    )

digits-plain : (bs : List ℕ) → each is_digit bs ≡ true → AllHold IsPlain bs
digits-plain [] h = tt
digits-plain (b ∷ bs) h = let parts = and_parts (is_digit b) (each is_digit bs) h in (digit-plain b parts.0, digits-plain bs parts.1)

decimal-plain : (n : ℕ) → n < 4000 → AllHold IsPlain (decimal n)
decimal-plain n low =
    let h = decimal-digits n (omega (arith, low)) in
    subst (AllHold IsPlain) (sym h.whole) (digit-plain h.first h.is, digits-plain h.rest h.others)

name-plain : (n : ℕ) → n < 4000 → AllHold IsPlain (register_name n)
name-plain n low = ((refl, refl, refl, refl, refl), decimal-plain n low)

-- Lines

abbrev ends_line : ℕ → Bool
ends_line b = nat_eq b 10 || nat_eq b 13

abbrev IsLine : List ℕ → Type 0
IsLine line = AllHold (λ (b : ℕ). ends_line b ≡ false) line

no-feed : (line : List ℕ) → IsLine line → AllByRecursion (λ b. is_line_feed b ≡ false) line
no-feed [] h = tt
no-feed (b ∷ bs) h = ((or_parts (nat_eq b 10) (nat_eq b 13) h.0).0, no-feed bs h.1)

no-return : (line : List ℕ) → IsLine line → AllByRecursion (λ b. nat_eq b 13 ≡ false) line
no-return [] h = tt
no-return (b ∷ bs) h = ((or_parts (nat_eq b 10) (nat_eq b 13) h.0).1, no-return bs h.1)

kept-whole : (line : List ℕ) → IsLine line → without_return line ≡ line
kept-whole [] h = refl
kept-whole (b ∷ bs) h =
    let line = b ∷ bs in
    let last : nat_eq (get_or line (length line - 1) 0) 13 ≡ false =
    All-get_or (λ b. nat_eq b 13 ≡ false) line (length line - 1) 0 (omega arith) (All-from_recursion (λ b. nat_eq b 13 ≡ false) line (no-return line h)) in
    cond-false (nat_lt 0 (length line) && nat_eq (get_or line (length line - 1) 0) 13) _ line (and_right (nat_lt 0 (length line)) (nat_eq (get_or line (length line - 1) 0) 13) last)

pieces-first : (line text : List ℕ) (pieces : List (List ℕ)) → length pieces ≡ count_by is_line_feed text + 1 → lines_of_pieces (line ∷ pieces) ≡ without_return line ∷ lines_of_pieces pieces
pieces-first line text [] some = absurd (omega arith)
pieces-first line text (first ∷ more) some = refl

line-first : (line rest : List ℕ) → IsLine line → lines_of (line ++ 10 ∷ rest) ≡ line ∷ lines_of rest
line-first line rest is =
    ap lines_of_pieces (slice_split_at is_line_feed line 10 rest (All-from_recursion (λ b. is_line_feed b ≡ false) line (no-feed line is)) refl)
    ∙ (pieces-first line rest (slice_split is_line_feed rest) (length-slice_split is_line_feed rest) ∙ ap (λ l. l ∷ lines_of rest) (kept-whole line is))

-- Words

abbrev watch_bytes : ℕ → List ℕ
watch_bytes number = codes "watch " ++ register_name number

watch-is_line : (number : ℕ) → number < 4000 → IsLine (watch_bytes number)
watch-is_line number low =
    all-append (λ (b : ℕ). ends_line b ≡ false) (codes "watch ") (register_name number) (refl, (refl, (refl, (refl, (refl, (refl, tt))))))
    (all-weaker IsPlain (λ (b : ℕ). ends_line b ≡ false) (λ b h. or_from (nat_eq b 10) (nat_eq b 13) h.0 h.1) (register_name number) (name-plain number low))

uncommented : (bs : List ℕ) → AllHold (λ (b : ℕ). is_hash b ≡ false) bs → before_comment bs ≡ bs
uncommented [] h = refl
uncommented (b ∷ bs) h = cond-false (is_hash b) [] (b ∷ before_comment bs) h.0 ∙ ap (λ l. b ∷ l) (uncommented bs h.1)

unparted : (bs : List ℕ) → AllHold IsPlain bs → AllByRecursion (λ b. is_space b ≡ false) bs
unparted [] h = tt
unparted (b ∷ bs) h = (or_from (nat_eq b 32) (nat_eq b 9) h.0.2 h.0.3, unparted bs h.1)

watch-words : (number : ℕ) → number < 4000 → words_of (watch_bytes number) ≡ codes "watch" ∷ register_name number ∷ []
watch-words number low =
    let name = register_name number in
    let plain = name-plain number low in
    ap (λ bs. filter is_word (slice_split is_space bs)) (uncommented (watch_bytes number)
    (all-append (λ (b : ℕ). is_hash b ≡ false) (codes "watch ") name (refl, (refl, (refl, (refl, (refl, (refl, tt))))))
    (all-weaker IsPlain (λ (b : ℕ). is_hash b ≡ false) (λ b h. h.4) name plain)))
    ∙ ap (filter is_word) (slice_split_at is_space (codes "watch") 32 name
    (All-from_recursion (λ b. is_space b ≡ false) (codes "watch") (refl, (refl, (refl, (refl, (refl, tt)))))) refl
    ∙ ap (λ l. codes "watch" ∷ l) (slice_split_none is_space name (All-from_recursion (λ b. is_space b ≡ false) name (unparted name plain))))

watch-says : (number : ℕ) → number < 4000 → line_of (words_of (watch_bytes number)) ≡ Watches (register_name number)
watch-says number low = ap line_of (watch-words number low)

-- The text

abbrev last_text : List ℕ
last_text = codes "strobe 8 10 318\nfaults all\n"

watches-lines : (numbers : List ℕ) (rest : List ℕ) → AllHold (λ number. number < 4000) numbers →
    lines_say (lines_of (flat_map watch_line numbers ++ rest)) ≡ map (λ number. Watches (register_name number)) numbers ++ lines_say (lines_of rest)
watches-lines [] rest low = refl
watches-lines (number ∷ numbers) rest low =
    let after = flat_map watch_line numbers ++ rest in
    ap (λ bs. lines_say (lines_of bs)) (append_assoc (watch_line number) (flat_map watch_line numbers) rest ∙ append_assoc (watch_bytes number) (10 ∷ []) after)
    ∙ (ap lines_say (line-first (watch_bytes number) after (watch-is_line number low.0))
    ∙ (ap (λ line. line ∷ lines_say (lines_of after)) (watch-says number low.0) ∙ ap (λ l. Watches (register_name number) ∷ l) (watches-lines numbers rest low.1)))

-- what the lines of the plan of a size say
abbrev pub soak_lines : ℕ → List PlanLine
soak_lines size = Ends 320 ∷ (map (λ number. Watches (register_name number)) (watched size) ++ Strobes 8 10 318 ∷ ListsAll ∷ [])

range-low : (from count : ℕ) → AllHold (λ number. number < from + count) (range_with_len from count)
range-low from zero = tt
range-low from (suc count) =
    (omega arith, all-weaker (λ number. number < from + 1 + count) (λ number. number < from + suc count) (λ number h. omega (arith, h)) (range_with_len (from + 1) count) (range-low (from + 1) count))

drop-holds : (P : ℕ → Type 0) (n : ℕ) (xs : List ℕ) → AllHold P xs → AllHold P (drop n xs)
drop-holds P zero xs h = h
drop-holds P (suc n) [] h = tt
drop-holds P (suc n) (x ∷ xs) h = drop-holds P n xs h.1

pub watched-low : (size : ℕ) → AllHold (λ number. number < size) (watched size)
watched-low size =
    drop-holds (λ number. number < size) (size - 8) (range_with_len 0 size)
    (all-weaker (λ number. number < 0 + size) (λ number. number < size) (λ number h. omega (arith, h)) (range_with_len 0 size) (range-low 0 size))

pub lines-are : (size : ℕ) → size ≤ 4000 → plan_lines (plan_text size) ≡ soak_lines size
unfolding plan_text
lines-are size high =
    let low = all-weaker (λ number. number < size) (λ number. number < 4000) (λ number h. omega (arith, h, high)) (watched size) (watched-low size) in
    ap lines_say (line-first (codes "end 320") (flat_map watch_line (watched size) ++ last_text) (refl, (refl, (refl, (refl, (refl, (refl, (refl, tt))))))))
    ∙ ap (λ l. Ends 320 ∷ l) (watches-lines (watched size) last_text low)
