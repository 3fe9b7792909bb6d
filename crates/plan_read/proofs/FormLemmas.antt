-- Lines that are of no form.
use Rattle.std.proofs.Common.{◌≡◌, ℕ, ◌≤◌, ◌<◌, List, [], ◌∷◌, length, get_or, Bool, false, Bor, arith, refl, codes}
use Rattle.std.specs.Str.{bytes_eq}
use Rattle.plan_read.specs.Forms.{PlanLine, Formless, line_of}
use Rattle.text_lines.specs.Plain.{plain_texts}

-- one word
pub line_of-one : (words : List (Bor (List ℕ))) → length words ≡ 1 → Formless ≡ line_of (plain_texts words)
line_of-one [] size = absurd (omega arith)
line_of-one (a ∷ []) size = refl
line_of-one (a ∷ b ∷ more) size = absurd (omega arith)

-- three words, of which the first isn't fault
pub line_of-three : (words : List (Bor (List ℕ))) (d : Bor (List ℕ)) → length words ≡ 3 → bytes_eq (get_or words 0 d).now (codes "fault") ≡ false → Formless ≡ line_of (plain_texts words)
line_of-three [] d size other = absurd (omega arith)
line_of-three (a ∷ []) d size other = absurd (omega arith)
line_of-three (a ∷ b ∷ []) d size other = absurd (omega arith)
line_of-three (a ∷ b ∷ c ∷ []) d size other = rw other refl
line_of-three (a ∷ b ∷ c ∷ e ∷ more) d size other = absurd (omega arith)

-- four words, of which the first isn't strobe
pub line_of-four : (words : List (Bor (List ℕ))) (d : Bor (List ℕ)) → length words ≡ 4 → bytes_eq (get_or words 0 d).now (codes "strobe") ≡ false → Formless ≡ line_of (plain_texts words)
line_of-four [] d size other = absurd (omega arith)
line_of-four (a ∷ []) d size other = absurd (omega arith)
line_of-four (a ∷ b ∷ []) d size other = absurd (omega arith)
line_of-four (a ∷ b ∷ c ∷ []) d size other = absurd (omega arith)
line_of-four (a ∷ b ∷ c ∷ e ∷ []) d size other = rw other refl
line_of-four (a ∷ b ∷ c ∷ e ∷ f ∷ more) d size other = absurd (omega arith)

-- five words or more
pub line_of-five : (words : List (Bor (List ℕ))) → 5 ≤ length words → Formless ≡ line_of (plain_texts words)
line_of-five [] size = absurd (omega arith)
line_of-five (a ∷ []) size = absurd (omega arith)
line_of-five (a ∷ b ∷ []) size = absurd (omega arith)
line_of-five (a ∷ b ∷ c ∷ []) size = absurd (omega arith)
line_of-five (a ∷ b ∷ c ∷ e ∷ []) size = absurd (omega arith)
line_of-five (a ∷ b ∷ c ∷ e ∷ f ∷ more) size = refl
