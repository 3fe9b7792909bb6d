-- The words of a claim.
use Rattle.std.proofs.Common.{◌≡◌, ℕ, ◌<◌, List, [], ◌∷◌, length, get_or, true, Bor, Option, Some, None, codes, refl, sym, ◌∙◌, ap, arith}
use Rattle.std.specs.Prelude.{count_by}
use Rattle.std.specs.Str.{bytes_eq}
use Rattle.std.proofs.lemmas.List.{length-map}
use Rattle.std.proofs.lemmas.List.Splits.{length-slice_split}
use Rattle.std.proofs.lemmas.Bool.{cond-true}
use Rattle.vf_base.specs.declared.finding.Side.{Side}
use Rattle.v_design.specs.Designs.{FlatDesign, StuckAt}
use Rattle.text_lines.specs.Plain.{plain_texts}
use Rattle.fault_list.specs.Spelled.{site_spelled}
use Rattle.cert_laws.specs.Claims.{Claim, is_blank, parts_of, side_of, moment_of, access_of, race_of_side, claim_by, claims_by, fault_by, named_site, value_of_word, line_claims, claim_of}

pub length-texts : (words : List (Bor (List ℕ))) → length (plain_texts words) ≡ length words
length-texts words = length-map words (λ (text : Bor (List ℕ)). text.now)

-- one word
pub claim-one : (design : FlatDesign) (words : List (Bor (List ℕ))) (d : Bor (List ℕ)) → length words ≡ 1 → claim_by design ((get_or words 0 d).now ∷ []) ≡ claim_by design (plain_texts words)
claim-one design [] d size = absurd (omega arith)
claim-one design (a ∷ []) d size = refl
claim-one design (a ∷ b ∷ more) d size = absurd (omega arith)

-- two words
pub claim-two : (design : FlatDesign) (words : List (Bor (List ℕ))) (d : Bor (List ℕ)) → length words ≡ 2 →
    claim_by design ((get_or words 0 d).now ∷ (get_or words 1 d).now ∷ []) ≡ claim_by design (plain_texts words)
claim-two design [] d size = absurd (omega arith)
claim-two design (a ∷ []) d size = absurd (omega arith)
claim-two design (a ∷ b ∷ []) d size = refl
claim-two design (a ∷ b ∷ c ∷ more) d size = absurd (omega arith)

-- as many words as no claim has
pub claim-other : (design : FlatDesign) (words : List (List ℕ)) → (length words ≡ 1 → ⊥) → (length words ≡ 2 → ⊥) → (length words ≡ 11 → ⊥) → None ≡ claim_by design words
claim-other design [] one two eleven = refl
claim-other design (a ∷ []) one two eleven = absurd (one refl)
claim-other design (a ∷ b ∷ []) one two eleven = absurd (two refl)
claim-other design (a ∷ b ∷ c ∷ []) one two eleven = refl
claim-other design (a ∷ b ∷ c ∷ e ∷ []) one two eleven = refl
claim-other design (a ∷ b ∷ c ∷ e ∷ f ∷ []) one two eleven = refl
claim-other design (a ∷ b ∷ c ∷ e ∷ f ∷ g ∷ []) one two eleven = refl
claim-other design (a ∷ b ∷ c ∷ e ∷ f ∷ g ∷ h ∷ []) one two eleven = refl
claim-other design (a ∷ b ∷ c ∷ e ∷ f ∷ g ∷ h ∷ i ∷ []) one two eleven = refl
claim-other design (a ∷ b ∷ c ∷ e ∷ f ∷ g ∷ h ∷ i ∷ j ∷ []) one two eleven = refl
claim-other design (a ∷ b ∷ c ∷ e ∷ f ∷ g ∷ h ∷ i ∷ j ∷ k ∷ []) one two eleven = refl
claim-other design (a ∷ b ∷ c ∷ e ∷ f ∷ g ∷ h ∷ i ∷ j ∷ k ∷ l ∷ []) one two eleven = absurd (eleven refl)
claim-other design (a ∷ b ∷ c ∷ e ∷ f ∷ g ∷ h ∷ i ∷ j ∷ k ∷ l ∷ m ∷ more) one two eleven = refl

-- the words of a race
record IsRace (words : List (Bor (List ℕ))) (d : Bor (List ℕ)) (said : List (List ℕ)) : Type 0 where
  texts : said ≡ (get_or words 0 d).now ∷ (get_or words 1 d).now ∷ (get_or words 2 d).now ∷ (get_or words 3 d).now ∷ (get_or words 4 d).now ∷ (get_or words 5 d).now ∷ (get_or words 6 d).now
      ∷ (get_or words 7 d).now ∷ (get_or words 8 d).now ∷ (get_or words 9 d).now ∷ (get_or words 10 d).now ∷ []

eleven-words : (words : List (Bor (List ℕ))) (d : Bor (List ℕ)) → length words ≡ 11 → IsRace words d (plain_texts words)
eleven-words [] d size = absurd (omega arith)
eleven-words (a ∷ []) d size = absurd (omega arith)
eleven-words (a ∷ b ∷ []) d size = absurd (omega arith)
eleven-words (a ∷ b ∷ c ∷ []) d size = absurd (omega arith)
eleven-words (a ∷ b ∷ c ∷ e ∷ []) d size = absurd (omega arith)
eleven-words (a ∷ b ∷ c ∷ e ∷ f ∷ []) d size = absurd (omega arith)
eleven-words (a ∷ b ∷ c ∷ e ∷ f ∷ g ∷ []) d size = absurd (omega arith)
eleven-words (a ∷ b ∷ c ∷ e ∷ f ∷ g ∷ h ∷ []) d size = absurd (omega arith)
eleven-words (a ∷ b ∷ c ∷ e ∷ f ∷ g ∷ h ∷ i ∷ []) d size = absurd (omega arith)
eleven-words (a ∷ b ∷ c ∷ e ∷ f ∷ g ∷ h ∷ i ∷ j ∷ []) d size = absurd (omega arith)
eleven-words (a ∷ b ∷ c ∷ e ∷ f ∷ g ∷ h ∷ i ∷ j ∷ k ∷ []) d size = absurd (omega arith)
eleven-words (a ∷ b ∷ c ∷ e ∷ f ∷ g ∷ h ∷ i ∷ j ∷ k ∷ l ∷ []) d size = record { texts = refl }
eleven-words (a ∷ b ∷ c ∷ e ∷ f ∷ g ∷ h ∷ i ∷ j ∷ k ∷ l ∷ m ∷ more) d size = absurd (omega arith)

module _ (design : FlatDesign) (words : List (Bor (List ℕ))) (d : Bor (List ℕ)) (size : length words ≡ 11) where
  -- what the first word says
  abbrev race_meant : Option Claim
  race_meant =
      race_of_side (side_of (get_or words 1 d).now) (moment_of (get_or words 2 d).now)
      (access_of design (get_or words 3 d).now (get_or words 4 d).now (get_or words 5 d).now (get_or words 6 d).now)
      (access_of design (get_or words 7 d).now (get_or words 8 d).now (get_or words 9 d).now (get_or words 10 d).now)

  -- a race, by what its parts say
  pub race-said : bytes_eq (get_or words 0 d).now (codes "race") ≡ true → (side : Option Side) (moment : Option (ℕ × ℕ)) (first second : Option (List ℕ)) →
      side ≡ side_of (get_or words 1 d).now → moment ≡ moment_of (get_or words 2 d).now →
      first ≡ access_of design (get_or words 3 d).now (get_or words 4 d).now (get_or words 5 d).now (get_or words 6 d).now →
      second ≡ access_of design (get_or words 7 d).now (get_or words 8 d).now (get_or words 9 d).now (get_or words 10 d).now →
      race_of_side side moment first second ≡ claim_by design (plain_texts words)
  race-said race side moment first second one two three four =
      ap (λ s. race_of_side s moment first second) one
      ∙ (ap (λ m. race_of_side (side_of (get_or words 1 d).now) m first second) two
      ∙ (ap (λ a. race_of_side (side_of (get_or words 1 d).now) (moment_of (get_or words 2 d).now) a second) three
      ∙ (ap (race_of_side (side_of (get_or words 1 d).now) (moment_of (get_or words 2 d).now)
      (access_of design (get_or words 3 d).now (get_or words 4 d).now (get_or words 5 d).now (get_or words 6 d).now)) four
      ∙ sym (ap (claim_by design) (eleven-words words d size).texts ∙ cond-true (bytes_eq (get_or words 0 d).now (codes "race")) race_meant None race))))

-- The line

pub claims-none : (fault : Option StuckAt) → claims_by fault None ≡ None
claims-none None = refl
claims-none (Some fault) = refl

-- a line of more than 13 parts is no claim
claims-long : (design : FlatDesign) (parts : List (List ℕ)) → 13 < length parts → None ≡ line_claims design parts
claims-long design [] long = absurd (omega arith)
claims-long design (s ∷ []) long = absurd (omega arith)
claims-long design (s ∷ v ∷ []) long = absurd (omega arith)
claims-long design (s ∷ v ∷ words) long =
    sym (ap (claims_by (fault_by (named_site design s (site_spelled design s)) (value_of_word v))) (sym (claim-other design words (omega arith) (omega arith) (omega arith)))
    ∙ claims-none (fault_by (named_site design s (site_spelled design s)) (value_of_word v)))

pub claim-long : (design : FlatDesign) (line : List ℕ) (count : ℕ) → count ≡ count_by is_blank line → 12 < count → None ≡ claim_of design line
claim-long design line count is long = claims-long design (parts_of line) (omega (arith, is, length-slice_split is_blank line))
