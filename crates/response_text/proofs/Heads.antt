-- A line that begins with a strobe's time, and what stands behind it.
use Rattle.std.proofs.Common.{◌≡◌, ℕ, true, false, ◌&&◌, List, [], ◌∷◌, ◌++◌, length, take, drop, Option, Some, None, refl, sym, ◌∙◌, ap, subst}
use Rattle.std.specs.Prelude.{nat_eq}
use Rattle.std.specs.Str.{bytes_eq}
use Rattle.std.specs.Fmt.{decimal}
use Rattle.std.proofs.lemmas.Bool.{cond-true, cond-false, eq-eqb, eqb-true, ne_eqb, and_parts, false≢true}
use Rattle.four_value.specs.declared.logic.Bit.{Bit}
use Rattle.v_design.specs.Grades.{Sample}
use Rattle.response_text.specs.Reading.{observed_bits, behind, bits_if, sample_if, sample_on}
use Rattle.response_text.proofs.ObservedBits.{length-observed}

-- What stands behind

behind-found : (bytes line rest : List ℕ) → bytes_eq (take (length bytes) line) bytes ≡ true → rest ≡ drop (length bytes) line → behind bytes line ≡ Some rest
behind-found [] line rest same is = ap (λ l. Some l) (sym is)
behind-found (b ∷ bytes) [] rest same is = absurd (false≢true same)
behind-found (b ∷ bytes) (c ∷ line) rest same is =
    let p = and_parts (nat_eq c b) (bytes_eq (take (length bytes) line) bytes) same in
    cond-true (nat_eq b c) (behind bytes line) None (eq-eqb b c (sym (eqb-true c b p.0))) ∙ behind-found bytes line rest p.1 is

behind-missing : (bytes line : List ℕ) → bytes_eq (take (length bytes) line) bytes ≡ false → behind bytes line ≡ None
behind-missing [] line other = absurd (false≢true (sym other))
behind-missing (b ∷ bytes) [] other = refl
behind-missing (b ∷ bytes) (c ∷ line) other =
    elim (nat_eq c b) as (λ t. nat_eq c b ≡ t → behind (b ∷ bytes) (c ∷ line) ≡ None) [
      | true ↦ λ e. cond-true (nat_eq b c) (behind bytes line) None (eq-eqb b c (sym (eqb-true c b e)))
          ∙ behind-missing bytes line (subst (λ t. (t && bytes_eq (take (length bytes) line) bytes) ≡ false) e other)
      | false ↦ λ e. cond-false (nat_eq b c) (behind bytes line) None (ne_eqb b c (λ s. false≢true (sym e ∙ eq-eqb c b (sym s))))
    ] refl

-- The sample of a line

-- a strobe's time and bits
abbrev pub sample_at : ℕ → List Bit → Sample
sample_at time bits = record { time = time; bits = bits }

-- it is that of the bytes behind the time, where the line begins with that
pub sample-found : (width time : ℕ) (head line rest : List ℕ) → head ≡ decimal time ++ 32 ∷ [] → bytes_eq (take (length head) line) head ≡ true →
    rest ≡ drop (length head) line → sample_if time width (observed_bits rest) ≡ sample_on width time line
sample-found width time head line rest written same is =
    sym (ap (λ h. sample_if time width (bits_if (behind h line))) (sym written) ∙ ap (λ b. sample_if time width (bits_if b)) (behind-found head line rest same is))

-- there is none where the line begins otherwise
pub sample-missing : (width time : ℕ) (head line : List ℕ) → head ≡ decimal time ++ 32 ∷ [] → bytes_eq (take (length head) line) head ≡ false → None ≡ sample_on width time line
sample-missing width time head line written other =
    sym (ap (λ h. sample_if time width (bits_if (behind h line))) (sym written) ∙ ap (λ b. sample_if time width (bits_if b)) (behind-missing head line other))

sample-odd : (time width : ℕ) (bytes : List ℕ) (read : Option (List Bit)) → ((bits : List Bit) → read ≡ Some bits → length bits ≡ length bytes) →
    (length bytes ≡ width → ⊥) → None ≡ sample_if time width read
sample-odd time width bytes None each odd = refl
sample-odd time width bytes (Some bits) each odd =
    sym (cond-false (nat_eq (length bits) width) (Some (sample_at time bits)) None (ne_eqb (length bits) width (λ e. odd (sym (each bits refl) ∙ e))))

-- there is none where there are more or fewer bytes than watched bits
pub sample-other_length : (time width : ℕ) (bytes : List ℕ) → (length bytes ≡ width → ⊥) → None ≡ sample_if time width (observed_bits bytes)
sample-other_length time width bytes odd = sample-odd time width bytes (observed_bits bytes) (length-observed bytes) odd

-- there is none where a byte spells no bit
pub sample-unread : (time width : ℕ) (bytes : List ℕ) → None ≡ observed_bits bytes → None ≡ sample_if time width (observed_bits bytes)
sample-unread time width bytes is = ap (sample_if time width) is

-- else it has the bits
pub sample-read : (time width : ℕ) (bytes : List ℕ) (bits : List Bit) → length bytes ≡ width → Some bits ≡ observed_bits bytes →
    Some (sample_at time bits) ≡ sample_if time width (observed_bits bytes)
sample-read time width bytes bits full is =
    sym (ap (sample_if time width) (sym is) ∙ cond-true (nat_eq (length bits) width) (Some (sample_at time bits)) None (eq-eqb (length bits) width (length-observed bytes bits (sym is) ∙ full)))
