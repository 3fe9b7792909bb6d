-- Bits that are read one by one.
use Rattle.std.proofs.Common.{◌≡◌, ℕ, suc, ◌+◌, ◌<◌, ◌≤◌, List, [], ◌∷◌, ◌++◌, length, drop, get_or, Option, Some, None, refl, sym, ◌∙◌, ap, append_assoc}
use Rattle.std.proofs.lemmas.List.{drop_more, drop_all, append-nil}
use Rattle.four_value.specs.declared.logic.Bit.{Bit}
use Rattle.response_text.specs.Reading.{observed_bit, bits_and, observed_bits}

-- bits behind others, if they are there
abbrev pub bits_behind : List Bit → Option (List Bit) → Option (List Bit)
bits_behind done None = None
bits_behind done (Some bits) = Some (done ++ bits)

pub bits-first : (meant : Option (List Bit)) → meant ≡ bits_behind [] meant
bits-first None = refl
bits-first (Some bits) = refl

bits_behind-and : (done : List Bit) (bit : Bit) (rest : Option (List Bit)) → bits_behind done (bits_and (Some bit) rest) ≡ bits_behind (done ++ bit ∷ []) rest
bits_behind-and done bit None = refl
bits_behind-and done bit (Some bits) = ap (λ l. Some l) (sym (append_assoc done (bit ∷ []) bits))

-- one bit more is read
pub bits-more : (meant : Option (List Bit)) (done now : List Bit) (bytes : List ℕ) (i : ℕ) (bit : Bit) → i < length bytes →
    meant ≡ bits_behind done (observed_bits (drop i bytes)) → Some bit ≡ observed_bit (get_or bytes i 0) → now ≡ done ++ bit ∷ [] →
    meant ≡ bits_behind now (observed_bits (drop (i + 1) bytes))
bits-more meant done now bytes i bit below is here pushed =
    let rest = observed_bits (drop (i + 1) bytes) in
    is
    ∙ (ap (λ l. bits_behind done (observed_bits l)) (drop_more bytes i 0 below)
    ∙ (ap (λ b. bits_behind done (bits_and b rest)) (sym here) ∙ (bits_behind-and done bit rest ∙ ap (λ l. bits_behind l rest) (sym pushed))))

-- a byte spells no bit
pub bits-stop : (meant : Option (List Bit)) (done : List Bit) (bytes : List ℕ) (i : ℕ) → i < length bytes → meant ≡ bits_behind done (observed_bits (drop i bytes)) →
    None ≡ observed_bit (get_or bytes i 0) → None ≡ meant
bits-stop meant done bytes i below is here =
    sym (is ∙ (ap (λ l. bits_behind done (observed_bits l)) (drop_more bytes i 0 below) ∙ ap (λ b. bits_behind done (bits_and b (observed_bits (drop (i + 1) bytes)))) (sym here)))

-- all bytes are read
pub bits-end : (meant : Option (List Bit)) (done : List Bit) (bytes : List ℕ) (i : ℕ) → length bytes ≤ i → meant ≡ bits_behind done (observed_bits (drop i bytes)) → Some done ≡ meant
bits-end meant done bytes i all is = sym (is ∙ (ap (λ l. bits_behind done (observed_bits l)) (drop_all i bytes all) ∙ ap (λ l. Some l) (append-nil done)))

bits_and-length : (first : Option Bit) (rest : Option (List Bit)) (bits : List Bit) (n : ℕ) → ((more : List Bit) → rest ≡ Some more → length more ≡ n) →
    bits_and first rest ≡ Some bits → length bits ≡ suc n
bits_and-length None rest bits n each e = cc
bits_and-length (Some bit) None bits n each e = cc
bits_and-length (Some bit) (Some more) bits n each e = let same : bits ≡ bit ∷ more = cc in ap length same ∙ ap suc (each more refl)

-- each byte spells one bit
pub length-observed : (bytes : List ℕ) (bits : List Bit) → observed_bits bytes ≡ Some bits → length bits ≡ length bytes
length-observed [] bits e = let same : bits ≡ [] = cc in ap length same
length-observed (b ∷ bs) bits e = bits_and-length (observed_bit b) (observed_bits bs) bits (length bs) (length-observed bs) e
