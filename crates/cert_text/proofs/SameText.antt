-- Two accesses that print alike.
use Rattle.std.proofs.Common.{◌≡◌, ℕ, ◌+◌, ◌<◌, ◌^◌, List, [], ◌∷◌, ◌++◌, Bool, true, false, length, refl, sym, ◌∙◌, ap, arith}
use Rattle.std.proofs.Common.{length-append}
use Rattle.std.specs.Prelude.{count_by, if◌then◌else◌}
use Rattle.std.specs.Bool.{Decides}
use Rattle.std.specs.List.{onto_first}
use Rattle.std.specs.Fmt.{decimal}
use Rattle.std.specs.Str.{bytes_eq}
use Rattle.std.proofs.lemmas.Bool.{false_from_ne_true}
use Rattle.std.proofs.lemmas.List.{append_cancel_left, append_cancel_right}
use Rattle.std.proofs.lemmas.List.Splits.{length-slice_split}
use Rattle.std.proofs.lemmas.Slice.Eq.{bytes_eq-Decides}
use Rattle.std.proofs.lemmas.Fmt.{decimal_injective}
use Rattle.vf_base.specs.Base.{ReportedAccess}
use Rattle.vf_base.specs.declared.finding.AccessKind.{AccessKind}
use Rattle.v_design.specs.Designs.{FlatDesign}
use Rattle.v_design.specs.WellFormed.{KeepsRules}
use Rattle.grade_report.specs.Objects.{object_text}
use Rattle.grade_report.specs.Report.{kind_text, access_text}
use Rattle.cert_laws.specs.Claims.{is_blank, parts_of, spaced}
use Rattle.cert_text.proofs.Worded.{AreWords, parts-words}
use Rattle.cert_text.proofs.FaultWords.{access_words, access-text, access-are, kind-is_word, lettered-word}

-- the text of an access with these words
abbrev pub said : List ℕ → List ℕ → List ℕ → List ℕ → List ℕ
said kind object process line = spaced kind (spaced object (spaced process line))

test-same : (one other one' other' : List ℕ) → (one ≡ other → one' ≡ other') → (one' ≡ other' → one ≡ other) → bytes_eq one other ≡ bytes_eq one' other'
test-same one other one' other' to from = by_test (bytes_eq one other) (bytes_eq one' other') (bytes_eq-Decides one other) (bytes_eq-Decides one' other')
  where
    by_test : (b b' : Bool) → Decides b (one ≡ other) → Decides b' (one' ≡ other') → b ≡ b'
    by_test true true h h' = refl
    by_test true false h h' = sym (h'.1 (to (h.0 refl)))
    by_test false true h h' = h.1 (from (h'.0 refl))
    by_test false false h h' = refl

-- the same kind, process and line: they print alike where the objects do
pub same-parts : (k o o' p l : List ℕ) → bytes_eq o' o ≡ bytes_eq (said k o p l) (said k o' p l)
same-parts k o o' p l =
    test-same o' o (said k o p l) (said k o' p l) (λ e. ap (λ x. said k x p l) (sym e))
    (λ e. sym (append_cancel_right o o' (32 ∷ spaced p l) (no-blank (append_cancel_left k (32 ∷ spaced o (spaced p l)) (32 ∷ spaced o' (spaced p l)) e))))
  where
    no-blank : 32 ∷ spaced o (spaced p l) ≡ 32 ∷ spaced o' (spaced p l) → spaced o (spaced p l) ≡ spaced o' (spaced p l)
    no-blank e = cc

-- The parts of a text

onto-append : (b : ℕ) (parts more : List (List ℕ)) (n : ℕ) → length parts ≡ n + 1 → onto_first b (parts ++ more) ≡ onto_first b parts ++ more
onto-append b [] more n some = absurd (omega arith)
onto-append b (part ∷ parts) more n some = refl

-- a blank parts what stands before it from what stands behind it
parts-append : (text rest : List ℕ) → parts_of (spaced text rest) ≡ parts_of text ++ parts_of rest
parts-append [] rest = refl
parts-append (b ∷ bs) rest =
    by_test (is_blank b) (parts_of (spaced bs rest)) (parts-append bs rest)
  where
    by_test : (blank : Bool) (parts : List (List ℕ)) → parts ≡ parts_of bs ++ parts_of rest →
        (if blank then [] ∷ parts else onto_first b parts) ≡ (if blank then [] ∷ parts_of bs else onto_first b (parts_of bs)) ++ parts_of rest
    by_test true parts e = ap (λ l. [] ∷ l) e
    by_test false parts e = ap (onto_first b) e ∙ onto-append b (parts_of bs) (parts_of rest) (count_by is_blank bs) (length-slice_split is_blank bs)

-- the last two of three
record EndsAlike (p l p' l' : List ℕ) : Type 0 where
  process : p ≡ p'
  line : l ≡ l'

ends-alike : (parts : List (List ℕ)) (o p l p' l' : List ℕ) → (o ∷ p ∷ l ∷ []) ≡ parts ++ (p' ∷ l' ∷ []) → EndsAlike p l p' l'
ends-alike [] o p l p' l' e = absurd (omega (arith, ap length e))
ends-alike (x ∷ []) o p l p' l' e = record { process = cc; line = cc }
ends-alike (x ∷ y ∷ more) o p l p' l' e = absurd (omega (arith, ap length e, length-append more (p' ∷ l' ∷ [])))

-- Accesses

module _ (design : FlatDesign) (access : ReportedAccess) (kind : AccessKind) (object : List ℕ) (process line : ℕ) (rules : KeepsRules design) where
  -- the text of the other access
  abbrev other_text : List ℕ
  other_text = said (kind_text kind) object (112 ∷ decimal process) (108 ∷ decimal line)

  -- their last two words are the same
  abbrev EndAlike : Type 0
  EndAlike = EndsAlike (112 ∷ decimal access.process) (108 ∷ decimal access.line) (112 ∷ decimal process) (108 ∷ decimal line)

  prints-alike : access_text design access ≡ other_text → EndAlike
  prints-alike e =
      let rest = spaced (112 ∷ decimal process) (108 ∷ decimal line) in
      let ends : AreWords ((112 ∷ decimal process) ∷ (108 ∷ decimal line) ∷ []) = (lettered-word 112 process refl, (lettered-word 108 line refl, tt)) in
      let kind_parts : parts_of (kind_text kind) ≡ kind_text kind ∷ [] = parts-words (kind_text kind) [] (kind-is_word kind, tt) in
      let parts : access_words design access ≡ kind_text kind ∷ (parts_of object ++ ((112 ∷ decimal process) ∷ (108 ∷ decimal line) ∷ [])) =
      sym (parts-words (kind_text access.kind) (object_text design access.object ∷ (112 ∷ decimal access.process) ∷ (108 ∷ decimal access.line) ∷ []) (access-are design access rules))
      ∙ (ap parts_of (sym (access-text design access) ∙ e)
      ∙ (parts-append (kind_text kind) (spaced object rest)
      ∙ (ap (λ l. l ++ parts_of (spaced object rest)) kind_parts
      ∙ ap (λ l. kind_text kind ∷ l) (parts-append object rest ∙ ap (λ l. parts_of object ++ l) (parts-words (112 ∷ decimal process) ((108 ∷ decimal line) ∷ []) ends))))) in
      ends-alike (parts_of object) (object_text design access.object) (112 ∷ decimal access.process) (108 ∷ decimal access.line) (112 ∷ decimal process) (108 ∷ decimal line) (tails-same parts)
    where
      tails-same : {x y : List ℕ} {xs ys : List (List ℕ)} → x ∷ xs ≡ y ∷ ys → xs ≡ ys
      tails-same e = cc

  differs : (EndAlike → ⊥) → false ≡ bytes_eq (access_text design access) other_text
  differs never = sym (false_from_ne_true (bytes_eq (access_text design access) other_text) (λ e. never (prints-alike ((bytes_eq-Decides (access_text design access) other_text).0 e))))

  -- another process, another line
  pub other-process : access.process < 2 ^ 64 → process < 2 ^ 64 → (access.process ≡ process → ⊥) → false ≡ bytes_eq (access_text design access) other_text
  other-process few less other = differs (λ h. other (decimal_injective access.process process few less (behind-letter h.process)))
    where
      behind-letter : {p q : List ℕ} → 112 ∷ p ≡ 112 ∷ q → p ≡ q
      behind-letter e = cc

  pub other-line : access.line < 2 ^ 64 → line < 2 ^ 64 → (access.line ≡ line → ⊥) → false ≡ bytes_eq (access_text design access) other_text
  other-line few less other = differs (λ h. other (decimal_injective access.line line few less (behind-letter h.line)))
    where
      behind-letter : {p q : List ℕ} → 108 ∷ p ≡ 108 ∷ q → p ≡ q
      behind-letter e = cc

  -- the same ones: they print alike where the objects do
  pub same-object : access.kind ≡ kind → access.process ≡ process → access.line ≡ line → bytes_eq object (object_text design access.object) ≡ bytes_eq (access_text design access) other_text
  same-object one two three =
      same-parts (kind_text kind) (object_text design access.object) object (112 ∷ decimal process) (108 ∷ decimal line)
      ∙ ap (λ t. bytes_eq t other_text) (sym (access-text design access ∙ (ap (λ k. said (kind_text k) (object_text design access.object) (112 ∷ decimal access.process) (108 ∷ decimal access.line))
      one
      ∙ (ap (λ p. said (kind_text kind) (object_text design access.object) (112 ∷ decimal p) (108 ∷ decimal access.line)) two
      ∙ ap (λ l. said (kind_text kind) (object_text design access.object) (112 ∷ decimal process) (108 ∷ decimal l)) three))))
