-- Of which processes something is kept (nothing of the language).
use Rattle.std.proofs.Common.{◌≡◌, ◌∙◌, ℕ, zero, suc, ◌≤◌, Bool, true, false, ◌||◌, List, [], ◌∷◌, ◌++◌, get_or, length, map, nat_eq, refl, sym, ap, subst, arith}
use Rattle.std.specs.Prelude.{◌≢◌, set}
use Rattle.std.proofs.lemmas.Bool.{eqb-true, eqb-false}
use Rattle.std.proofs.lemmas.List.{get_or-set_other, get_or_past, map-append}
use Rattle.vf_base.specs.Base.{process_number}
use Rattle.vf_base.specs.Lists.{has}
use Rattle.vf_base.specs.declared.ids.ProcId.{ProcId}
use Rattle.block_runner.specs.declared.rows.ProcessBeside.{ProcessBeside}
use Rattle.block_runner.specs.Beside.{AreClean, fresh, row_at}

or-none : (a b : Bool) → (a || b) ≡ false → (a ≡ false) × (b ≡ false)
or-none true b e = absurd (cc)
or-none false b e = (refl, e)

has-append : (xs ys : List ℕ) (n : ℕ) → has (xs ++ ys) n ≡ (has xs n || has ys n)
has-append [] ys n = refl
has-append (x ∷ xs) ys n = ap (λ (b : Bool). nat_eq x n || b) (has-append xs ys n) ∙ or-joined (nat_eq x n) (has xs n) (has ys n)
  where
    or-joined : (a b c : Bool) → (a || (b || c)) ≡ ((a || b) || c)
    or-joined true b c = refl
    or-joined false b c = refl

-- of one process more something may be kept
pub clean-put : (rows : List ProcessBeside) (stepped : List ProcId) (process : ProcId) (row : ProcessBeside) → AreClean rows stepped →
    AreClean (set rows (process_number process) row) (stepped ++ process ∷ [])
clean-put rows stepped process row clean q none =
    let parts = or-none (has (map process_number stepped) q) (has (process_number process ∷ []) q)
    (sym (ap (λ l. has l q) (map-append process_number stepped (process ∷ [])) ∙ has-append (map process_number stepped) (process_number process ∷ []) q) ∙ none) in
    let apart : process_number process ≢ q = eqb-false (process_number process) q (or-none (nat_eq (process_number process) q) false parts.1).0 in
    get_or-set_other rows (process_number process) q row fresh (λ e. apart (sym e)) ∙ clean q parts.0

-- or of one less
set-fresh : (rows : List ProcessBeside) (n : ℕ) → get_or (set rows n fresh) n fresh ≡ fresh
set-fresh [] n = refl
set-fresh (row ∷ rows) zero = refl
set-fresh (row ∷ rows) (suc n) = set-fresh rows n

module _ (rows : List ProcessBeside) (process : ProcId) (rest : List ProcId) (clean : AreClean rows (process ∷ rest)) where
  other-clean : (q : ℕ) → nat_eq (process_number process) q ≡ false → has (map process_number rest) q ≡ false → row_at rows q ≡ fresh
  other-clean q apart none = clean q (ap (λ (b : Bool). b || has (map process_number rest) q) apart ∙ none)

  pub clean-next : AreClean (set rows (process_number process) fresh) rest
  clean-next q none = go (nat_eq (process_number process) q) refl
    where
      go : (b : Bool) → nat_eq (process_number process) q ≡ b → row_at (set rows (process_number process) fresh) q ≡ fresh
      go true e = ap (row_at (set rows (process_number process) fresh)) (sym (eqb-true (process_number process) q e)) ∙ set-fresh rows (process_number process)
      go false e =
          let apart : process_number process ≢ q = eqb-false (process_number process) q e in
          get_or-set_other rows (process_number process) q fresh fresh (λ same. apart (sym same)) ∙ other-clean q e none

  pub clean-past : length rows ≤ process_number process → AreClean rows rest
  clean-past past q none = go (nat_eq (process_number process) q) refl
    where
      go : (b : Bool) → nat_eq (process_number process) q ≡ b → row_at rows q ≡ fresh
      go true e = ap (row_at rows) (sym (eqb-true (process_number process) q e)) ∙ get_or_past rows (process_number process) fresh past
      go false e = other-clean q e none
