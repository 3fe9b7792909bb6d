-- What is kept of each process, with one changed (nothing of the language).
use Rattle.std.proofs.Common.{◌≡◌, ℕ, ◌+◌, ◌<◌, ◌≤◌, Bool, true, false, List, [], ◌∷◌, ◌++◌, cond, get_or, length, map, refl, sym, ap, subst, ◌∙◌, arith, nat_eq}
use Rattle.std.specs.Prelude.{◌≢◌, set}
use Rattle.std.proofs.lemmas.Bool.{eqb-true, eqb-false, eq-eqb, ne_eqb}
use Rattle.std.proofs.lemmas.List.{get_or-set_same, get_or-set_other, map-append}
use Rattle.std.proofs.lemmas.List.Sums.{sum_by-append, sum_by-cons}
use Rattle.vf_base.specs.Base.{process_number}
use Rattle.vf_base.specs.declared.ids.ProcId.{ProcId}
use Rattle.run_numbers.specs.Numbers.{times_of}
use Rattle.block_runner.specs.declared.rows.ProcessBeside.{ProcessBeside}
use Rattle.block_runner.specs.Beside.{AreListed, fresh, row_at, taken_of}
use Rattle.block_runner.specs.Next.{ended_behind, row_behind}

-- how often a process stands among some with one more
times-more : (q : ℕ) (ended : List ProcId) (process : ProcId) → times_of q (map process_number (ended ++ process ∷ [])) ≡ times_of q (map process_number ended) + cond (nat_eq (process_number process) q) 1 0
times-more q ended process =
    ap (times_of q) (map-append process_number ended (process ∷ []))
    ∙ sum_by-append (λ (other : ℕ). cond (nat_eq other q) 1 0) (map process_number ended) (process_number process ∷ [])
    ∙ ap (λ (n : ℕ). times_of q (map process_number ended) + n) last
  where
    plus-none : (n : ℕ) → n + 0 ≡ n
    plus-none n = omega arith

    last : times_of q (process_number process ∷ []) ≡ cond (nat_eq (process_number process) q) 1 0
    last = sum_by-cons (λ (other : ℕ). cond (nat_eq other q) 1 0) (process_number process) [] ∙ plus-none (cond (nat_eq (process_number process) q) 1 0)

-- of another process as often as before
pub times-other : (q : ℕ) (ended : List ProcId) (process : ProcId) (ready : Bool) → q ≢ process_number process →
    times_of q (map process_number (ended_behind ended process ready)) ≡ times_of q (map process_number ended)
times-other q ended process true apart = refl
times-other q ended process false apart =
    let none : nat_eq (process_number process) q ≡ false = ne_eqb (process_number process) q (λ e. apart (sym e)) in
    times-more q ended process ∙ ap (λ (b : Bool). times_of q (map process_number ended) + cond b 1 0) none ∙ plus-none (times_of q (map process_number ended))
  where
    plus-none : (n : ℕ) → n + 0 ≡ n
    plus-none n = omega arith

-- of the process itself once more, if its run ended
pub times-own : (ended : List ProcId) (process : ProcId) (row : ProcessBeside) (follows ready : Bool) → row.ended ≡ times_of (process_number process) (map process_number ended) →
    (row_behind row follows ready).ended ≡ times_of (process_number process) (map process_number (ended_behind ended process ready))
times-own ended process row follows true same = same
times-own ended process row follows false same =
    ap (λ (n : ℕ). n + 1) same
    ∙ sym (times-more (process_number process) ended process
    ∙ ap (λ (b : Bool). times_of (process_number process) (map process_number ended) + cond b 1 0) (eq-eqb (process_number process) (process_number process) refl))

-- what is kept of each
module _ (rows : List ProcessBeside) (process : ProcId) (behind : ProcessBeside) (there : process_number process < length rows) where
  pub row-own : row_at (set rows (process_number process) behind) (process_number process) ≡ behind
  row-own = get_or-set_same rows (process_number process) behind fresh there

  pub row-other : (q : ℕ) → q ≢ process_number process → row_at (set rows (process_number process) behind) q ≡ row_at rows q
  row-other q apart = get_or-set_other rows (process_number process) q behind fresh apart

-- the lists with one step more
pub listed-more : (rows : List ProcessBeside) (ended : List ProcId) (taken : ℕ) (process : ProcId) (follows ready : Bool) → process_number process < length rows → AreListed rows ended taken →
    AreListed (set rows (process_number process) (row_behind (row_at rows (process_number process)) follows ready)) (ended_behind ended process ready) (taken + 1)
listed-more rows ended taken process follows ready there listed = record {
  times = λ q. elim-row q (λ row. row.ended ≡ times_of q (map process_number (ended_behind ended process ready)))
      (λ same. subst (λ (n : ℕ). (row_behind (row_at rows (process_number process)) follows ready).ended ≡ times_of n (map process_number (ended_behind ended process ready))) (sym same) (times-own ended process (row_at rows (process_number process)) follows ready (listed.times (process_number process))))
      (λ apart. listed.times q ∙ sym (times-other q ended process ready apart));
  few = λ q. elim-row q (λ row. row.ended ≤ taken + 1) (λ same. few-own ready) (λ apart. omega (arith, listed.few q));
  short = λ q. elim-row q (λ row. taken_of row.going ≤ taken + 1) (λ same. short-own ready) (λ apart. omega (arith, listed.short q));
}
  where
    few-own : (b : Bool) → (row_behind (row_at rows (process_number process)) follows b).ended ≤ taken + 1
    few-own true = omega (arith, listed.few (process_number process))
    few-own false = omega (arith, listed.few (process_number process))

    short-own : (b : Bool) → taken_of (row_behind (row_at rows (process_number process)) follows b).going ≤ taken + 1
    short-own true = omega (arith, listed.short (process_number process))
    short-own false = omega arith

    elim-row : (q : ℕ) (P : ProcessBeside → Type 0) → (q ≡ process_number process → P (row_behind (row_at rows (process_number process)) follows ready)) →
        (q ≢ process_number process → P (row_at rows q)) →
        P (row_at (set rows (process_number process) (row_behind (row_at rows (process_number process)) follows ready)) q)
    elim-row q P own other = go (nat_eq q (process_number process)) refl
      where
        go : (b : Bool) → nat_eq q (process_number process) ≡ b → P (row_at (set rows (process_number process) (row_behind (row_at rows (process_number process)) follows ready)) q)
        go true e =
            let same : q ≡ process_number process = eqb-true q (process_number process) e in
            subst P (sym (ap (row_at (set rows (process_number process) (row_behind (row_at rows (process_number process)) follows ready))) same
            ∙ row-own rows process (row_behind (row_at rows (process_number process)) follows ready) there)) (own same)
        go false e =
            let apart : q ≢ process_number process = eqb-false q (process_number process) e in
            subst P (sym (row-other rows process (row_behind (row_at rows (process_number process)) follows ready) there q apart)) (other apart)
