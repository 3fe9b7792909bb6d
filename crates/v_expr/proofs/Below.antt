-- A reader one level down is the reader with one level less.
use Rattle.std.proofs.Common.{◌≡◌, ℕ, zero, suc, ◌-◌, ◌<◌, List, ap, arith}
use Rattle.v_tree.specs.Tokens.{SourceToken}
use Rattle.v_expr.specs.Expressions.{expression}
use Rattle.v_expr.specs.Parts.{inner_expression, select, inner_select, target, inner_target, delay, inner_delay}

pub inner_expression_is : (levels : ℕ) (tokens : List SourceToken) → 0 < levels → inner_expression levels tokens ≡ expression (levels - 1) tokens
unfolding inner_expression
inner_expression_is zero tokens h = absurd (let p : 0 < 0 = h in omega arith)
inner_expression_is (suc k) tokens h = let e : k ≡ suc k - 1 = omega arith in ap (λ m. expression m tokens) e

pub inner_select_is : (levels : ℕ) (tokens : List SourceToken) → 0 < levels → inner_select levels tokens ≡ select (levels - 1) tokens
unfolding inner_select
inner_select_is zero tokens h = absurd (let p : 0 < 0 = h in omega arith)
inner_select_is (suc k) tokens h = let e : k ≡ suc k - 1 = omega arith in ap (λ m. select m tokens) e

pub inner_target_is : (levels : ℕ) (tokens : List SourceToken) → 0 < levels → inner_target levels tokens ≡ target (levels - 1) tokens
unfolding inner_target
inner_target_is zero tokens h = absurd (let p : 0 < 0 = h in omega arith)
inner_target_is (suc k) tokens h = let e : k ≡ suc k - 1 = omega arith in ap (λ m. target m tokens) e

pub inner_delay_is : (levels : ℕ) (tokens : List SourceToken) → 0 < levels → inner_delay levels tokens ≡ delay (levels - 1) tokens
unfolding inner_delay
inner_delay_is zero tokens h = absurd (let p : 0 < 0 = h in omega arith)
inner_delay_is (suc k) tokens h = let e : k ≡ suc k - 1 = omega arith in ap (λ m. delay m tokens) e
