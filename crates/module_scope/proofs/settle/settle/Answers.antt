use Rattle.std.proofs.Common.{◌≡◌, true, ℕ, List, Some, option_map, sym, ap, ◌∙◌, rules}
use Rattle.v_tree.specs.Trees.{same_name}
use Rattle.v_names.specs.Scopes.{ScopeEntry, entry_if, looked_up, is_waiting}
use Rattle.v_names.specs.ScopeViews.{entry_of}
use Rattle.v_names.specs.SizeViews.{signed_value}
use Rattle.name_checks.specs.RangeViews.{range_seen}
use Rattle.module_scope.specs.Declarations.{declared_seen}
use Rattle.module_scope.specs.Meanings.{meaning_with}
use Rattle.module_scope.proofs.RangesKept.{settled-meaning, under-put, ranges-under}
use Rattle.module_scope.proofs.settle.settle.Goals as goal

pub returns-clause-turn : goal.returns-clause-turn
returns-clause-turn c =
    let waits : is_waiting (looked_up c.args.scope.now c.args.declaration.name.now) ≡ true = search rules in
    let means : entry_of c.in_ok-entry.entry ≡ meaning_with c.args.scope.now (option_map signed_value c.args.given) (declared_seen c.args.declaration.declared) =
    settled-meaning c.args.scope.now c.args.groups.now c.args.declaration.declared c.in-Param.is_local c.in-Param.signed c.in-Param.bounds c.in-Param.value
    (option_map range_seen c.in_ok-range.range) (option_map signed_value c.args.given) (entry_of c.in_ok-entry.entry) c.in-Param.is c.requires.grouped c.in_ok-range.ensures.range
    c.in_ok-entry.ensures in (
      waits,
      ap (λ (m : ScopeEntry). is_waiting (Some m)) (sym means) ∙ sym c.is_waiting_entry.ensures ∙ c.if-is_waiting_entry.false,
      λ (other : List ℕ). c.in_ok-put.ensures other
          ∙ ap (λ (n : List ℕ). entry_if (same_name n other) (entry_of c.in_ok-entry.entry) (looked_up c.args.scope.now other)) c.as_bytes.ensures
          ∙ ap (λ (m : ScopeEntry). entry_if (same_name c.args.declaration.name.now other) m (looked_up c.args.scope.now other)) means,
    )

pub returns-clause-ranges : goal.returns-clause-ranges
returns-clause-ranges c =
    let waits : is_waiting (looked_up c.args.scope.now c.args.declaration.name.now) ≡ true = search rules in
    ranges-under c.args.scope.now c.put.new.self c.args.groups.now c.settled_range.new.ranges c.forget_waiting.new.self
    (under-put c.args.scope.now c.put.new.self c.args.declaration.name.now (entry_of c.in_ok-entry.entry) waits
    (λ (other : List ℕ). c.in_ok-put.ensures other ∙ ap (λ (n : List ℕ). entry_if (same_name n other) (entry_of c.in_ok-entry.entry) (looked_up c.args.scope.now other)) c.as_bytes.ensures))
    c.in_ok-range.ensures.ranges c.forget_waiting.ensures.known c.forget_waiting.ensures.waiting
