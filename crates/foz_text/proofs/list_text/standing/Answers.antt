use Rattle.std.proofs.Common.{List, ℕ, ap, ◌∙◌}
use Rattle.foz_entry.specs.Damage.{damage, ok_unless}
use Rattle.foz_text.proofs.Seen.{undamaged_of, damaged_of, is_new, is_known, after_undamaged, after_damaged}
use Rattle.foz_text.proofs.list_text.standing.Goals as goal

pub returns-in-Err-clause-seen : goal.returns-in-Err-clause-seen
returns-in-Err-clause-seen c = λ before are key. after_damaged before c.args.entry.now key _ (are key) (damaged_of _ c.in-Err.cause (c.in-Err.ensures ∙ ap (λ (p : List ℕ). ok_unless (damage c.args.entry.now.head p)) c.as_slice.ensures))

pub returns-then-branch-clause-value : goal.returns-then-branch-clause-value
returns-then-branch-clause-value c = λ before are.
    is_new before c.args.entry.now _ _ (undamaged_of _ c.in-Ok.field-0 (c.in-Ok.ensures ∙ ap (λ (p : List ℕ). ok_unless (damage c.args.entry.now.head p)) c.as_slice.ensures)) (are c.args.entry.now.head.key) c.in_ok-insert-in-Ok.ensures.added c.if-branch.true

pub returns-then-branch-clause-seen : goal.returns-then-branch-clause-seen
returns-then-branch-clause-seen c = λ before are key.
    c.in_ok-insert-in-Ok.ensures.updates.0 key ∙ after_undamaged before c.args.entry.now key _ (are key) (undamaged_of _ c.in-Ok.field-0 (c.in-Ok.ensures ∙ ap (λ (p : List ℕ). ok_unless (damage c.args.entry.now.head p)) c.as_slice.ensures))

pub returns-else-branch-clause-value : goal.returns-else-branch-clause-value
returns-else-branch-clause-value c = λ before are.
    is_known before c.args.entry.now _ _ (undamaged_of _ c.in-Ok.field-0 (c.in-Ok.ensures ∙ ap (λ (p : List ℕ). ok_unless (damage c.args.entry.now.head p)) c.as_slice.ensures)) (are c.args.entry.now.head.key) c.in_ok-insert-in-Ok.ensures.added c.if-branch.false

pub returns-else-branch-clause-seen : goal.returns-else-branch-clause-seen
returns-else-branch-clause-seen c = λ before are key.
    c.in_ok-insert-in-Ok.ensures.updates.0 key ∙ after_undamaged before c.args.entry.now key _ (are key) (undamaged_of _ c.in-Ok.field-0 (c.in-Ok.ensures ∙ ap (λ (p : List ℕ). ok_unless (damage c.args.entry.now.head p)) c.as_slice.ensures))
