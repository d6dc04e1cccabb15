use Rattle.std.proofs.Common.{◌≡◌, ◌==◌, ◌∙◌, ℕ, Bool, true, false, cond, get_or, sym, ap, refl}
use Rattle.std.specs.Ordering.{nat_cmp}
use Rattle.std.specs.BTreeSet.{contains}
use Rattle.driver_rules.proofs.Apart.{new_first, new_again, new_next, new_none, compared, seen_before, not_seen}
use Rattle.driver_rules.proofs.numbers.are_distinct.Goals as goal

pub loop-number-init : goal.loop-number-init
loop-number-init c = new_first (contains nat_cmp c.new-seen.result) c.args.numbers.now (λ q. rw c.new-seen.ensures.empty refl)

pub returns-then-not-branch : goal.returns-then-not-branch
returns-then-not-branch c =
    let held = seen_before c.in_ok-insert.field-0 (contains nat_cmp c.loop-number.seen (get_or c.args.numbers.now c.loop-number.number-index 0)) c.in_ok-insert.ensures.added c.if-not-branch.true in
    sym (new_again (contains nat_cmp c.loop-number.seen) c.args.numbers.now c.loop-number.number-index c.loop-number-test.true held) ∙ c.loop-number.invariant

pub loop-number-preserved : goal.loop-number-preserved
loop-number-preserved c =
    let number = get_or c.args.numbers.now c.loop-number.number-index 0 in
    let held = not_seen c.in_ok-insert.field-0 (contains nat_cmp c.loop-number.seen number) c.in_ok-insert.ensures.added c.if-not-branch.false in
    new_next (contains nat_cmp c.loop-number.seen) (contains nat_cmp c.insert.new.self) c.args.numbers.now c.loop-number.number-index c.loop-number-test.true held
    (λ q. c.in_ok-insert.ensures.updates.0 q ∙ ap (λ (t : Bool). cond t true (contains nat_cmp c.loop-number.seen q)) (compared number q)) ∙ c.loop-number.invariant

pub returns : goal.returns
returns c = sym (new_none (contains nat_cmp c.loop-number.seen) c.args.numbers.now c.loop-number.number-index c.loop-number-test.false) ∙ c.loop-number.invariant
