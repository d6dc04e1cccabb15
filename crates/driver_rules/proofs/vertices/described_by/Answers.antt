use Rattle.std.proofs.Common.{◌≡◌, ◌==◌, ◌∙◌, ℕ, ap, true, cond, Bool, get_or, take}
use Rattle.std.specs.Ordering.{nat_cmp, is_eq}
use Rattle.std.specs.BTreeSet.{contains}
use Rattle.driver_rules.specs.Graphics.{is_described}
use Rattle.driver_rules.proofs.Apart.{compared, turned}
use Rattle.driver_rules.proofs.Described.{one_more_described}
use Rattle.driver_rules.proofs.vertices.described_by.Goals as goal

pub loop-binding-preserved : goal.loop-binding-preserved
loop-binding-preserved c = λ q.
    let b = get_or c.args.bindings.now c.loop-binding.binding-index (record { binding = 0; stride = 0; input_rate = 0 }) in
    c.in_ok-insert.ensures.updates.0 q
    ∙ (ap (λ (t : Bool). cond t true (contains nat_cmp c.loop-binding.numbers q)) (compared b.binding q ∙ turned q b.binding)
    ∙ (ap (λ (held : Bool). cond (b.binding == q) true held) (c.loop-binding.invariant q)
    ∙ one_more_described c.args.bindings.now c.loop-binding.binding-index q (record { binding = 0; stride = 0; input_rate = 0 }) c.loop-binding-test.true))
