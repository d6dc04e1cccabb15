use Rattle.std.proofs.Common.{rules}
use Rattle.replay_core.proofs.Keeping.{fits_at_first}
use Rattle.replay_core.proofs.Tallying.{tally_first}
use Rattle.replay_core.proofs.record.Record.new.Goals as goal

pub invariant_of-result : goal.invariant_of-result
invariant_of-result c = (
  fits_at_first c.args.plan _ _ _ _ _ c.args.slots c.len-items.result c.requires.plan c.requires.some_slot c.requires.few_slots c.requires.founded c.len-items.ensures
      (c.in_ok-states.ensures.items_if_clones_equal (λ y h. h)) (c.in_ok-verdicts.ensures.items_if_clones_equal (λ y h. search rules)) c.in_ok-events.ensures.items c.in_ok-events.ensures.exact,
  tally_first _ _ c.len-items.result c.counts_at_first.result c.in_ok-events.ensures.items (c.in_ok-verdicts.ensures.items_if_clones_equal (λ y h. search rules)) c.counts_at_first.ensures,
)
