-- Ranks of founded items: how far each is from the ground.
use Rattle.std.specs.Prelude.{ℕ, zero, suc, if◌then◌else◌}
use Rattle.replay_core.specs.declared.plan.Plan.{Plan}
use Rattle.replay_core.specs.Plans.{items_of, is_founded_within}

-- the least rank of an item, where it has one of at most n
unfoldable pub rank_within : Plan → ℕ → ℕ → ℕ
rank_within plan zero i = 0
rank_within plan (suc n) i = if is_founded_within plan n i then rank_within plan n i else suc n

-- the rank of a founded item
unfoldable pub rank : Plan → ℕ → ℕ
rank plan i = rank_within plan (suc (items_of plan)) i
