use Rattle.std.proofs.Common.{refl}
use Rattle.indexmap.specs.IndexMap.{get}
use Rattle.foz_words.specs.contracts.key.KeyPartialEq.TheImpl as KeyPartialEq
use Rattle.record_dedup.proofs.index.index_of.Goals as goal

pub loop-place-init : goal.loop-place-init
loop-place-init c = c.indexes_grow.ensures.none (get KeyPartialEq.ghosts.eq c.new-index.result) (λ key. rw c.new-index.ensures.empty refl)
