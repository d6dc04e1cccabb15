use Rattle.std.proofs.Common.{◌≡◌, ◌≢◌, ◌<◌, ◌≤◌, ◌∙◌, ℕ, List, length, get_or, sym, map, bit_and, arith}
use Rattle.std.proofs.lemmas.List.{length-map, get_or-map}
use Rattle.vk_basic.specs.declared.pipeline_layout.PushRange.{PushRange}
use Rattle.driver_rules.proofs.Apart.{free_first, free_again, free_next, free_none}
use Rattle.driver_rules.proofs.pipeline_layout.share_no_stage.Goals as goal

abbrev flags_of : List PushRange → List ℕ
flags_of ranges = map (λ (r : PushRange). r.stage_flags) ranges

abbrev none : PushRange
none = record { stage_flags = 0; offset = 0; size = 0 }

flags_at : (ranges : List PushRange) (i : ℕ) → i < length ranges → (i < length (flags_of ranges)) × (get_or (flags_of ranges) i 0 ≡ (get_or ranges i none).stage_flags)
flags_at ranges i lt = ((let same = length-map ranges (λ (r : PushRange). r.stage_flags) in omega arith), get_or-map (λ (r : PushRange). r.stage_flags) ranges i none 0 lt)

pub loop-range-init : goal.loop-range-init
loop-range-init c = free_first (flags_of c.args.ranges.now)

pub returns-then-taken-range-ne0 : goal.returns-then-taken-range-ne0
returns-then-taken-range-ne0 c =
    let at = flags_at c.args.ranges.now c.loop-range.range-index c.loop-range-test.true in
    sym (free_again c.loop-range.taken (flags_of c.args.ranges.now) c.loop-range.range-index (get_or c.args.ranges.now c.loop-range.range-index none).stage_flags at.0 at.1 c.if-taken-range-ne0.true) ∙ c.loop-range.invariant

pub loop-range-preserved : goal.loop-range-preserved
loop-range-preserved c =
    let at = flags_at c.args.ranges.now c.loop-range.range-index c.loop-range-test.true in
    free_next c.loop-range.taken (flags_of c.args.ranges.now) c.loop-range.range-index (get_or c.args.ranges.now c.loop-range.range-index none).stage_flags at.0 at.1 c.if-taken-range-ne0.false ∙ c.loop-range.invariant

pub returns : goal.returns
returns c =
    let same = length-map c.args.ranges.now (λ (r : PushRange). r.stage_flags) in
    sym (free_none c.loop-range.taken (flags_of c.args.ranges.now) c.loop-range.range-index (let past = c.loop-range-test.false in omega arith)) ∙ c.loop-range.invariant
