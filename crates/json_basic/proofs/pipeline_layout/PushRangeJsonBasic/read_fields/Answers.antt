use Rattle.vk_basic.specs.Tables as table
use Rattle.vk_basic.specs.Plain as plain
use Rattle.json_fold.specs.Steps.{done, then_field}
use Rattle.json_basic.proofs.pipeline_layout.PushRangeJsonBasic.read_fields.Goals as goal

pub returns : goal.returns
unfolding table.push_range plain.push_range
returns c =
    then_field c.number.ensures (then_field c.number-2.ensures (then_field c.number-3.ensures done))
