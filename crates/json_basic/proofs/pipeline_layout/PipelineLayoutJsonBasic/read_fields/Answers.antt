use Rattle.vk_basic.specs.Tables as table
use Rattle.vk_basic.specs.Plain as plain
use Rattle.json_fold.specs.Steps.{done, then_field}
use Rattle.json_basic.proofs.pipeline_layout.PipelineLayoutJsonBasic.read_fields.Goals as goal

pub returns : goal.returns
unfolding table.pipeline_layout plain.pipeline_layout
returns c =
    then_field c.number.ensures (then_field c.hashes.ensures (then_field c.structures.ensures done))
