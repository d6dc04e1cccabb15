use Rattle.vk_pipe.specs.Tables as table
use Rattle.vk_pipe.specs.Plain as plain
use Rattle.json_fold.specs.Steps.{done, then_field, then_optional}
use Rattle.json_pipe.proofs.graphics.GraphicsPipelineJsonPipe.read_fields.Goals as goal

pub returns : goal.returns
unfolding table.graphics_pipeline plain.graphics_pipeline
returns c =
    then_field c.number.ensures (then_field c.structures.ensures (then_optional c.optional.ensures (then_optional c.optional-2.ensures (
    then_optional c.optional-3.ensures (then_optional c.optional-4.ensures (then_optional c.optional-5.ensures (then_optional c.optional-6.ensures (
    then_optional c.optional-7.ensures (then_optional c.optional-8.ensures (then_optional c.optional-9.ensures (then_field c.hash.ensures (
    then_field c.hash-2.ensures (then_field c.number-2.ensures (then_field c.hash-3.ensures done))))))))))))))
