use Rattle.vk_basic.specs.Tables as table
use Rattle.vk_basic.specs.Plain as plain
use Rattle.json_fold.specs.Steps.{done, then_field}
use Rattle.json_basic.proofs.sampler.SamplerJsonBasic.read_fields.Goals as goal

pub returns : goal.returns
unfolding table.sampler plain.sampler
returns c =
    then_field c.number.ensures (then_field c.number-2.ensures (then_field c.number-3.ensures (then_field c.number-4.ensures (
    then_field c.number-5.ensures (then_field c.number-6.ensures (then_field c.number-7.ensures (then_field c.unit.ensures (
    then_field c.number-8.ensures (then_field c.unit-2.ensures (then_field c.number-9.ensures (then_field c.number-10.ensures (
    then_field c.unit-3.ensures (then_field c.unit-4.ensures (then_field c.number-11.ensures (then_field c.number-12.ensures done)))))))))))))))
