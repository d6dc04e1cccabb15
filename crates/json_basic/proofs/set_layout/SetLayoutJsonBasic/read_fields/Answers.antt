use Rattle.vk_basic.specs.Tables as table
use Rattle.vk_basic.specs.Plain as plain
use Rattle.json_fold.specs.Steps.{done, then_field}
use Rattle.json_basic.proofs.set_layout.SetLayoutJsonBasic.read_fields.Goals as goal

pub returns : goal.returns
unfolding table.set_layout plain.set_layout
returns c =
    then_field c.number.ensures (then_field c.structures.ensures done)
