use Rattle.vk_basic.specs.Tables as table
use Rattle.vk_basic.specs.Plain as plain
use Rattle.json_fold.specs.Steps.{done, then_field}
use Rattle.json_basic.proofs.set_layout.BindingJsonBasic.read_fields.Goals as goal

pub returns : goal.returns
unfolding table.binding plain.binding
returns c =
    then_field c.number.ensures (then_field c.number-2.ensures (then_field c.number-3.ensures (then_field c.number-4.ensures (
    then_field c.hashes.ensures done))))
