use Rattle.foz_payload.specs.Tables as table
use Rattle.foz_payload.specs.Plain as plain
use Rattle.vk_form.specs.Writes.{done, then_field}
use Rattle.foz_payload.proofs.module_head.ModuleHeadStructure.put_words.Goals as goal

pub returns : goal.returns
unfolding table.module_head plain.module_head
returns c =
    then_field c.number.ensures (then_field c.number-2.ensures (then_field c.number-3.ensures (then_field c.number-4.ensures done)))
