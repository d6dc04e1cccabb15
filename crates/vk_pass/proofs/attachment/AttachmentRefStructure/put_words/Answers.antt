use Rattle.vk_pass.specs.Tables as table
use Rattle.vk_pass.specs.Plain as plain
use Rattle.vk_form.specs.Writes.{done, then_field}
use Rattle.vk_pass.proofs.attachment.AttachmentRefStructure.put_words.Goals as goal

pub returns : goal.returns
unfolding table.attachment_ref plain.attachment_ref
returns c =
    then_field c.number.ensures (then_field c.number-2.ensures done)
