use Rattle.vk_pass.specs.Tables as table
use Rattle.vk_pass.specs.Plain as plain
use Rattle.json_fold.specs.Steps.{done, then_field}
use Rattle.json_pass.proofs.attachment.AttachmentRefJsonPass.read_fields.Goals as goal

pub returns : goal.returns
unfolding table.attachment_ref plain.attachment_ref
returns c =
    then_field c.number.ensures (then_field c.number-2.ensures done)
