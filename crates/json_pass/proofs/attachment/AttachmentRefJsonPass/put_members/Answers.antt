use Rattle.vk_pass.specs.Tables as table
use Rattle.vk_pass.specs.Plain as plain
use Rattle.json_fold.proofs.Puts.{all_put, done, then_field}
use Rattle.json_pass.proofs.attachment.AttachmentRefJsonPass.put_members.Goals as goal

pub returns-clause-written : goal.returns-clause-written
unfolding table.attachment_ref plain.attachment_ref
returns-clause-written c =
    all_put table.attachment_ref (plain.attachment_ref c.args.self.now) _ _ (
    then_field c.in_ok-number.ensures.written (then_field c.in_ok-number-2.ensures.written done))
