use Rattle.vk_pass.specs.Tables as table
use Rattle.vk_pass.specs.Plain as plain
use Rattle.json_fold.specs.Steps.{done, then_field}
use Rattle.json_pass.proofs.subpass.SubpassDependencyJsonPass.read_fields.Goals as goal

pub returns : goal.returns
unfolding table.subpass_dependency plain.subpass_dependency
returns c =
    then_field c.number.ensures (then_field c.number-2.ensures (then_field c.number-3.ensures (then_field c.number-4.ensures (
    then_field c.number-5.ensures (then_field c.number-6.ensures (then_field c.number-7.ensures done))))))
