use Rattle.vk_basic.specs.Tables as table
use Rattle.vk_basic.specs.Plain as plain
use Rattle.foz_payload.proofs.Written.{is_plain}
use Rattle.foz_payload.proofs.writing.payload_of.Goals as goal

pub module_payload-requires-clause-words : goal.module_payload-requires-clause-words
unfolding table.shader_module plain.shader_module
module_payload-requires-clause-words c = let ordinary = rw c.in-ShaderModule.is at c.requires in ordinary.1.0.0

pub plain_payload-requires-clause-plain : goal.plain_payload-requires-clause-plain
plain_payload-requires-clause-plain c = is_plain c.args.state.now c.in_default.not-ShaderModule
