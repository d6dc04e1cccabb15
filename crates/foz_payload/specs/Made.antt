-- The head of a shader module, made from plain values.
use Rattle.vk_form.specs.Shape.{Plains}
use Rattle.foz_payload.specs.Tables as table
use Rattle.foz_payload.specs.declared.module_head.ModuleHead.{ModuleHead}

unfoldable pub module_head : Plains table.module_head → ModuleHead
unfolding table.module_head
module_head p =
    record { flags = p.0; code_size = p.1.0; varint_offset = p.1.1.0; varint_size = p.1.1.1.0 }
