-- The head of a shader module as plain values.
use Rattle.vk_form.specs.Shape.{Plains}
use Rattle.foz_payload.specs.Tables as table
use Rattle.foz_payload.specs.declared.module_head.ModuleHead.{ModuleHead}

unfoldable pub module_head : ModuleHead → Plains table.module_head
unfolding table.module_head
module_head s =
    (s.flags, (s.code_size, (s.varint_offset, (s.varint_size, tt))))
