-- The head of a shader module, field by field, with the names that the fields have in JSON.
use Rattle.std.specs.Prelude.{codes}
use Rattle.vk_form.specs.Shape.{number, Fields, end, ◌&◌}

unfoldable pub module_head : Fields
module_head =
    (codes "flags", number) &
    (codes "codeSize", number) &
    (codes "varintOffset", number) &
    (codes "varintSize", number) &
    end
