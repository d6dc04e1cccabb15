-- A shader module's object in a capture line, field by field.
use Rattle.std.specs.Prelude.{codes}
use Rattle.vk_form.specs.Shape.{number, bytes, Fields, end, ◌&◌}

unfoldable pub captured_module : Fields
captured_module =
    (codes "flags", number) &
    (codes "code", bytes) &
    end
