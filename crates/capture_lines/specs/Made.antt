-- A captured module, made from its plain value.
use Rattle.vk_form.specs.Shape.{Plains}
use Rattle.capture_lines.specs.Tables as table
use Rattle.capture_lines.specs.declared.captured.CapturedModule.{CapturedModule}

unfoldable pub captured_module : Plains table.captured_module → CapturedModule
unfolding table.captured_module
captured_module p =
    record { flags = p.0; code = p.1.0 }
