-- A captured module as a plain value.
use Rattle.vk_form.specs.Shape.{Plains}
use Rattle.capture_lines.specs.Tables as table
use Rattle.capture_lines.specs.declared.captured.CapturedModule.{CapturedModule}

unfoldable pub captured_module : CapturedModule → Plains table.captured_module
unfolding table.captured_module
captured_module s =
    (s.flags, (s.code, tt))
