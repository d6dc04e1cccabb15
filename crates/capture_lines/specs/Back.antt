-- What is made from a captured module's plain value is the captured module.
use Rattle.std.specs.Prelude.{◌≡◌, refl}
use Rattle.capture_lines.specs.Tables as table
use Rattle.capture_lines.specs.Plain as plain
use Rattle.capture_lines.specs.Made as made
use Rattle.capture_lines.specs.declared.captured.CapturedModule.{CapturedModule}

pub captured_module : (s : CapturedModule) → made.captured_module (plain.captured_module s) ≡ s
unfolding made.captured_module plain.captured_module table.captured_module
captured_module s = refl
