use Rattle.capture_lines.specs.Tables as table
use Rattle.capture_lines.specs.Plain as plain
use Rattle.json_fold.specs.Steps.{done, then_field}
use Rattle.capture_lines.proofs.captured.CapturedModuleJsonCapture.read_fields.Goals as goal

pub returns : goal.returns
unfolding table.captured_module plain.captured_module
returns c =
    then_field c.number.ensures (then_field c.bytes.ensures done)
