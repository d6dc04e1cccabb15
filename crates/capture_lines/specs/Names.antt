-- The names of the table differ from each other and from `pNext`.
use Rattle.std.specs.Prelude.{◌≡◌, true, refl}
use Rattle.vk_form.specs.Shape.{struct}
use Rattle.json_fold.specs.Sound.{is_sound}
use Rattle.capture_lines.specs.Tables as table

pub captured_module : is_sound (struct table.captured_module) ≡ true
unfolding table.captured_module
captured_module = refl
