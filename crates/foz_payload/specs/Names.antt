-- The names of each table differ from each other and from `pNext`.
use Rattle.std.specs.Prelude.{◌≡◌, true, refl}
use Rattle.vk_form.specs.Shape.{struct}
use Rattle.json_fold.specs.Sound.{is_sound}
use Rattle.foz_payload.specs.Tables as table

pub module_head : is_sound (struct table.module_head) ≡ true
unfolding table.module_head
module_head = refl
