-- The names of each table differ from each other and from `pNext`.
use Rattle.std.specs.Prelude.{◌≡◌, true, refl}
use Rattle.vk_form.specs.Shape.{struct}
use Rattle.json_fold.specs.Sound.{is_sound}
use Rattle.vk_pass.specs.Tables as table

pub attachment : is_sound (struct table.attachment) ≡ true
unfolding table.attachment
attachment = refl

pub attachment_ref : is_sound (struct table.attachment_ref) ≡ true
unfolding table.attachment_ref
attachment_ref = refl

pub subpass : is_sound (struct table.subpass) ≡ true
unfolding table.subpass table.attachment_ref
subpass = refl

pub subpass_dependency : is_sound (struct table.subpass_dependency) ≡ true
unfolding table.subpass_dependency
subpass_dependency = refl

pub render_pass : is_sound (struct table.render_pass) ≡ true
unfolding table.render_pass table.attachment table.attachment_ref table.subpass table.subpass_dependency
render_pass = refl
