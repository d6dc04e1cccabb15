-- The plain value of a render pass that is made from a plain value is that value.
use Rattle.std.proofs.Common.{◌≡◌, refl}
use Rattle.vk_form.specs.Shape.{Plains}
use Rattle.vk_form.specs.Back.{each_back, optional_back}
use Rattle.vk_pass.specs.Tables as table
use Rattle.vk_pass.specs.Plain as plain
use Rattle.vk_pass.specs.Made as made

pub attachment : (p : Plains table.attachment) → plain.attachment (made.attachment p) ≡ p
unfolding made.attachment plain.attachment table.attachment
attachment p = refl

pub attachment_ref : (p : Plains table.attachment_ref) → plain.attachment_ref (made.attachment_ref p) ≡ p
unfolding made.attachment_ref plain.attachment_ref table.attachment_ref
attachment_ref p = refl

pub subpass : (p : Plains table.subpass) → plain.subpass (made.subpass p) ≡ p
unfolding made.subpass plain.subpass table.subpass
subpass p = rw (each_back plain.attachment_ref made.attachment_ref attachment_ref p.1.1.0, each_back plain.attachment_ref made.attachment_ref attachment_ref p.1.1.1.0, each_back plain.attachment_ref made.attachment_ref attachment_ref p.1.1.1.1.0, optional_back plain.attachment_ref made.attachment_ref attachment_ref p.1.1.1.1.1.0) refl

pub subpass_dependency : (p : Plains table.subpass_dependency) → plain.subpass_dependency (made.subpass_dependency p) ≡ p
unfolding made.subpass_dependency plain.subpass_dependency table.subpass_dependency
subpass_dependency p = refl

pub render_pass : (p : Plains table.render_pass) → plain.render_pass (made.render_pass p) ≡ p
unfolding made.render_pass plain.render_pass table.render_pass
render_pass p = rw (each_back plain.attachment made.attachment attachment p.1.0, each_back plain.subpass made.subpass subpass p.1.1.0, each_back plain.subpass_dependency made.subpass_dependency subpass_dependency p.1.1.1.0) refl
