-- What is made from a structure's plain value is the structure.
use Rattle.std.specs.Prelude.{◌≡◌, refl}
use Rattle.vk_form.specs.Back.{each_back, optional_back}
use Rattle.vk_pass.specs.Tables as table
use Rattle.vk_pass.specs.Plain as plain
use Rattle.vk_pass.specs.Made as made
use Rattle.vk_pass.specs.declared.attachment.Attachment.{Attachment}
use Rattle.vk_pass.specs.declared.attachment.AttachmentRef.{AttachmentRef}
use Rattle.vk_pass.specs.declared.subpass.Subpass.{Subpass}
use Rattle.vk_pass.specs.declared.subpass.SubpassDependency.{SubpassDependency}
use Rattle.vk_pass.specs.declared.render_pass.RenderPass.{RenderPass}

pub attachment : (s : Attachment) → made.attachment (plain.attachment s) ≡ s
unfolding made.attachment plain.attachment table.attachment
attachment s = refl

pub attachment_ref : (s : AttachmentRef) → made.attachment_ref (plain.attachment_ref s) ≡ s
unfolding made.attachment_ref plain.attachment_ref table.attachment_ref
attachment_ref s = refl

pub subpass : (s : Subpass) → made.subpass (plain.subpass s) ≡ s
unfolding made.subpass plain.subpass table.subpass
subpass s = rw (each_back made.attachment_ref plain.attachment_ref attachment_ref s.input_attachments, each_back made.attachment_ref plain.attachment_ref attachment_ref s.color_attachments, each_back made.attachment_ref plain.attachment_ref attachment_ref s.resolve_attachments, optional_back made.attachment_ref plain.attachment_ref attachment_ref s.depth_stencil_attachment) refl

pub subpass_dependency : (s : SubpassDependency) → made.subpass_dependency (plain.subpass_dependency s) ≡ s
unfolding made.subpass_dependency plain.subpass_dependency table.subpass_dependency
subpass_dependency s = refl

pub render_pass : (s : RenderPass) → made.render_pass (plain.render_pass s) ≡ s
unfolding made.render_pass plain.render_pass table.render_pass
render_pass s = rw (each_back made.attachment plain.attachment attachment s.attachments, each_back made.subpass plain.subpass subpass s.subpasses, each_back made.subpass_dependency plain.subpass_dependency subpass_dependency s.dependencies) refl
