-- Render passes, made from plain values.
use Rattle.std.specs.Prelude.{map}
use Rattle.std.specs.Option.{option_map}
use Rattle.vk_form.specs.Shape.{Plains}
use Rattle.vk_pass.specs.Tables as table
use Rattle.vk_pass.specs.declared.attachment.Attachment.{Attachment}
use Rattle.vk_pass.specs.declared.attachment.AttachmentRef.{AttachmentRef}
use Rattle.vk_pass.specs.declared.subpass.Subpass.{Subpass}
use Rattle.vk_pass.specs.declared.subpass.SubpassDependency.{SubpassDependency}
use Rattle.vk_pass.specs.declared.render_pass.RenderPass.{RenderPass}

unfoldable pub attachment : Plains table.attachment → Attachment
unfolding table.attachment
attachment p =
    record {
      flags = p.0;
      format = p.1.0;
      samples = p.1.1.0;
      load_op = p.1.1.1.0;
      store_op = p.1.1.1.1.0;
      stencil_load_op = p.1.1.1.1.1.0;
      stencil_store_op = p.1.1.1.1.1.1.0;
      initial_layout = p.1.1.1.1.1.1.1.0;
      final_layout = p.1.1.1.1.1.1.1.1.0;
    }

unfoldable pub attachment_ref : Plains table.attachment_ref → AttachmentRef
unfolding table.attachment_ref
attachment_ref p =
    record { attachment = p.0; layout = p.1.0 }

unfoldable pub subpass : Plains table.subpass → Subpass
unfolding table.subpass
subpass p =
    record {
      flags = p.0;
      pipeline_bind_point = p.1.0;
      input_attachments = map attachment_ref p.1.1.0;
      color_attachments = map attachment_ref p.1.1.1.0;
      resolve_attachments = map attachment_ref p.1.1.1.1.0;
      depth_stencil_attachment = option_map attachment_ref p.1.1.1.1.1.0;
      preserve_attachments = p.1.1.1.1.1.1.0;
    }

unfoldable pub subpass_dependency : Plains table.subpass_dependency → SubpassDependency
unfolding table.subpass_dependency
subpass_dependency p =
    record {
      src_subpass = p.0;
      dst_subpass = p.1.0;
      src_stage_mask = p.1.1.0;
      dst_stage_mask = p.1.1.1.0;
      src_access_mask = p.1.1.1.1.0;
      dst_access_mask = p.1.1.1.1.1.0;
      dependency_flags = p.1.1.1.1.1.1.0;
    }

unfoldable pub render_pass : Plains table.render_pass → RenderPass
unfolding table.render_pass
render_pass p =
    record {
      flags = p.0;
      attachments = map attachment p.1.0;
      subpasses = map subpass p.1.1.0;
      dependencies = map subpass_dependency p.1.1.1.0;
    }
