-- Render passes as plain values.
use Rattle.std.specs.Prelude.{map}
use Rattle.std.specs.Option.{option_map}
use Rattle.vk_form.specs.Shape.{Plains}
use Rattle.vk_pass.specs.Tables as table
use Rattle.vk_pass.specs.declared.attachment.Attachment.{Attachment}
use Rattle.vk_pass.specs.declared.attachment.AttachmentRef.{AttachmentRef}
use Rattle.vk_pass.specs.declared.subpass.Subpass.{Subpass}
use Rattle.vk_pass.specs.declared.subpass.SubpassDependency.{SubpassDependency}
use Rattle.vk_pass.specs.declared.render_pass.RenderPass.{RenderPass}

unfoldable pub attachment : Attachment → Plains table.attachment
unfolding table.attachment
attachment s = (
  s.flags,
  (
    s.format,
    (
      s.samples,
      (
        s.load_op,
        (
          s.store_op,
          (
            s.stencil_load_op,
            (
              s.stencil_store_op,
              (s.initial_layout, (s.final_layout, tt)),
            ),
          ),
        ),
      ),
    ),
  ),
)

unfoldable pub attachment_ref : AttachmentRef → Plains table.attachment_ref
unfolding table.attachment_ref
attachment_ref s =
    (s.attachment, (s.layout, tt))

unfoldable pub subpass : Subpass → Plains table.subpass
unfolding table.subpass
subpass s = (
  s.flags,
  (
    s.pipeline_bind_point,
    (
      map attachment_ref s.input_attachments,
      (
        map attachment_ref s.color_attachments,
        (
          map attachment_ref s.resolve_attachments,
          (
            option_map attachment_ref s.depth_stencil_attachment,
            (s.preserve_attachments, tt),
          ),
        ),
      ),
    ),
  ),
)

unfoldable pub subpass_dependency : SubpassDependency → Plains table.subpass_dependency
unfolding table.subpass_dependency
subpass_dependency s = (
  s.src_subpass,
  (
    s.dst_subpass,
    (
      s.src_stage_mask,
      (
        s.dst_stage_mask,
        (
          s.src_access_mask,
          (
            s.dst_access_mask,
            (s.dependency_flags, tt),
          ),
        ),
      ),
    ),
  ),
)

unfoldable pub render_pass : RenderPass → Plains table.render_pass
unfolding table.render_pass
render_pass s =
    (s.flags, (map attachment s.attachments, (map subpass s.subpasses, (map subpass_dependency s.dependencies, tt))))
