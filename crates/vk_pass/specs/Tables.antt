-- Render passes, field by field, with the names that the fields have in JSON.
use Rattle.std.specs.Prelude.{codes}
use Rattle.vk_form.specs.Shape.{number, list, struct, Fields, end, ◌&◌, ◌&?◌}

unfoldable pub attachment : Fields
attachment =
    (codes "flags", number) &
    (codes "format", number) &
    (codes "samples", number) &
    (codes "loadOp", number) &
    (codes "storeOp", number) &
    (codes "stencilLoadOp", number) &
    (codes "stencilStoreOp", number) &
    (codes "initialLayout", number) &
    (codes "finalLayout", number) &
    end

unfoldable pub attachment_ref : Fields
attachment_ref =
    (codes "attachment", number) &
    (codes "layout", number) &
    end

unfoldable pub subpass : Fields
subpass =
    (codes "flags", number) &
    (codes "pipelineBindPoint", number) &
    (codes "inputAttachments", list (struct attachment_ref)) &
    (codes "colorAttachments", list (struct attachment_ref)) &
    (codes "resolveAttachments", list (struct attachment_ref)) &
    (codes "depthStencilAttachment", attachment_ref) &?
    (codes "preserveAttachments", list number) &
    end

unfoldable pub subpass_dependency : Fields
subpass_dependency =
    (codes "srcSubpass", number) &
    (codes "dstSubpass", number) &
    (codes "srcStageMask", number) &
    (codes "dstStageMask", number) &
    (codes "srcAccessMask", number) &
    (codes "dstAccessMask", number) &
    (codes "dependencyFlags", number) &
    end

unfoldable pub render_pass : Fields
render_pass =
    (codes "flags", number) &
    (codes "attachments", list (struct attachment)) &
    (codes "subpasses", list (struct subpass)) &
    (codes "dependencies", list (struct subpass_dependency)) &
    end
