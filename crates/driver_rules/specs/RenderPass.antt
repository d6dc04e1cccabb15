-- The rules of a render pass.
use Rattle.std.specs.Prelude.{ℕ, ◌==◌, ◌&&◌, ◌||◌, not, nat_le, Bool, true, List, [], ◌∷◌, length, Option}
use Rattle.std.specs.Option.{option_map_or}
use Rattle.std.specs.List.{list_all}
use Rattle.vk_pass.specs.declared.attachment.Attachment.{Attachment}
use Rattle.vk_pass.specs.declared.attachment.AttachmentRef.{AttachmentRef}
use Rattle.vk_pass.specs.declared.subpass.Subpass.{Subpass}
use Rattle.vk_pass.specs.declared.subpass.SubpassDependency.{SubpassDependency}
use Rattle.vk_pass.specs.declared.render_pass.RenderPass as passes
use Rattle.driver_rules.specs.Numbers.{is_within}

-- one sample, or 2, 4, 8, 16, 32 or 64
abbrev pub has_known_samples : Attachment → Bool
has_known_samples a =
    (a.samples == 1) || (a.samples == 2) || (a.samples == 4) || (a.samples == 8) || (a.samples == 16) || (a.samples == 32) || (a.samples == 64)

abbrev pub has_known_ops : Attachment → Bool
has_known_ops a = nat_le a.load_op 2 && nat_le a.stencil_load_op 2 && nat_le a.store_op 1 && nat_le a.stencil_store_op 1

-- the attachments that these name are among so many
abbrev pub are_there : ℕ → List AttachmentRef → Bool
are_there count refs = list_all (λ ref. is_within count ref.attachment) refs

abbrev pub depth_is_there : ℕ → Option AttachmentRef → Bool
depth_is_there count depth = option_map_or (λ ref. is_within count ref.attachment) depth true

abbrev pub uses_known_attachments : ℕ → Subpass → Bool
uses_known_attachments count s =
    are_there count s.input_attachments && are_there count s.color_attachments && are_there count s.resolve_attachments && depth_is_there count s.depth_stencil_attachment

-- nothing is resolved, or each colour attachment
abbrev pub resolves_all_or_none : Subpass → Bool
resolves_all_or_none s = (length s.resolve_attachments == 0) || (length s.resolve_attachments == length s.color_attachments)

abbrev pub joins_known_subpasses : ℕ → SubpassDependency → Bool
joins_known_subpasses count d = is_within count d.src_subpass && is_within count d.dst_subpass

unfoldable pub render_pass_rules : passes.RenderPass → List (ℕ × Bool)
render_pass_rules p =
    (20, list_all (λ a. nat_le a.format 184) p.attachments) ∷
    (21, list_all has_known_samples p.attachments) ∷
    (22, list_all has_known_ops p.attachments) ∷
    (23, not (length p.subpasses == 0)) ∷
    (24, list_all (uses_known_attachments (length p.attachments)) p.subpasses) ∷
    (25, list_all resolves_all_or_none p.subpasses) ∷
    (26, list_all (joins_known_subpasses (length p.subpasses)) p.dependencies) ∷
    (27, list_all (λ s. nat_le s.pipeline_bind_point 1) p.subpasses) ∷
    []
