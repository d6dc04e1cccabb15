-- The basic structures, field by field, with the names that the fields have in JSON.
use Rattle.std.specs.Prelude.{codes}
use Rattle.vk_form.specs.Shape.{number, unit, hash, list, struct, Fields, end, ◌&◌}

unfoldable pub sampler : Fields
sampler =
    (codes "flags", number) &
    (codes "magFilter", number) &
    (codes "minFilter", number) &
    (codes "mipmapMode", number) &
    (codes "addressModeU", number) &
    (codes "addressModeV", number) &
    (codes "addressModeW", number) &
    (codes "mipLodBias", unit) &
    (codes "anisotropyEnable", number) &
    (codes "maxAnisotropy", unit) &
    (codes "compareEnable", number) &
    (codes "compareOp", number) &
    (codes "minLod", unit) &
    (codes "maxLod", unit) &
    (codes "borderColor", number) &
    (codes "unnormalizedCoordinates", number) &
    end

unfoldable pub binding : Fields
binding =
    (codes "binding", number) &
    (codes "descriptorType", number) &
    (codes "descriptorCount", number) &
    (codes "stageFlags", number) &
    (codes "immutableSamplers", list hash) &
    end

unfoldable pub set_layout : Fields
set_layout =
    (codes "flags", number) &
    (codes "bindings", list (struct binding)) &
    end

unfoldable pub push_range : Fields
push_range =
    (codes "stageFlags", number) &
    (codes "offset", number) &
    (codes "size", number) &
    end

unfoldable pub pipeline_layout : Fields
pipeline_layout =
    (codes "flags", number) &
    (codes "setLayouts", list hash) &
    (codes "pushConstantRanges", list (struct push_range)) &
    end

unfoldable pub shader_module : Fields
shader_module =
    (codes "flags", number) &
    (codes "code", list number) &
    end
