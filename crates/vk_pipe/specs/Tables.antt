-- Pipelines, field by field, with the names that the fields have in JSON.
use Rattle.std.specs.Prelude.{codes}
use Rattle.vk_form.specs.Shape.{number, unit, hash, text, bytes, four_units, list, struct, Fields, end, ◌&◌, ◌&?◌}

unfoldable pub map_entry : Fields
map_entry =
    (codes "constantID", number) &
    (codes "offset", number) &
    (codes "size", number) &
    end

unfoldable pub spec_info : Fields
spec_info =
    (codes "mapEntries", list (struct map_entry)) &
    (codes "data", bytes) &
    end

unfoldable pub stage : Fields
stage =
    (codes "flags", number) &
    (codes "stage", number) &
    (codes "module", hash) &
    (codes "name", text) &
    (codes "specializationInfo", spec_info) &?
    end

unfoldable pub vertex_binding : Fields
vertex_binding =
    (codes "binding", number) &
    (codes "stride", number) &
    (codes "inputRate", number) &
    end

unfoldable pub vertex_attribute : Fields
vertex_attribute =
    (codes "location", number) &
    (codes "binding", number) &
    (codes "format", number) &
    (codes "offset", number) &
    end

unfoldable pub vertex_input : Fields
vertex_input =
    (codes "flags", number) &
    (codes "vertexBindingDescriptions", list (struct vertex_binding)) &
    (codes "vertexAttributeDescriptions", list (struct vertex_attribute)) &
    end

unfoldable pub input_assembly : Fields
input_assembly =
    (codes "flags", number) &
    (codes "topology", number) &
    (codes "primitiveRestartEnable", number) &
    end

unfoldable pub tessellation : Fields
tessellation =
    (codes "flags", number) &
    (codes "patchControlPoints", number) &
    end

unfoldable pub viewport : Fields
viewport =
    (codes "x", unit) &
    (codes "y", unit) &
    (codes "width", unit) &
    (codes "height", unit) &
    (codes "minDepth", unit) &
    (codes "maxDepth", unit) &
    end

unfoldable pub scissor : Fields
scissor =
    (codes "x", number) &
    (codes "y", number) &
    (codes "width", number) &
    (codes "height", number) &
    end

unfoldable pub viewports : Fields
viewports =
    (codes "flags", number) &
    (codes "viewportCount", number) &
    (codes "viewports", list (struct viewport)) &
    (codes "scissorCount", number) &
    (codes "scissors", list (struct scissor)) &
    end

unfoldable pub rasterization : Fields
rasterization =
    (codes "flags", number) &
    (codes "depthClampEnable", number) &
    (codes "rasterizerDiscardEnable", number) &
    (codes "polygonMode", number) &
    (codes "cullMode", number) &
    (codes "frontFace", number) &
    (codes "depthBiasEnable", number) &
    (codes "depthBiasConstantFactor", unit) &
    (codes "depthBiasClamp", unit) &
    (codes "depthBiasSlopeFactor", unit) &
    (codes "lineWidth", unit) &
    end

unfoldable pub multisample : Fields
multisample =
    (codes "flags", number) &
    (codes "rasterizationSamples", number) &
    (codes "sampleShadingEnable", number) &
    (codes "minSampleShading", unit) &
    (codes "sampleMask", list number) &
    (codes "alphaToCoverageEnable", number) &
    (codes "alphaToOneEnable", number) &
    end

unfoldable pub stencil_op : Fields
stencil_op =
    (codes "failOp", number) &
    (codes "passOp", number) &
    (codes "depthFailOp", number) &
    (codes "compareOp", number) &
    (codes "compareMask", number) &
    (codes "writeMask", number) &
    (codes "reference", number) &
    end

unfoldable pub depth_stencil : Fields
depth_stencil =
    (codes "flags", number) &
    (codes "depthTestEnable", number) &
    (codes "depthWriteEnable", number) &
    (codes "depthCompareOp", number) &
    (codes "depthBoundsTestEnable", number) &
    (codes "stencilTestEnable", number) &
    (codes "front", struct stencil_op) &
    (codes "back", struct stencil_op) &
    (codes "minDepthBounds", unit) &
    (codes "maxDepthBounds", unit) &
    end

unfoldable pub blend_attachment : Fields
blend_attachment =
    (codes "blendEnable", number) &
    (codes "srcColorBlendFactor", number) &
    (codes "dstColorBlendFactor", number) &
    (codes "colorBlendOp", number) &
    (codes "srcAlphaBlendFactor", number) &
    (codes "dstAlphaBlendFactor", number) &
    (codes "alphaBlendOp", number) &
    (codes "colorWriteMask", number) &
    end

unfoldable pub color_blend : Fields
color_blend =
    (codes "flags", number) &
    (codes "logicOpEnable", number) &
    (codes "logicOp", number) &
    (codes "attachments", list (struct blend_attachment)) &
    (codes "blendConstants", four_units) &
    end

unfoldable pub dynamic : Fields
dynamic =
    (codes "flags", number) &
    (codes "dynamicStates", list number) &
    end

unfoldable pub graphics_pipeline : Fields
graphics_pipeline =
    (codes "flags", number) &
    (codes "stages", list (struct stage)) &
    (codes "vertexInputState", vertex_input) &?
    (codes "inputAssemblyState", input_assembly) &?
    (codes "tessellationState", tessellation) &?
    (codes "viewportState", viewports) &?
    (codes "rasterizationState", rasterization) &?
    (codes "multisampleState", multisample) &?
    (codes "depthStencilState", depth_stencil) &?
    (codes "colorBlendState", color_blend) &?
    (codes "dynamicState", dynamic) &?
    (codes "layout", hash) &
    (codes "renderPass", hash) &
    (codes "subpass", number) &
    (codes "basePipelineHandle", hash) &
    end

unfoldable pub compute_pipeline : Fields
compute_pipeline =
    (codes "flags", number) &
    (codes "stage", struct stage) &
    (codes "layout", hash) &
    (codes "basePipelineHandle", hash) &
    end
