-- The rules of a pipeline layout, but for the set layouts that it refers to.
use Rattle.std.specs.Prelude.{ℕ, ◌%◌, ◌==◌, ◌&&◌, nat_le, nat_lt, Bool, List, [], ◌∷◌, map}
use Rattle.std.specs.List.{list_all}
use Rattle.vk_basic.specs.declared.pipeline_layout.PushRange.{PushRange}
use Rattle.vk_basic.specs.declared.pipeline_layout.PipelineLayout as layouts
use Rattle.driver_rules.specs.Numbers.{share_no_bit, are_stages}

-- whole words, at least one
abbrev pub is_of_words : PushRange → Bool
is_of_words r = (r.offset % 4 == 0) && (r.size % 4 == 0) && nat_lt 0 r.size

-- there are stages that use it
abbrev pub has_stages : PushRange → Bool
has_stages r = nat_lt 0 r.stage_flags && are_stages r.stage_flags

unfoldable pub pipeline_layout_rules : layouts.PipelineLayout → List (ℕ × Bool)
pipeline_layout_rules s =
    (12, list_all is_of_words s.push_constant_ranges) ∷
    (13, share_no_bit (map (λ r. r.stage_flags) s.push_constant_ranges)) ∷
    (14, list_all has_stages s.push_constant_ranges) ∷
    []
