-- The rules of a set layout, but for the samplers that it refers to.
use Rattle.std.specs.Prelude.{ℕ, ◌==◌, ◌||◌, nat_le, Bool, List, [], ◌∷◌, length, map}
use Rattle.std.specs.List.{list_all}
use Rattle.vk_basic.specs.declared.set_layout.Binding.{Binding}
use Rattle.vk_basic.specs.declared.set_layout.SetLayout as layouts
use Rattle.driver_rules.specs.Numbers.{are_distinct, are_stages}

-- there are none, or as many as there are descriptors
abbrev pub has_all_samplers : Binding → Bool
has_all_samplers b = (length b.immutable_samplers == 0) || (length b.immutable_samplers == b.descriptor_count)

-- samplers stand only in a binding of samplers, or of images with samplers
abbrev pub may_have_samplers : Binding → Bool
may_have_samplers b = (length b.immutable_samplers == 0) || nat_le b.descriptor_type 1

unfoldable pub set_layout_rules : layouts.SetLayout → List (ℕ × Bool)
set_layout_rules s =
    (7, are_distinct (map (λ b. b.binding) s.bindings)) ∷
    (8, list_all (λ b. nat_le b.descriptor_type 10) s.bindings) ∷
    (9, list_all (λ b. are_stages b.stage_flags) s.bindings) ∷
    (10, list_all has_all_samplers s.bindings) ∷
    (11, list_all may_have_samplers s.bindings) ∷
    []
