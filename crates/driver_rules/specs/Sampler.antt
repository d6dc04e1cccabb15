-- The rules of a sampler.
use Rattle.std.specs.Prelude.{ℕ, ◌&&◌, nat_le, Bool, List, [], ◌∷◌}
use Rattle.vk_basic.specs.declared.sampler.Sampler.{Sampler}

abbrev pub has_known_filters : Sampler → Bool
has_known_filters s = nat_le s.mag_filter 1 && nat_le s.min_filter 1

abbrev pub has_known_mipmap_mode : Sampler → Bool
has_known_mipmap_mode s = nat_le s.mipmap_mode 1

abbrev pub has_known_address_modes : Sampler → Bool
has_known_address_modes s = nat_le s.address_mode_u 4 && nat_le s.address_mode_v 4 && nat_le s.address_mode_w 4

abbrev pub has_known_compare_op : Sampler → Bool
has_known_compare_op s = nat_le s.compare_op 7

abbrev pub has_known_border_color : Sampler → Bool
has_known_border_color s = nat_le s.border_color 5

abbrev pub has_plain_switches : Sampler → Bool
has_plain_switches s = nat_le s.anisotropy_enable 1 && nat_le s.compare_enable 1 && nat_le s.unnormalized_coordinates 1

unfoldable pub sampler_rules : Sampler → List (ℕ × Bool)
sampler_rules s =
    (1, has_known_filters s) ∷
    (2, has_known_mipmap_mode s) ∷
    (3, has_known_address_modes s) ∷
    (4, has_known_compare_op s) ∷
    (5, has_known_border_color s) ∷
    (6, has_plain_switches s) ∷
    []
