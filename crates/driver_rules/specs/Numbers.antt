-- Tests of numbers that several kinds share.
use Rattle.std.specs.Prelude.{ℕ, ◌==◌, ◌&&◌, ◌||◌, not, nat_le, nat_lt, Bool, true, List, [], ◌∷◌, bit_and}
use Rattle.std.specs.List.{list_all, list_any}

-- no number stands twice
unfoldable pub are_distinct : List ℕ → Bool
are_distinct [] = true
are_distinct (n ∷ ns) = not (list_any (λ m. m == n) ns) && are_distinct ns

-- no two numbers have a bit in common
unfoldable pub share_no_bit : List ℕ → Bool
share_no_bit [] = true
share_no_bit (n ∷ ns) = list_all (λ m. bit_and n m == 0) ns && share_no_bit ns

-- all graphics stages, or all stages of whatever kind
abbrev pub all_stages : ℕ
all_stages = 0x7FFFFFFF

-- a set of the six stages of Vulkan 1.0, or all stages
abbrev pub are_stages : ℕ → Bool
are_stages flags = nat_le flags 63 || (flags == all_stages)

-- an external subpass, or no attachment
abbrev pub none_of_them : ℕ
none_of_them = 0xFFFFFFFF

-- one of so many, or none
abbrev pub is_within : ℕ → ℕ → Bool
is_within count n = nat_lt n count || (n == none_of_them)
