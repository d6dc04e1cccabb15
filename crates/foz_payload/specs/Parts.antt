-- The parts of a payload: JSON, and after the first zero byte the varints of a shader module.
use Rattle.std.specs.Prelude.{ℕ, ◌+◌, ◌==◌, List, length, drop, Bool, not}
use Rattle.std.specs.List.{take_while, list_any}

abbrev pub is_zero : ℕ → Bool
is_zero byte = byte == 0

-- is there a zero byte?
abbrev pub has_zero : List ℕ → Bool
has_zero bytes = list_any is_zero bytes

-- the bytes before the first zero byte, or all
unfoldable pub json_part : List ℕ → List ℕ
json_part bytes = take_while (λ byte. not (is_zero byte)) bytes

-- the bytes after the first zero byte
unfoldable pub behind_zero : List ℕ → List ℕ
behind_zero bytes = drop (length (json_part bytes) + 1) bytes
