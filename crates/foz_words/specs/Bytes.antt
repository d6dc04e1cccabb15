-- Numbers as bytes.
use Rattle.std.specs.Prelude.{ℕ, List}
use Rattle.std.specs.Int.{w32, w64, to_le_bytes}

-- the four bytes of a 32-bit number, low byte first
unfoldable pub le32 : ℕ → List ℕ
le32 n = to_le_bytes w32 n

-- the eight bytes of a 64-bit number, low byte first
unfoldable pub le64 : ℕ → List ℕ
le64 n = to_le_bytes w64 n
