-- The limits of an archive and of its entries, in bytes and in entries.
use Rattle.std.specs.Prelude.{ℕ}

-- the header that an archive begins with
abbrev pub header_len : ℕ
header_len = 16

-- the head of an entry, before its payload
abbrev pub head_len : ℕ
head_len = 56

-- the longest payload of an undamaged entry
abbrev pub payload_limit : ℕ
payload_limit = 16_777_216

-- the last place where the entries of an archive may end
abbrev pub end_limit : ℕ
end_limit = 268_435_456

-- the most entries of an archive
abbrev pub count_limit : ℕ
count_limit = 1_048_576
