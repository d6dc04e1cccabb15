-- The tables by which sixteen bytes go through the register in one step.
use Rattle.std.proofs.Common.{◌≡◌, ℕ, ◌+◌, ◌-◌, ◌*◌, ◌<◌, ◌≤◌, List, [], map, get_or, refl, ap, ◌∙◌, arith}
use Rattle.std.specs.List.{range_with_len}
use Rattle.std.proofs.lemmas.List.FromFn.{get_or-map-range_with_len}
use Rattle.foz_crc.specs.Crc32.{after_bit, after_bits}
use Rattle.foz_crc.proofs.Linear.{after_byte-low}
use Rattle.foz_crc.specs.declared.tables.TheConstants.{TABLES}

table_of : ℕ → List ℕ
table_of after = map (after_bits (8 * (after + 1))) (range_with_len 0 256)

TABLES-map : TABLES ≡ map table_of (range_with_len 0 16)
unfolding after_bits after_bit table_of
TABLES-map = refl

pub entry_at : (count byte : ℕ) → 0 < count → count ≤ 16 → byte < 256 → get_or (get_or TABLES (count - 1) []) byte 0 ≡ after_bits (8 * count) byte
unfolding table_of
entry_at count byte positive few small =
    let counted : count - 1 + 1 ≡ count = omega arith in
    ap (λ ts. get_or (get_or ts (count - 1) []) byte 0) TABLES-map
    ∙ ap (λ xs. get_or xs byte 0) (get_or-map-range_with_len table_of 0 16 (count - 1) (count - 1) [] (omega arith) (omega arith))
    ∙ get_or-map-range_with_len (after_bits (8 * (count - 1 + 1))) 0 256 byte byte 0 small (omega arith)
    ∙ ap (λ n. after_bits (8 * n) byte) counted

pub ruleset low = (after_byte-low)
