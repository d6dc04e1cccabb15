use Rattle.std.proofs.Common.{◌≡◌, ℕ, ◌+◌, List, ◌++◌, length, take, replicate, refl, sym, ap, ◌∙◌, append_assoc, arith}
use Rattle.std.proofs.lemmas.List.{take_all}
use Rattle.foz_words.specs.Bytes.{le32}
use Rattle.foz_words.specs.Hex.{hex_text}
use Rattle.foz_words.proofs.HexText.{length-hex_text}
use Rattle.foz_words.proofs.Words.{length-le32}
use Rattle.foz_entry.specs.Spelling.{lower_name}
use Rattle.foz_entry.proofs.spelled.spell_head.Goals as goal

-- one piece more
more : (old new piece is before : List ℕ) (at end : ℕ) → piece ≡ is → at + length is ≡ end → take at old ≡ before → take (at + length piece) new ≡ take at old ++ piece → take end new ≡ before ++ is
more old new piece is before at end same ends so_far laid =
    ap (λ (n : ℕ). take n new) (sym ends ∙ ap (λ (l : List ℕ). at + length l) (sym same)) ∙ laid ∙ (λ i. so_far i ++ same i)

pub returns : goal.returns
unfolding lower_name
returns c =
    let head = c.args.head.now in
    let tag : List ℕ = hex_text 16 head.key.tag in
    let hash : List ℕ = hex_text 16 head.key.hash in
    let zeros : List ℕ = replicate 8 48 in
    let first : take 24 c.lay.new.text ≡ zeros ++ tag =
    more (replicate 56 48) c.lay.new.text c.hex16.result tag zeros 8 24 (c.hex16.ensures ∙ ap (hex_text 16) c.from.ensures) (omega (arith, length-hex_text 16 head.key.tag)) refl c.lay.ensures in
    let second : take 40 c.lay-2.new.text ≡ zeros ++ tag ++ hash =
    more c.lay.new.text c.lay-2.new.text c.hex16-2.result hash (zeros ++ tag) 24 40 c.hex16-2.ensures (omega (arith, length-hex_text 16 head.key.hash)) first c.lay-2.ensures in
    let third : take 44 c.lay-3.new.text ≡ zeros ++ tag ++ hash ++ le32 head.size =
    more c.lay-2.new.text c.lay-3.new.text c.le32_bytes.result (le32 head.size) (zeros ++ tag ++ hash) 40 44 c.le32_bytes.ensures (omega (arith, length-le32 head.size)) second c.lay-3.ensures in
    let fourth : take 48 c.lay-4.new.text ≡ zeros ++ tag ++ hash ++ le32 head.size ++ le32 head.format =
    more c.lay-3.new.text c.lay-4.new.text c.le32_bytes-2.result (le32 head.format) (zeros ++ tag ++ hash ++ le32 head.size) 44 48 c.le32_bytes-2.ensures (omega (arith, length-le32 head.format)) third c.lay-4.ensures in
    let fifth : take 52 c.lay-5.new.text ≡ zeros ++ tag ++ hash ++ le32 head.size ++ le32 head.format ++ le32 head.crc =
    more c.lay-4.new.text c.lay-5.new.text c.le32_bytes-3.result (le32 head.crc) (zeros ++ tag ++ hash ++ le32 head.size ++ le32 head.format) 48 52 c.le32_bytes-3.ensures (omega (arith, length-le32 head.crc)) fourth c.lay-5.ensures in
    let sixth : take 56 c.lay-6.new.text ≡ zeros ++ tag ++ hash ++ le32 head.size ++ le32 head.format ++ le32 head.crc ++ le32 head.uncompressed =
    more c.lay-5.new.text c.lay-6.new.text c.le32_bytes-4.result (le32 head.uncompressed) (zeros ++ tag ++ hash ++ le32 head.size ++ le32 head.format ++ le32 head.crc) 52 56 c.le32_bytes-4.ensures (omega (arith, length-le32 head.uncompressed)) fifth c.lay-6.ensures in
    sym (take_all 56 c.lay-6.new.text (omega arith)) ∙ sixth ∙ simp append_assoc
