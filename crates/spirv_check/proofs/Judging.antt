-- One answer.
use Rattle.std.proofs.Common.{ℕ, ◌≡◌, ◌≢◌, ◌≤◌, inl, inr, List, [], length, get_or, drop, Result, Err, refl, ap, sym, ◌∙◌, arith}
use Rattle.spirv_check.specs.Modules.{magic, IsBadLength, judged}
use Rattle.spirv_check.specs.Seen.{IsWalked, IsUnwalked, seen_in, judged_of}
use Rattle.spirv_check.specs.Answers.{Answers, short, bad_magic, bad_reserved, bad_length, framed, no_memory, IsBadHeader, IsJudged, IsShort, HasBadMagic, HasBadReserved}
use Rattle.spirv_check.specs.declared.shape.Shape.{Shape}
use Rattle.spirv_check.specs.declared.seen.Seen.{Seen}
use Rattle.spirv_check.specs.declared.error.SpirvError.{SpirvError}
use Rattle.spirv_check.specs.declared.error.SpirvError.TheVariants.{Short, BadMagic, BadReserved, BadLength, MemoryModels, Nested, Unopened, Unclosed, BadName, NoEntryPoint, Memory}
use Rattle.spirv_check.proofs.Framing.{one_split}

abbrev Answer : Type 0
Answer = Result Shape SpirvError

short_or_long : {P : Type 0} (words : List ℕ) (len : ℕ) → IsShort words len → 5 ≤ length words → P
short_or_long words len s long = let less = s.short in absurd (omega arith)

magic_or_not : {P : Type 0} (words : List ℕ) (found : ℕ) → HasBadMagic words found → get_or words 0 0 ≡ magic → P
magic_or_not words found b is = absurd (b.other (b.first ∙ is))

reserved_or_not : {P : Type 0} (words : List ℕ) (found : ℕ) → HasBadReserved words found → get_or words 4 0 ≡ 0 → P
reserved_or_not words found b is = absurd (b.other (b.reserved ∙ is))

framed_or_not : {P : Type 0} (words : List ℕ) (at : ℕ) (answer : Answer) → IsBadLength words at → IsJudged words answer → P
framed_or_not words at answer b j =
    let one = one_split 5 (drop 5 words) (drop 5 words) b.instructions j.instructions b.rest [] refl b.split j.whole.split (inr b.unframed) (inl refl) in
    let some = b.unframed.some in
    absurd (let none = ap length one.1 in omega arith)

one_place : (words : List ℕ) (at other : ℕ) → IsBadLength words at → IsBadLength words other → at ≡ other
one_place words at other a b =
    let one = one_split 5 (drop 5 words) (drop 5 words) a.instructions b.instructions a.rest b.rest refl a.split b.split (inr a.unframed) (inr b.unframed) in
    let same = ap length one.1 in
    let p = a.place in
    let q = b.place in
    omega arith

one_judged : (words : List ℕ) (answer other : Answer) → IsJudged words answer → IsJudged words other → answer ≡ other
one_judged words answer other a b =
    let one = one_split 5 (drop 5 words) (drop 5 words) a.instructions b.instructions [] [] refl a.whole.split b.whole.split (inl refl) (inl refl) in
    a.is ∙ (ap judged one.0 ∙ sym b.is)

pub one_answer : (words : List ℕ) (answer other : Answer) → answer ≢ Err Memory → other ≢ Err Memory → Answers words answer → Answers words other → answer ≡ other
one_answer words answer other k k' (short len a e) (short len' b e') = e ∙ (ap (λ n. Err (Short n)) (a.size ∙ sym b.size) ∙ sym e')
one_answer words answer other k k' (short len a e) (bad_magic f b e') = short_or_long words len a b.long
one_answer words answer other k k' (short len a e) (bad_reserved f b e') = short_or_long words len a b.long
one_answer words answer other k k' (short len a e) (bad_length at b e') = short_or_long words len a b.header.long
one_answer words answer other k k' (short len a e) (framed b) = short_or_long words len a b.whole.header.long
one_answer words answer other k k' (bad_magic f a e) (short len b e') = short_or_long words len b a.long
one_answer words answer other k k' (bad_magic f a e) (bad_magic f' b e') = e ∙ (ap (λ n. Err (BadMagic n)) (a.first ∙ sym b.first) ∙ sym e')
one_answer words answer other k k' (bad_magic f a e) (bad_reserved f' b e') = magic_or_not words f a b.first
one_answer words answer other k k' (bad_magic f a e) (bad_length at b e') = magic_or_not words f a b.header.first
one_answer words answer other k k' (bad_magic f a e) (framed b) = magic_or_not words f a b.whole.header.first
one_answer words answer other k k' (bad_reserved f a e) (short len b e') = short_or_long words len b a.long
one_answer words answer other k k' (bad_reserved f a e) (bad_magic f' b e') = magic_or_not words f' b a.first
one_answer words answer other k k' (bad_reserved f a e) (bad_reserved f' b e') = e ∙ (ap (λ n. Err (BadReserved n)) (a.reserved ∙ sym b.reserved) ∙ sym e')
one_answer words answer other k k' (bad_reserved f a e) (bad_length at b e') = reserved_or_not words f a b.header.reserved
one_answer words answer other k k' (bad_reserved f a e) (framed b) = reserved_or_not words f a b.whole.header.reserved
one_answer words answer other k k' (bad_length at a e) (short len b e') = short_or_long words len b a.header.long
one_answer words answer other k k' (bad_length at a e) (bad_magic f b e') = magic_or_not words f b a.header.first
one_answer words answer other k k' (bad_length at a e) (bad_reserved f b e') = reserved_or_not words f b a.header.reserved
one_answer words answer other k k' (bad_length at a e) (bad_length at' b e') = e ∙ (ap (λ n. Err (BadLength n)) (one_place words at at' a b) ∙ sym e')
one_answer words answer other k k' (bad_length at a e) (framed b) = framed_or_not words at other a b
one_answer words answer other k k' (framed a) (short len b e') = short_or_long words len b a.whole.header.long
one_answer words answer other k k' (framed a) (bad_magic f b e') = magic_or_not words f b a.whole.header.first
one_answer words answer other k k' (framed a) (bad_reserved f b e') = reserved_or_not words f b a.whole.header.reserved
one_answer words answer other k k' (framed a) (bad_length at b e') = framed_or_not words at answer b a
one_answer words answer other k k' (framed a) (framed b) = one_judged words answer other a b
one_answer words answer other k k' (no_memory e) b = absurd (k e)
one_answer words answer other k k' (short len a e) (no_memory e') = absurd (k' e')
one_answer words answer other k k' (bad_magic f a e) (no_memory e') = absurd (k' e')
one_answer words answer other k k' (bad_reserved f a e) (no_memory e') = absurd (k' e')
one_answer words answer other k k' (bad_length at a e) (no_memory e') = absurd (k' e')
one_answer words answer other k k' (framed a) (no_memory e') = absurd (k' e')

-- ---- the answers of the parts

pub header_answers : (words : List ℕ) (fault : SpirvError) → IsBadHeader words fault → Answers words (Err fault)
header_answers words (Short len) b = short len b refl
header_answers words (BadMagic found) b = bad_magic found b refl
header_answers words (BadReserved found) b = bad_reserved found b refl
header_answers words (BadLength at) b = absurd b
header_answers words (MemoryModels count) b = absurd b
header_answers words (Nested at) b = absurd b
header_answers words (Unopened at) b = absurd b
header_answers words (Unclosed at) b = absurd b
header_answers words (BadName at) b = absurd b
header_answers words NoEntryPoint b = absurd b
header_answers words Memory b = absurd b

pub walk_answers : (words : List ℕ) (fault : SpirvError) → IsUnwalked words fault → Answers words (Err fault)
walk_answers words fault u = elim u [
  | inl memory ↦ no_memory (ap (λ (f : SpirvError). Err f) memory)
  | inr b ↦ bad_length b.0 b.2 (ap (λ (f : SpirvError). Err f) b.1)
]

pub judge_answers : (words : List ℕ) (seen : Seen) (answer : Answer) → IsWalked words seen → answer ≡ judged_of seen → Answers words answer
unfolding judged judged_of seen_in
judge_answers words seen answer w e = framed (record { instructions = w.instructions; whole = w.whole; is = e ∙ ap judged_of w.is })
