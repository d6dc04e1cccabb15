-- The answer of a module fits its words, and isn't running out of memory.
use Rattle.std.proofs.Common.{ℕ, zero, suc, ◌≡◌, ◌≢◌, ◌+◌, ◌-◌, ◌/◌, ◌<◌, ◌≤◌, ◌⊎◌, inl, inr, Bool, true, false, cond, ◌==◌, ◌&&◌, nat_lt, nat_le, List, [], ◌∷◌, ◌++◌, length, get_or, take, drop, Option, Some, None, Result, Ok, Err, refl, ap, sym, subst, ◌∙◌, arith}
use Rattle.std.proofs.lemmas.Bool.Decides.{nat_tests}
use Rattle.std.proofs.lemmas.List.{length-drop, length-take-le, take-append-drop, get_or-take}
use Rattle.std.specs.Option.{option_or}
use Rattle.std.specs.List.{count_by, filter_map}
use Rattle.spirv_check.specs.Modules.{magic, Instruction, count_of, HasHeader, IsFramed, IsUnframed, Splits, is_begin, is_end, begin_fault, end_fault, opened_next, turn_fault, first_turn, opened_after, first_bad_name, entry_at, is_model, shape_of, named_of, closed_of, turns_of, judged}
use Rattle.spirv_check.specs.Answers.{Answers, short, bad_magic, bad_reserved, bad_length, framed}
use Rattle.spirv_check.specs.declared.shape.EntryPoint.{EntryPoint}
use Rattle.spirv_check.specs.declared.shape.Shape.{Shape}
use Rattle.spirv_check.specs.declared.error.SpirvError.{SpirvError}
use Rattle.spirv_check.specs.declared.error.SpirvError.TheVariants.{Short, BadMagic, BadReserved, BadLength, MemoryModels, Memory}
use Rattle.spirv_check.proofs.Framing.{Splits-length}
use Rattle.spirv_check.proofs.Judging as judging
use Rattle.spirv_check.specs.Answered.{first_count, begins_framed, instructions_in, words_after, body_answer, answer_of}

-- an answer that fits the words, and isn't running out of memory
pub record IsAnswer (words : List ℕ) (answer : Result Shape SpirvError) : Type 0 where
  pub fits : Answers words answer
  pub told : answer ≢ Err Memory

-- ---- the instructions that the words begin with

is_test : (b : Bool) → (b ≡ true) ⊎ (b ≡ false)
is_test true = inl refl
is_test false = inr refl

front_yes : (words : List ℕ) → begins_framed words ≡ true → (0 < first_count words) × (first_count words ≤ length words)
front_yes words t = grind (arith, nat_tests)

front_no : (words : List ℕ) → begins_framed words ≡ false → (first_count words ≡ 0) ⊎ (length words < first_count words)
front_no words t = grind (arith, nat_tests)

part_framed : (words : List ℕ) (count : ℕ) → count ≡ count_of (get_or words 0 0) → 0 < count → count ≤ length words → IsFramed (take count words)
part_framed words count is some room =
    let size = length-take-le count words room in
    record { some = omega arith; count = ap count_of (get_or-take count words 0 0 some) ∙ (sym is ∙ sym size) }

split : (most at : ℕ) (words : List ℕ) → Splits at words (instructions_in most at words) (words_after most words)
unfolding Splits instructions_in words_after
split zero at words = refl
split (suc most) at words = elim (is_test (begins_framed words)) [
  | inr fails ↦ rw fails refl
  | inl holds ↦
      let front = front_yes words holds in
      let count : ℕ = first_count words in
      let size : length (take count words) ≡ count = length-take-le count words front.1 in
      rw holds (
        drop count words,
        sym (take-append-drop count words),
        part_framed words count refl front.0 front.1,
        refl,
        subst (λ (n : ℕ). Splits (at + n) (drop count words) (instructions_in most (at + count) (drop count words)) (words_after most (drop count words))) (sym size) (split most (at + count) (drop count words)),
      )
]

stops : (most : ℕ) (words : List ℕ) → length words ≤ most → begins_framed (words_after most words) ≡ false
unfolding words_after
stops zero words few = front_short words (omega arith)
  where
    front_short : (ws : List ℕ) → length ws ≡ 0 → begins_framed ws ≡ false
    front_short ws none = grind (arith, nat_tests)
stops (suc most) words few = elim (is_test (begins_framed words)) [
  | inr fails ↦ rw fails fails
  | inl holds ↦
      let front = front_yes words holds in
      let left = length-drop (first_count words) words in
      rw holds (stops most (drop (first_count words) words) (omega arith))
]

-- ---- what framed instructions answer isn't running out of memory

begin_told : (opened : Option ℕ) (at : ℕ) → begin_fault opened at ≢ Some Memory
begin_told None at = λ e. cc
begin_told (Some outer) at = λ e. cc

end_told : (opened : Option ℕ) (at : ℕ) → end_fault opened at ≢ Some Memory
end_told None at = λ e. cc
end_told (Some outer) at = λ e. cc

turn_told : (opened : Option ℕ) (i : Instruction) → turn_fault opened i ≢ Some Memory
unfolding turn_fault
turn_told opened i = by_kind (is_begin i) (is_end i)
  where
    by_kind : (b e : Bool) → cond b (begin_fault opened i.at) (cond e (end_fault opened i.at) None) ≢ Some Memory
    by_kind true e = begin_told opened i.at
    by_kind false true = end_told opened i.at
    by_kind false false = λ p. cc

or_told : (a b : Option SpirvError) → a ≢ Some Memory → b ≢ Some Memory → option_or a b ≢ Some Memory
or_told None b p q = q
or_told (Some fault) b p q = p

turns_told : (opened : Option ℕ) (is : List Instruction) → first_turn opened is ≢ Some Memory
unfolding first_turn
turns_told opened [] = λ e. cc
turns_told opened (i ∷ is) = or_told (turn_fault opened i) (first_turn (opened_next opened i) is) (turn_told opened i) (turns_told (opened_next opened i) is)

shape_told : (entries : List EntryPoint) → shape_of entries ≢ Err Memory
unfolding shape_of
shape_told [] = λ e. cc
shape_told (entry ∷ entries) = λ e. cc

named_told : (bad : Option ℕ) (entries : List EntryPoint) → named_of bad entries ≢ Err Memory
unfolding named_of
named_told None entries = shape_told entries
named_told (Some at) entries = λ e. cc

closed_told : (opened bad : Option ℕ) (entries : List EntryPoint) → closed_of opened bad entries ≢ Err Memory
unfolding closed_of
closed_told None bad entries = named_told bad entries
closed_told (Some at) bad entries = λ e. cc

fault_told : (turn : Option SpirvError) (opened bad : Option ℕ) (entries : List EntryPoint) → turn ≢ Some Memory → turns_of turn opened bad entries ≢ Err Memory
unfolding turns_of
fault_told None opened bad entries told = closed_told opened bad entries
fault_told (Some fault) opened bad entries told = λ e. told cc

judged_told : (is : List Instruction) → judged is ≢ Err Memory
unfolding judged
judged_told is = by_count (count_by is_model is == 1)
  where
    by_count : (b : Bool) → cond b (turns_of (first_turn None is) (opened_after None is) (first_bad_name is) (filter_map entry_at is)) (Err (MemoryModels (count_by is_model is))) ≢ Err Memory
    by_count true = fault_told (first_turn None is) (opened_after None is) (first_bad_name is) (filter_map entry_at is) (turns_told None is)
    by_count false = λ e. cc

-- ---- the answer

unframed : (rest : List ℕ) → 0 < length rest → begins_framed rest ≡ false → IsUnframed rest
unframed rest some fails = record { some = some; count = front_no rest fails }

body : (words rest : List ℕ) → HasHeader words → Splits 5 (drop 5 words) (instructions_in (length words) 5 (drop 5 words)) rest → begins_framed rest ≡ false → IsAnswer words (body_answer words rest)
unfolding body_answer
body words [] header parts fails = record {
  fits = framed (record { instructions = instructions_in (length words) 5 (drop 5 words); whole = record { header = header; split = parts }; is = refl });
  told = judged_told (instructions_in (length words) 5 (drop 5 words));
}
body words (w ∷ ws) header parts fails =
    let rest : List ℕ = w ∷ ws in
    let instructions = instructions_in (length words) 5 (drop 5 words) in
    let within = Splits-length 5 (drop 5 words) instructions rest parts in
    let left = length-drop 5 words in
    let long = header.long in
    record {
      fits = bad_length (length words - length rest) (record { header = header; instructions = instructions; rest = rest; split = parts; unframed = unframed rest (omega arith) fails; place = omega arith }) refl;
      told = λ e. cc;
    }

pub answered : (words : List ℕ) → IsAnswer words (answer_of words)
unfolding answer_of
answered words = elim (is_test (nat_lt (length words) 5)) [
  | inl few ↦ rw few (record { fits = short (length words) (record { short = grind (arith, nat_tests); size = refl }) refl; told = λ e. cc })
  | inr long ↦ elim (is_test (get_or words 0 0 == magic)) [
    | inr other ↦ rw (long, other) (record { fits = bad_magic (get_or words 0 0) (record { long = grind (arith, nat_tests); first = refl; other = grind (arith, nat_tests) }) refl; told = λ e. cc })
    | inl first ↦ elim (is_test (get_or words 4 0 == 0)) [
      | inr other ↦ rw (long, first, other) (record { fits = bad_reserved (get_or words 4 0) (record { long = grind (arith, nat_tests); first = grind (arith, nat_tests); reserved = refl; other = grind (arith, nat_tests) }) refl; told = λ e. cc })
      | inl reserved ↦
          let header : HasHeader words = record { long = grind (arith, nat_tests); first = grind (arith, nat_tests); reserved = grind (arith, nat_tests) } in
          let left = length-drop 5 words in
          rw (long, first, reserved) (body words (words_after (length words) (drop 5 words)) header (split (length words) 5 (drop 5 words)) (stops (length words) (drop 5 words) (omega arith)))
    ]
  ]
]

-- no other answer fits, but for running out of memory
pub one_answer : (words : List ℕ) (answer : Result Shape SpirvError) → answer ≢ Err Memory → Answers words answer → answer ≡ answer_of words
one_answer words answer told fits =
    let known = answered words in
    judging.one_answer words answer (answer_of words) told known.told fits known.fits
