-- What lines say, one after the other.
use Rattle.std.proofs.Common.{◌≡◌, ℕ, zero, suc, ◌==◌, Bool, true, false, cond, List, [], ◌∷◌, length, drop, map, Option, Result, Err, refl, sym, ap, ◌∙◌, subst, arith}
use Rattle.std.proofs.lemmas.Bool.Decides.{nat_tests}
use Rattle.state_words.specs.declared.state.State.{State}
use Rattle.capture_lines.specs.declared.error.LineError.{LineError}
use Rattle.capture_lines.specs.declared.error.LineError.TheVariants.{Kind, Float, Json, Field, Code, Memory}
use Rattle.capture_lines.specs.Line.{Means}
use Rattle.input_lines.specs.Lines.{lines_of, in_front}
use Rattle.record_words.specs.Recorded.{Line, refused}
use Rattle.record_lines.specs.declared.line.NextLine.{NextLine}
use Rattle.record_lines.specs.Lines.{line_of}
use Rattle.capture_reader.specs.Said.{said, line_said, lines_said}

-- a line that is refused
pub is_refused : (cause : LineError) (meaning : Result (Option State) LineError) → ¬ (cause ≡ Memory) → Means {A = Option State} (Err cause) meaning → refused cause ≡ said meaning
is_refused Memory meaning not means = absurd (not refl)
is_refused Kind meaning not means = rw means refl
is_refused (Float at) meaning not means = rw means refl
is_refused Json meaning not means = rw means refl
is_refused (Field path cause) meaning not means = rw means refl
is_refused Code meaning not means = rw means refl

nothing : lines_of [] ≡ []
unfolding lines_of
nothing = refl

-- an input of which nothing is left
pub none_said : (input : List ℕ) → input ≡ [] → lines_said input ≡ []
none_said input is = ap lines_said is ∙ ap (map line_said) nothing

-- an input whose first line is this one
pub next_said : (input line rest : List ℕ) (next : NextLine LineError) → lines_of input ≡ line ∷ lines_of rest → line_of next ≡ line_said line → lines_said input ≡ line_of next ∷ lines_said rest
next_said input line rest next first is = ap (map line_said) first ∙ ap (λ (l : Line LineError). l ∷ lines_said rest) (sym is)

-- the first line is passed over
pub one_passed : (input line rest : List ℕ) → lines_of input ≡ line ∷ lines_of rest → lines_said rest ≡ drop 1 (lines_said input)
one_passed input line rest first = sym (ap (λ (l : List (List ℕ)). drop 1 (map line_said l)) first)

pub none_passed : (input : List ℕ) → input ≡ [] → lines_said input ≡ drop 1 (lines_said input)
none_passed input is = none_said input is ∙ sym (ap (λ (l : List (Line LineError)). drop 1 l) (none_said input is))

not_none : (n : ℕ) → (suc n == 0) ≡ false
not_none n = grind (arith, nat_tests)

-- no line is left exactly where no byte is
some_said : (byte : ℕ) (bytes : List ℕ) → (length (lines_said (byte ∷ bytes)) == 0) ≡ false
unfolding lines_of
some_said byte bytes = by_test (byte == 10) (lines_of bytes)
  where
    by_test : (b : Bool) (lines : List (List ℕ)) → (length (map line_said (cond b ([] ∷ lines) (in_front byte lines))) == 0) ≡ false
    by_test true lines = not_none (length (map line_said lines))
    by_test false [] = not_none 0
    by_test false (line ∷ lines) = not_none (length (map line_said lines))

pub is_said : (input : List ℕ) → (length input == 0) ≡ (length (lines_said input) == 0)
is_said [] = sym (ap (λ (l : List (Line LineError)). length l == 0) (none_said [] refl))
is_said (byte ∷ bytes) = not_none (length bytes) ∙ sym (some_said byte bytes)
