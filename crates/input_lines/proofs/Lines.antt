-- Where the first line ends, and how many lines there are.
use Rattle.std.proofs.Common.{◌≡◌, ◌≢◌, ℕ, zero, suc, ◌+◌, ◌≤◌, ◌==◌, List, [], ◌∷◌, take, drop, length, Bool, true, false, Option, Some, None, refl, add-one, arith}
use Rattle.memchr.specs.Find.{IsFirstByte, is_byte}
use Rattle.input_lines.specs.Lines.{lines_of, in_front}

-- the lines, where the first line feed stands there
abbrev pub split_at : List ℕ → Option ℕ → List (List ℕ)
split_at bytes (Some at) = take at bytes ∷ lines_of (drop (at + 1) bytes)
split_at [] None = []
split_at (byte ∷ bytes) None = (byte ∷ bytes) ∷ []

abbrev IsLineFeed : List ℕ → Option ℕ → Type 0
IsLineFeed bytes found = IsFirstByte (is_byte 10) bytes found

behind_none : (b : ℕ) (bs : List ℕ) → IsLineFeed (b ∷ bs) None → IsLineFeed bs None
behind_none b bs none = λ k low high feed. none (suc k) (omega arith) (omega arith) feed

behind_some : (b : ℕ) (bs : List ℕ) (at : ℕ) → IsLineFeed (b ∷ bs) (Some (suc at)) → IsLineFeed bs (Some at)
behind_some b bs at found =
    let first = found.0 in
    let high = first.high in
    (record { low = omega arith; high = omega arith; before = λ k low below feed. first.before (suc k) (omega arith) (omega arith) feed }, found.1)

without : (b : ℕ) (bs : List ℕ) → in_front b (split_at bs None) ≡ (b ∷ bs) ∷ []
without b [] = refl
without b (c ∷ cs) = refl

step : (b : ℕ) (bs : List ℕ) (found : Option ℕ) (feed : Bool) → (b == 10) ≡ feed → ((behind : Option ℕ) → IsLineFeed bs behind → lines_of bs ≡ split_at bs behind) → IsLineFeed (b ∷ bs) found → lines_of (b ∷ bs) ≡ split_at (b ∷ bs) found
unfolding lines_of
step b bs None true e ih none = absurd (none 0 (omega arith) (omega arith) e)
step b bs (Some zero) true e ih found = rw e refl
step b bs (Some (suc at)) true e ih found = let first = found.0 in absurd (first.before 0 (omega arith) (omega arith) e)
step b bs None false e ih none = rw (e, ih None (behind_none b bs none)) (without b bs)
step b bs (Some zero) false e ih found = absurd (let feed : (b == 10) ≡ true = found.1 in cc)
step b bs (Some (suc at)) false e ih found = rw (e, ih (Some at) (behind_some b bs at found), add-one (suc at), add-one at) refl

-- the first line feed splits off the first line
pub is_split : (bytes : List ℕ) (found : Option ℕ) → IsLineFeed bytes found → lines_of bytes ≡ split_at bytes found
unfolding lines_of
is_split [] None none = refl
is_split [] (Some at) found = let first = found.0 in let high = first.high in absurd (omega arith)
is_split (b ∷ bs) found is = step b bs found (b == 10) refl (is_split bs) is

in_front_few : (b : ℕ) (lines : List (List ℕ)) (n : ℕ) → length lines ≤ n → length (in_front b lines) ≤ suc n
in_front_few b [] n le = omega arith
in_front_few b (line ∷ lines) n le = omega arith

few_step : (b : ℕ) (bs : List ℕ) (feed : Bool) → (b == 10) ≡ feed → length (lines_of bs) ≤ length bs → length (lines_of (b ∷ bs)) ≤ suc (length bs)
unfolding lines_of
few_step b bs true e ih = rw e (omega arith)
few_step b bs false e ih = rw e (in_front_few b (lines_of bs) (length bs) ih)

-- each line takes a byte
pub lines_are_few : (bytes : List ℕ) → length (lines_of bytes) ≤ length bytes
unfolding lines_of
lines_are_few [] = omega arith
lines_are_few (b ∷ bs) = few_step b bs (b == 10) refl (lines_are_few bs)

-- a last line without a line feed
pub last_line : (bytes : List ℕ) → length bytes ≢ 0 → IsLineFeed bytes None → lines_of bytes ≡ bytes ∷ lines_of []
unfolding lines_of
last_line [] some none = absurd (some refl)
last_line (b ∷ bs) some none = is_split (b ∷ bs) None none
