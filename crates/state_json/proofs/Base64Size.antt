-- What base64 decodes to is no longer than the text.
use Rattle.std.proofs.Common.{ℕ, ◌+◌, ◌*◌, ◌/◌, ◌≤◌, ◌==◌, nat_lt, Bool, true, false, cond, List, [], ◌∷◌, length, take, drop, slice_index, arith}
use Rattle.std.proofs.lemmas.List.{length-append, length-take, length-drop}
use Rattle.std.specs.Prelude.{⊤, Option, Some, None, Ok, Err}
use Rattle.std.specs.Result.{result_ok}
use Rattle.base64.specs.declared.decode.DecodeError.{DecodeError}
use Rattle.base64.specs.Decode.{decode_outcome, decoded_bytes, groups_bytes, groups_before_last, leftover_bytes, no_leftover, push_leftover, scan_bytes, scan_steps, suffix_bytes}
use Rattle.base64.specs.Engines.{standard}
use Rattle.base64.specs.GeneralPurpose.{decoded_of, decoded_bytes_of}
use Rattle.base64.proofs.Decoding.{length-groups_bytes}

either : {A : Type 0} (f : A → ℕ) (n : ℕ) (b : Bool) (x y : A) → f x ≤ n → f y ≤ n → f (cond b x y) ≤ n
either f n true x y p q = p
either f n false x y p q = q

one_symbol : (count a b c d e f n : ℕ) → length (take (count * 6 / 8) (a ∷ b ∷ c ∷ [])) ≤ n → length (take ((count + 1) * 6 / 8) (d ∷ e ∷ f ∷ [])) ≤ n + 1
one_symbol count a b c d e f n le = omega (arith, length-take (count * 6 / 8) (a ∷ b ∷ c ∷ []), length-take ((count + 1) * 6 / 8) (d ∷ e ∷ f ∷ []))

-- each byte of the last group gives at most one
one_more : (dec : List ℕ) (pad at : ℕ) (st : _) (i b n : ℕ) → length (leftover_bytes st) ≤ n → length (scan_bytes (push_leftover dec pad at st i b)) ≤ n + 1
one_more dec pad at st i b n le =
    either (λ r. length (scan_bytes r)) (n + 1) (b == pad) _ _
    (either (λ r. length (scan_bytes r)) (n + 1) (nat_lt i 2) _ _ (omega arith) (omega arith))
    (either (λ r. length (scan_bytes r)) (n + 1) (nat_lt 0 st.padding_count) _ _ (omega arith)
    (either (λ r. length (scan_bytes r)) (n + 1) (slice_index dec b == 255) _ _ (omega arith) (one_symbol st.morsels_count _ _ _ _ _ _ n le)))

all_kept : (dec : List ℕ) (pad at : ℕ) (r : _) (i : ℕ) (bytes : List ℕ) (n m : ℕ) → length (scan_bytes r) ≤ n → n + length bytes ≤ m → length (scan_bytes (scan_steps dec pad at r i bytes)) ≤ m
unfolding scan_steps
all_kept dec pad at (Err e) i bytes n m h le = omega arith
all_kept dec pad at (Ok st) i [] n m h le = omega arith
all_kept dec pad at (Ok st) i (b ∷ bytes) n m h le = all_kept dec pad at (push_leftover dec pad at st i b) (i + 1) bytes (n + 1) m (one_more dec pad at st i b n h) (omega arith)

no_longer : (dec : List ℕ) (pad : ℕ) (text : List ℕ) → length (decoded_bytes dec pad text) ≤ length text
no_longer dec pad text =
    let q : ℕ = groups_before_last (length text) in
    let rest = drop (4 * q) text in
    let kept = all_kept dec pad (4 * q) (Ok no_leftover) 0 rest 0 (length rest) (omega arith) (omega arith) in
    omega (arith, length-append (groups_bytes dec text q) (suffix_bytes dec pad (4 * q) text), length-groups_bytes dec text q, length-drop (4 * q) text, kept)

abbrev pub AtMost : ℕ → Option (List ℕ) → Type 0
AtMost n None = ⊤
AtMost n (Some s) = length s ≤ n

outcome : (n : ℕ) (e : Option DecodeError) (bytes : List ℕ) → length bytes ≤ n → AtMost n (result_ok (decode_outcome e bytes))
outcome n None bytes le = le
outcome n (Some e) bytes le = tt

pub decoded_fits : (text : List ℕ) → AtMost (length text) (decoded_of standard text)
unfolding decoded_of
decoded_fits text = outcome (length text) _ (decoded_bytes_of standard text) (no_longer _ _ text)
