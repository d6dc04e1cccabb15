-- The lines of a text of hashes, one after the other.
use Rattle.std.proofs.Common.{◌≡◌, ℕ, suc, Bool, true, false, ◌&&◌, List, [], ◌∷◌, ◌++◌, refl, sym, ap, ◌∙◌, append_assoc, append-nil}
use Rattle.capture_lines.specs.Line.{line_meaning}
use Rattle.input_lines.specs.Lines.{lines_of}
use Rattle.foz_text.specs.HashText.{hash_line, hash_lines, hash_text, is_read, are_read, is_readable}

-- so much is written, and after this number of lines the rest is still to be
pub record IsHashedUpTo (capture start written : List ℕ) (readable : Bool) (number : ℕ) (rest : List ℕ) : Type 0 where
  pub text : written ++ hash_lines (suc number) (lines_of rest) ≡ start ++ hash_text capture
  pub reads : (readable && are_read (lines_of rest)) ≡ is_readable capture

and_assoc : (a b c : Bool) → (a && (b && c)) ≡ ((a && b) && c)
and_assoc true b c = refl
and_assoc false b c = refl

and_true : (a : Bool) → (a && true) ≡ a
and_true true = refl
and_true false = refl

pub hashed_none : (capture start : List ℕ) → IsHashedUpTo capture start start true 0 capture
unfolding hash_text is_readable
hashed_none capture start = record { text = refl; reads = refl }

pub hashed_more : (capture start written more rest line behind : List ℕ) (readable next_readable read : Bool) (number next : ℕ) → next ≡ suc number → lines_of rest ≡ line ∷ lines_of behind
    → more ≡ written ++ hash_line next (line_meaning line) → read ≡ is_read (line_meaning line) → next_readable ≡ (readable && read)
    → IsHashedUpTo capture start written readable number rest → IsHashedUpTo capture start more next_readable next behind
hashed_more capture start written more rest line behind readable next_readable read number next counts parts wrote says both so_far = record {
  text = ap (λ (l : List ℕ). l ++ hash_lines (suc next) (lines_of behind)) wrote
      ∙ append_assoc written (hash_line next (line_meaning line)) (hash_lines (suc next) (lines_of behind))
      ∙ ap (λ (n : ℕ). written ++ hash_lines n (line ∷ lines_of behind)) counts
      ∙ ap (λ (ls : List (List ℕ)). written ++ hash_lines (suc number) ls) (sym parts)
      ∙ so_far.text;
  reads = ap (λ (b : Bool). b && are_read (lines_of behind)) (both ∙ ap (λ (r : Bool). readable && r) says)
      ∙ sym (and_assoc readable (is_read (line_meaning line)) (are_read (lines_of behind)))
      ∙ ap (λ (ls : List (List ℕ)). readable && are_read ls) (sym parts)
      ∙ so_far.reads;
}

pub all_hashed : (capture start written rest : List ℕ) (readable : Bool) (number : ℕ) → rest ≡ [] → IsHashedUpTo capture start written readable number rest
    → (written ≡ start ++ hash_text capture) × (readable ≡ is_readable capture)
unfolding lines_of
all_hashed capture start written rest readable number none so_far = (
  sym (append-nil written) ∙ ap (λ (l : List ℕ). written ++ hash_lines (suc number) (lines_of l)) (sym none) ∙ so_far.text,
  sym (and_true readable) ∙ ap (λ (l : List ℕ). readable && are_read (lines_of l)) (sym none) ∙ so_far.reads,
)
