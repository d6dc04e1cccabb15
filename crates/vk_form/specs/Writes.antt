-- What a writer of words took.
use Rattle.std.specs.Prelude.{◌≡◌, ℕ, List, ◌++◌, fold, Option, IsSome}
use Rattle.std.specs.Option.{option_map}
use Rattle.state_hash.specs.Mixing.{mixed}
use Rattle.vk_form.specs.declared.writer.WordWriter.{WordWriter}
use Rattle.vk_form.specs.Shape.{Shape, Fields, end, field, optional, Plain, Plains}
use Rattle.vk_form.specs.Words.{words, field_words, flagged}

-- the hash of the words so far
abbrev pub hashed : WordWriter → ℕ
hashed w = w.mixer

-- the words so far, where they are kept
abbrev pub kept : WordWriter → Option (List ℕ)
kept w = w.row

-- These words were taken. A writer that keeps words may drop them for running out of memory.
pub record Writes (old : WordWriter) (ws : List ℕ) (new : WordWriter) : Type 0 where
  pub hashes : hashed new ≡ fold mixed (hashed old) ws
  pub keeps : IsSome (kept new) → kept new ≡ option_map (λ r. r ++ ws) (kept old)

-- the words of one field after the other
pub data WritesFields : (fs : Fields) → WordWriter → Plains fs → WordWriter → Type 0 where
  done : {w : WordWriter} → WritesFields end w tt w
  then_field : {name : List ℕ} {s : Shape} {fs : Fields} {old mid new : WordWriter} {x : Plain s} {xs : Plains fs} → Writes old (words s x) mid → WritesFields fs mid xs new → WritesFields (field name s fs) old (x, xs) new
  then_optional : {name : List ℕ} {o fs : Fields} {old mid new : WordWriter} {x : Option (Plains o)} {xs : Plains fs} → Writes old (flagged (field_words o) x) mid → WritesFields fs mid xs new → WritesFields (optional name o fs) old (x, xs) new
