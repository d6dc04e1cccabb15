-- What the bytes that a worker sends after a Do are.
use Rattle.std.specs.Prelude.{ℕ, ◌≡◌, ◌≢◌, List, ◌++◌}
use Rattle.foz_words.specs.declared.key.Key.{Key}
use Rattle.worker_msg.specs.Frames.{spelling}
use Rattle.worker_msg.specs.Fronts.{IsPartial, IsBad}
use Rattle.worker_msg.specs.declared.msg.Msg.TheVariants.{Hello, Reply}
use Rattle.worker_msg.specs.declared.side.Side.TheVariants.{Crew}

-- the beginning of a frame of a worker, and not all of it; no bytes are that too
abbrev pub IsUnfinished : List ℕ → Type 0
IsUnfinished bytes = IsPartial Crew bytes

-- the bytes begin with a bad frame, a Hello, or a Reply with another key than this
pub data IsWrong (key : Key) (bytes : List ℕ) : Type 0 where
  bad_frame : (place : ℕ) → IsBad Crew bytes place → IsWrong key bytes
  hello : (more : List ℕ) → bytes ≡ spelling Hello ++ more → IsWrong key bytes
  other_key : (other : Key) (code : ℕ) (more : List ℕ) → other ≢ key → bytes ≡ spelling (Reply other code) ++ more → IsWrong key bytes
