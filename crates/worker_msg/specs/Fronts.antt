-- What stands at the beginning of some bytes.
use Rattle.std.specs.Prelude.{ℕ, ◌≡◌, ◌≢◌, nat_lt, if◌then◌else◌, List, [], ◌∷◌, ◌++◌, length, drop}
use Rattle.worker_msg.specs.Frames.{IsBody, framed}
use Rattle.worker_msg.specs.declared.side.Side.{Side}
use Rattle.worker_msg.specs.declared.front.Front.{Front}
use Rattle.worker_msg.specs.declared.front.Front.TheVariants.{Partial, Bad, Whole}

-- the bytes are the beginning of a frame of a kind that this side takes
pub record Begins (side : Side) (bytes : List ℕ) : Type 0 where
  pub body : List ℕ
  pub rest : List ℕ
  pub is_body : IsBody side body
  pub parts : framed body ≡ bytes ++ rest

-- and not all of it
pub record IsPartial (side : Side) (bytes : List ℕ) : Type 0 where
  pub begins : Begins side bytes
  pub more : begins.rest ≢ []

-- up to a byte the bytes are part of a frame, and with that byte they begin none; the place is that byte's, or that of the
-- length if it is one of its four
pub record IsBad (side : Side) (bytes : List ℕ) (place : ℕ) : Type 0 where
  pub good : List ℕ
  pub byte : ℕ
  pub more : List ℕ
  pub parts : bytes ≡ good ++ byte ∷ more
  pub partial : IsPartial side good
  pub none : Begins side (good ++ byte ∷ []) → ⊥
  pub at : place ≡ (if nat_lt (length good) 4 then 0 else length good)

-- a frame of so many bytes stands at the beginning
pub record IsWhole (side : Side) (bytes : List ℕ) (len : ℕ) : Type 0 where
  pub body : List ℕ
  pub is_body : IsBody side body
  pub parts : bytes ≡ framed body ++ drop len bytes
  pub size : length (framed body) ≡ len

abbrev pub Stands : Side → List ℕ → Front → Type 0
Stands side bytes Partial = IsPartial side bytes
Stands side bytes (Bad place) = IsBad side bytes place
Stands side bytes (Whole len) = IsWhole side bytes len

-- how each frame of a kind that a crew takes begins, and how many bytes follow
abbrev pub hello_head : List ℕ
hello_head = 5 ∷ 0 ∷ 0 ∷ 0 ∷ 1 ∷ 0x46 ∷ 0x4F ∷ 0x5A ∷ 1 ∷ []

abbrev pub reply_head : List ℕ
reply_head = 17 ∷ 0 ∷ 0 ∷ 0 ∷ 4 ∷ []

pub data IsHead (head : List ℕ) (more : ℕ) : Type 0 where
  hello : head ≡ hello_head → more ≡ 0 → IsHead head more
  reply : head ≡ reply_head → more ≡ 16 → IsHead head more
