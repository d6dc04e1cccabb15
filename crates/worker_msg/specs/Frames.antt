-- The frames between a crew and its workers.
use Rattle.std.specs.Prelude.{ℕ, ◌≡◌, ◌≢◌, ◌+◌, ◌^◌, ◌<◌, ◌≤◌, ◌⊎◌, Bool, if◌then◌else◌, List, [], ◌∷◌, ◌++◌, length}
use Rattle.foz_words.specs.Bytes.{le32, le64}
use Rattle.foz_words.specs.declared.key.Key.{Key}
use Rattle.worker_msg.specs.declared.msg.Msg.{Msg}
use Rattle.worker_msg.specs.declared.msg.Msg.TheVariants.{Hello, Load, Do, Reply, Quit}
use Rattle.worker_msg.specs.declared.side.Side.{Side}
use Rattle.worker_msg.specs.declared.side.Side.TheVariants.{Worker, Crew}

-- the most bytes that a payload has
abbrev pub limit : ℕ
limit = 16777216

-- a body after its length
unfoldable pub framed : List ℕ → List ℕ
framed body = le32 (length body) ++ body

abbrev pub key_bytes : Key → List ℕ
key_bytes key = le32 key.tag ++ le64 key.hash

abbrev pub hello_body : List ℕ
hello_body = 1 ∷ 0x46 ∷ 0x4F ∷ 0x5A ∷ 1 ∷ []

abbrev pub body_of : Msg → List ℕ
body_of Hello = hello_body
body_of (Load key payload) = 2 ∷ (key_bytes key ++ payload)
body_of (Do key payload) = 3 ∷ (key_bytes key ++ payload)
body_of (Reply key code) = 4 ∷ (le32 code ++ key_bytes key)
body_of Quit = 5 ∷ []

-- the one spelling of a message
unfoldable pub spelling : Msg → List ℕ
spelling message = framed (body_of message)

-- what stands before the payload of a Load, or of a Do
unfoldable pub work_head : Bool → Key → ℕ → List ℕ
work_head load key payload_len = le32 (13 + payload_len) ++ (if load then 2 else 3) ∷ key_bytes key

-- the spelling of a Load, or of a Do
abbrev pub work_spelling : Bool → Key → List ℕ → List ℕ
work_spelling load key payload = spelling (if load then Load key payload else Do key payload)

abbrev pub HasFittingPayload : Msg → Type 0
HasFittingPayload Hello = Unit {0}
HasFittingPayload (Load key payload) = length payload ≤ limit
HasFittingPayload (Do key payload) = length payload ≤ limit
HasFittingPayload (Reply key code) = Unit {0}
HasFittingPayload Quit = Unit {0}

pub record IsKey (key : Key) : Type 0 where
  pub tag : key.tag < 2 ^ 32
  pub hash : key.hash < 2 ^ 64

-- a message of a kind that this side takes, whose numbers have a spelling
abbrev pub Sent : Side → Msg → Type 0
Sent Worker Hello = ⊥
Sent Worker (Load key payload) = IsKey key × (length payload ≤ limit)
Sent Worker (Do key payload) = IsKey key × (length payload ≤ limit)
Sent Worker (Reply key code) = ⊥
Sent Worker Quit = Unit {0}
Sent Crew Hello = Unit {0}
Sent Crew (Load key payload) = ⊥
Sent Crew (Do key payload) = ⊥
Sent Crew (Reply key code) = IsKey key × (code < 2 ^ 32)
Sent Crew Quit = ⊥

-- the body of a frame of a kind that this side takes; the fields after its kind may be any bytes
pub data IsBody (side : Side) (body : List ℕ) : Type 0 where
  hello : side ≡ Crew → body ≡ hello_body → IsBody side body
  load : side ≡ Worker → (fields : List ℕ) → body ≡ 2 ∷ fields → 12 ≤ length fields → length fields ≤ 12 + limit → IsBody side body
  work : side ≡ Worker → (fields : List ℕ) → body ≡ 3 ∷ fields → 12 ≤ length fields → length fields ≤ 12 + limit → IsBody side body
  reply : side ≡ Crew → (fields : List ℕ) → body ≡ 4 ∷ fields → length fields ≡ 16 → IsBody side body
  quit : side ≡ Worker → body ≡ 5 ∷ [] → IsBody side body

pub record IsFrame (side : Side) (frame : List ℕ) : Type 0 where
  pub body : List ℕ
  pub is_body : IsBody side body
  pub whole : frame ≡ framed body

-- a length of a worker's frame
abbrev pub IsWorkLength : ℕ → Type 0
IsWorkLength len = (len ≡ 1) ⊎ ((13 ≤ len) × (len ≤ 13 + limit))

-- a kind of a worker's frame, and a length that fits it
abbrev pub IsWorkKind : ℕ → ℕ → Type 0
IsWorkKind len kind = ((kind ≡ 5) × (len ≡ 1)) ⊎ (((kind ≡ 2) ⊎ (kind ≡ 3)) × (len ≢ 1))
