-- How a worker in memory answers.
use Rattle.std.specs.Prelude.{ℕ, if◌then◌else◌, List, [], ◌∷◌, take, Option, Some, None}
use Rattle.foz_words.specs.Key.{is_key}
use Rattle.foz_words.specs.declared.key.Key.{Key}
use Rattle.worker_msg.specs.Frames.{spelling}
use Rattle.worker_msg.specs.declared.msg.Msg.{Msg}
use Rattle.worker_msg.specs.declared.msg.Msg.TheVariants.{Hello, Load, Do, Reply, Quit}
use Rattle.mem_slot.specs.declared.mem.Act.{Act}
use Rattle.mem_slot.specs.declared.mem.Act.TheVariants.{Code, Die, Raw}

-- the first act that is listed for the key, code 0 where none is
abbrev pub act_of : List (Key × Act) → Key → Act
act_of [] key = Code 0
act_of (listed ∷ acts) key = if is_key listed.0 key then listed.1 else act_of acts key

-- the bytes that an act sends, as far as they are asked for
abbrev pub act_bytes : Key → Act → List ℕ
act_bytes key (Code code) = spelling (Reply key code)
act_bytes key Die = []
act_bytes key (Raw row) = take 21 row

-- the key of a Do
abbrev pub key_asked : Msg → Option Key
key_asked Hello = None
key_asked (Load key payload) = None
key_asked (Do key payload) = Some key
key_asked (Reply key code) = None
key_asked Quit = None

-- a Do is answered by the act of its key, and no other message is
abbrev pub answer_for : List (Key × Act) → Option Key → List ℕ
answer_for acts None = []
answer_for acts (Some key) = act_bytes key (act_of acts key)
