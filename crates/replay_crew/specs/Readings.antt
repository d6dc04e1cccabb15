-- What the bytes from a worker are, where it was asked for the item of a key.
use Rattle.std.specs.Prelude.{ℕ, ◌≡◌, if◌then◌else◌, List}
use Rattle.foz_words.specs.Key.{is_key}
use Rattle.foz_words.specs.declared.key.Key.{Key}
use Rattle.worker_msg.specs.Frames.{spelling}
use Rattle.worker_msg.specs.declared.msg.Msg.{Msg}
use Rattle.worker_msg.specs.declared.msg.Msg.TheVariants.{Hello, Load, Do, Reply, Quit}
use Rattle.slot_log.specs.Answers.{IsUnfinished, IsWrong}
use Rattle.replay_crew.specs.declared.reading.Reading.{Reading}
use Rattle.replay_crew.specs.declared.reading.Reading.TheVariants.{Unfinished, Answer, Wrong}

abbrev pub Reads : Key → List ℕ → Reading → Type 0
Reads key bytes Unfinished = IsUnfinished bytes
Reads key bytes (Answer code) = bytes ≡ spelling (Reply key code)
Reads key bytes Wrong = IsWrong key bytes

-- what a whole message is
abbrev pub reading_by : Key → Msg → Reading
reading_by key Hello = Wrong
reading_by key (Load other payload) = Wrong
reading_by key (Do other payload) = Wrong
reading_by key (Reply other code) = if is_key other key then Answer code else Wrong
reading_by key Quit = Wrong
