-- The words that ask for a command.
use Rattle.std.specs.Prelude.{ℕ, ◌≡◌, ◌≤◌, ◌^◌, ◌==◌, ◌&&◌, nat_le, not, Bool, false, if◌then◌else◌, List, [], ◌∷◌, length, codes, Option, Some, None, option_and_then, option_map}
use Rattle.std.specs.Char.{is_ascii_digit}
use Rattle.std.specs.List.{list_all}
use Rattle.std.specs.Str.{bytes_eq}
use Rattle.std.specs.Str.Parse.{digits_value}
use Rattle.foz_words.specs.Hex.{hex16_value}
use Rattle.foz_words.specs.declared.key.Key.{Key}
use Rattle.foz_args.specs.declared.command.Command.{Command}
use Rattle.foz_args.specs.declared.command.Command.TheVariants as command

-- a file's word isn't empty and doesn't begin with `-`
abbrev pub is_file : List ℕ → Bool
is_file [] = false
is_file (first ∷ rest) = not (first == 45)

-- one to twenty decimal digits
abbrev pub is_number : List ℕ → Bool
is_number word = nat_le 1 (length word) && nat_le (length word) 20 && list_all is_ascii_digit word

-- the number that a word spells, where it is at most so great
unfoldable pub number_upto : ℕ → List ℕ → Option ℕ
number_upto most word = if is_number word && nat_le (digits_value 10 word) most then Some (digits_value 10 word) else None

-- the number that a word spells, where it is one from 1 to so many
unfoldable pub count_upto : ℕ → List ℕ → Option ℕ
count_upto most word = option_and_then (λ n. if nat_le 1 n then Some n else None) (number_upto most word)

-- the most threads that record, and the most workers that replay
abbrev pub thread_limit : ℕ
thread_limit = 16

-- the key that a tag and a hash spell
unfoldable pub key_of_words : List ℕ → List ℕ → Option Key
key_of_words tag hash = option_and_then (λ t. option_map (λ h. record { tag = t; hash = h }) (hex16_value hash)) (number_upto 4_294_967_295 tag)

-- a command that takes a file alone; without a number of threads `record` has one, and without one of workers `replay` has one
abbrev pub file_of : List ℕ → List ℕ → Option Command
file_of verb file =
    if bytes_eq verb (codes "list") && is_file file then Some (command.List file)
    else (if bytes_eq verb (codes "record") && is_file file then Some (command.Record file 1)
    else (if bytes_eq verb (codes "check") && is_file file then Some (command.Check file)
    else (if bytes_eq verb (codes "replay") && is_file file then Some (command.Replay file 1) else None)))

abbrev pub put_of : List ℕ → List ℕ → List ℕ → List ℕ → Option Command
put_of verb file tag hash = if bytes_eq verb (codes "put") && is_file file then option_map (λ key. command.Put file key) (key_of_words tag hash) else None

-- `record` with a number of threads
abbrev pub record_of : List ℕ → List ℕ → List ℕ → List ℕ → Option Command
record_of verb file option number =
    if bytes_eq verb (codes "record") && is_file file && bytes_eq option (codes "--threads") then option_map (λ threads. command.Record file threads) (count_upto thread_limit number) else None

-- the most workers that a replay has, where so many slots are there for them
abbrev pub most_workers : ℕ → ℕ
most_workers slots = if nat_le slots thread_limit then slots else thread_limit

-- a command without more words
abbrev pub alone_of : List ℕ → Option Command
alone_of verb =
    if bytes_eq verb (codes "hash") then Some command.Hash
    else (if bytes_eq verb (codes "worker") then Some command.Worker else None)

module _ (slots : ℕ) where
  -- `replay` with a number of workers
  abbrev pub replay_of : List ℕ → List ℕ → List ℕ → List ℕ → Option Command
  replay_of verb file option number =
      if bytes_eq verb (codes "replay") && is_file file && bytes_eq option (codes "--workers") then option_map (λ workers. command.Replay file workers) (count_upto (most_workers slots) number) else None

  -- a command of a file and two more words
  abbrev pub file_and_two_of : List ℕ → List ℕ → List ℕ → List ℕ → Option Command
  file_and_two_of verb file third fourth =
      if bytes_eq verb (codes "put") then put_of verb file third fourth
      else (if bytes_eq verb (codes "record") then record_of verb file third fourth else replay_of verb file third fourth)

  -- The command of the words after the program's name, if they are one of its forms, where so many slots are there for
  -- workers: a replay by more workers than those is none.
  unfoldable pub command_for : List (List ℕ) → Option Command
  command_for (verb ∷ []) = alone_of verb
  command_for (verb ∷ file ∷ []) = file_of verb file
  command_for (verb ∷ file ∷ third ∷ fourth ∷ []) = file_and_two_of verb file third fourth
  command_for words = None

  -- there is a slot for each worker
  abbrev pub HasSlots : Command → Type 0
  HasSlots (command.Replay file workers) = workers ≤ slots
  HasSlots asked = Unit {0}

-- the same whatever slots are there
unfoldable pub command_of : List (List ℕ) → Option Command
command_of words = command_for thread_limit words

-- 1 to 16 threads record, and 1 to 16 workers replay
abbrev pub IsWithinLimits : Command → Type 0
IsWithinLimits (command.Record file threads) = (1 ≤ threads) × (threads ≤ thread_limit)
IsWithinLimits (command.Replay file workers) = (1 ≤ workers) × (workers ≤ thread_limit)
IsWithinLimits asked = Unit {0}
