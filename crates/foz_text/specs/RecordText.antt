-- The text of the command `record`. It is given the words of why a line can't be read.
use Rattle.std.specs.Prelude.{ℕ, Bool, true, false, List, [], ◌++◌, codes, decimal}
use Rattle.std.specs.List.{count_by, flat_map}
use Rattle.foz_words.specs.Hex.{hex_text}
use Rattle.record_words.specs.declared.note.RecordReply.{RecordReply}
use Rattle.record_words.specs.declared.note.RecordReply.TheVariants as replies
use Rattle.record_words.specs.Replies.{is_new as is_new_reply, is_known as is_known_reply}
use Rattle.record_words.specs.declared.answered.Answered.{Answered}
use Rattle.record_words.specs.declared.answered.LineAnswer.{LineAnswer}
use Rattle.record_words.specs.declared.answered.LineAnswer.TheVariants.{Refused, Replied}

-- the replies that a recorder gives to a line; it gives no others
abbrev pub reply_words : RecordReply → List ℕ
reply_words (replies.New index) = codes "new " ++ decimal index
reply_words (replies.Known index) = codes "known " ++ decimal index
reply_words (replies.Collision index) = codes "collision " ++ decimal index
reply_words (replies.TooLarge size) = codes "too large " ++ decimal size
reply_words (replies.Full end need) = codes "full " ++ decimal end ++ codes " " ++ decimal need
reply_words (replies.TooMany count) = codes "too many"
reply_words reply = []

-- neither new nor known
abbrev pub is_refused_reply : RecordReply → Bool
is_refused_reply (replies.New index) = false
is_refused_reply (replies.Known index) = false
is_refused_reply reply = true

module _ {Cause : Type 0} where
  abbrev pub is_new_answer : LineAnswer Cause → Bool
  is_new_answer (Refused cause) = false
  is_new_answer (Replied key reply) = is_new_reply reply

  abbrev pub is_known_answer : LineAnswer Cause → Bool
  is_known_answer (Refused cause) = false
  is_known_answer (Replied key reply) = is_known_reply reply

  abbrev pub is_refused_answer : LineAnswer Cause → Bool
  is_refused_answer (Refused cause) = true
  is_refused_answer (Replied key reply) = is_refused_reply reply

  abbrev pub is_new : Answered Cause → Bool
  is_new answered = is_new_answer answered.answer

  abbrev pub is_known : Answered Cause → Bool
  is_known answered = is_known_answer answered.answer

  abbrev pub is_refused : Answered Cause → Bool
  is_refused answered = is_refused_answer answered.answer

  -- the line after all others
  abbrev pub summary : List (Answered Cause) → ℕ → List ℕ
  summary answers entries =
      codes "new " ++ decimal (count_by is_new answers) ++ codes " known " ++ decimal (count_by is_known answers) ++ codes " refused " ++ decimal (count_by is_refused answers) ++ codes " entries " ++ decimal entries ++ codes "\n"

  module _ (cause_text : Cause → List ℕ) where
    abbrev pub answer_words : LineAnswer Cause → List ℕ
    answer_words (Refused cause) = codes "refused " ++ cause_text cause
    answer_words (Replied key reply) = decimal key.tag ++ codes " " ++ hex_text 16 key.hash ++ codes " " ++ reply_words reply

    -- a line: its number and its answer
    abbrev pub record_line : Answered Cause → List ℕ
    record_line answered = decimal answered.line ++ codes " " ++ answer_words answered.answer ++ codes "\n"

    -- the text of these answers, after which the archive has so many entries
    unfoldable pub record_text : List (Answered Cause) → ℕ → List ℕ
    record_text answers entries = flat_map record_line answers ++ summary answers entries
