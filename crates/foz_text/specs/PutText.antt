-- The text of the command `put`.
use Rattle.std.specs.Prelude.{ℕ, List, [], ◌++◌, codes, decimal}
use Rattle.record_words.specs.declared.note.RecordReply.{RecordReply}
use Rattle.record_words.specs.declared.note.RecordReply.TheVariants as replies

-- the line of a reply; those that say that an archive is full have none
unfoldable pub put_text : RecordReply → List ℕ
put_text (replies.New index) = codes "new " ++ decimal index ++ codes "\n"
put_text (replies.Known index) = codes "known " ++ decimal index ++ codes "\n"
put_text (replies.Collision index) = codes "collision " ++ decimal index ++ codes "\n"
put_text (replies.TooLarge size) = codes "too large " ++ decimal size ++ codes "\n"
put_text reply = []
