use Rattle.std.proofs.Common.{append_assoc}
use Rattle.replay_text.proofs.words.unreadable_words.Goals as goal

pub returns-in_ok-format-in-Field : goal.returns-in_ok-format-in-Field
returns-in_ok-format-in-Field c = rw (c.in_ok-format-in-Field.ensures.ok, c.as_str-path.ensures, c.field_word-word.ensures, c.in-Field.is) (simp append_assoc)

pub returns-in_ok-format-in-Window : goal.returns-in_ok-format-in-Window
returns-in_ok-format-in-Window c = rw (c.in_ok-format-in-Window.ensures.ok, c.in-Window.is) (simp append_assoc)
