use Rattle.std.proofs.Common.{◌≡◌, take}
use Rattle.capture_lines.specs.Code.{code_bytes}
use Rattle.capture_lines.proofs.code.bytes_of_words.Given as goal

abbrev pub invariant-loop-word : goal.invariant-loop-word
invariant-loop-word l = l.bytes.items ≡ code_bytes (take l.word-index l.words)
