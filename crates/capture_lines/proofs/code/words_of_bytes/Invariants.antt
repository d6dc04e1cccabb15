use Rattle.std.proofs.Common.{◌≡◌, length}
use Rattle.capture_lines.specs.Code.{code_words}
use Rattle.capture_lines.proofs.CodeLemmas.{in_front}
use Rattle.capture_lines.proofs.code.words_of_bytes.Given as goal

abbrev pub invariant-loop-word : goal.invariant-loop-word
invariant-loop-word l = in_front l.words.items (code_words l.rest) ≡ code_words l.bytes

abbrev pub decreases-loop-word : goal.decreases-loop-word
decreases-loop-word l = length l.rest
