use Rattle.std.proofs.Common.{◌≡◌, ap, ◌∙◌, arith}
use Rattle.std.proofs.lemmas.List.{take_all}
use Rattle.capture_lines.specs.Code.{code_bytes, code_words}
use Rattle.capture_lines.proofs.CodeLemmas.{code_words-code_bytes}
use Rattle.capture_lines.proofs.code.bytes_of_words.Goals as goal

pub returns-clause-read_again : goal.returns-clause-read_again
returns-clause-read_again c =
    let words = c.args.words.now in
    let bytes = c.from_vec.ensures ∙ c.loop-word.invariant ∙ ap code_bytes (take_all c.loop-word.word-index words c.loop-word-test.false) in
    ap code_words bytes ∙ code_words-code_bytes words (λ k. omega (arith, c.type_inv.words k))
