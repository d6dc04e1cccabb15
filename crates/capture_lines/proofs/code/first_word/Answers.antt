use Rattle.std.proofs.Common.{◌≡◌, List, ℕ, ap, ◌∙◌, sym, arith}
use Rattle.std.proofs.lemmas.List.{take_rest}
use Rattle.capture_lines.specs.Code.{code_words, with_word}
use Rattle.capture_lines.proofs.CodeLemmas.{first_read}
use Rattle.capture_lines.proofs.code.first_word.Goals as goal

pub returns-in-Some-clause-found : goal.returns-in-Some-clause-found
returns-in-Some-clause-found c =
    first_read c.args.bytes.now c.in-Some.word (omega arith) c.in-Some.ensures.found
    ∙ ap (λ (rest : List ℕ). with_word c.in-Some.word (code_words rest)) (sym (take_rest c.args.bytes.now 4))
