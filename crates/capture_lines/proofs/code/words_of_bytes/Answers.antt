use Rattle.std.proofs.Common.{◌≡◌, sym, ap, ◌∙◌, arith}
use Rattle.std.proofs.lemmas.Bool.{eqb-true, eqb-false}
use Rattle.capture_lines.proofs.CodeLemmas.{word_read, none_left, some_left}
use Rattle.capture_lines.proofs.code.words_of_bytes.Goals as goal

pub loop-word-preserved : goal.loop-word-preserved
loop-word-preserved c = rw c.in_ok-push.ensures.items (word_read c.loop-word.words.items c.loop-word.rest.now c.in-Some.more.now c.in-Some.word _ c.in-Some.ensures.found c.loop-word.invariant)

pub returns-then-is_empty : goal.returns-then-is_empty
returns-then-is_empty c = rw c.from_vec.ensures (none_left c.loop-word.words.items c.loop-word.rest.now _ (eqb-true _ _ (sym c.is_empty.ensures ∙ c.if-is_empty.true)) c.loop-word.invariant)

pub returns-else-is_empty : goal.returns-else-is_empty
returns-else-is_empty c = some_left c.loop-word.words.items c.loop-word.rest.now _ c.in_default.ensures.none (eqb-false _ _ (sym c.is_empty.ensures ∙ c.if-is_empty.false)) c.loop-word.invariant
