use Rattle.std.proofs.Common.{◌≡◌, refl, sym, ap, ◌∙◌, ◌+◌, List, ◌++◌, ◌∷◌, [], take}
use Rattle.std.specs.List.{list_any}
use Rattle.std.proofs.lemmas.List.{take_more}
use Rattle.std.proofs.lemmas.Result.{err_from_is_err_and}
use Rattle.foz_words.specs.declared.key.Key.{Key}
use Rattle.foz_entry.specs.declared.cut.Entry.{Entry}
use Rattle.foz_words.specs.contracts.key.KeyPartialEq.TheImpl as KeyPartialEq
use Rattle.foz_text.specs.ListText.{holds, is_ok_word}
use Rattle.report_words.proofs.Fronts.{all_front, front_more, front_same}
use Rattle.foz_text.proofs.Lines.{lines_more, all_lines, list_text_is, is_flawless_is}
use Rattle.foz_text.proofs.list_text.push_lines.Goals as goal

pub loop-entry-init : goal.loop-entry-init
loop-entry-init c = record {
  lines = record { text = refl; flawless = refl };
  front = all_front _;
  seen = λ key. ap (λ (keys : List Key). list_any (KeyPartialEq.ghosts.eq key) keys) c.new-seen.ensures.empty;
}

pub loop-entry-preserved : goal.loop-entry-preserved
loop-entry-preserved c =
    let items = c.as_slice-entry-items.result.now in
    let i = c.loop-entry.entry-index in
    let e = c.entry-item.result in
    let seen = c.loop-entry.invariant.seen in
    let stands = c.in_ok-standing.ensures.value (take i items) seen in
    let more : take (i + 1) items ≡ take i items ++ e ∷ [] = take_more items i e c.loop-entry-test.true ∙ ap (λ (x : Entry). take i items ++ x ∷ []) (sym c.entry-item.is) in
    record {
      lines = lines_more items _ _ _ c.loop-entry.flawless _ i e c.loop-entry-test.true c.entry-item.is (c.in_ok-push_line.ensures.line (take i items) stands) (c.is_ok-flawless.ensures ∙ ap is_ok_word stands) c.loop-entry.invariant.lines;
      front = front_more _ _ _ _ (c.in_ok-push_line.ensures.line (take i items) stands) c.loop-entry.invariant.front;
      seen = λ key. c.in_ok-standing.ensures.seen (take i items) seen key ∙ ap (λ (l : List Entry). holds l key) (sym more);
    }

pub returns-in_err-standing-clause-front : goal.returns-in_err-standing-clause-front
returns-in_err-standing-clause-front c = rw (err_from_is_err_and c.from_residual.result c.from_residual.ensures.1).1 c.loop-entry.invariant.front

pub returns-in_err-push_line-clause-front : goal.returns-in_err-push_line-clause-front
returns-in_err-push_line-clause-front c = rw (err_from_is_err_and c.from_residual-in_err-push_line.result c.from_residual-in_err-push_line.ensures.1).1 (front_same _ _ _ c.in_err-push_line.ensures.refused c.loop-entry.invariant.front)

pub returns-in_err-push_last_line-clause-front : goal.returns-in_err-push_last_line-clause-front
returns-in_err-push_last_line-clause-front c = rw (err_from_is_err_and c.from_residual-in_err-push_last_line.result c.from_residual-in_err-push_last_line.ensures.1).1 (front_same _ _ _ c.in_err-push_last_line.ensures.refused c.loop-entry.invariant.front)

pub returns-clause-text : goal.returns-clause-text
returns-clause-text c =
    let lines = all_lines _ _ _ _ _ c.loop-entry-test.false c.loop-entry.invariant.lines in
    list_text_is _ _ _ c.args.scanned.now (lines.0 ∙ rw c.as_slice-entry-items.ensures refl) c.in_ok-push_last_line.ensures.line

pub returns-clause-flawless : goal.returns-clause-flawless
returns-clause-flawless c = is_flawless_is c.args.scanned.now _ ((all_lines _ _ _ _ _ c.loop-entry-test.false c.loop-entry.invariant.lines).1 ∙ rw c.as_slice-entry-items.ensures refl)
