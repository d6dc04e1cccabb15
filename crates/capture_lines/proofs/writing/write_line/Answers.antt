use Rattle.std.proofs.Common.{◌≡◌, List, ℕ, ◌∷◌, ◌++◌, [], Ok, Result, Err, sym, ap, ◌∙◌}
use Rattle.std.specs.Prelude.{OnOk}
use Rattle.serde_json.specs.View.{view}
use Rattle.serde_json.specs.Written.{compact_text}
use Rattle.serde_json.specs.Data.{Data}
use Rattle.state_json.specs.Parsed.{parsed}
use Rattle.capture_lines.specs.Kinds.{kind_of_state, word_of}
use Rattle.capture_lines.specs.Line.{value_meaning}
use Rattle.capture_lines.specs.Writing.{line_object, line_of, line_text}
use Rattle.capture_lines.proofs.Again.{line_again}
use Rattle.capture_lines.proofs.writing.write_line.Goals as goal

on_ok : {A E : Type 0} (P Q : Type 0) (r : Result A E) → (P → Q) → OnOk r P → OnOk r Q
on_ok P Q (Ok x) follows is = follows is
on_ok P Q (Err e) follows is = tt

always : {A E : Type 0} (Q : Type 0) (r : Result A E) → Q → OnOk r Q
always Q (Ok x) is = is
always Q (Err e) is = tt

pub returns-clause-written : goal.returns-clause-written
unfolding line_of line_text
returns-clause-written c =
    let s = c.args.state.now in
    let text = c.as_str.ensures.value ∙ c.in_ok-text.ensures.text ∙ ap compact_text c.in_ok-value.ensures.object in
    let parts = ap (λ (word : List ℕ). (word ++ 32 ∷ c.as_str.result.now) ++ 10 ∷ []) c.kind_word.ensures ∙ ap (λ (t : List ℕ). (word_of (kind_of_state s) ++ 32 ∷ t) ++ 10 ∷ []) text in
    on_ok _ _ c.put_line.result (λ h. h ∙ ap (λ (line : List ℕ). c.args.out.now.items ++ line) parts) c.put_line.ensures.ok

pub returns-clause-read_again : goal.returns-clause-read_again
returns-clause-read_again c =
    let s = c.args.state.now in
    let object = c.in_ok-value.ensures.object in
    let text = rw object at c.in_ok-text.ensures.read_again in
    let value = rw object at c.in_ok-value.ensures.read_again in
    always _ c.put_line.result (line_again s text value)
