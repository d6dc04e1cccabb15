use Rattle.std.proofs.Common.{ℕ, List, ◌++◌, ap, ◌∙◌, arith, length}
use Rattle.std.proofs.lemmas.List.{length-map}
use Rattle.capture_reader.specs.Said.{line_said, lines_said}
use Rattle.input_lines.specs.Lines.{lines_of}
use Rattle.foz_text.specs.LineCause.{line_cause_text}
use Rattle.foz_text.specs.RecordText.{record_text}
use Rattle.foz_tool.specs.RecordRun.{status_of_answers}
use Rattle.foz_tool.proofs.Told.{input_read, is_record_told}
use Rattle.foz_tool.proofs.record.record.Goals as goal

pub record_in_file-requires-clause-few : goal.record_in_file-requires-clause-few
record_in_file-requires-clause-few g c κs within =
    let input = c.as_slice.result.now in
    omega (arith, ap length c.new-lines.ensures, length-map (lines_of input) line_said, c.lines_are_few.ensures input, ap length c.as_slice.ensures, c.in_ok-capture.ensures.short)

pub returns-clause-makes : goal.returns-clause-makes
returns-clause-makes g c = λ input shelf content.
    let reads = c.in_ok-capture.ensures.reads input in
    let lines = c.new-lines.ensures ∙ ap lines_said (c.as_slice.ensures ∙ reads.whole) in
    let report = c.in_ok-report.report in
    let text = c.from_vec.ensures ∙ c.in_ok-push_record.ensures.text ∙ ap (λ (l : List ℕ). l ++ record_text line_cause_text c.as_slice-2.result.now report.entries) c.new-text.ensures.items
    ∙ ap (λ answers. record_text line_cause_text answers report.entries) c.as_slice-2.ensures in
    is_record_told line_cause_text lines_said _ _ (input_read _ _ _ reads) c.args.threads _ _ report _ lines (c.in_ok-report.ensures.does shelf content) c.records_add_each_key_once.ensures _ _ text
    (c.status_of_answers.ensures ∙ ap status_of_answers c.as_slice-3.ensures)
