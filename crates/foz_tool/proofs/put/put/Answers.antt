use Rattle.std.proofs.Common.{ℕ, List, [], ◌∷◌, ap, sym, ◌∙◌, arith, length}
use Rattle.record_words.specs.Recorded.{read}
use Rattle.foz_base.specs.Recording.{only_reply}
use Rattle.foz_tool.proofs.Told.{always_replied, input_read, is_put, put_leaves, put_makes}
use Rattle.foz_tool.proofs.put.put.Goals as goal

pub write_file-requires-clause-ready : goal.write_file-requires-clause-ready
write_file-requires-clause-ready g c κs within = omega (arith, ap length c.new-lines.ensures)

pub unreachable-requires : goal.unreachable-requires
unreachable-requires g c =
    always_replied c.lines_in_order_make_a_record.ensures.only c.args.key _ _ c.new-lines.ensures c.in_ok-report.report c.in_ok-report.ensures.tells (ap only_reply (sym c.as_slice.ensures) ∙ sym c.only_reply.ensures ∙ c.in-None.is)

pub returns-in_err-report-clause-leaves : goal.returns-in_err-report-clause-leaves
returns-in_err-report-clause-leaves g c = λ input shelf images.
    let lines = c.new-lines.ensures ∙ ap (λ (payload : List ℕ). read c.args.key payload ∷ []) (c.in_ok-payload.ensures.reads input).whole in
    put_leaves c.args.key _ _ lines _ _ _ (c.write_file.ensures.leaves shelf images)

pub returns-clause-leaves : goal.returns-clause-leaves
returns-clause-leaves g c = λ input shelf images.
    let lines = c.new-lines.ensures ∙ ap (λ (payload : List ℕ). read c.args.key payload ∷ []) (c.in_ok-payload.ensures.reads input).whole in
    put_leaves c.args.key _ _ lines _ _ _ (c.write_file.ensures.leaves shelf images)

pub returns-clause-makes : goal.returns-clause-makes
returns-clause-makes g c = λ input shelf content.
    let reads = c.in_ok-payload.ensures.reads input in
    let lines = c.new-lines.ensures ∙ ap (λ (payload : List ℕ). read c.args.key payload ∷ []) reads.whole in
    let only = ap only_reply (sym c.as_slice.ensures) ∙ sym c.only_reply.ensures ∙ c.in-Some.is in
    put_makes _ _ _ _ _ _ c.args.key c.in-Some.reply (is_put c.lines_in_order_make_a_record.ensures.only _ _ (input_read _ _ _ reads) _ _ c.args.key c.in_ok-report.report c.in-Some.reply _ lines (c.in_ok-report.ensures.does shelf content) only) c.reply_told.result
    c.reply_told.ensures.told c.reply_told.ensures.untold
