use Rattle.std.proofs.Common.{sym, subst}
use Rattle.disk_model.specs.Disk.{latest, NothingPending}
use Rattle.record_lines.proofs.Added.{alone_adds}
use Rattle.record_lines.proofs.Images.{opening_leaves, book_leaves}
use Rattle.record_lines.proofs.capture.record_capture.Goals as goal

pub returns-in-Err-clause-leaves : goal.returns-in-Err-clause-leaves
returns-in-Err-clause-leaves g c told durable =
    opening_leaves _ c.readings_are_unique.ensures.one_content (λ before. alone_adds c.lines_in_order_make_a_record.ensures.recorded c.lines_in_order_make_a_record.ensures.apart before _) _ _ durable (g.met.D.Disk.content_is_now c.args.disk told) _ (c.in-Err.ensures.any_moment told)

pub returns-in-Ok-record_lines-clause-leaves : goal.returns-in-Ok-record_lines-clause-leaves
returns-in-Ok-record_lines-clause-leaves g c told durable =
    rw c.close.ensures.disk (
    book_leaves _ c.readings_are_unique.ensures.one_content (λ before. alone_adds c.lines_in_order_make_a_record.ensures.recorded c.lines_in_order_make_a_record.ensures.apart before _) _ _ durable (g.met.D.Disk.content_is_now c.args.disk told) _ _ (c.in-Ok.ensures.any_moment told)
    c.in-Ok.book.entries (c.in-Ok.ensures.held (g.met.D.Disk.tells_both told)) (c.record_lines.ensures.batches told)
    )

pub returns-in-Ok-record_lines-clause-durable : goal.returns-in-Ok-record_lines-clause-durable
returns-in-Ok-record_lines-clause-durable g c told ok =
    subst (λ (d : _). NothingPending (latest (g.D.Disk.history d))) (sym c.close.ensures.disk) (c.in-Ok-record_lines.ensures.written.settled told)

pub returns-in-Err-record_lines-clause-leaves : goal.returns-in-Err-record_lines-clause-leaves
returns-in-Err-record_lines-clause-leaves g c told durable =
    rw c.close-in-Err-record_lines.ensures.disk (
    book_leaves _ c.readings_are_unique.ensures.one_content (λ before. alone_adds c.lines_in_order_make_a_record.ensures.recorded c.lines_in_order_make_a_record.ensures.apart before _) _ _ durable (g.met.D.Disk.content_is_now c.args.disk told) _ _ (c.in-Ok.ensures.any_moment told)
    c.in-Ok.book.entries (c.in-Ok.ensures.held (g.met.D.Disk.tells_both told)) (c.record_lines.ensures.batches told)
    )
