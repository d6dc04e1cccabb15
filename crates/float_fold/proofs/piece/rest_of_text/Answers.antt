use Rattle.std.proofs.Common.{◌+◌, get_or}
use Rattle.std.proofs.lemmas.Bool.{ne_eqb}
use Rattle.float_fold.proofs.Pieces.{walked_none, walked_over, walked_to_mark, mark_within, walked_quote, walked_escaped, is_backslash, slice_behind}
use Rattle.float_fold.proofs.piece.rest_of_text.Goals as goal

pub loop-plain-init : goal.loop-plain-init
loop-plain-init c = walked_none c.args.bytes.now

pub returns-then-bytes-mark-eq34 : goal.returns-then-bytes-mark-eq34
returns-then-bytes-mark-eq34 c =
    let bytes = c.args.bytes.now in
    let at = c.loop-plain.at in
    let plain = c.in-Some.plain in
    let walked = c.loop-plain.invariant in
    let is = rw (slice_behind bytes at) at c.in-Some.ensures in
    walked_quote bytes (at + plain) (walked_to_mark bytes at walked plain is) (mark_within bytes at walked plain is) c.if-bytes-mark-eq34.true

pub loop-plain-preserved : goal.loop-plain-preserved
loop-plain-preserved c =
    let bytes = c.args.bytes.now in
    let at = c.loop-plain.at in
    let plain = c.in-Some.plain in
    let walked = c.loop-plain.invariant in
    let is = rw (slice_behind bytes at) at c.in-Some.ensures in
    let other = ne_eqb (get_or bytes (at + plain) 0) 34 c.if-bytes-mark-eq34.false in
    rw c.min-at.ensures
    (walked_escaped bytes (at + plain) (walked_to_mark bytes at walked plain is) (mark_within bytes at walked plain is) other (is_backslash bytes at walked plain is other))

pub returns : goal.returns
returns c =
    let bytes = c.args.bytes.now in
    walked_over bytes c.loop-plain.at c.loop-plain.invariant (rw (slice_behind bytes c.loop-plain.at) at c.in_default.ensures)
