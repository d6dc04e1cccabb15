use Rattle.std.proofs.Common.{List, ℕ, ◌++◌, ap}
use Rattle.spirv_varint.proofs.Shortest.{one, two, three, four, five}
use Rattle.spirv_varint.proofs.writing.push_varint.Goals as goal

pub returns-in_ok-push : goal.returns-in_ok-push
returns-in_ok-push c = rw c.in_ok-push.ensures.items (ap (λ (bs : List ℕ). c.args.bytes.now.items ++ bs) (one c.args.word c.if-word-lt128.true))

pub returns-in_ok-extend_from_slice : goal.returns-in_ok-extend_from_slice
returns-in_ok-extend_from_slice c =
    rw (c.in_ok-extend_from_slice.ensures.items, c.going_on.ensures)
    (ap (λ (bs : List ℕ). c.args.bytes.now.items ++ bs) (two c.args.word c.if-word-lt128.false c.if-second-lt128.true))

pub returns-in_ok-extend_from_slice-2 : goal.returns-in_ok-extend_from_slice-2
returns-in_ok-extend_from_slice-2 c =
    rw (c.in_ok-extend_from_slice-2.ensures.items, c.going_on-then-third-lt128.ensures, c.going_on-then-third-lt128-2.ensures)
    (ap (λ (bs : List ℕ). c.args.bytes.now.items ++ bs) (three c.args.word c.if-word-lt128.false c.if-second-lt128.false c.if-third-lt128.true))

pub returns-in_ok-extend_from_slice-3 : goal.returns-in_ok-extend_from_slice-3
returns-in_ok-extend_from_slice-3 c =
    rw (c.in_ok-extend_from_slice-3.ensures.items, c.going_on-then-fourth-lt128.ensures, c.going_on-then-fourth-lt128-2.ensures, c.going_on-then-fourth-lt128-3.ensures)
    (ap (λ (bs : List ℕ). c.args.bytes.now.items ++ bs) (four c.args.word c.if-word-lt128.false c.if-second-lt128.false c.if-third-lt128.false c.if-fourth-lt128.true))

pub returns-in_ok-extend_from_slice-4 : goal.returns-in_ok-extend_from_slice-4
returns-in_ok-extend_from_slice-4 c =
    rw (c.in_ok-extend_from_slice-4.ensures.items, c.going_on-else-fourth-lt128.ensures, c.going_on-else-fourth-lt128-2.ensures, c.going_on-else-fourth-lt128-3.ensures, c.going_on-else-fourth-lt128-4.ensures)
    (ap (λ (bs : List ℕ). c.args.bytes.now.items ++ bs) (five c.args.word c.ranges.word.fits c.if-word-lt128.false c.if-second-lt128.false c.if-third-lt128.false c.if-fourth-lt128.false))
