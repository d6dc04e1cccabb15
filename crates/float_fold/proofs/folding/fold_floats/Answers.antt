use Rattle.std.proofs.Common.{◌+◌, ◌≤◌, length, arith, rules}
use Rattle.float_fold.proofs.Steps.{start, stays, to_first, refused, finished, is_end, end_within}
use Rattle.float_fold.proofs.folding.fold_floats.Goals as goal

pub loop-at-init : goal.loop-at-init
loop-at-init c = rw c.new-folded.ensures (start c.args.text.now)

pub overflow_add-end-in-loop-at : goal.overflow_add-end-in-loop-at
overflow_add-end-in-loop-at c =
    let text = c.args.text.now in
    let place = is_end text c.loop-at.at c.rest_of_piece.result c.rest_of_piece.ensures in
    omega (arith, place, end_within text c.loop-at.at c.loop-at-test.true)

pub slice_bounds-fate_of-end : goal.slice_bounds-fate_of-end
slice_bounds-fate_of-end c =
    let text = c.args.text.now in
    let place = is_end text c.loop-at.at c.rest_of_piece.result c.rest_of_piece.ensures in
    let within : c.loop-at.at + 1 + c.rest_of_piece.result ≤ length text = omega (arith, place, end_within text c.loop-at.at c.loop-at-test.true) in
    search rules

pub returns-in-Refused : goal.returns-in-Refused
returns-in-Refused c =
    let text = c.args.text.now in
    let place = is_end text c.loop-at.at c.rest_of_piece.result c.rest_of_piece.ensures in
    refused text c.loop-at.folded c.loop-at.copied c.loop-at.at c.loop-at.invariant c.loop-at-test.true (rw place at c.in-Refused.ensures)

pub loop-at-preserved-in-Stays : goal.loop-at-preserved-in-Stays
loop-at-preserved-in-Stays c =
    let text = c.args.text.now in
    let place = is_end text c.loop-at.at c.rest_of_piece.result c.rest_of_piece.ensures in
    rw place (stays text c.loop-at.folded c.loop-at.copied c.loop-at.at c.loop-at.invariant c.loop-at-test.true (rw place at c.in-Stays.ensures))

pub loop-at-preserved : goal.loop-at-preserved
loop-at-preserved c =
    let text = c.args.text.now in
    let place = is_end text c.loop-at.at c.rest_of_piece.result c.rest_of_piece.ensures in
    rw (place, c.in_ok-extend-in-ToFirst.ensures.ok)
    (to_first text c.loop-at.folded c.loop-at.copied c.loop-at.at c.loop-at.invariant c.loop-at-test.true (rw place at c.in-ToFirst.ensures))

pub returns : goal.returns
returns c =
    rw c.in_ok-extend.ensures.ok
    (finished c.args.text.now c.loop-at.folded c.loop-at.copied c.loop-at.at c.loop-at.invariant c.loop-at-test.false)
