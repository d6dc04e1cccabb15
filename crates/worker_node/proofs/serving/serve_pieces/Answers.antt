use Rattle.std.proofs.Common.{ℕ, ◌++◌, List, [], take, length-take, None, Some, refl, sym, ap, ◌∙◌, subst, arith}
use Rattle.worker_msg.specs.Fronts.{IsPartial}
use Rattle.worker_msg.specs.Feeds.{Feeding, given_to}
use Rattle.worker_msg.specs.declared.side.Side.TheVariants.{Worker}
use Rattle.worker_node.specs.Ends.{IsEnd, IsToEnd}
use Rattle.worker_node.specs.Steps.{IsCutting}
use Rattle.worker_node.specs.declared.served.Served.{Served}
use Rattle.worker_node.proofs.Runs.{cutting_first, cutting_given, working_first, working_given, partial_none}
use Rattle.worker_node.proofs.Taken.{piece_more, more_given, input_ended, stopped_early, none_came, reached_as, served_as, worked_as, nothing_taken, read_failed, ended_early, piece_lost}
use Rattle.worker_node.proofs.serving.serve_pieces.Goals as goal

pub returns-in_default-clause-session : goal.returns-in_default-clause-session
returns-in_default-clause-session g c = λ gives told start w. ([], refl, nothing_taken g.R.Driver.creates (g.R.Driver.meaning c.args.driver.now) start (g.O.Sink.written c.args.sink.now) w)

pub pieces-init : goal.pieces-init
pieces-init g c =
    let e = c.new-feed.ensures in
    let none = ap given_to e in
    record {
      side = ap (λ (f : Feeding). f.side) e;
      partial = subst (λ (l : List ℕ). IsPartial Worker l) (sym (ap (λ (f : Feeding). f.kept) e)) (partial_none g.R.Driver.creates (g.R.Driver.meaning c.args.driver.now) []);
      room = omega (arith, none, g.met.I.Source.small c.args.source.now);
      buffer = c.as_mut_slice-piece.ensures.len ∙ c.in-Ok.ensures.len;
      some = ([], cutting_first _ e);
      cutting = λ gives. ([], refl, cutting_first _ e);
      working = λ gives told start w. ([], refl, working_first g.R.Driver.creates (g.R.Driver.meaning c.args.driver.now) start _ (g.O.Sink.written c.args.sink.now) e w);
      source_later = omega arith;
      sink_later = omega arith;
    }

pub returns-in-Err-clause-session : goal.returns-in-Err-clause-session
returns-in-Err-clause-session g c = λ gives told start w.
    let at = c.pieces.invariant.working gives told start w in
    (at.0, at.1 ∙ ap (λ (l : List ℕ). at.0 ++ l) (sym (c.in-Err.ensures.kept gives)), read_failed g.R.Driver.creates (g.R.Driver.meaning c.args.driver.now) start at.0 c.pieces.feed (g.O.Sink.written c.pieces.sink) _ at.2 c.pieces.invariant.partial)

pub returns-then-given-eq0-clause-session : goal.returns-then-given-eq0-clause-session
returns-then-given-eq0-clause-session g c = λ gives told start w.
    let at = c.pieces.invariant.working gives told start w in
    let same = none_came c.in-Ok-read.given c.read.new.buf _ _ c.if-given-eq0.true (c.in-Ok-read.ensures.bytes gives) in
    (at.0, at.1 ∙ ap (λ (l : List ℕ). at.0 ++ l) same, ended_early g.R.Driver.creates (g.R.Driver.meaning c.args.driver.now) start at.0 c.pieces.feed (g.O.Sink.written c.pieces.sink) _ at.2 c.left.result c.pieces.invariant.partial)

pub returns-then-given-eq0-clause-end : goal.returns-then-given-eq0-clause-end
returns-then-given-eq0-clause-end g c = λ gives h.
    let at = c.pieces.invariant.cutting gives in
    let same = none_came c.in-Ok-read.given c.read.new.buf _ _ c.if-given-eq0.true (c.in-Ok-read.ensures.bytes gives) in
    let none = c.in-Ok-read.ensures.end gives c.if-given-eq0.true (omega (arith, c.pieces.invariant.buffer)) in
    (at.0, at.1 ∙ ap (λ (l : List ℕ). at.0 ++ l) same, input_ended c.pieces.feed at.0 _ c.left.result at.2 c.pieces.invariant.partial c.left.ensures.count (sym same ∙ none))

pub slice_bounds-push-end : goal.slice_bounds-push-end
slice_bounds-push-end g c = omega (arith, c.read.auto.buf, c.in-Ok-read.ensures.given)

pub push-requires-clause-side : goal.push-requires-clause-side
push-requires-clause-side g c = c.pieces.invariant.side

pub push-requires-clause-places : goal.push-requires-clause-places
push-requires-clause-places g c = omega (arith, length-take c.in-Ok-read.given c.read.new.buf, c.in-Ok-read.ensures.nearer, c.pieces.invariant.room)

pub returns-in_default-push-clause-session : goal.returns-in_default-push-clause-session
returns-in_default-push-clause-session g c = λ gives told start w.
    let at = c.pieces.invariant.working gives told start w in
    let piece : List ℕ = take c.in-Ok-read.given c.read.new.buf in
    (at.0 ++ piece, piece_more _ at.0 _ piece _ at.1 (c.in-Ok-read.ensures.bytes gives), piece_lost g.R.Driver.creates (g.R.Driver.meaning c.args.driver.now) start at.0 c.pieces.feed (g.O.Sink.written c.pieces.sink) _ at.2 piece)

pub work_off-requires : goal.work_off-requires
work_off-requires g c = ap (λ (f : Feeding). f.side) c.in-Ok-push.ensures.ok ∙ c.pieces.invariant.side

pub pieces-smaller : goal.pieces-smaller
pieces-smaller g c = omega (arith, c.in-Ok-read.ensures.nearer, c.if-given-eq0.false)

pub pieces-preserved : goal.pieces-preserved
pieces-preserved g c =
    let k = c.in-Ok-read.ensures in
    let piece : List ℕ = take c.in-Ok-read.given c.read.new.buf in
    let pushed = c.in-Ok-push.ensures.ok in
    let some = c.pieces.invariant.some in
    let reached = λ (taken : List ℕ) (cutting : IsCutting taken c.pieces.feed).
    reached_as (taken ++ piece) _ _ None c.in-None.is (c.in-Ok-work_off.ensures.reached (taken ++ piece) (cutting_given taken piece c.pieces.feed c.push.new.self pushed cutting)) in
    let now = reached some.0 some.1 in
    record {
      side = c.in-Ok-work_off.ensures.side;
      partial = now.1;
      room = omega (arith, c.in-Ok-work_off.ensures.given, more_given c.pieces.feed c.push.new.self piece pushed, length-take c.in-Ok-read.given c.read.new.buf, k.nearer, c.pieces.invariant.room);
      buffer = omega (arith, c.read.auto.buf, c.pieces.invariant.buffer);
      some = (some.0 ++ piece, now.0);
      cutting = λ gives.
          let at = c.pieces.invariant.cutting gives in
          (at.0 ++ piece, piece_more _ at.0 _ piece _ at.1 (k.bytes gives), (reached at.0 at.2).0);
      working = λ gives told start w.
          let at = c.pieces.invariant.working gives told start w in (
            at.0 ++ piece,
            piece_more _ at.0 _ piece _ at.1 (k.bytes gives),
            worked_as g.R.Driver.creates (g.R.Driver.meaning c.args.driver.now) start (at.0 ++ piece) _ _ _ _ None c.in-None.is
                (c.in-Ok-work_off.ensures.working told (g.R.Driver.meaning c.args.driver.now) start (at.0 ++ piece)
                (working_given g.R.Driver.creates (g.R.Driver.meaning c.args.driver.now) start at.0 piece c.pieces.feed c.push.new.self (g.O.Sink.written c.pieces.sink) _ pushed at.2)),
          );
      source_later = omega (arith, k.cause.later, c.pieces.invariant.source_later);
      sink_later = omega (arith, c.in-Ok-work_off.ensures.later, c.pieces.invariant.sink_later);
    }

pub returns-in-Err-work_off-clause-session : goal.returns-in-Err-work_off-clause-session
returns-in-Err-work_off-clause-session g c = λ gives told start w.
    let at = c.pieces.invariant.working gives told start w in
    let piece : List ℕ = take c.in-Ok-read.given c.read.new.buf in (
      at.0 ++ piece,
      piece_more _ at.0 _ piece _ at.1 (c.in-Ok-read.ensures.bytes gives),
      served_as g.R.Driver.creates (g.R.Driver.meaning c.args.driver.now) start (at.0 ++ piece) _ _ _ _ (sym c.served.ensures)
          (c.in-Err-work_off.ensures.working told (g.R.Driver.meaning c.args.driver.now) start (at.0 ++ piece)
          (working_given g.R.Driver.creates (g.R.Driver.meaning c.args.driver.now) start at.0 piece c.pieces.feed c.push.new.self (g.O.Sink.written c.pieces.sink) _ c.in-Ok-push.ensures.ok at.2)),
    )

pub returns-in-Err-work_off-clause-end : goal.returns-in-Err-work_off-clause-end
returns-in-Err-work_off-clause-end g c = λ gives h. absurd (stopped_early c.in-Err-work_off.stopped (subst (λ (s : Served). IsToEnd s) c.served.ensures h))

pub returns-in-Some-clause-session : goal.returns-in-Some-clause-session
returns-in-Some-clause-session g c = λ gives told start w.
    let at = c.pieces.invariant.working gives told start w in
    let piece : List ℕ = take c.in-Ok-read.given c.read.new.buf in (
      at.0 ++ piece,
      piece_more _ at.0 _ piece _ at.1 (c.in-Ok-read.ensures.bytes gives),
      served_as g.R.Driver.creates (g.R.Driver.meaning c.args.driver.now) start (at.0 ++ piece) _ _ _ _ (sym c.served-in-Some.ensures)
          (worked_as g.R.Driver.creates (g.R.Driver.meaning c.args.driver.now) start (at.0 ++ piece) _ _ _ _ (Some c.in-Some.end) c.in-Some.is
          (c.in-Ok-work_off.ensures.working told (g.R.Driver.meaning c.args.driver.now) start (at.0 ++ piece)
          (working_given g.R.Driver.creates (g.R.Driver.meaning c.args.driver.now) start at.0 piece c.pieces.feed c.push.new.self (g.O.Sink.written c.pieces.sink) _ c.in-Ok-push.ensures.ok at.2))),
    )

pub returns-in-Some-clause-end : goal.returns-in-Some-clause-end
returns-in-Some-clause-end g c = λ gives h.
    let at = c.pieces.invariant.cutting gives in
    let piece : List ℕ = take c.in-Ok-read.given c.read.new.buf in
    let left = g.I.Source.left c.read.new.self in (
      at.0 ++ piece,
      piece_more _ at.0 _ piece _ at.1 (c.in-Ok-read.ensures.bytes gives),
      subst (λ (s : Served). IsEnd (at.0 ++ piece) left s) (sym c.served-in-Some.ensures)
          (reached_as (at.0 ++ piece) _ _ (Some c.in-Some.end) c.in-Some.is (c.in-Ok-work_off.ensures.reached (at.0 ++ piece) (cutting_given at.0 piece c.pieces.feed c.push.new.self c.in-Ok-push.ensures.ok at.2)) left),
    )
