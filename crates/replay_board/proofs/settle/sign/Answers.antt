use Rattle.std.proofs.Common.{ℕ, ◌≡◌, ◌+◌, ◌-◌, List, [], ◌∷◌, ◌++◌, length, replicate, ap, ◌∙◌, append_assoc, arith}
use Rattle.std.proofs.lemmas.List.{replicate_more}
use Rattle.replay_board.proofs.settle.sign.Goals as goal

pub loop-event-preserved : goal.loop-event-preserved
loop-event-preserved c =
    let ms : List ℕ = c.args.makers.now.items in
    let n : ℕ = c.loop-event._event - length ms in
    let next : n + 1 ≡ c.loop-event._event + 1 - length ms = (let ok = c.args.makers.now.ok.0 in let at = c.loop-event.auto._event in let len = c.len-event.ensures in omega arith) in
    let grown = c.in-Ok.ensures.items in
    let wider = c.push.ensures.capacity in
    let room = c.loop-event.invariant.room in
    let kept = c.loop-event.invariant.capacity in
    record {
      makers = grown ∙ (ap (λ (z : List ℕ). z ++ c.args.seat ∷ []) c.loop-event.invariant.makers ∙ (append_assoc ms (replicate n c.args.seat) (c.args.seat ∷ []) ∙ ap (λ (z : List ℕ). ms ++ z) (replicate_more n c.args.seat ∙ ap (λ m. replicate m c.args.seat) next)));
      room = omega arith;
      capacity = omega arith;
    }

pub returns-clause-makers : goal.returns-clause-makers
returns-clause-makers c =
    let ms : List ℕ = c.args.makers.now.items in
    let all : c.loop-event._event ≡ c.args.events = (let ok = c.args.makers.now.ok.0 in let len = c.len-event.ensures in let least = c.requires.grown in let far = c.loop-event.auto._event-end in let near = far (omega arith) in let past = c.loop-event-test.false in omega arith) in
    c.loop-event.invariant.makers ∙ ap (λ m. ms ++ replicate (m - length ms) c.args.seat) all
