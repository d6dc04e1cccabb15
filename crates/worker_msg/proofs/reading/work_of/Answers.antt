use Rattle.std.proofs.Common.{◌-◌, length, drop, take, refl, ◌∙◌}
use Rattle.std.proofs.lemmas.Result.{MatchResult-from_err}
use Rattle.worker_msg.specs.Feeds.{Spells, HasPayload}
use Rattle.worker_msg.specs.declared.side.Side.TheVariants.{Worker}
use Rattle.worker_msg.proofs.Whole.{spells_quit, spells_load, spells_do, has_payload, fields_are}
use Rattle.worker_msg.proofs.reading.work_of.Goals as goal

pub returns-then-kind-eq5 : goal.returns-then-kind-eq5
returns-then-kind-eq5 c = spells_quit c.args.frame.now c.requires.frame c.if-kind-eq5.true

pub returns-in_err-from_slice : goal.returns-in_err-from_slice
returns-in_err-from_slice c =
    let frame = c.args.frame.now in
    let payload = take (length frame - 17) (drop 17 frame) in
    MatchResult-from_err c.from_residual.result (λ message. Spells Worker frame message) (λ _. HasPayload Worker frame) c.from_residual.ensures.0
    (λ _. has_payload frame payload c.key_of-key.result c.requires.frame c.if-kind-eq5.false c.key_of-key.ensures.within
    (fields_are frame payload c.key_of-key.result (c.requires.key c.if-kind-eq5.false) c.key_of-key.ensures.spelled refl))

pub returns-then-kind-eq2 : goal.returns-then-kind-eq2
returns-then-kind-eq2 c =
    let frame = c.args.frame.now in
    spells_load frame c.from_vec-payload.result c.key_of-key.result c.requires.frame c.if-kind-eq2.true c.key_of-key.ensures.within
    (fields_are frame c.from_vec-payload.result c.key_of-key.result (c.requires.key c.if-kind-eq5.false) c.key_of-key.ensures.spelled (c.from_vec-payload.ensures ∙ c.in_ok-from_slice.ensures.items))

pub returns-else-kind-eq2 : goal.returns-else-kind-eq2
returns-else-kind-eq2 c =
    let frame = c.args.frame.now in
    spells_do frame c.from_vec-payload.result c.key_of-key.result c.requires.frame c.if-kind-eq5.false c.if-kind-eq2.false c.key_of-key.ensures.within
    (fields_are frame c.from_vec-payload.result c.key_of-key.result (c.requires.key c.if-kind-eq5.false) c.key_of-key.ensures.spelled (c.from_vec-payload.ensures ∙ c.in_ok-from_slice.ensures.items))
