use Rattle.std.proofs.Common.{◌≡◌, ◌∙◌, ◌+◌, ◌∷◌, [], take, drop, refl, ap, arith, length-append}
use Rattle.std.proofs.lemmas.List.{drop-take, drop-drop}
use Rattle.foz_entry.specs.declared.cut.Entry.{Entry}
use Rattle.foz_entry.proofs.Heads.{length-whole}
use Rattle.foz_entry.specs.Limits.{count_limit}
use Rattle.foz_archive.specs.Reading.{is_clean}
use Rattle.foz_archive.proofs.Standing.{goes_on, goes_on_none, goes_on_more}
use Rattle.foz_archive.proofs.scanned.entries_of.Goals as goal

pub returns-then-len : goal.returns-then-len
returns-then-len c =
    let stands = c.end_of_row-end.ensures in
    goes_on_more 16 (drop 16 c.args.bytes.now) c.loop-head.entries c.loop-head.place count_limit c.end_of_row-end.result c.loop-head.rest.now c.loop-head.invariant.stand (omega (arith, c.len.ensures))
    c.in-Some.head _ _ c.in-Some.ensures.found stands.0 stands.1

pub split_at-requires : goal.split_at-requires
split_at-requires c = omega (arith, length-whole _ _ _ _ c.in-Some.ensures.found)

pub loop-head-preserved : goal.loop-head-preserved
loop-head-preserved c =
    let whole = c.in-Some.ensures.found in
    let rest = c.loop-head.rest.now in
    let head = c.in-Some.head in
    let payload : c.from_vec-payload.result ≡ take head.size (drop 56 rest) = c.from_vec-payload.ensures ∙ c.in_ok-from_slice.ensures.items ∙ rw (c.split_at-in-Some.ensures.back, c.split_at.ensures.front, whole.begins.total) (drop-take 56 head.size rest) in
    let next = rw (← payload, ← c.split_at.ensures.back) at whole in
    let entry : Entry = record { offset = c.loop-head.place; head = head; payload = c.from_vec-payload.result } in
    record {
      stand = rw c.in_ok-push.ensures.ok (goes_on 16 (drop 16 c.args.bytes.now) c.loop-head.entries c.loop-head.place (c.loop-head.place + head.total) rest c.split_at.result.1.now entry c.loop-head.invariant.stand refl next refl);
      placed = omega (arith, c.split_at.ensures.back_len);
      rest = c.split_at.ensures.back ∙ ap (drop head.total) c.loop-head.invariant.rest ∙ drop-drop head.total c.loop-head.place c.args.bytes.now;
      few = rw c.in_ok-push.ensures.ok (omega (arith, length-append c.loop-head.entries (entry ∷ []), c.len.ensures));
    }

pub returns : goal.returns
returns c = (goes_on_none 16 (drop 16 c.args.bytes.now) c.loop-head.entries c.loop-head.place c.loop-head.rest.now c.loop-head.invariant.stand c.in_default.ensures.none, c.loop-head.invariant.few, c.is_clean.ensures ∙ ap is_clean c.loop-head.invariant.rest)
