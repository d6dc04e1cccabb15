use Rattle.std.proofs.Common.{◌+◌, ◌≤◌, ◌++◌, ◌∷◌, [], length, get_or, take, drop, ap, ◌∙◌, sym, subst}
use Rattle.mem_slot.specs.declared.tape.Stamp.TheVariants.{Started}
use Rattle.mem_slot.specs.Tapes.{size_of, total, note_of}
use Rattle.mem_slot.proofs.Taping.{next_end, next_from, next_note}
use Rattle.mem_slot.proofs.tape.early_notes.Goals as goal

pub piece_at-end-requires : goal.piece_at-end-requires
piece_at-end-requires c = subst (λ n. c.loop-stamp.from + n ≤ length c.args.bytes.now) (sym c.size.ensures) (next_end c.args.stamps.now c.loop-stamp.stamp-index Started c.loop-stamp.from c.args.bytes.now c.loop-stamp-test.true c.loop-stamp.invariant.at c.requires)

pub loop-stamp-preserved : goal.loop-stamp-preserved
loop-stamp-preserved c =
    let stamp = get_or c.args.stamps.now c.loop-stamp.stamp-index Started in
    let piece = c.piece_at-end.ensures.piece ∙ (ap (λ n. take n (drop c.loop-stamp.from c.args.bytes.now)) c.size.ensures ∙ ap (λ n. take (size_of stamp) (drop n c.args.bytes.now)) c.loop-stamp.invariant.at) in record {
      at = c.piece_at-end.ensures.end ∙ (ap (λ n. c.loop-stamp.from + n) c.size.ensures ∙ next_from c.args.stamps.now c.loop-stamp.stamp-index Started c.loop-stamp.from c.loop-stamp-test.true c.loop-stamp.invariant.at);
      so_far = c.in_ok-push.ensures.ok ∙ (ap (λ n. c.loop-stamp.notes ++ n ∷ []) (c.in_ok-note.ensures ∙ ap (note_of stamp) piece)
          ∙ (ap (λ ns. ns ++ note_of stamp (take (size_of stamp) (drop (total (take c.loop-stamp.stamp-index c.args.stamps.now)) c.args.bytes.now)) ∷ []) c.loop-stamp.invariant.so_far ∙ sym (next_note c.args.stamps.now c.loop-stamp.stamp-index Started c.args.bytes.now c.loop-stamp-test.true)));
    }
