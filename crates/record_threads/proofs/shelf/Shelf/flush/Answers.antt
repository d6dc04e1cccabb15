use Rattle.std.proofs.Common.{◌≡◌, ◌++◌, ◌∷◌, [], MatchOption, Bool, if◌then◌else◌, List, Option, Some, sym, ap, ◌∙◌, subst}
use Rattle.record_words.specs.declared.note.RecordNote.{RecordNote}
use Rattle.record_words.specs.declared.note.RecordCall.TheVariants.{Flush}
use Rattle.record_words.specs.declared.note.RecordReply.{RecordReply}
use Rattle.record_dedup.specs.Kept.{recorder_of}
use Rattle.record_dedup.specs.Steps.{flush_told, IsFlushStep}
use Rattle.record_threads.specs.Ties.{IsFlushNote}
use Rattle.record_threads.specs.Shelves.{Shelved, IsNoted, full_story}
use Rattle.record_threads.proofs.Growth.{flushed}
use Rattle.record_threads.proofs.shelf.Shelf.flush.Goals as goal

pub invariant_of-self-else-is_err-2 : goal.invariant_of-self-else-is_err-2
invariant_of-self-else-is_err-2 g c =
    let told : flush_told c.flush-answer.result ≡ Some c.in-Some.reply = sym c.flush_told.ensures ∙ c.in-Some.is in
    let step = subst (λ (o : Option RecordReply). IsFlushStep (recorder_of c.self.inside.book) o (recorder_of c.flush-answer.new.self)) told c.flush-answer.ensures.step in
    let note : RecordNote = record { seat = c.args.seat; call = Flush; reply = c.in-Some.reply } in
    let items : c.push.new.self.items ≡ c.self.inside.notes.items ++ note ∷ [] = c.push.ensures.items ∙ (ap (λ (b : Bool). if b then c.reserve.new.self.items ++ note ∷ [] else c.reserve.new.self.items) c.if-is_err-2.ensures.negation ∙ ap (λ (z : List RecordNote). z ++ note ∷ []) c.reserve.ensures.items) in
    let leaves = flushed c.stories_add_each_key_once.ensures.goes_on c.self.inside.origin.value c.self.inside.book c.flush-answer.new.self c.self.inside.notes.items c.self.invariant c.args.seat c.in-Some.reply step c.flush-answer.ensures.entries c.flush-answer.ensures.rest c.push.new.self.items items in
    leaves.are

pub returns-else-is_err-2-clause-told : goal.returns-else-is_err-2-clause-told
returns-else-is_err-2-clause-told g c =
    let told : flush_told c.flush-answer.result ≡ Some c.in-Some.reply = sym c.flush_told.ensures ∙ c.in-Some.is in
    let step = subst (λ (o : Option RecordReply). IsFlushStep (recorder_of c.self.inside.book) o (recorder_of c.flush-answer.new.self)) told c.flush-answer.ensures.step in
    let note : RecordNote = record { seat = c.args.seat; call = Flush; reply = c.in-Some.reply } in
    let items : c.push.new.self.items ≡ c.self.inside.notes.items ++ note ∷ [] = c.push.ensures.items ∙ (ap (λ (b : Bool). if b then c.reserve.new.self.items ++ note ∷ [] else c.reserve.new.self.items) c.if-is_err-2.ensures.negation ∙ ap (λ (z : List RecordNote). z ++ note ∷ []) c.reserve.ensures.items) in
    let leaves = flushed c.stories_add_each_key_once.ensures.goes_on c.self.inside.origin.value c.self.inside.book c.flush-answer.new.self c.self.inside.notes.items c.self.invariant c.args.seat c.in-Some.reply step c.flush-answer.ensures.entries c.flush-answer.ensures.rest c.push.new.self.items items in
    let later : Shelved _ = record { origin = c.self.inside.origin.value; story = full_story c.flush-answer.new.self.entries c.push.new.self.items; book = c.flush-answer.new.self } in
    subst (λ (o : Option RecordReply). MatchOption o (later ≡ c.args.self.now) (λ reply. IsNoted c.args.self.now c.args.seat (IsFlushNote reply) later)) (sym told)
    (subst (λ (h : Shelved _). IsNoted h c.args.seat (IsFlushNote c.in-Some.reply) later) c.self.view_is leaves.noted)

pub returns-else-is_err-2-clause-led : goal.returns-else-is_err-2-clause-led
returns-else-is_err-2-clause-led g c =
    let told : flush_told c.flush-answer.result ≡ Some c.in-Some.reply = sym c.flush_told.ensures ∙ c.in-Some.is in
    let step = subst (λ (o : Option RecordReply). IsFlushStep (recorder_of c.self.inside.book) o (recorder_of c.flush-answer.new.self)) told c.flush-answer.ensures.step in
    let note : RecordNote = record { seat = c.args.seat; call = Flush; reply = c.in-Some.reply } in
    let items : c.push.new.self.items ≡ c.self.inside.notes.items ++ note ∷ [] = c.push.ensures.items ∙ (ap (λ (b : Bool). if b then c.reserve.new.self.items ++ note ∷ [] else c.reserve.new.self.items) c.if-is_err-2.ensures.negation ∙ ap (λ (z : List RecordNote). z ++ note ∷ []) c.reserve.ensures.items) in
    let leaves = flushed c.stories_add_each_key_once.ensures.goes_on c.self.inside.origin.value c.self.inside.book c.flush-answer.new.self c.self.inside.notes.items c.self.invariant c.args.seat c.in-Some.reply step c.flush-answer.ensures.entries c.flush-answer.ensures.rest c.push.new.self.items items in
    leaves.are.leads_to
