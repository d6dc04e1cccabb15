-- The bytes of an answer, piece by piece.
use Rattle.std.proofs.Common.{ℕ, ◌≡◌, ◌≢◌, ◌+◌, ◌-◌, ◌<◌, ◌≤◌, ◌⊎◌, List, [], ◌∷◌, ◌++◌, length, length-append, Option, Some, None, refl, ap, sym, ◌∙◌, subst, arith, take, drop, map, append_assoc}
use Rattle.std.specs.Prelude.{IfSome}
use Rattle.std.specs.List.{concat}
use Rattle.std.proofs.lemmas.List.{map-append, append-nil}
use Rattle.std.proofs.lemmas.List.Folds.{concat-append}
use Rattle.foz_words.specs.declared.key.Key.{Key}
use Rattle.foz_words.specs.Bytes.{le32}
use Rattle.worker_msg.specs.Frames.{spelling, framed, hello_body, hello}
use Rattle.worker_msg.specs.Feeds.{Feeding}
use Rattle.worker_msg.specs.declared.msg.Msg.TheVariants as msg
use Rattle.slot_log.specs.declared.note.SlotNote.{SlotNote}
use Rattle.slot_log.specs.declared.note.SlotNote.TheVariants.{Sent, Got, Died, Stopped}
use Rattle.slot_log.specs.Works.{Work, do_frame}
use Rattle.slot_log.specs.Logs.{grown, AwaitsAnswer}
use Rattle.slot_log.specs.Answers.{IsUnfinished, IsWrong}
use Rattle.replay_crew.specs.declared.asking.Outcome.{Outcome}
use Rattle.replay_crew.specs.declared.asking.Outcome.TheVariants.{Answered, Gone, Wrong}
use Rattle.replay_crew.specs.Asking.{EndsWithDo, JustAsked, HasReceived, HasAnswered, AreAnswerBytes, ending}
use Rattle.replay_crew.proofs.Loading.{grown_twice, grown_nothing, grown_on}

-- these bytes came, in pieces
pub record Gathering (before now : Option (List SlotNote)) (bytes : List ℕ) : Type 0 where
  pub pieces : List (List ℕ)
  pub log_is : now ≡ grown before (map Got pieces)
  pub bytes_are : concat pieces ≡ bytes

pub gathered_none : (log : Option (List SlotNote)) → Gathering log log []
gathered_none log = record { pieces = []; log_is = grown_nothing log; bytes_are = refl }

concat_snoc : (pieces : List (List ℕ)) (piece : List ℕ) → concat (pieces ++ piece ∷ []) ≡ concat pieces ++ piece
concat_snoc pieces piece = concat-append pieces (piece ∷ []) ∙ ap (λ x. concat pieces ++ x) (append-nil piece)

pub gather_more : (before now next : Option (List SlotNote)) (old new : Feeding) → Gathering before now old.kept → HasReceived now next old new → Gathering before next new.kept
gather_more before now next old new t r = record {
  pieces = t.pieces ++ r.piece ∷ [];
  log_is = grown_on before now next (map Got t.pieces) (Got r.piece ∷ []) t.log_is r.log_is ∙ ap (grown before) (sym (map-append Got t.pieces (r.piece ∷ [])));
  bytes_are = concat_snoc t.pieces r.piece ∙ (ap (λ x. x ++ r.piece) t.bytes_are ∙ sym (ap (λ feed. feed.kept) r.feed_is));
}

pub gathered_answer : (key : Key) (code : ℕ) (before now : Option (List SlotNote)) (bytes : List ℕ) → Gathering before now bytes → bytes ≡ spelling (msg.Reply key code) → HasAnswered key (Answered code) before now
gathered_answer key code before now bytes t e = record {
  pieces = t.pieces;
  log_is = t.log_is ∙ ap (grown before) (sym (append-nil (map Got t.pieces)));
  bytes_are = t.bytes_are ∙ e;
}

pub gathered_gone : (key : Key) (before now next : Option (List SlotNote)) (bytes : List ℕ) → Gathering before now bytes → IsUnfinished bytes → next ≡ grown now (Died ∷ []) → HasAnswered key Gone before next
gathered_gone key before now next bytes t unfinished e = record {
  pieces = t.pieces;
  log_is = grown_on before now next (map Got t.pieces) (Died ∷ []) t.log_is e;
  bytes_are = subst IsUnfinished (sym t.bytes_are) unfinished;
}

pub gathered_wrong : (key : Key) (before now next : Option (List SlotNote)) (bytes : List ℕ) → Gathering before now bytes → IsWrong key bytes → next ≡ grown now (Stopped ∷ []) → HasAnswered key Wrong before next
gathered_wrong key before now next bytes t wrong e = record {
  pieces = t.pieces;
  log_is = grown_on before now next (map Got t.pieces) (Stopped ∷ []) t.log_is e;
  bytes_are = subst (IsWrong key) (sym t.bytes_are) wrong;
}

awaits_some : (log : List SlotNote) (pieces : List (List ℕ)) (n : ℕ) → EndsWithDo log → length (concat pieces) + n ≤ 21 → AwaitsAnswer (log ++ map Got pieces) n
awaits_some log pieces n d l = record {
  before = d.before;
  asked_for = d.work;
  pieces = pieces;
  parts = ap (λ x. x ++ map Got pieces) d.parts ∙ append_assoc d.before (Sent (do_frame d.work) ∷ []) (map Got pieces);
  room = l;
}

awaits_at : (before : Option (List SlotNote)) (pieces : List (List ℕ)) (n : ℕ) → JustAsked before → length (concat pieces) + n ≤ 21 → IfSome (grown before (map Got pieces)) (λ notes. AwaitsAnswer notes n)
awaits_at None pieces n d l = tt
awaits_at (Some log) pieces n d l = awaits_some log pieces n d l

pub awaits : (before now : Option (List SlotNote)) (bytes : List ℕ) (n : ℕ) → Gathering before now bytes → JustAsked before → length bytes + n ≤ 21 → IfSome now (λ notes. AwaitsAnswer notes n)
awaits before now bytes n t d l = subst (λ log. IfSome log (λ notes. AwaitsAnswer notes n)) (sym t.log_is) (awaits_at before t.pieces n d (subst (λ x. length x + n ≤ 21) (sym t.bytes_are) l))

pub nothing_yet : IsUnfinished []
unfolding framed le32
nothing_yet = record { begins = record { body = hello_body; rest = framed hello_body; is_body = hello refl refl; parts = refl }; more = λ e. cc }
