-- Where a reply stands in a log.
use Rattle.std.proofs.Common.{ℕ, zero, suc, ◌≡◌, ◌<◌, Bool, List, [], ◌∷◌, ◌++◌, map, length, refl, ap, sym, ◌∙◌, inl, inr, subst, append_assoc, arith}
use Rattle.std.specs.Prelude.{Contains, slice_index_or}
use Rattle.std.specs.List.{concat}
use Rattle.std.proofs.lemmas.List.{append-nil}
use Rattle.std.proofs.lemmas.List.Elements.{Contains-append_cases}
use Rattle.replay_core.specs.declared.event.Event.{Event}
use Rattle.replay_core.specs.declared.event.Event.TheVariants.{Start, Reply, Death, Restart, Retire}
use Rattle.slot_log.specs.declared.note.SlotNote.{SlotNote}
use Rattle.slot_log.specs.declared.note.SlotNote.TheVariants.{Sent, Got}
use Rattle.slot_log.specs.Works.{Orders, work_of, do_frame, reply_frame}
use Rattle.slot_log.specs.Telling.{loads_sent, Asks, Phase, NotYet, Over, Group, first_start, no_start, answered, gone_early, gone, wrong, restarted, not_restarted, quit, died_at_quit, Tells, nothing, more}
use Rattle.slot_log.specs.Laws.{HasAnswer, RepliesAreTold}

regroup : {X : Type 0} → (front before block after back : List X) → front ++ ((before ++ (block ++ after)) ++ back) ≡ (front ++ before) ++ (block ++ (after ++ back))
regroup front before block after back =
    ap (λ x. front ++ x) (append_assoc before (block ++ after) back ∙ ap (λ x. before ++ x) (append_assoc block after back))
    ∙ sym (append_assoc front before (block ++ (after ++ back)))

-- the notes between others
widen : (orders : Orders) (i code : ℕ) (front notes back : List SlotNote) → HasAnswer orders notes i code → HasAnswer orders (front ++ (notes ++ back)) i code
widen orders i code front notes back h = record {
  before = front ++ h.before;
  pieces = h.pieces;
  after = h.after ++ back;
  parts = ap (λ ns. front ++ (ns ++ back)) h.parts ∙ regroup front h.before (Sent (do_frame (work_of orders i)) ∷ map Got h.pieces) h.after back;
  bytes_are = h.bytes_are;
}

in_front : (orders : Orders) (i code : ℕ) (notes back : List SlotNote) → HasAnswer orders notes i code → HasAnswer orders (notes ++ back) i code
in_front orders i code notes back h = widen orders i code [] notes back h

at_back : (orders : Orders) (i code : ℕ) (front notes : List SlotNote) → HasAnswer orders notes i code → HasAnswer orders (front ++ notes) i code
at_back orders i code front notes h = subst (λ ns. HasAnswer orders (front ++ ns) i code) (append-nil notes) (widen orders i code front notes [] h)

asked : (orders : Orders) (created : List Bool) (i code : ℕ) (loads : List ℕ) (notes : List SlotNote) → Asks orders created i loads (reply_frame (work_of orders i) code) notes → HasAnswer orders notes i code
asked orders created i code loads notes a = record {
  before = loads_sent orders loads;
  pieces = a.pieces;
  after = [];
  parts = a.notes_are ∙ ap (λ ns. loads_sent orders loads ++ ns) (sym (append-nil (Sent (do_frame (work_of orders i)) ∷ map Got a.pieces)));
  bytes_are = a.bytes_are;
}

none_in : (x : Event) → Contains [] x → ⊥
none_in x c = let l = c.1 in omega arith

other_one : (e : Event) (w i code : ℕ) → (e ≡ Reply w i code → ⊥) → Contains (e ∷ []) (Reply w i code) → ⊥
other_one e w i code apart (zero, l, h) = apart h
other_one e w i code apart (suc k, l, h) = let m : suc k < 1 = l in absurd (omega arith)

other_two : (d e : Event) (w i code : ℕ) → (d ≡ Reply w i code → ⊥) → (e ≡ Reply w i code → ⊥) → Contains (d ∷ e ∷ []) (Reply w i code) → ⊥
other_two d e w i code a b (zero, l, h) = a h
other_two d e w i code a b (suc zero, l, h) = b h
other_two d e w i code a b (suc (suc k), l, h) = let m : suc (suc k) < 2 = l in absurd (omega arith)

the_reply : (w j c i code : ℕ) → Contains (Start w j ∷ Reply w j c ∷ []) (Reply w i code) → (j ≡ i) × (c ≡ code)
the_reply w j c i code (zero, l, h) = absurd (let e : Start w j ≡ Reply w i code = h in cc)
the_reply w j c i code (suc zero, l, h) = (let e : Reply w j c ≡ Reply w i code = h in cc, let e : Reply w j c ≡ Reply w i code = h in cc)
the_reply w j c i code (suc (suc k), l, h) = let m : suc (suc k) < 2 = l in absurd (omega arith)

no_death : (w j i code : ℕ) → Contains (Start w j ∷ Death w ∷ []) (Reply w i code) → ⊥
no_death w j i code c = other_two (Start w j) (Death w) w i code (λ e. cc) (λ e. cc) c

in_group : (orders : Orders) (w : ℕ) (phase next : Phase) (these : List Event) (group : List SlotNote) → Group orders w phase these group next → (i code : ℕ) → Contains these (Reply w i code) → HasAnswer orders group i code
in_group orders w phase next these group first_start i code c = absurd (none_in (Reply w i code) c)
in_group orders w phase next these group no_start i code c = absurd (other_one (Retire w) w i code (λ e. cc) c)
in_group orders w phase next these group (answered created j d loads notes a) i code c =
    let same = the_reply w j d i code c in
    subst (λ k. HasAnswer orders notes k code) same.0 (subst (HasAnswer orders notes j) same.1 (asked orders created j d loads notes a))
in_group orders w phase next these group (gone_early created j loads some) i code c = absurd (no_death w j i code c)
in_group orders w phase next these group (gone created j loads bytes notes a u) i code c = absurd (no_death w j i code c)
in_group orders w phase next these group (wrong created j loads bytes notes a u) i code c = absurd (no_death w j i code c)
in_group orders w phase next these group restarted i code c = absurd (other_one (Restart w) w i code (λ e. cc) c)
in_group orders w phase next these group not_restarted i code c = absurd (other_one (Retire w) w i code (λ e. cc) c)
in_group orders w phase next these group (quit created) i code c = absurd (none_in (Reply w i code) c)
in_group orders w phase next these group (died_at_quit created) i code c = absurd (none_in (Reply w i code) c)

in_all : (orders : Orders) (w : ℕ) (from phase : Phase) (events : List Event) (notes : List SlotNote) → Tells orders w from events notes phase → (i code : ℕ) → Contains events (Reply w i code) → HasAnswer orders notes i code
in_all orders w from phase events notes nothing i code c = absurd (none_in (Reply w i code) c)
in_all orders w from phase events notes (more es ns mid these group next t g) i code c =
    elim (Contains-append_cases es these (Reply w i code) c) [
      | inl before ↦ in_front orders i code ns group (in_all orders w from mid es ns t i code before)
      | inr here ↦ at_back orders i code ns group (in_group orders w mid next these group g i code here)
    ]

pub replies_are_told : RepliesAreTold
replies_are_told = λ orders w events notes told i code c. in_all orders w NotYet Over events notes told i code c
