-- Messages in a row.
use Rattle.std.proofs.Common.{ℕ, ◌≡◌, ◌+◌, inl, inr, List, [], ◌∷◌, ◌++◌, length, refl, ap, sym, subst, ◌∙◌, append_assoc}
use Rattle.std.specs.List.{AllByRecursion}
use Rattle.std.proofs.lemmas.List.{append-nil, length-append}
use Rattle.std.proofs.lemmas.List.Concat.{flat_map-cons}
use Rattle.worker_msg.specs.Frames.{Sent, spelling}
use Rattle.worker_msg.specs.Feeds.{Feeding}
use Rattle.worker_msg.specs.Streams.{row_of, Splits, HasNone, Fed, starts, gives, takes}
use Rattle.worker_msg.specs.declared.msg.Msg.{Msg}
use Rattle.worker_msg.specs.declared.side.Side.{Side}
use Rattle.worker_msg.proofs.Taking.{one_message, message_or_partial, message_or_bad}

row_of-cons : (message : Msg) (messages : List Msg) (rest : List ℕ) → row_of (message ∷ messages) ++ rest ≡ spelling message ++ (row_of messages ++ rest)
unfolding row_of
row_of-cons message messages rest = ap (λ l. l ++ rest) (flat_map-cons spelling message messages) ∙ append_assoc (spelling message) (row_of messages) rest

row_of-push : (messages : List Msg) (message : Msg) → row_of (messages ++ message ∷ []) ≡ row_of messages ++ spelling message
unfolding row_of
row_of-push [] message = append-nil (spelling message)
row_of-push (m ∷ ms) message = flat_map-cons spelling m (ms ++ message ∷ []) ∙ (ap (λ l. spelling m ++ l) (row_of-push ms message) ∙ (sym (append_assoc (spelling m) (row_of ms) (spelling message)) ∙ ap (λ l. l ++ spelling message) (sym (flat_map-cons spelling m ms))))

all-push : (side : Side) (messages : List Msg) (message : Msg) → AllByRecursion (Sent side) messages → Sent side message → AllByRecursion (Sent side) (messages ++ message ∷ [])
all-push side [] message all sent = (sent, tt)
all-push side (m ∷ ms) message all sent = (all.0, all-push side ms message all.1 sent)

-- what holds of a feed
record Keeps (side : Side) (given : List ℕ) (messages : List Msg) (feed : Feeding) : Type 0 where
  split : Splits side given messages feed.kept
  place : feed.place ≡ length (row_of messages)
  same : feed.side ≡ side

keeps : {side : Side} {given : List ℕ} {messages : List Msg} {feed : Feeding} → Fed side given messages feed → Keeps side given messages feed
unfolding row_of
keeps starts = record { split = record { whole = refl; each = tt }; place = refl; same = refl }
keeps {side} (gives given piece messages feed fed) =
    let k = keeps fed in record {
      split = record { whole = ap (λ l. l ++ piece) k.split.whole ∙ append_assoc (row_of messages) feed.kept piece; each = k.split.each };
      place = k.place;
      same = k.same;
    }
keeps {side} (takes given messages message old new fed taken) =
    let k = keeps fed in
    let sent : Sent side message = subst (λ (s : Side). Sent s message) k.same taken.sent in
    let row = row_of-push messages message in record {
      split = record {
        whole = k.split.whole ∙ (ap (λ l. row_of messages ++ l) taken.spelled ∙ (sym (append_assoc (row_of messages) (spelling message) new.kept) ∙ ap (λ l. l ++ new.kept) (sym row)));
        each = all-push side messages message k.split.each sent;
      };
      place = taken.place ∙ (ap (λ n. n + length (spelling message)) k.place ∙ (sym (length-append (row_of messages) (spelling message)) ∙ ap length (sym row)));
      same = taken.side ∙ k.same;
    }

pub fed_splits : (side : Side) (given : List ℕ) (messages : List Msg) (feed : Feeding) → Fed side given messages feed → Splits side given messages feed.kept
fed_splits side given messages feed fed = (keeps fed).split

pub fed_place : (side : Side) (given : List ℕ) (messages : List Msg) (feed : Feeding) → Fed side given messages feed → feed.place ≡ length (row_of messages)
fed_place side given messages feed fed = (keeps fed).place

no_message : (side : Side) (message : Msg) (bytes x : List ℕ) → Sent side message → bytes ≡ spelling message ++ x → HasNone side bytes → ⊥
no_message side message bytes x sent e none = elim none [
  | inl p ↦ message_or_partial side message bytes x sent e p
  | inr b ↦ message_or_bad side message bytes x b.0 sent e b.1
]

one_row : (side : Side) (messages others : List Msg) (rest left : List ℕ) → AllByRecursion (Sent side) messages → AllByRecursion (Sent side) others → HasNone side rest → HasNone side left → row_of messages ++ rest ≡ row_of others ++ left → (messages ≡ others) × (rest ≡ left)
unfolding row_of
one_row side [] [] rest left all all' none none' e = (refl, e)
one_row side [] (n ∷ ns) rest left all all' none none' e = absurd (no_message side n rest (row_of ns ++ left) all'.0 (e ∙ row_of-cons n ns left) none)
one_row side (m ∷ ms) [] rest left all all' none none' e = absurd (no_message side m left (row_of ms ++ rest) all.0 (sym e ∙ row_of-cons m ms rest) none')
one_row side (m ∷ ms) (n ∷ ns) rest left all all' none none' e =
    let one = one_message side m n (row_of ms ++ rest) (row_of ns ++ left) all.0 all'.0 (sym (row_of-cons m ms rest) ∙ (e ∙ row_of-cons n ns left)) in
    let more = one_row side ms ns rest left all.1 all'.1 none none' one.1 in
    (ap (λ h. h ∷ ms) one.0 ∙ ap (λ t. n ∷ t) more.0, more.1)

pub one_split : (side : Side) (stream : List ℕ) (messages others : List Msg) (rest left : List ℕ) → Splits side stream messages rest → HasNone side rest → Splits side stream others left → HasNone side left → (messages ≡ others) × (rest ≡ left)
one_split side stream messages others rest left a none b none' = one_row side messages others rest left a.each b.each none none' (sym a.whole ∙ b.whole)
