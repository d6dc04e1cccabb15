-- What taking a message answers, and that it answers one thing alone.
use Rattle.std.proofs.Common.{ℕ, ◌≡◌, ◌≢◌, ◌+◌, ◌<◌, ◌≤◌, List, [], ◌∷◌, ◌++◌, length, take, drop, Option, Some, None, Result, Ok, Err, OnOk, OnErr, refl, ap, sym, subst, ◌∙◌, append_assoc, arith}
use Rattle.std.specs.Prelude.{◌↔◌}
use Rattle.std.proofs.lemmas.List.{length-append, take_at, nil_from_length}
use Rattle.foz_words.specs.Bytes.{le32, le64}
use Rattle.foz_words.specs.declared.key.Key.{Key}
use Rattle.foz_words.proofs.Words.{length-le32, length-le64, le32-append-injective, le64-append-injective}
use Rattle.worker_msg.specs.Frames.{IsBody, framed, IsFrame, IsKey, key_bytes, body_of, spelling, Sent}
use Rattle.worker_msg.specs.Frames as frames
use Rattle.worker_msg.specs.Fronts.{IsPartial, IsBad, IsWhole}
use Rattle.worker_msg.specs.Feeds.{Feeding, IsBadAt, Answers, CarriesPayload, given_to}
use Rattle.worker_msg.specs.declared.msg.Msg.{Msg}
use Rattle.worker_msg.specs.declared.msg.Msg.TheVariants.{Hello, Load, Do, Reply, Quit}
use Rattle.worker_msg.specs.declared.side.Side.{Side}
use Rattle.worker_msg.specs.declared.side.Side.TheVariants.{Worker, Crew}
use Rattle.worker_msg.specs.declared.error.TakeFrame.{TakeFrame}
use Rattle.worker_msg.specs.declared.error.TakeFrame.TheVariants.{BadFrame, Memory}
use Rattle.worker_msg.proofs.Parts.{body_short, one_frame, length-framed}
use Rattle.worker_msg.proofs.Exclusive.{whole_or_partial, whole_or_bad, partial_or_bad, one_place}
use Rattle.worker_msg.proofs.Whole.{key_long}

pub frame_of : (side : Side) (bytes : List ℕ) (len : ℕ) → IsWhole side bytes len → IsFrame side (take len bytes)
frame_of side bytes len w = record { body = w.body; is_body = w.is_body; whole = ap (take len) w.parts ∙ take_at (framed w.body) (drop len bytes) len w.size }

pub whole_within : (side : Side) (bytes : List ℕ) (len : ℕ) → IsWhole side bytes len → len ≤ length bytes
whole_within side bytes len w = let long = ap length w.parts ∙ length-append (framed w.body) (drop len bytes) in let size = w.size in omega arith

pub body_of_sent : (side : Side) (message : Msg) → Sent side message → IsBody side (body_of message)
body_of_sent Worker Hello sent = absurd sent
body_of_sent Worker (Load key payload) sent = frames.load refl (key_bytes key ++ payload) refl (let long = key_long key payload in omega arith) (let long = key_long key payload in let most = sent.1 in omega arith)
body_of_sent Worker (Do key payload) sent = frames.work refl (key_bytes key ++ payload) refl (let long = key_long key payload in omega arith) (let long = key_long key payload in let most = sent.1 in omega arith)
body_of_sent Worker (Reply key code) sent = absurd sent
body_of_sent Worker Quit sent = frames.quit refl refl
body_of_sent Crew Hello sent = frames.hello refl refl
body_of_sent Crew (Load key payload) sent = absurd sent
body_of_sent Crew (Do key payload) sent = absurd sent
body_of_sent Crew (Reply key code) sent = frames.reply refl (le32 code ++ key_bytes key) refl (reply_long code key)
  where
    reply_long : (code : ℕ) (key : Key) → length (le32 code ++ key_bytes key) ≡ 16
    reply_long code key =
        let fields = length-append (le32 code) (key_bytes key) in
        let keys = length-append (le32 key.tag) (le64 key.hash) in
        let a = length-le32 code in
        let b = length-le32 key.tag in
        let c = length-le64 key.hash in
        omega arith
body_of_sent Crew Quit sent = absurd sent

one_key : (key other : Key) (x y : List ℕ) → IsKey key → IsKey other → key_bytes key ++ x ≡ key_bytes other ++ y → (key ≡ other) × (x ≡ y)
one_key key other x y k o e =
    let whole : le32 key.tag ++ (le64 key.hash ++ x) ≡ le32 other.tag ++ (le64 other.hash ++ y) = sym (append_assoc (le32 key.tag) (le64 key.hash) x) ∙ (e ∙ append_assoc (le32 other.tag) (le64 other.hash) y) in
    let tags = le32-append-injective key.tag other.tag (le64 key.hash ++ x) (le64 other.hash ++ y) k.tag o.tag whole in
    let hashes = le64-append-injective key.hash other.hash x y k.hash o.hash tags.1 in
    (ap (λ (t : ℕ). record { tag = t; hash = key.hash }) tags.0 ∙ ap (λ (h : ℕ). record { tag = other.tag; hash = h }) hashes.0, hashes.1)

one_body : (side : Side) (message other : Msg) → Sent side message → Sent side other → body_of message ≡ body_of other → message ≡ other
one_body Worker (Load key payload) (Load key' payload') s t e =
    let same : key_bytes key ++ payload ≡ key_bytes key' ++ payload' = cc in
    let one = one_key key key' payload payload' s.0 t.0 same in
    ap (λ k. Load k payload) one.0 ∙ ap (λ p. Load key' p) one.1
one_body Worker (Load key payload) (Do key' payload') s t e = absurd cc
one_body Worker (Load key payload) Quit s t e = absurd cc
one_body Worker (Load key payload) Hello s t e = absurd t
one_body Worker (Load key payload) (Reply key' code) s t e = absurd t
one_body Worker (Do key payload) (Do key' payload') s t e =
    let same : key_bytes key ++ payload ≡ key_bytes key' ++ payload' = cc in
    let one = one_key key key' payload payload' s.0 t.0 same in
    ap (λ k. Do k payload) one.0 ∙ ap (λ p. Do key' p) one.1
one_body Worker (Do key payload) (Load key' payload') s t e = absurd cc
one_body Worker (Do key payload) Quit s t e = absurd cc
one_body Worker (Do key payload) Hello s t e = absurd t
one_body Worker (Do key payload) (Reply key' code) s t e = absurd t
one_body Worker Quit Quit s t e = refl
one_body Worker Quit (Load key' payload') s t e = absurd cc
one_body Worker Quit (Do key' payload') s t e = absurd cc
one_body Worker Quit Hello s t e = absurd t
one_body Worker Quit (Reply key' code) s t e = absurd t
one_body Worker Hello other s t e = absurd s
one_body Worker (Reply key code) other s t e = absurd s
one_body Crew Hello Hello s t e = refl
one_body Crew Hello (Reply key code) s t e = absurd cc
one_body Crew Hello (Load key' payload') s t e = absurd t
one_body Crew Hello (Do key' payload') s t e = absurd t
one_body Crew Hello Quit s t e = absurd t
one_body Crew (Reply key code) Hello s t e = absurd cc
one_body Crew (Reply key code) (Reply key' code') s t e =
    let same : le32 code ++ key_bytes key ≡ le32 code' ++ key_bytes key' = cc in
    let codes = le32-append-injective code code' (key_bytes key) (key_bytes key') s.1 t.1 same in
    let keys = one_key key key' [] [] s.0 t.0 (ap (λ l. l ++ []) codes.1) in
    ap (λ k. Reply k code) keys.0 ∙ ap (λ n. Reply key' n) codes.0
one_body Crew (Reply key code) (Load key' payload') s t e = absurd t
one_body Crew (Reply key code) (Do key' payload') s t e = absurd t
one_body Crew (Reply key code) Quit s t e = absurd t
one_body Crew (Load key payload) other s t e = absurd s
one_body Crew (Do key payload) other s t e = absurd s
one_body Crew Quit other s t e = absurd s

pub one_message : (side : Side) (message other : Msg) (x y : List ℕ) → Sent side message → Sent side other → spelling message ++ x ≡ spelling other ++ y → (message ≡ other) × (x ≡ y)
unfolding spelling
one_message side message other x y s t e =
    let a = body_of_sent side message s in
    let b = body_of_sent side other t in
    let one = one_frame (body_of message) (body_of other) x y (body_short side (body_of message) a) (body_short side (body_of other) b) e in
    (one_body side message other s t one.0, one.1)

pub message_or_partial : (side : Side) (message : Msg) (bytes x : List ℕ) → Sent side message → bytes ≡ spelling message ++ x → IsPartial side bytes → ⊥
unfolding spelling
message_or_partial side message bytes x s e p = whole_or_partial side (body_of message) bytes x (body_of_sent side message s) e p

pub message_or_bad : (side : Side) (message : Msg) (bytes x : List ℕ) (place : ℕ) → Sent side message → bytes ≡ spelling message ++ x → IsBad side bytes place → ⊥
unfolding spelling
message_or_bad side message bytes x place s e bad = whole_or_bad side (body_of message) bytes x place (body_of_sent side message s) e bad

-- ---- the answer

abbrev Taken : Type 0
Taken = Result (Option Msg) TakeFrame

none_from : (old new : Feeding) (result : Taken) → Answers old result new → IsPartial old.side old.kept → result ≡ Ok None
none_from old new (Ok (Some message)) a p = absurd (message_or_partial old.side message old.kept new.kept a.sent a.spelled p)
none_from old new (Ok None) a p = refl
none_from old new (Err (BadFrame at)) a p = absurd (partial_or_bad old.side old.kept a.0.within p a.0.bad)
none_from old new (Err Memory) a p = absurd (message_or_partial old.side a.0.message old.kept a.0.rest a.0.sent a.0.spelled p)

bad_from : (old new : Feeding) (result : Taken) (at : ℕ) → Answers old result new → IsBadAt old at → result ≡ Err (BadFrame at)
bad_from old new (Ok (Some message)) at a b = absurd (message_or_bad old.side message old.kept new.kept b.within a.sent a.spelled b.bad)
bad_from old new (Ok None) at a b = absurd (partial_or_bad old.side old.kept b.within a.0 b.bad)
bad_from old new (Err (BadFrame place)) at a b =
    let one = one_place old.side old.kept a.0.within b.within a.0.bad b.bad in
    ap (λ n. Err (BadFrame n)) (a.0.place ∙ (ap (λ n. old.place + n) one ∙ sym b.place))
bad_from old new (Err Memory) at a b = absurd (message_or_bad old.side a.0.message old.kept a.0.rest b.within a.0.sent a.0.spelled b.bad)

pub none_exactly : (old : Feeding) (result : Taken) (new : Feeding) → Answers old result new → (result ≡ Ok None) ↔ IsPartial old.side old.kept
none_exactly old result new a = (λ e. (subst (λ (r : Taken). Answers old r new) e a).0, none_from old new result a)

pub bad_exactly : (old : Feeding) (result : Taken) (new : Feeding) (at : ℕ) → Answers old result new → (result ≡ Err (BadFrame at)) ↔ IsBadAt old at
bad_exactly old result new at a = (λ e. (subst (λ (r : Taken). Answers old r new) e a).0, bad_from old new result at a)

pub same_side : (old : Feeding) (result : Taken) (new : Feeding) → Answers old result new → new.side ≡ old.side
same_side old (Ok (Some message)) new a = a.side
same_side old (Ok None) new a = ap (λ (f : Feeding). f.side) a.1
same_side old (Err (BadFrame at)) new a = ap (λ (f : Feeding). f.side) a.1
same_side old (Err Memory) new a = ap (λ (f : Feeding). f.side) a.1

pub same_given : (old : Feeding) (result : Taken) (new : Feeding) → Answers old result new → given_to new ≡ given_to old
same_given old (Ok (Some message)) new a =
    let place = a.place in
    let long = ap length a.spelled ∙ length-append (spelling message) new.kept in
    omega arith
same_given old (Ok None) new a = ap given_to a.1
same_given old (Err (BadFrame at)) new a = ap given_to a.1
same_given old (Err Memory) new a = ap given_to a.1

no_payload : (message : Msg) → Sent Crew message → CarriesPayload message → ⊥
no_payload Hello sent carries = carries
no_payload (Load key payload) sent carries = sent
no_payload (Do key payload) sent carries = sent
no_payload (Reply key code) sent carries = carries
no_payload Quit sent carries = carries

pub crew_remembers : (old : Feeding) (result : Taken) (new : Feeding) → Answers old result new → old.side ≡ Crew → result ≢ Err Memory
crew_remembers old result new a crew e =
    let wants = (subst (λ (r : Taken). Answers old r new) e a).0 in
    no_payload wants.message (subst (λ (s : Side). Sent s wants.message) crew wants.sent) wants.carries

-- ---- what a crew's feed lacks, and bad frames that stay

crew_body : (body : List ℕ) → IsBody Crew body → length body ≤ 17
crew_body body (frames.hello s e) = let long = ap length e in omega arith
crew_body body (frames.load s fields e least most) = absurd cc
crew_body body (frames.work s fields e least most) = absurd cc
crew_body body (frames.reply s fields e size) = let long = ap length e in omega arith
crew_body body (frames.quit s e) = absurd cc

pub crew_short : (bytes : List ℕ) → IsPartial Crew bytes → length bytes < 21
crew_short bytes p =
    let b = p.begins in
    let small = crew_body b.body b.is_body in
    let size = length-framed b.body in
    let parts : length (framed b.body) ≡ length bytes + length b.rest = ap length b.parts ∙ length-append bytes b.rest in
    let some : length b.rest ≢ 0 = λ none. p.more (nil_from_length b.rest none) in
    omega arith

pub crew_lacks : (old : Feeding) (result : Taken) (new : Feeding) → Answers old result new → old.side ≡ Crew → result ≡ Ok None → length old.kept < 21
crew_lacks old result new a crew none = crew_short old.kept (subst (λ (s : Side). IsPartial s old.kept) crew ((none_exactly old result new a).0 none))

pub bad_stays : (side : Side) (bytes more : List ℕ) (place : ℕ) → IsBad side bytes place → IsBad side (bytes ++ more) place
bad_stays side bytes more place b = record {
  good = b.good;
  byte = b.byte;
  more = b.more ++ more;
  parts = ap (λ l. l ++ more) b.parts ∙ append_assoc b.good (b.byte ∷ b.more) more;
  partial = b.partial;
  none = b.none;
  at = b.at;
}

pub still_bad : (feed new : Feeding) (more : List ℕ) → new ≡ record feed { kept = feed.kept ++ more } → (at : ℕ) → IsBadAt feed at → IsBadAt new at
still_bad feed new more e at b =
    subst (λ (f : Feeding). IsBadAt f at) (sym e) (record { within = b.within; bad = bad_stays feed.side feed.kept more b.within b.bad; place = b.place })

pub pushed_bad : {E : Type 0} (feed new : Feeding) (piece : List ℕ) (result : Result (Unit {0}) E) → OnOk result (new ≡ record feed { kept = feed.kept ++ piece }) → OnErr result (new ≡ feed) → (at : ℕ) → IsBadAt feed at → IsBadAt new at
pushed_bad feed new piece (Ok done) ok err at b = still_bad feed new piece ok at b
pushed_bad feed new piece (Err refused) ok err at b = subst (λ (f : Feeding). IsBadAt f at) (sym err) b
