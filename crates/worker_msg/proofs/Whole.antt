-- A whole frame and the message that it spells.
use Rattle.std.proofs.Common.{ℕ, ◌≡◌, ◌≢◌, ◌+◌, ◌-◌, ◌^◌, ◌<◌, ◌≤◌, ◌⊎◌, inl, inr, Bool, true, false, List, [], ◌∷◌, ◌++◌, length, get_or, take, drop, refl, ap, sym, ◌∙◌, append_assoc, arith}
use Rattle.std.proofs.lemmas.List.{length-append, length-drop, drop-drop, nil_from_length, take_rest, append-nil, take_at, drop_at, take-append-drop, length-take-le, drop-take}
use Rattle.std.proofs.lemmas.Bool.{cases_eq}
use Rattle.std.proofs.lemmas.Slice.{take-put_mid, drop-put_mid}
use Rattle.std.specs.List.{copy_within}
use borrow.Rule.Slice.PartMut.{put_mid}
use Rattle.foz_words.specs.Bytes.{le32, le64}
use Rattle.foz_words.specs.declared.key.Key.{Key}
use Rattle.foz_words.proofs.Words.{length-le32, length-le64}
use Rattle.worker_msg.specs.Frames.{IsBody, hello, load, work, reply, quit, framed, hello_body, IsFrame, IsKey, key_bytes, limit, spelling, work_head, work_spelling}
use Rattle.worker_msg.specs.Feeds.{Spells, HasPayload}
use Rattle.worker_msg.specs.declared.msg.Msg.TheVariants.{Hello, Load, Do, Reply, Quit}
use Rattle.worker_msg.specs.declared.side.Side.TheVariants.{Worker, Crew}
use Rattle.worker_msg.proofs.Parts.{length-framed}

kind_at : (kind : ℕ) (fields : List ℕ) → get_or (framed (kind ∷ fields)) 4 0 ≡ kind
unfolding framed le32
kind_at kind fields = refl

fields_at : (kind : ℕ) (fields : List ℕ) → drop 5 (framed (kind ∷ fields)) ≡ fields
unfolding framed le32
fields_at kind fields = refl

-- a worker's frame, by its kind and what follows it
record Work (frame : List ℕ) : Type 0 where
  kind : ℕ
  fields : List ℕ
  whole : frame ≡ framed (kind ∷ fields)
  is : ((kind ≡ 5) × (fields ≡ [])) ⊎ (((kind ≡ 2) ⊎ (kind ≡ 3)) × (12 ≤ length fields) × (length fields ≤ 12 + limit))

work_of : (frame body : List ℕ) → frame ≡ framed body → IsBody Worker body → Work frame
work_of frame body e (hello s b) = absurd cc
work_of frame body e (load s fields b least most) = record { kind = 2; fields = fields; whole = e ∙ ap framed b; is = inr (inl refl, least, most) }
work_of frame body e (work s fields b least most) = record { kind = 3; fields = fields; whole = e ∙ ap framed b; is = inr (inr refl, least, most) }
work_of frame body e (reply s fields b size) = absurd cc
work_of frame body e (quit s b) = record { kind = 5; fields = []; whole = e ∙ ap framed b; is = inl (refl, refl) }

parts : (frame : List ℕ) → IsFrame Worker frame → Work frame
parts frame f = work_of frame f.body f.whole f.is_body

kind_of : (frame : List ℕ) (w : Work frame) → get_or frame 4 0 ≡ w.kind
kind_of frame w = ap (λ l. get_or l 4 0) w.whole ∙ kind_at w.kind w.fields

fields_of : (frame : List ℕ) (w : Work frame) → drop 5 frame ≡ w.fields
fields_of frame w = ap (drop 5) w.whole ∙ fields_at w.kind w.fields

size_of : (frame : List ℕ) (w : Work frame) → length frame ≡ 5 + length w.fields
size_of frame w = ap length w.whole ∙ (length-framed (w.kind ∷ w.fields) ∙ (let l : 4 + length (w.kind ∷ w.fields) ≡ 5 + length w.fields = omega arith in l))

pub work_long : (frame : List ℕ) → IsFrame Worker frame → 5 ≤ length frame
work_long frame f = let size = size_of frame (parts frame f) in omega arith

pub work_has_key : (frame : List ℕ) → IsFrame Worker frame → get_or frame 4 0 ≢ 5 → 17 ≤ length frame
work_has_key frame f other =
    let w = parts frame f in
    let size = size_of frame w in
    elim w.is [ inl q ↦ absurd (other (kind_of frame w ∙ q.0)) | inr k ↦ let least = k.1 in omega arith ]

pub spells_quit : (frame : List ℕ) → IsFrame Worker frame → get_or frame 4 0 ≡ 5 → Spells Worker frame Quit
unfolding spelling
spells_quit frame f five =
    let w = parts frame f in
    let kind : w.kind ≡ 5 = sym (kind_of frame w) ∙ five in
    elim w.is [
      | inl q ↦ record { sent = tt; spelled = w.whole ∙ (ap (λ k. framed (k ∷ w.fields)) q.0 ∙ ap (λ l. framed (5 ∷ l)) q.1) }
      | inr k ↦ absurd (elim k.0 [ inl two ↦ omega arith | inr three ↦ omega arith ])
    ]

-- the fields are a key and a payload
pub fields_are : (frame payload : List ℕ) (key : Key) → 17 ≤ length frame → take (length frame - 5) (drop 5 frame) ≡ key_bytes key ++ drop 12 (take (length frame - 5) (drop 5 frame)) → payload ≡ take (length frame - 17) (drop 17 frame) → drop 5 frame ≡ key_bytes key ++ payload
fields_are frame payload key long e p =
    let whole : take (length frame - 5) (drop 5 frame) ≡ drop 5 frame = take_rest frame 5 in
    let payload_is : payload ≡ drop 12 (drop 5 frame) = p ∙ (take_rest frame 17 ∙ sym (drop-drop 12 5 frame)) in
    sym whole ∙ (e ∙ ap (λ l. key_bytes key ++ l) (ap (drop 12) whole ∙ sym payload_is))

pub key_long : (key : Key) (payload : List ℕ) → length (key_bytes key ++ payload) ≡ 12 + length payload
key_long key payload = length-append (key_bytes key) payload ∙ ap (λ n. n + length payload) (length-append (le32 key.tag) (le64 key.hash) ∙ (ap (λ n. n + length (le64 key.hash)) (length-le32 key.tag) ∙ ap (λ n. 4 + n) (length-le64 key.hash)))

fitting : (frame payload : List ℕ) (key : Key) (w : Work frame) → get_or frame 4 0 ≢ 5 → drop 5 frame ≡ key_bytes key ++ payload → (w.fields ≡ key_bytes key ++ payload) × (length payload ≤ limit) × ((w.kind ≡ 2) ⊎ (w.kind ≡ 3))
fitting frame payload key w other e =
    let fields : w.fields ≡ key_bytes key ++ payload = sym (fields_of frame w) ∙ e in
    let size : length w.fields ≡ 12 + length payload = ap length fields ∙ key_long key payload in
    elim w.is [ inl q ↦ absurd (other (kind_of frame w ∙ q.0)) | inr k ↦ (fields, (let most = k.2 in omega arith), k.0) ]

pub spells_load : (frame payload : List ℕ) (key : Key) → IsFrame Worker frame → get_or frame 4 0 ≡ 2 → IsKey key → drop 5 frame ≡ key_bytes key ++ payload → Spells Worker frame (Load key payload)
unfolding spelling
spells_load frame payload key f two is e =
    let w = parts frame f in
    let fit = fitting frame payload key w (λ five. omega arith) e in
    record { sent = (is, fit.1); spelled = w.whole ∙ (ap (λ k. framed (k ∷ w.fields)) (sym (kind_of frame w) ∙ two) ∙ ap (λ l. framed (2 ∷ l)) fit.0) }

pub spells_do : (frame payload : List ℕ) (key : Key) → IsFrame Worker frame → get_or frame 4 0 ≢ 5 → get_or frame 4 0 ≢ 2 → IsKey key → drop 5 frame ≡ key_bytes key ++ payload → Spells Worker frame (Do key payload)
unfolding spelling
spells_do frame payload key f other not_load is e =
    let w = parts frame f in
    let fit = fitting frame payload key w other e in
    let three : w.kind ≡ 3 = elim fit.2 [ inl two ↦ absurd (not_load (kind_of frame w ∙ two)) | inr three ↦ three ] in
    record { sent = (is, fit.1); spelled = w.whole ∙ (ap (λ k. framed (k ∷ w.fields)) three ∙ ap (λ l. framed (3 ∷ l)) fit.0) }

pub has_payload : (frame payload : List ℕ) (key : Key) → IsFrame Worker frame → get_or frame 4 0 ≢ 5 → IsKey key → drop 5 frame ≡ key_bytes key ++ payload → HasPayload Worker frame
has_payload frame payload key f other is e = elim (cases_eq (get_or frame 4 0) 2) [
  | inl two ↦ record { message = Load key payload; spells = spells_load frame payload key f two is e; carries = tt }
  | inr not_load ↦ record { message = Do key payload; spells = spells_do frame payload key f other not_load is e; carries = tt }
]

-- ---- a crew's

record Answer (frame : List ℕ) : Type 0 where
  is : (frame ≡ framed hello_body) ⊎ ((fields : List ℕ) × (length fields ≡ 16) × (frame ≡ framed (4 ∷ fields)))

answer_of : (frame body : List ℕ) → frame ≡ framed body → IsBody Crew body → Answer frame
answer_of frame body e (hello s b) = record { is = inl (e ∙ ap framed b) }
answer_of frame body e (load s fields b least most) = absurd cc
answer_of frame body e (work s fields b least most) = absurd cc
answer_of frame body e (reply s fields b size) = record { is = inr (fields, size, e ∙ ap framed b) }
answer_of frame body e (quit s b) = absurd cc

reply_size : (fields : List ℕ) → length fields ≡ 16 → length (framed (4 ∷ fields)) ≡ 21
reply_size fields size = length-framed (4 ∷ fields) ∙ (let l : 4 + length (4 ∷ fields) ≡ 21 = omega arith in l)

pub reply_long : (frame : List ℕ) → IsFrame Crew frame → length frame ≢ 9 → length frame ≡ 21
reply_long frame f other = elim ((answer_of frame f.body f.whole f.is_body).is) [
  | inl h ↦ absurd (other (ap length h ∙ length-framed hello_body))
  | inr r ↦ ap length r.2 ∙ reply_size r.0 r.1
]

pub spells_hello : (frame : List ℕ) → IsFrame Crew frame → length frame ≡ 9 → Spells Crew frame Hello
unfolding spelling
spells_hello frame f nine = elim ((answer_of frame f.body f.whole f.is_body).is) [
  | inl h ↦ record { sent = tt; spelled = h }
  | inr r ↦ absurd (let long = ap length r.2 ∙ reply_size r.0 r.1 in omega arith)
]

pub spells_reply : (frame : List ℕ) (code : ℕ) (key : Key) → IsFrame Crew frame → length frame ≡ 21 → code < 2 ^ 32 → IsKey key
    → take (length frame - 5) (drop 5 frame) ≡ le32 code ++ drop 4 (take (length frame - 5) (drop 5 frame))
    → take (length frame - 9) (drop 9 frame) ≡ key_bytes key ++ drop 12 (take (length frame - 9) (drop 9 frame)) → Spells Crew frame (Reply key code)
unfolding spelling
spells_reply frame code key f long below is c k = elim ((answer_of frame f.body f.whole f.is_body).is) [
  | inl h ↦ absurd (let nine = ap length h ∙ length-framed hello_body in omega arith)
  | inr r ↦ record { sent = (is, below); spelled = r.2 ∙ ap (λ l. framed (4 ∷ l)) (sym (fields_at_frame r.0 r.2) ∙ split) }
]
  where
    fields_at_frame : (fields : List ℕ) → frame ≡ framed (4 ∷ fields) → drop 5 frame ≡ fields
    fields_at_frame fields e = ap (drop 5) e ∙ fields_at 4 fields

    all_key : take (length frame - 9) (drop 9 frame) ≡ drop 9 frame
    all_key = take_rest frame 9

    none : drop 12 (drop 9 frame) ≡ []
    none = nil_from_length (drop 12 (drop 9 frame)) (let a = length-drop 12 (drop 9 frame) in let b = length-drop 9 frame in omega arith)

    key_is : drop 9 frame ≡ key_bytes key ++ []
    key_is = sym all_key ∙ (k ∙ ap (λ l. key_bytes key ++ l) (ap (drop 12) all_key ∙ none))

    all_code : take (length frame - 5) (drop 5 frame) ≡ drop 5 frame
    all_code = take_rest frame 5

    split : drop 5 frame ≡ le32 code ++ key_bytes key
    split = sym all_code ∙ (c ∙ ap (λ l. le32 code ++ l) (ap (drop 4) all_code ∙ (drop-drop 4 5 frame ∙ (key_is ∙ append-nil (key_bytes key)))))

-- ---- the spellings that are written

pub work_spelled : (loading : Bool) (key : Key) (payload : List ℕ) → work_head loading key (length payload) ++ payload ≡ work_spelling loading key payload
unfolding work_head spelling framed
work_spelled true key payload =
    append_assoc (le32 (13 + length payload)) (2 ∷ key_bytes key) payload
    ∙ ap (λ n. le32 n ++ 2 ∷ (key_bytes key ++ payload)) (let size = key_long key payload in let all : 13 + length payload ≡ length (2 ∷ (key_bytes key ++ payload)) = omega arith in all)
work_spelled false key payload =
    append_assoc (le32 (13 + length payload)) (3 ∷ key_bytes key) payload
    ∙ ap (λ n. le32 n ++ 3 ∷ (key_bytes key ++ payload)) (let size = key_long key payload in let all : 13 + length payload ≡ length (3 ∷ (key_bytes key ++ payload)) = omega arith in all)

pub length-work_head : (loading : Bool) (key : Key) (n : ℕ) → length (work_head loading key n) ≡ 17
unfolding work_head le32 le64
length-work_head true key n = refl
length-work_head false key n = refl

-- a frame that is laid over the beginning of some bytes
pub laid : (out payload : List ℕ) (loading : Bool) (key : Key) (k : ℕ) → length payload + 17 ≤ length out → k ≡ length payload
    → put_mid 17 k (work_head loading key (length payload) ++ drop 17 out) payload ≡ work_spelling loading key payload ++ drop (17 + length payload) out
laid out payload loading key k room is =
    let head = work_head loading key (length payload) in
    let size = length-work_head loading key (length payload) in
    let start = head ++ drop 17 out in
    let long : length start ≡ 17 + (length out - 17) = length-append head (drop 17 out) ∙ (let d = length-drop 17 out in omega arith) in
    let n = 17 + length payload in
    let front : take n (put_mid 17 k start payload) ≡ head ++ payload = take-put_mid 17 k start payload n refl (omega arith) ∙ ap (λ l. l ++ payload) (take_at head (drop 17 out) 17 size) in
    let back : drop n (put_mid 17 k start payload) ≡ drop n out =
    drop-put_mid 17 k start payload n (omega arith) (omega arith) (sym is)
    ∙ (sym (drop-drop (length payload) 17 start) ∙ (ap (drop (length payload)) (drop_at head (drop 17 out) 17 size) ∙ drop-drop (length payload) 17 out)) in
    sym (take-append-drop n (put_mid 17 k start payload)) ∙ (ap (λ l. l ++ drop n (put_mid 17 k start payload)) (front ∙ work_spelled loading key payload) ∙ ap (λ l. work_spelling loading key payload ++ l) back)

-- bytes at the beginning let go of what stands before them
pub moved : (bytes : List ℕ) (count len : ℕ) → count ≤ len → len ≤ length bytes → take (len - count) (copy_within bytes count len 0) ≡ drop count (take len bytes)
moved bytes count len within inside =
    let left = len - count in
    let size : length (take left (drop count bytes)) ≡ left = length-take-le left (drop count bytes) (let d = length-drop count bytes in omega arith) in
    let whole : count + left ≡ len = omega arith in
    take_at (take left (drop count bytes)) (drop (0 + left) bytes) left size ∙ (sym (drop-take count left bytes) ∙ ap (λ n. drop count (take n bytes)) whole)
