-- What stands at the beginning of the bytes that a crew reads.
use Rattle.std.proofs.Common.{ℕ, ◌≡◌, ◌≢◌, ◌+◌, ◌-◌, ◌<◌, ◌≤◌, ◌⊎◌, inl, inr, cond, ltb, List, [], ◌∷◌, ◌++◌, length, get_or, take, drop, refl, ap, sym, subst, ◌∙◌, append_assoc, arith}
use Rattle.std.proofs.lemmas.Bool.{cases_lt, cases_eq}
use Rattle.std.proofs.lemmas.List.{append-nil, length-append, take-append-drop, length-take-le, length-drop, take_all, drop_more, nil_from_length, get_or_append_left, get_or_at, get_or-take}
use Rattle.foz_words.specs.Bytes.{le32}
use Rattle.worker_msg.specs.Frames.{IsBody, hello, load, work, reply, quit, framed, hello_body}
use Rattle.worker_msg.specs.Fronts as fronts
use Rattle.worker_msg.specs.Fronts.{Begins, IsPartial, IsBad, IsWhole, IsHead, hello_head, reply_head}
use Rattle.worker_msg.specs.declared.side.Side.TheVariants.{Crew}
use Rattle.worker_msg.proofs.Parts.{partial_of, whole_of, zeros, length-zeros}

-- a frame of a crew, by its head and what follows
record Spelled (body head : List ℕ) (more : ℕ) : Type 0 where
  tail : List ℕ
  is_head : IsHead head more
  size : length tail ≡ more
  parts : framed body ≡ head ++ tail

framed_hello : framed hello_body ≡ hello_head
unfolding framed le32
framed_hello = refl

framed_reply : (fields : List ℕ) → length fields ≡ 16 → framed (4 ∷ fields) ≡ reply_head ++ fields
unfolding framed le32
framed_reply fields size = ap (λ n. le32 n ++ 4 ∷ fields) (let all : length (4 ∷ fields) ≡ 17 = omega arith in all)

body_of_head : (head : List ℕ) (more : ℕ) (tail : List ℕ) → IsHead head more → length tail ≡ more → (body : List ℕ) × IsBody Crew body × (framed body ≡ head ++ tail)
body_of_head head more tail (fronts.hello h m) size =
    let none : tail ≡ [] = nil_from_length tail (size ∙ m) in
    (hello_body, hello refl refl, framed_hello ∙ (sym (append-nil hello_head) ∙ (ap (λ l. l ++ []) (sym h) ∙ ap (λ l. head ++ l) (sym none))))
body_of_head head more tail (fronts.reply h m) size = (4 ∷ tail, reply refl tail refl (size ∙ m), framed_reply tail (size ∙ m) ∙ ap (λ l. l ++ tail) (sym h))

head_of_body : (body : List ℕ) → IsBody Crew body → (head : List ℕ) × (more : ℕ) × Spelled body head more
head_of_body body (hello s e) = (hello_head, 0, record { tail = []; is_head = fronts.hello refl refl; size = refl; parts = ap framed e ∙ (framed_hello ∙ sym (append-nil hello_head)) })
head_of_body body (load s fields e least most) = absurd cc
head_of_body body (work s fields e least most) = absurd cc
head_of_body body (reply s fields e size) = (reply_head, 16, record { tail = fields; is_head = fronts.reply refl refl; size = size; parts = ap framed e ∙ framed_reply fields size })
head_of_body body (quit s e) = absurd cc

first_of : (head : List ℕ) (more : ℕ) → IsHead head more → ((get_or head 0 0 ≡ 5) × (head ≡ hello_head)) ⊎ ((get_or head 0 0 ≡ 17) × (head ≡ reply_head))
first_of head more (fronts.hello h m) = inl (ap (λ l. get_or l 0 0) h, h)
first_of head more (fronts.reply h m) = inr (ap (λ l. get_or l 0 0) h, h)

-- two heads that begin with one byte are one
same_head : (head other : List ℕ) (more others : ℕ) → IsHead head more → IsHead other others → get_or head 0 0 ≡ get_or other 0 0 → head ≡ other
same_head head other more others p q e =
    elim (first_of head more p) [
      | inl a ↦ elim (first_of other others q) [ inl b ↦ a.1 ∙ sym b.1 | inr b ↦ absurd (let x = a.0 in let y = b.0 in omega arith) ]
      | inr a ↦ elim (first_of other others q) [ inl b ↦ absurd (let x = a.0 in let y = b.0 in omega arith) | inr b ↦ a.1 ∙ sym b.1 ]
    ]

some_head : (head : List ℕ) (more : ℕ) → IsHead head more → 4 < length head
some_head head more (fronts.hello h m) = let long = ap length h in omega arith
some_head head more (fronts.reply h m) = let long = ap length h in omega arith

partial_in : (head bytes rest tail : List ℕ) (more : ℕ) → IsHead head more → length tail ≡ more → head ++ tail ≡ bytes ++ rest → length bytes < length head + more → IsPartial Crew bytes
partial_in head bytes rest tail more is size e shorter =
    let b = body_of_head head more tail is size in
    partial_of Crew b.0 bytes rest b.1 (b.2 ∙ e) (let all = ap length b.2 ∙ length-append head tail in omega arith)

pub empty : IsPartial Crew []
empty = partial_in hello_head [] hello_head [] 0 (fronts.hello refl refl) refl refl (omega arith)

pub partial : (bytes head : List ℕ) (more : ℕ) → IsHead head more → take (length head) bytes ≡ take (length bytes) head → length bytes < length head + more → IsPartial Crew bytes
partial bytes head more is same shorter =
    elim (cases_lt (length head) (length bytes)) [
      | inl past ↦
          let front : take (length head) bytes ≡ head = same ∙ take_all (length bytes) head (omega arith) in
          let behind = drop (length head) bytes in
          let lacking = more - length behind in
          let left : length behind ≡ length bytes - length head = length-drop (length head) bytes in
          let parts : bytes ≡ head ++ behind = sym (take-append-drop (length head) bytes) ∙ ap (λ l. l ++ behind) front in
          partial_in head bytes (zeros lacking) (behind ++ zeros lacking) more is (let l = length-append behind (zeros lacking) in let z = length-zeros lacking in omega arith)
          (sym (append_assoc head behind (zeros lacking)) ∙ ap (λ l. l ++ zeros lacking) (sym parts)) shorter
      | inr within ↦
          let front : bytes ≡ take (length bytes) head = sym (take_all (length head) bytes within) ∙ same in
          let parts : head ≡ bytes ++ drop (length bytes) head = sym (take-append-drop (length bytes) head) ∙ ap (λ l. l ++ drop (length bytes) head) (sym front) in
          partial_in head bytes (drop (length bytes) head ++ zeros more) (zeros more) more is (length-zeros more)
          (ap (λ l. l ++ zeros more) parts ∙ append_assoc bytes (drop (length bytes) head) (zeros more)) shorter
    ]

pub whole : (bytes head : List ℕ) (more : ℕ) → IsHead head more → take (length head) bytes ≡ take (length bytes) head → length head + more ≤ length bytes → IsWhole Crew bytes (length head + more)
whole bytes head more is same enough =
    let front : take (length head) bytes ≡ head = same ∙ take_all (length bytes) head (omega arith) in
    let behind = drop (length head) bytes in
    let left : length behind ≡ length bytes - length head = length-drop (length head) bytes in
    let tail : length (take more behind) ≡ more = length-take-le more behind (omega arith) in
    let b = body_of_head head more (take more behind) is tail in
    let parts : bytes ≡ head ++ behind = sym (take-append-drop (length head) bytes) ∙ ap (λ l. l ++ behind) front in
    let cut : bytes ≡ (head ++ take more behind) ++ drop more behind = parts ∙ (ap (λ l. head ++ l) (sym (take-append-drop more behind)) ∙ sym (append_assoc head (take more behind) (drop more behind))) in
    whole_of Crew b.0 bytes (drop more behind) (length head + more) b.1 (cut ∙ ap (λ l. l ++ drop more behind) (sym b.2)) (ap length b.2 ∙ (length-append head (take more behind) ∙ ap (λ n. length head + n) tail))

pub bad_at : (bytes head : List ℕ) (more at : ℕ) → IsHead head more → at < length bytes → at < length head → take at bytes ≡ take at head → get_or bytes at 0 ≢ get_or head at 0 → get_or bytes 0 0 ≡ get_or head 0 0 → IsBad Crew bytes (cond (ltb at 4) 0 at)
bad_at bytes head more at is in_bytes in_head same differ first =
    let size : length (take at bytes) ≡ at = length-take-le at bytes (omega arith) in
    let parts : head ++ zeros more ≡ take at bytes ++ (drop at head ++ zeros more) = ap (λ l. l ++ zeros more) (sym (take-append-drop at head)) ∙ (append_assoc (take at head) (drop at head) (zeros more) ∙ ap (λ l. l ++ (drop at head ++ zeros more)) (sym same)) in record {
      good = take at bytes;
      byte = get_or bytes at 0;
      more = drop (at + 1) bytes;
      parts = sym (take-append-drop at bytes) ∙ ap (λ l. take at bytes ++ l) (drop_more bytes at 0 in_bytes);
      partial = partial_in head (take at bytes) (drop at head ++ zeros more) (zeros more) more is (length-zeros more) parts (omega arith);
      none = none;
      at = ap (λ l. cond (ltb l 4) 0 l) (sym size);
    }
  where
    none : Begins Crew (take at bytes ++ get_or bytes at 0 ∷ []) → ⊥
    none b =
        let s = head_of_body b.body b.is_body in
        let other = s.0 in
        let spelled = s.2 in
        let other_long = some_head other s.1 spelled.is_head in
        let size : length (take at bytes) ≡ at = length-take-le at bytes (omega arith) in
        let e : other ++ spelled.tail ≡ take at bytes ++ (get_or bytes at 0 ∷ b.rest) = sym spelled.parts ∙ (b.parts ∙ append_assoc (take at bytes) (get_or bytes at 0 ∷ []) b.rest) in
        let reads_at : get_or (other ++ spelled.tail) at 0 ≡ get_or bytes at 0 = ap (λ l. get_or l at 0) e ∙ get_or_at (take at bytes) (get_or bytes at 0) b.rest 0 at size in
        let reads_first : get_or (other ++ spelled.tail) 0 0 ≡ get_or bytes 0 0 = elim (cases_eq at 0) [
          | inl here ↦ absurd (differ (subst (λ n. get_or bytes n 0 ≡ get_or head n 0) (sym here) first))
          | inr past ↦ ap (λ l. get_or l 0 0) e ∙ (get_or_append_left (take at bytes) (get_or bytes at 0 ∷ b.rest) 0 0 (omega arith) ∙ (ap (λ l. get_or l 0 0) same ∙ (head_first past ∙ sym first)))
        ] in
        let begins : get_or other 0 0 ≡ get_or head 0 0 = sym (get_or_append_left other spelled.tail 0 0 (omega arith)) ∙ (reads_first ∙ first) in
        let one : other ≡ head = same_head other head s.1 more spelled.is_head is begins in
        differ (sym reads_at ∙ (get_or_append_left other spelled.tail 0 at (subst (λ (l : List ℕ). at < length l) (sym one) in_head) ∙ ap (λ l. get_or l at 0) one))
      where
        head_first : (at ≡ 0 → ⊥) → get_or (take at head) 0 0 ≡ get_or head 0 0
        head_first past = get_or-take at head 0 0 (omega arith)

pub other : (b : ℕ) (bytes : List ℕ) → b ≢ 5 → b ≢ 17 → IsBad Crew (b ∷ bytes) 0
other b bytes not_hello not_reply = record { good = []; byte = b; more = bytes; parts = refl; partial = empty; none = none; at = refl }
  where
    none : Begins Crew (b ∷ []) → ⊥
    none begins =
        let s = head_of_body begins.body begins.is_body in
        let spelled = s.2 in
        let long = some_head s.0 s.1 spelled.is_head in
        let first : get_or s.0 0 0 ≡ b = sym (get_or_append_left s.0 spelled.tail 0 0 (omega arith)) ∙ ap (λ l. get_or l 0 0) (sym spelled.parts ∙ begins.parts) in
        elim (first_of s.0 s.1 spelled.is_head) [ inl h ↦ not_hello (sym first ∙ h.0) | inr h ↦ not_reply (sym first ∙ h.0) ]
