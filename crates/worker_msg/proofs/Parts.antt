-- Frames and their beginnings.
use Rattle.std.proofs.Common.{ℕ, ◌≡◌, ◌≢◌, ◌+◌, ◌^◌, ◌<◌, ◌⊎◌, inl, inr, List, [], ◌∷◌, ◌++◌, length, take, drop, replicate, refl, ap, sym, ◌∙◌, append_assoc, arith}
use Rattle.std.proofs.lemmas.List.{length-append, length-replicate, take_at, drop_at}
use Rattle.foz_words.specs.Bytes.{le32}
use Rattle.foz_words.proofs.Words.{length-le32, le32-append-injective}
use Rattle.worker_msg.specs.Frames.{IsBody, hello, load, work, reply, quit, framed}
use Rattle.worker_msg.specs.Fronts.{Begins, IsPartial, IsWhole}
use Rattle.worker_msg.specs.declared.side.Side.{Side}

pub length-framed : (body : List ℕ) → length (framed body) ≡ 4 + length body
unfolding framed
length-framed body = length-append (le32 (length body)) body ∙ ap (λ n. n + length body) (length-le32 (length body))

pub body_short : (side : Side) (body : List ℕ) → IsBody side body → length body < 2 ^ 32
body_short side body (hello s e) = let long = ap length e in omega arith
body_short side body (load s fields e least most) = let long = ap length e in omega arith
body_short side body (work s fields e least most) = let long = ap length e in omega arith
body_short side body (reply s fields e size) = let long = ap length e in omega arith
body_short side body (quit s e) = let long = ap length e in omega arith

same_fronts : (a b x y : List ℕ) → length a ≡ length b → a ++ x ≡ b ++ y → (a ≡ b) × (x ≡ y)
same_fronts a b x y long e = (sym (take_at a x (length b) long) ∙ (ap (take (length b)) e ∙ take_at b y (length b) refl), sym (drop_at a x (length b) long) ∙ (ap (drop (length b)) e ∙ drop_at b y (length b) refl))

-- no frame begins another
pub one_frame : (a b x y : List ℕ) → length a < 2 ^ 32 → length b < 2 ^ 32 → framed a ++ x ≡ framed b ++ y → (a ≡ b) × (x ≡ y)
unfolding framed
one_frame a b x y short_a short_b e =
    let both : le32 (length a) ++ (a ++ x) ≡ le32 (length b) ++ (b ++ y) = sym (append_assoc (le32 (length a)) a x) ∙ (e ∙ append_assoc (le32 (length b)) b y) in
    let inner = le32-append-injective (length a) (length b) (a ++ x) (b ++ y) short_a short_b both in
    same_fronts a b x y inner.0 inner.1

pub Begins-front : (side : Side) (bytes more : List ℕ) → Begins side (bytes ++ more) → Begins side bytes
Begins-front side bytes more b = record { body = b.body; rest = more ++ b.rest; is_body = b.is_body; parts = b.parts ∙ append_assoc bytes more b.rest }

-- the beginning of a frame that is longer
pub partial_of : (side : Side) (body bytes rest : List ℕ) → IsBody side body → framed body ≡ bytes ++ rest → length bytes < length (framed body) → IsPartial side bytes
partial_of side body bytes rest is_body parts shorter = record { begins = record { body = body; rest = rest; is_body = is_body; parts = parts }; more = some }
  where
    some : rest ≢ []
    some none =
        let long : length (framed body) ≡ length bytes + length rest = ap length parts ∙ length-append bytes rest in
        let nothing : length rest ≡ 0 = ap length none in
        omega arith

-- one of two beginnings of a list goes on as the other
pub comparable : (a x b y : List ℕ) → a ++ x ≡ b ++ y → ((d : List ℕ) × (b ≡ a ++ d) × (x ≡ d ++ y)) ⊎ ((d : List ℕ) × (a ≡ b ++ d) × (y ≡ d ++ x))
comparable [] x b y e = inl (b, refl, e)
comparable (h ∷ t) x [] y e = inr (h ∷ t, refl, sym e)
comparable (h ∷ t) x (k ∷ s) y e =
    let same : h ≡ k = cc in
    let rest : t ++ x ≡ s ++ y = cc in
    elim (comparable t x s y rest) [
      | inl l ↦ inl (l.0, ap (λ n. n ∷ s) (sym same) ∙ ap (λ l. h ∷ l) l.1, l.2)
      | inr r ↦ inr (r.0, ap (λ n. n ∷ t) same ∙ ap (λ l. k ∷ l) r.1, r.2)
    ]

unfoldable pub zeros : ℕ → List ℕ
zeros n = replicate n 0

pub length-zeros : (n : ℕ) → length (zeros n) ≡ n
unfolding zeros
length-zeros n = length-replicate n 0

pub whole_of : (side : Side) (body bytes back : List ℕ) (len : ℕ) → IsBody side body → bytes ≡ framed body ++ back → length (framed body) ≡ len → IsWhole side bytes len
whole_of side body bytes back len is_body e size = record {
  body = body;
  is_body = is_body;
  parts = e ∙ ap (λ l. framed body ++ l) (sym (ap (drop len) e ∙ drop_at (framed body) back len size));
  size = size;
}
