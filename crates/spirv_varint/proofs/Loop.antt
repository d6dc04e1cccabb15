-- Reading varints byte by byte.
use Rattle.std.proofs.Common.{ℕ, ◌≡◌, ◌≢◌, ◌+◌, ◌*◌, ◌%◌, ◌^◌, ◌<◌, ◌≤◌, List, [], ◌∷◌, ◌++◌, length, get_or, take, drop, refl, ap, sym, subst, ◌∙◌, append_assoc, arith}
use Rattle.std.proofs.lemmas.List.{append-nil, length-append, take-append-drop, drop_more, take_more, nil_from_length, length-drop}
use Rattle.spirv_varint.specs.Varint.{number_of, GoOn, IsVarint}
use Rattle.spirv_varint.specs.Reading.{Splits, IsShort, IsTooLarge, HasExtra}
use Rattle.spirv_varint.proofs.Numbers.{GoOn-push, number_of-push}

Splits-more : (words bytes rest more : List ℕ) → Splits bytes words rest → Splits (bytes ++ more) words (rest ++ more)
unfolding Splits
Splits-more [] bytes rest more s = ap (λ bs. bs ++ more) s
Splits-more (w ∷ ws) bytes rest more s = (s.0, s.1 ++ more, s.2, ap (λ bs. bs ++ more) s.3 ∙ append_assoc s.0 s.1 more, Splits-more ws s.1 rest more s.4)

Splits-push : (words bytes varint : List ℕ) (word : ℕ) → Splits bytes words varint → IsVarint varint word → Splits bytes (words ++ word ∷ []) []
unfolding Splits
Splits-push [] bytes varint word s v = (varint, [], v, s ∙ sym (append-nil varint), refl)
Splits-push (w ∷ ws) bytes varint word s v = (s.0, s.1, s.2, s.3, Splits-push ws s.1 varint word s.4 v)

-- what follows the bytes so far
resumed : (words bytes front : List ℕ) (at : ℕ) → at < length bytes → Splits (take at bytes) words front → Splits bytes words (front ++ get_or bytes at 0 ∷ drop (at + 1) bytes)
resumed words bytes front at lt s =
    subst (λ (bs : List ℕ). Splits bs words (front ++ get_or bytes at 0 ∷ drop (at + 1) bytes)) (take-append-drop at bytes)
    (subst (λ (rest : List ℕ). Splits (take at bytes ++ drop at bytes) words (front ++ rest)) (drop_more bytes at 0 lt)
    (Splits-more words (take at bytes) front (drop at bytes) s))

-- one byte more
stepped : (words bytes front : List ℕ) (at : ℕ) → at < length bytes → Splits (take at bytes) words front → Splits (take (at + 1) bytes) words (front ++ get_or bytes at 0 ∷ [])
stepped words bytes front at lt s = subst (λ (bs : List ℕ). Splits bs words (front ++ get_or bytes at 0 ∷ [])) (sym (take_more bytes at 0 lt)) (Splits-more words (take at bytes) front (get_or bytes at 0 ∷ []) s)

place_of : (bytes : List ℕ) (at : ℕ) → at < length bytes → at + length (get_or bytes at 0 ∷ drop (at + 1) bytes) ≡ length bytes
place_of bytes at lt = let rest = length-drop (at + 1) bytes in omega arith

-- the bytes so far are varints of the words found, and then the beginning of one of which so many bytes were taken
pub record Begun (bytes found : List ℕ) (word taken count : ℕ) : Type 0 where
  pub front : List ℕ
  pub split : Splits bytes found front
  pub goes_on : GoOn front
  pub size : length front ≡ taken
  pub most : taken ≤ 4
  pub value : word ≡ number_of front
  pub within : length found ≤ count
  pub closed : length found ≡ count → taken ≡ 0

pub begin : (count : ℕ) → Begun [] [] 0 0 count
unfolding Splits number_of
begin count = record { front = []; split = refl; goes_on = tt; size = refl; most = omega arith; value = refl; within = omega arith; closed = λ _. refl }

pub extra : (bytes found : List ℕ) (word taken count at : ℕ) → Begun (take at bytes) found word taken count → at < length bytes → length found ≡ count → HasExtra bytes count at
extra bytes found word taken count at b lt all =
    let none : b.front ≡ [] = nil_from_length b.front (b.size ∙ b.closed all) in record {
      words = found;
      first = get_or bytes at 0;
      more = drop (at + 1) bytes;
      split = subst (λ (f : List ℕ). Splits bytes found (f ++ get_or bytes at 0 ∷ drop (at + 1) bytes)) none (resumed found bytes b.front at lt b.split);
      all = all;
      place = place_of bytes at lt;
    }

pub too_large : (bytes found : List ℕ) (word taken count at : ℕ) → Begun (take at bytes) found word taken count → at < length bytes → length found ≢ count → taken ≡ 4 → 15 < get_or bytes at 0 → IsTooLarge bytes count at
too_large bytes found word taken count at b lt fewer four large = record {
  words = found;
  begun = b.front;
  fifth = get_or bytes at 0;
  more = drop (at + 1) bytes;
  split = resumed found bytes b.front at lt b.split;
  fewer = let within = b.within in omega arith;
  goes_on = b.goes_on;
  size = b.size ∙ four;
  large = large;
  place = place_of bytes at lt;
}

module _ (bytes found : List ℕ) (word taken count at next : ℕ) (b : Begun (take at bytes) found word taken count) (lt : at < length bytes) (fewer : length found ≢ count) (fifth : taken ≡ 4 → get_or bytes at 0 ≤ 15) (joined : next ≡ word + 128 ^ taken * (get_or bytes at 0 % 128)) where
  value_of : next ≡ number_of (b.front ++ get_or bytes at 0 ∷ [])
  value_of = joined ∙ (ap (λ n. n + 128 ^ taken * (get_or bytes at 0 % 128)) b.value ∙ (ap (λ n. number_of b.front + 128 ^ n * (get_or bytes at 0 % 128)) (sym b.size) ∙ sym (number_of-push b.front (get_or bytes at 0))))

  pub goes_on : 128 ≤ get_or bytes at 0 → get_or bytes at 0 < 256 → Begun (take (at + 1) bytes) found next (taken + 1) count
  goes_on least most = record {
    front = b.front ++ get_or bytes at 0 ∷ [];
    split = stepped found bytes b.front at lt b.split;
    goes_on = GoOn-push b.front (get_or bytes at 0) b.goes_on least most;
    size = length-append b.front (get_or bytes at 0 ∷ []) ∙ ap (λ n. n + 1) b.size;
    most = let four : taken ≢ 4 = λ same. (let f = fifth same in omega arith) in let up = b.most in omega arith;
    value = value_of;
    within = b.within;
    closed = λ all. absurd (fewer all);
  }

  pub ends : get_or bytes at 0 < 128 → Begun (take (at + 1) bytes) (found ++ next ∷ []) 0 0 count
  unfolding number_of
  ends last = record {
    front = [];
    split = Splits-push found (take (at + 1) bytes) (b.front ++ get_or bytes at 0 ∷ []) next (stepped found bytes b.front at lt b.split) whole;
    goes_on = tt;
    size = refl;
    most = omega arith;
    value = refl;
    within = let within = b.within in let long = length-append found (next ∷ []) in omega arith;
    closed = λ _. refl;
  }
    where
      whole : IsVarint (b.front ++ get_or bytes at 0 ∷ []) next
      whole = record {
        front = b.front;
        last = get_or bytes at 0;
        whole = refl;
        goes_on = b.goes_on;
        ends = last;
        size = let size = b.size in let most = b.most in omega arith;
        fifth = λ four. fifth (sym b.size ∙ four);
        value = value_of;
      }

pub short : (bytes found : List ℕ) (word taken count : ℕ) → Begun bytes found word taken count → length found < count → IsShort bytes count (length bytes)
short bytes found word taken count b fewer = record {
  words = found;
  begun = b.front;
  split = b.split;
  fewer = fewer;
  goes_on = b.goes_on;
  size = let size = b.size in let most = b.most in omega arith;
  place = refl;
}

pub whole : (bytes found : List ℕ) (word taken count : ℕ) → Begun bytes found word taken count → count ≤ length found → Splits bytes found [] × (length found ≡ count)
whole bytes found word taken count b least =
    let within = b.within in
    let all : length found ≡ count = omega arith in
    (subst (λ (f : List ℕ). Splits bytes found f) (nil_from_length b.front (b.size ∙ b.closed all)) b.split, all)
