-- What is written one after the other.
use Rattle.std.proofs.Common.{◌≡◌, ℕ, suc, ◌+◌, ◌<◌, List, [], ◌∷◌, ◌++◌, length, take, get_or, map, Option, Some, None, refl, sym, ap, ◌∙◌, append_assoc, arith}
use Rattle.std.specs.Prelude.{fold, IsSome}
use Rattle.std.specs.Option.{option_map}
use Rattle.std.specs.List.{flat_map}
use Rattle.std.proofs.Math.Seq.{take-suc}
use Rattle.std.proofs.lemmas.List.{append-nil}
use Rattle.std.proofs.lemmas.List.Sums.{fold-append}
use Rattle.std.proofs.lemmas.Grind.{flat_map-append}
use Rattle.std.proofs.lemmas.List.Concat.{flat_map-cons}
use Rattle.state_hash.specs.Mixing.{mixed}
use Rattle.vk_form.specs.declared.writer.WordWriter.{WordWriter}
use Rattle.vk_form.specs.Shape.{number, Fields, Plains}
use Rattle.vk_form.specs.Words.{words, field_words}
use Rattle.vk_form.specs.Writes.{hashed, kept, Writes, WritesFields, done, then_field, then_optional}

some_before : {A B : Type 0} (o : Option A) (f : A → B) → IsSome (option_map f o) → IsSome o
some_before (Some x) f h = h
some_before None f h = h

appended_twice : (o : Option (List ℕ)) (u v : List ℕ) → option_map (λ (r : List ℕ). r ++ v) (option_map (λ (r : List ℕ). r ++ u) o) ≡ option_map (λ (r : List ℕ). r ++ (u ++ v)) o
appended_twice (Some r) u v = ap Some (append_assoc r u v)
appended_twice None u v = refl

appended_nothing : (o : Option (List ℕ)) → option_map (λ (r : List ℕ). r ++ []) o ≡ o
appended_nothing (Some r) = ap Some (append-nil r)
appended_nothing None = refl

pub nothing_written : (w : WordWriter) → Writes w [] w
nothing_written w = record { hashes = refl; keeps = λ _. sym (appended_nothing (kept w)) }

pub then_written : {a b c : WordWriter} {u v : List ℕ} → Writes a u b → Writes b v c → Writes a (u ++ v) c
then_written {a} {b} {c} {u} {v} first second =
    record {
      hashes = second.hashes ∙ ap (λ (h : ℕ). fold mixed h v) first.hashes ∙ sym (fold-append mixed (hashed a) u v);
      keeps = λ there.
          let now = second.keeps there in
          let before : IsSome (kept b) = some_before (kept b) (λ (r : List ℕ). r ++ v) (rw (← now) there) in
          now ∙ ap (option_map (λ (r : List ℕ). r ++ v)) (first.keeps before) ∙ appended_twice (kept a) u v;
    }

pub written_as : {a b : WordWriter} {u v : List ℕ} → u ≡ v → Writes a u b → Writes a v b
written_as e w = rw (← e) w

-- one element more
pub one_more : {A : Type 0} (f : A → List ℕ) {a b c : WordWriter} (xs : List A) (i : ℕ) (x : A) → Writes a (flat_map f (take i xs)) b → Writes b (f x) c → i < length xs → x ≡ get_or xs i x → Writes a (flat_map f (take (i + 1) xs)) c
one_more f {a} {b} {c} xs i x before now within found =
    let next : i + 1 ≡ suc i = omega arith in
    let whole : take (i + 1) xs ≡ take i xs ++ x ∷ [] = ap (λ n. take n xs) next ∙ take-suc xs i x within ∙ ap (λ y. take i xs ++ y ∷ []) (sym found) in
    let split : flat_map f (take (i + 1) xs) ≡ flat_map f (take i xs) ++ f x =
    ap (flat_map f) whole ∙ flat_map-append f (take i xs) (x ∷ []) ∙ ap (λ (l : List ℕ). flat_map f (take i xs) ++ l) (append-nil (f x)) in
    written_as (sym split) (then_written before now)

all_written : {fs : Fields} {old new : WordWriter} {xs : Plains fs} → WritesFields fs old xs new → Writes old (field_words fs xs) new
all_written (done {w}) = nothing_written w
all_written (then_field first more) = then_written first (all_written more)
all_written (then_optional first more) = then_written first (all_written more)

pub fields_written : (fs : Fields) (xs : Plains fs) (old new : WordWriter) → WritesFields fs old xs new → Writes old (field_words fs xs) new
fields_written fs xs old new h = all_written h

-- each number is one word
pub numbers_are_words : (xs : List ℕ) → flat_map (words number) xs ≡ xs
numbers_are_words [] = refl
numbers_are_words (x ∷ xs) = flat_map-cons (words number) x xs ∙ ap (λ (l : List ℕ). x ∷ l) (numbers_are_words xs)

-- the words of each structure are those of each plain value
pub words_of_each : {A B : Type 0} (f : B → List ℕ) (plain : A → B) (xs : List A) → flat_map (λ x. f (plain x)) xs ≡ flat_map f (map plain xs)
words_of_each f plain [] = refl
words_of_each f plain (x ∷ xs) = flat_map-cons (λ x. f (plain x)) x xs ∙ ap (λ (l : List ℕ). f (plain x) ++ l) (words_of_each f plain xs) ∙ sym (flat_map-cons f (plain x) (map plain xs))
