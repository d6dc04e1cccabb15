-- A JSON value that was read is no larger than its text.
use Rattle.std.proofs.Common.{◌≡◌, ℕ, zero, suc, ◌+◌, ◌≤◌, List, [], ◌∷◌, length, Option, Some, None, option_map, option_and_then, Ordering, Less, Equal, Greater, refl, subst, arith}
use Rattle.std.specs.Prelude.{⊤}
use Rattle.std.specs.Ordering.{nat_cmp, match_ordering}
use Rattle.std.specs.Cmp.Lexicographic.{slice_cmp}
use Rattle.json.specs.Token.{Token}
use Rattle.json.specs.Lex.{tokens}
use Rattle.json.specs.Json as json
use Rattle.json.specs.Json.{Parse, parse_map, after_end_array, read_key, items_step, members_step, items, members, value_with, value, if_last}
use Rattle.serde_json.specs.Data.{Data, number, array, object, item, Members, no_members, member, put}
use Rattle.serde_json.specs.Read.{number_of, of_json, of_items, of_members, max_depth, read}
use Rattle.state_json.proofs.Size.{size, items_size, members_size}
use Rattle.state_json.proofs.TokenSize.{tokens_size, tokens_fit}

-- ---- the grammar

abbrev mutual
  json_size : json.Json → ℕ
  json_size json.null = 1
  json_size (json.boolean b) = 1
  json_size (json.number s) = 1
  json_size (json.string s) = 1 + length s
  json_size (json.array js) = 1 + json_items_size js
  json_size (json.object ms) = 1 + json_members_size ms

  json_items_size : json.Items → ℕ
  json_items_size json.no_items = 0
  json_items_size (json.item j js) = json_size j + json_items_size js

  json_members_size : json.Members → ℕ
  json_members_size json.no_members = 0
  json_members_size (json.member k j ms) = json_size j + json_members_size ms

-- what was read and what is left are no larger than n
abbrev Fits : {A : Type 0} → (A → ℕ) → ℕ → Option (A × List Token) → Type 0
Fits f n None = ⊤
Fits f n (Some p) = f p.0 + tokens_size p.1 ≤ n

abbrev AllFit : {A : Type 0} → (A → ℕ) → Parse A → Type 0
AllFit f p = (ts : List Token) → Fits f (tokens_size ts) (p ts)

mapped : {A B : Type 0} (f : A → ℕ) (g : B → ℕ) (m n : ℕ) (h : A → B) → ((a : A) (r : ℕ) → f a + r ≤ m → g (h a) + r ≤ n) → (o : Option (A × List Token)) → Fits f m o → Fits g n (parse_map h o)
mapped f g m n h k None x = tt
mapped f g m n h k (Some p) x = k p.0 (tokens_size p.1) x

and_more : {B : Type 0} (g : B → ℕ) (n : ℕ) (h : json.Json → B → B) → ((j : json.Json) (b : B) → g (h j b) ≡ json_size j + g b) → (more : Parse B) → AllFit g more
    → (o : Option (json.Json × List Token)) → Fits json_size n o → Fits g n (option_and_then (λ q. parse_map (h q.0) (more q.1)) o)
and_more g n h is more fit None x = tt
and_more g n h is more fit (Some q) x = mapped g g (tokens_size q.1) n (h q.0) (λ b r y. omega (arith, is q.0 b)) _ (fit q.1)

abbrev RestFits : ℕ → Option (List Token) → Type 0
RestFits n None = ⊤
RestFits n (Some rest) = tokens_size rest ≤ n

end_fits : (ts : List Token) → RestFits (tokens_size ts) (after_end_array ts)
end_fits [] = tt
end_fits (Token.begin_object ∷ ts) = tt
end_fits (Token.end_object ∷ ts) = tt
end_fits (Token.begin_array ∷ ts) = tt
end_fits (Token.end_array ∷ ts) = omega arith
end_fits (Token.key s ∷ ts) = tt
end_fits (Token.string s ∷ ts) = tt
end_fits (Token.number s ∷ ts) = tt
end_fits (Token.boolean b ∷ ts) = tt
end_fits (Token.null ∷ ts) = tt
end_fits (Token.bad ∷ ts) = tt

key_fits : (ts : List Token) → Fits (λ _. 0) (tokens_size ts) (read_key ts)
key_fits [] = tt
key_fits (Token.begin_object ∷ ts) = tt
key_fits (Token.end_object ∷ ts) = omega arith
key_fits (Token.begin_array ∷ ts) = tt
key_fits (Token.end_array ∷ ts) = tt
key_fits (Token.key s ∷ ts) = omega arith
key_fits (Token.string s ∷ ts) = tt
key_fits (Token.number s ∷ ts) = tt
key_fits (Token.boolean b ∷ ts) = tt
key_fits (Token.null ∷ ts) = tt
key_fits (Token.bad ∷ ts) = tt

weaker : {A : Type 0} (f : A → ℕ) (m n : ℕ) (o : Option (A × List Token)) → m ≤ n → Fits f m o → Fits f n o
weaker f m n None le x = tt
weaker f m n (Some p) le x = omega arith

module _ (p : Parse json.Json) (fit : AllFit json_size p) where
  item_turn : (more : Parse json.Items) → AllFit json_items_size more → (ts : List Token) (o : Option (List Token)) → RestFits (tokens_size ts) o → Fits json_items_size (tokens_size ts) (items_step p more ts o)
  item_turn more again ts (Some r) x = omega arith
  item_turn more again ts None x = and_more json_items_size (tokens_size ts) json.item (λ j b. refl) more again (p ts) (fit ts)

  items_fit : (n : ℕ) → AllFit json_items_size (items p n)
  unfolding items
  items_fit zero ts = tt
  items_fit (suc n) ts = item_turn (items p n) (items_fit n) ts (after_end_array ts) (end_fits ts)

  member_turn : (more : Parse json.Members) → AllFit json_members_size more → (n : ℕ) (o : Option (Option (List ℕ) × List Token)) → Fits (λ _. 0) n o → Fits json_members_size n (option_and_then (λ q. members_step p more q.0 q.1) o)
  member_turn more again n None x = tt
  member_turn more again n (Some (None, s)) x = x
  member_turn more again n (Some (Some k, s)) x =
      let le : tokens_size s ≤ n = omega arith in
      weaker json_members_size (tokens_size s) n _ le (and_more json_members_size (tokens_size s) (json.member k) (λ j b. refl) more again (p s) (fit s))

  members_fit : (n : ℕ) → AllFit json_members_size (members p n)
  unfolding members
  members_fit zero ts = tt
  members_fit (suc n) ts = member_turn (members p n) (members_fit n) (tokens_size ts) (read_key ts) (key_fits ts)

one_level : (a : Parse json.Items) (o : Parse json.Members) → AllFit json_items_size a → AllFit json_members_size o → AllFit json_size (value_with a o)
one_level a o p q [] = tt
one_level a o p q (Token.begin_object ∷ ts) = mapped json_members_size json_size (tokens_size ts) _ json.object (λ b r y. omega arith) (o ts) (q ts)
one_level a o p q (Token.end_object ∷ ts) = tt
one_level a o p q (Token.begin_array ∷ ts) = mapped json_items_size json_size (tokens_size ts) _ json.array (λ b r y. omega arith) (a ts) (p ts)
one_level a o p q (Token.end_array ∷ ts) = tt
one_level a o p q (Token.key s ∷ ts) = tt
one_level a o p q (Token.string s ∷ ts) = omega arith
one_level a o p q (Token.number s ∷ ts) = omega arith
one_level a o p q (Token.boolean b ∷ ts) = omega arith
one_level a o p q (Token.null ∷ ts) = omega arith
one_level a o p q (Token.bad ∷ ts) = tt

value_fits : (depth : ℕ) → AllFit json_size (value depth)
unfolding value
value_fits zero = one_level (λ ts. None) (λ ts. None) (λ ts. tt) (λ ts. tt)
value_fits (suc depth) =
    one_level (λ ts. items (value depth) (length ts) ts) (λ ts. members (value depth) (length ts) ts)
    (λ ts. items_fit (value depth) (value_fits depth) (length ts) ts) (λ ts. members_fit (value depth) (value_fits depth) (length ts) ts)

-- ---- the value of the grammar's tree

abbrev AtMost : {A : Type 0} → (A → ℕ) → ℕ → Option A → Type 0
AtMost f n None = ⊤
AtMost f n (Some a) = f a ≤ n

AtMost-map : {A B : Type 0} (f : A → ℕ) (g : B → ℕ) (m n : ℕ) (h : A → B) → ((a : A) → f a ≤ m → g (h a) ≤ n) → (o : Option A) → AtMost f m o → AtMost g n (option_map h o)
AtMost-map f g m n h k None x = tt
AtMost-map f g m n h k (Some a) x = k a x

AtMost-and_then : {A B : Type 0} (f : A → ℕ) (g : B → ℕ) (m n : ℕ) (h : A → Option B) → ((a : A) → f a ≤ m → AtMost g n (h a)) → (o : Option A) → AtMost f m o → AtMost g n (option_and_then h o)
AtMost-and_then f g m n h k None x = tt
AtMost-and_then f g m n h k (Some a) x = k a x

flat : {A : Type 0} (o : Option A) → AtMost (λ _. 0) 0 o
flat None = tt
flat (Some a) = omega arith

ordered_fits : (o : Ordering) (a b c : Members) (n : ℕ) → members_size a ≤ n → members_size b ≤ n → members_size c ≤ n → members_size (match_ordering o a b c) ≤ n
ordered_fits Less a b c n p q r = p
ordered_fits Equal a b c n p q r = q
ordered_fits Greater a b c n p q r = r

put_fits : (k : List ℕ) (d : Data) (ms : Members) → members_size (put k d ms) ≤ size d + members_size ms
put_fits k d no_members = omega arith
put_fits k d (member l e ms) =
    let rest = put_fits k d ms in
    ordered_fits (slice_cmp nat_cmp k l) (member k d (member l e ms)) (member l d ms) (member l e (put k d ms)) _ (omega arith) (omega arith) (omega arith)

mutual
  of_json_fits : (j : json.Json) → AtMost size (json_size j) (of_json j)
  of_json_fits json.null = omega arith
  of_json_fits (json.boolean b) = omega arith
  of_json_fits (json.number s) = AtMost-map (λ _. 0) size 0 1 number (λ a x. omega arith) (number_of s) (flat _)
  of_json_fits (json.string s) = omega arith
  of_json_fits (json.array js) = AtMost-map items_size size (json_items_size js) _ array (λ a x. omega arith) (of_items js) (of_items_fits js)
  of_json_fits (json.object ms) = AtMost-map members_size size (json_members_size ms) _ object (λ a x. omega arith) (of_members ms no_members) (of_members_fits ms no_members _ (omega arith))

  of_items_fits : (js : json.Items) → AtMost items_size (json_items_size js) (of_items js)
  of_items_fits json.no_items = omega arith
  of_items_fits (json.item j js) =
      AtMost-and_then size items_size (json_size j) _ _ (λ d x. AtMost-map items_size items_size (json_items_size js) _ (item d) (λ ds y. omega arith) (of_items js) (of_items_fits js)) (of_json j) (of_json_fits j)

  of_members_fits : (ms : json.Members) (found : Members) (n : ℕ) → json_members_size ms + members_size found ≤ n → AtMost members_size n (of_members ms found)
  of_members_fits json.no_members found n h = omega arith
  of_members_fits (json.member name j ms) found n h =
      AtMost-and_then size members_size (json_size j) n _ (λ d x. of_members_fits ms (put name d found) n (omega (arith, put_fits name d found))) (of_json j) (of_json_fits j)

last_fits : (n : ℕ) (o : Option (json.Json × List Token)) → Fits json_size n o → AtMost json_size n (option_and_then (λ p. if_last p.0 p.1) o)
last_fits n None x = tt
last_fits n (Some (j, [])) x = omega arith
last_fits n (Some (j, t ∷ r)) x = tt

larger : {A : Type 0} (f : A → ℕ) (m n : ℕ) (o : Option A) → m ≤ n → AtMost f m o → AtMost f n o
larger f m n None le x = tt
larger f m n (Some a) le x = omega arith

pub read_fits : (text : List ℕ) (d : Data) → read text ≡ Some d → size d ≤ length text
read_fits text d e =
    let whole = tokens_fit text in
    let ts = tokens text in
    let tree = last_fits (tokens_size ts) (value max_depth ts) (value_fits max_depth ts) in
    subst (AtMost size (length text)) e
    (AtMost-and_then json_size size (tokens_size ts) (length text) of_json (λ j x. larger size (json_size j) (length text) (of_json j) (omega arith) (of_json_fits j)) _ tree)
