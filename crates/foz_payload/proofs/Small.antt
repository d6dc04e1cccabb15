-- A state of a payload that is shorter than 2^30 bytes is ordinary.
use Rattle.std.proofs.Common.{◌≡◌, ℕ, ◌+◌, ◌-◌, ◌<◌, ◌≤◌, ◌^◌, ◌==◌, Bool, true, false, cond, not, List, [], ◌∷◌, length, take, drop, Option, Some, None, option_and_then, is_some, Result, Ok, Err, sym, subst, arith}
use Rattle.std.proofs.lemmas.List.{length-take, length-drop}
use Rattle.std.proofs.lemmas.List.Sums.{take_while-cons}
use Rattle.std.specs.Prelude.{IfOk, ⊤}
use Rattle.std.specs.List.{take_while}
use Rattle.foz_words.specs.declared.key.Key.{Key}
use Rattle.foz_words.specs.Hex.{hex_text}
use Rattle.serde_json.specs.Data.{Data}
use Rattle.serde_json.specs.Find.{get, as_object}
use Rattle.spirv_varint.specs.declared.error.VarintError.{VarintError}
use Rattle.spirv_varint.specs.Reading as varints
use Rattle.spirv_varint.proofs.Lengths.{Splits-length}
use Rattle.vk_form.specs.Shape.{Plains}
use Rattle.vk_basic.specs.Tables as basic_table
use Rattle.vk_basic.specs.Plain as basic_plain
use Rattle.json_fold.specs.Fault.{Fault}
use Rattle.state_words.specs.declared.state.State.{State}
use Rattle.state_words.specs.declared.state.State.TheVariants.{ShaderModule}
use Rattle.state_words.specs.References.{refs_of}
use Rattle.state_words.specs.Words.{IsOrdinaryState}
use Rattle.state_json.specs.declared.kind.JsonKind.{JsonKind}
use Rattle.state_json.specs.declared.text.ParseError.{ParseError}
use Rattle.state_json.specs.declared.text.ParseError.TheVariants as parse
use Rattle.state_json.specs.Parsed.{parsed}
use Rattle.state_json.specs.States.{state_reading}
use Rattle.state_json.proofs.Size.{size}
use Rattle.state_json.proofs.Weight.{Light, Within, get_within}
use Rattle.state_json.proofs.StateSize.{state_weight, parsed_light, state_light, ordinary_if_light, refs_few}
use Rattle.foz_payload.specs.declared.unreadable.Unreadable.{Unreadable}
use Rattle.foz_payload.specs.Tables.{module_head}
use Rattle.foz_payload.specs.Parts.{is_zero, json_part, behind_zero}
use Rattle.foz_payload.specs.Meaning.{◌then◌, kind_of_tag, member_of, of_parse, of_field, or_none, only_object, found, object_in, plain_meaning, head_of, window_at, window_of, module_of, MeansWords, MeansHead, MeansBy, Means, Gives, Finds}

-- ---- parts of a payload

one_kept : (b : Bool) (byte : ℕ) (more bytes : List ℕ) → length more ≤ length bytes → length (cond b (byte ∷ more) []) ≤ length (byte ∷ bytes)
one_kept true byte more bytes h = omega arith
one_kept false byte more bytes h = omega arith

kept_fits : (keep : ℕ → Bool) (bytes : List ℕ) → length (take_while keep bytes) ≤ length bytes
kept_fits keep [] = omega arith
kept_fits keep (byte ∷ bytes) = rw (take_while-cons keep byte bytes) (one_kept (keep byte) byte (take_while keep bytes) bytes (kept_fits keep bytes))

json_fits : (payload : List ℕ) → length (json_part payload) ≤ length payload
unfolding json_part
json_fits payload = kept_fits (λ byte. not (is_zero byte)) payload

behind_fits : (payload : List ℕ) → length (behind_zero payload) ≤ length payload
unfolding behind_zero
behind_fits payload = omega (arith, length-drop (length (json_part payload) + 1) payload)

-- ---- results

then_light : {A B : Type 0} (f : A → ℕ) (g : B → ℕ) (m n : ℕ) (h : A → Result B Unreadable) → ((a : A) → f a ≤ m → Light g n (h a)) → (r : Result A Unreadable) → Light f m r → Light g n (r then h)
then_light f g m n h k (Ok x) l = k x l
then_light f g m n h k (Err e) l = tt

of_parse_light : {A : Type 0} (f : A → ℕ) (n : ℕ) (r : Result A ParseError) → Light f n r → Light f n (of_parse r)
of_parse_light f n (Ok x) l = l
of_parse_light f n (Err (parse.Float at)) l = tt
of_parse_light f n (Err parse.Json) l = tt
of_parse_light f n (Err parse.Memory) l = tt

of_field_light : {A : Type 0} (f : A → ℕ) (n : ℕ) (r : Result A Fault) → Light f n r → Light f n (of_field r)
of_field_light f n (Ok x) l = l
of_field_light f n (Err e) l = tt

-- ---- the object of a state

inside : (m n : ℕ) (h : Data → Option Data) → ((d : Data) → size d ≤ m → Within n (h d)) → (o : Option Data) → Within m o → Within n (option_and_then h o)
inside m n h k None within = tt
inside m n h k (Some d) within = k d within

if_kept : (b : Bool) (n : ℕ) (d : Data) → size d ≤ n → Within n (cond b (Some d) None)
if_kept true n d le = le
if_kept false n d le = tt

smaller : (m n : ℕ) (o : Option Data) → m ≤ n → Within m o → Within n o
smaller m n None le within = tt
smaller m n (Some d) le within = omega arith

found_within : (member : List ℕ) (hash : ℕ) (value : Data) → Within (size value - 1 - 1) (found member hash value)
unfolding found
found_within member hash value =
    inside (size value - 1 - 1) (size value - 1 - 1) only_object (λ d le. if_kept (is_some (as_object d)) (size value - 1 - 1) d le) (option_and_then (get (hex_text 16 hash)) (get member value))
    (inside (size value - 1) (size value - 1 - 1) (get (hex_text 16 hash)) (λ d le. smaller (size d - 1) (size value - 1 - 1) (get (hex_text 16 hash) d) (omega arith) (get_within (hex_text 16 hash) d))
    (get member value) (get_within member value))

or_none_light : (n : ℕ) (o : Option Data) → Within n o → Light size n (or_none o)
or_none_light n None within = tt
or_none_light n (Some d) within = within

object_light : (member : List ℕ) (hash : ℕ) (text : List ℕ) → Light size (length text - 1 - 1) (object_in member hash text)
unfolding object_in
object_light member hash text =
    then_light size size (length text) (length text - 1 - 1) (λ value. or_none (found member hash value))
    (λ value le. or_none_light (length text - 1 - 1) (found member hash value) (smaller (size value - 1 - 1) (length text - 1 - 1) (found member hash value) (omega arith) (found_within member hash value)))
    (of_parse (parsed text)) (of_parse_light size (length text) (parsed text) (parsed_light text))

less : (m n : ℕ) (r : Result State Fault) → m ≤ n → Light state_weight m r → Light state_weight n r
less m n (Ok x) le l = omega arith
less m n (Err e) le l = tt

plain_light : (kind : Option JsonKind) (key : Key) (payload : List ℕ) → Light state_weight (length payload - 4) (plain_meaning kind key payload)
unfolding plain_meaning
plain_light None key payload = tt
plain_light (Some kind) key payload =
    let json = json_part payload in
    let whole = json_fits payload in
    then_light size state_weight (length json - 1 - 1) (length payload - 4) (λ object. of_field (state_reading kind object []))
    (λ object le. of_field_light state_weight (length payload - 4) (state_reading kind object [])
    (less (size object - 1 - 1) (length payload - 4) (state_reading kind object []) (omega arith) (state_light kind object [])))
    (object_in (member_of kind) key.hash json) (object_light (member_of kind) key.hash json)

-- ---- what a payload means

record IsSmall (state : State) : Type 0 where
  ordinary : IsOrdinaryState state
  few : length (refs_of state) < 2 ^ 30

light_small : (n : ℕ) (state : State) → state_weight state ≤ n - 4 → n < 2 ^ 30 → IsSmall state
light_small n state light small = record { ordinary = ordinary_if_light state (omega arith); few = omega (arith, refs_few state) }

plain_small : (key : Key) (payload : List ℕ) (state : State) → Ok state ≡ plain_meaning (kind_of_tag key.tag) key payload → length payload < 2 ^ 30 → IsSmall state
plain_small key payload state e small =
    light_small (length payload) state (subst (Light state_weight (length payload - 4)) (sym e) (plain_light (kind_of_tag key.tag) key payload)) small

code_small : (flags : ℕ) (code : List ℕ) → length code < 2 ^ 30 → IsSmall (ShaderModule (record { flags = flags; code = code }))
unfolding basic_table.shader_module basic_plain.shader_module refs_of
code_small flags code short = record { ordinary = (tt, ((short, λ k d within. tt), tt)); few = omega arith }

words_small : (flags count : ℕ) (bytes : List ℕ) (words : Result (List ℕ) VarintError) (state : State) → varints.Answers bytes count words → Ok state ≡ module_of flags words → length bytes < 2 ^ 30 → IsSmall state
words_small flags count bytes (Err e) state answers is small = absurd cc
words_small flags count bytes (Ok words) state answers is small =
    let same : state ≡ ShaderModule (record { flags = flags; code = words }) = cc in
    rw same (code_small flags words (omega (arith, Splits-length words bytes [] answers.0)))

-- a window is a part of the bytes
abbrev Shorter : ℕ → Result (List ℕ) Unreadable → Type 0
Shorter n (Ok bytes) = length bytes ≤ n
Shorter n (Err e) = ⊤

shorter_if : (b : Bool) (n : ℕ) (r : Result (List ℕ) Unreadable) (e : Unreadable) → Shorter n r → Shorter n (cond b r (Err e))
shorter_if true n r e h = h
shorter_if false n r e h = tt

window_shorter : (code_size offset size : ℕ) (bytes : List ℕ) → Shorter (length bytes) (window_of code_size offset size bytes)
unfolding window_of
window_shorter code_size offset size bytes =
    shorter_if _ (length bytes) (window_at offset size bytes) _
    (shorter_if _ (length bytes) (Ok (take size (drop offset bytes))) _ (omega (arith, length-take size (drop offset bytes), length-drop offset bytes)))

window_small : (flags count n : ℕ) (window : Result (List ℕ) Unreadable) (state : State) → Shorter n window → MeansWords flags count window (Ok state) → n < 2 ^ 30 → IsSmall state
window_small flags count n (Err e) state short means small = absurd cc
window_small flags count n (Ok bytes) state short means small = words_small flags count bytes means.0 state means.2 means.3 (omega arith)

head_small : (head : Result (Plains module_head) Unreadable) (payload : List ℕ) (state : State) → MeansHead head payload (Ok state) → length payload < 2 ^ 30 → IsSmall state
unfolding MeansHead module_head
head_small (Err e) payload state means small = absurd cc
head_small (Ok head) payload state means small =
    let fits = behind_fits payload in
    window_small _ _ (length (behind_zero payload)) _ state (window_shorter head.1.0 head.1.1.0 head.1.1.1.0 (behind_zero payload)) means (omega arith)

by_tag : (b : Bool) (key : Key) (payload : List ℕ) (state : State) → MeansBy b key payload (Ok state) → length payload < 2 ^ 30 → IsSmall state
by_tag true key payload state means small = head_small (head_of key.hash payload) payload state means small
by_tag false key payload state means small = plain_small key payload state means small

small : (key : Key) (payload : List ℕ) (state : State) → Means key payload (Ok state) → length payload < 2 ^ 30 → IsSmall state
unfolding Means
small key payload state means short = by_tag (key.tag == 4) key payload state means short

pub means_ordinary : (key : Key) (payload : List ℕ) (state : State) → Means key payload (Ok state) → length payload < 2 ^ 30 → IsOrdinaryState state
means_ordinary key payload state means short = (small key payload state means short).ordinary

pub means_few : (key : Key) (payload : List ℕ) (state : State) → Means key payload (Ok state) → length payload < 2 ^ 30 → length (refs_of state) < 2 ^ 30
means_few key payload state means short = (small key payload state means short).few

-- ---- what a function returned

abbrev SmallIfOk : Result State Unreadable → Type 0
SmallIfOk (Ok state) = IsSmall state
SmallIfOk (Err e) = ⊤

module_returned : (hash : ℕ) (payload : List ℕ) (r : Result State Unreadable) → Gives r (MeansHead (head_of hash payload) payload) → length payload < 2 ^ 30 → SmallIfOk r
module_returned hash payload (Ok state) means short = head_small (head_of hash payload) payload state means short
module_returned hash payload (Err e) means short = tt

plain_returned : (kind : JsonKind) (key : Key) (payload : List ℕ) (r : Result State Unreadable) → Finds (λ state. state) r (plain_meaning (Some kind) key payload) → length payload < 2 ^ 30 → SmallIfOk r
plain_returned kind key payload (Ok state) is short = light_small (length payload) state (subst (Light state_weight (length payload - 4)) is (plain_light (Some kind) key payload)) short
plain_returned kind key payload (Err e) is short = tt

ordinary_if_ok : (r : Result State Unreadable) → SmallIfOk r → IfOk r IsOrdinaryState
ordinary_if_ok (Ok state) small_one = small_one.ordinary
ordinary_if_ok (Err e) small_one = tt

few_if_ok : (r : Result State Unreadable) → SmallIfOk r → IfOk r (λ state. length (refs_of state) < 2 ^ 30)
few_if_ok (Ok state) small_one = small_one.few
few_if_ok (Err e) small_one = tt

pub module_ordinary : (hash : ℕ) (payload : List ℕ) (r : Result State Unreadable) → Gives r (MeansHead (head_of hash payload) payload) → length payload < 2 ^ 30 → IfOk r IsOrdinaryState
module_ordinary hash payload r means short = ordinary_if_ok r (module_returned hash payload r means short)

pub module_few : (hash : ℕ) (payload : List ℕ) (r : Result State Unreadable) → Gives r (MeansHead (head_of hash payload) payload) → length payload < 2 ^ 30 → IfOk r (λ state. length (refs_of state) < 2 ^ 30)
module_few hash payload r means short = few_if_ok r (module_returned hash payload r means short)

pub plain_ordinary : (kind : JsonKind) (key : Key) (payload : List ℕ) (r : Result State Unreadable) → Finds (λ state. state) r (plain_meaning (Some kind) key payload) → length payload < 2 ^ 30 → IfOk r IsOrdinaryState
plain_ordinary kind key payload r is short = ordinary_if_ok r (plain_returned kind key payload r is short)

pub plain_few : (kind : JsonKind) (key : Key) (payload : List ℕ) (r : Result State Unreadable) → Finds (λ state. state) r (plain_meaning (Some kind) key payload) → length payload < 2 ^ 30 → IfOk r (λ state. length (refs_of state) < 2 ^ 30)
plain_few kind key payload r is short = few_if_ok r (plain_returned kind key payload r is short)
