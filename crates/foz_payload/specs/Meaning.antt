-- The one answer to a key and a payload: a state, or why it can't be read.
use Rattle.std.specs.Prelude.{◌≡◌, ◌≢◌, ℕ, ◌+◌, ◌/◌, ◌%◌, ◌==◌, ◌&&◌, nat_le, List, [], length, take, drop, codes, Bool, true, false, is_some, Option, Some, None, option_and_then, Result, Ok, Err, if◌then◌else◌, ⊤}
use Rattle.foz_words.specs.declared.key.Key.{Key}
use Rattle.foz_words.specs.Hex.{hex_text}
use Rattle.serde_json.specs.Data.{Data}
use Rattle.serde_json.specs.Find.{get, as_object}
use Rattle.spirv_varint.specs.declared.error.VarintError.{VarintError}
use Rattle.spirv_varint.specs.declared.error.VarintError.TheVariants as varint
use Rattle.spirv_varint.specs.Reading as varints
use Rattle.vk_form.specs.Shape.{struct, Plains}
use Rattle.json_fold.specs.Fault.{Fault}
use Rattle.json_fold.specs.Reading.{reading}
use Rattle.state_words.specs.declared.state.State.{State}
use Rattle.state_words.specs.declared.state.State.TheVariants.{ShaderModule}
use Rattle.state_json.specs.declared.kind.JsonKind.{JsonKind}
use Rattle.state_json.specs.declared.kind.JsonKind.TheVariants as kind
use Rattle.state_json.specs.declared.text.ParseError.{ParseError}
use Rattle.state_json.specs.declared.text.ParseError.TheVariants as parse
use Rattle.state_json.specs.Parsed.{parsed}
use Rattle.state_json.specs.States.{state_reading}
use Rattle.foz_payload.specs.declared.unreadable.Unreadable.{Unreadable}
use Rattle.foz_payload.specs.declared.unreadable.Unreadable.TheVariants.{WrongTag, NoZeroByte, Float, BadJson, NoSuchState, Field, CodeSize, Window, Varint, Memory}
use Rattle.foz_payload.specs.Tables.{module_head}
use Rattle.foz_payload.specs.Parts.{has_zero, json_part, behind_zero}

-- a result, or what comes first
infixl 10 ◌then◌
abbrev pub ◌then◌ : {A B : Type 0} → Result A Unreadable → (A → Result B Unreadable) → Result B Unreadable
(Ok x) then f = f x
(Err cause) then f = Err cause

-- the kind of this tag, but of shader modules
abbrev pub kind_of_tag : ℕ → Option JsonKind
kind_of_tag tag =
    if tag == 1 then Some kind.Sampler else
    (if tag == 2 then Some kind.SetLayout else
    (if tag == 3 then Some kind.PipelineLayout else
    (if tag == 5 then Some kind.RenderPass else
    (if tag == 6 then Some kind.Graphics else
    (if tag == 7 then Some kind.Compute else None)))))

-- the member that holds the objects of a kind
abbrev pub member_of : JsonKind → List ℕ
member_of kind.Sampler = codes "samplers"
member_of kind.SetLayout = codes "setLayouts"
member_of kind.PipelineLayout = codes "pipelineLayouts"
member_of kind.RenderPass = codes "renderPasses"
member_of kind.Graphics = codes "graphicsPipelines"
member_of kind.Compute = codes "computePipelines"

abbrev pub modules : List ℕ
modules = codes "shaderModules"

abbrev pub of_parse : {A : Type 0} → Result A ParseError → Result A Unreadable
of_parse (Ok x) = Ok x
of_parse (Err (parse.Float at)) = Err (Float at)
of_parse (Err parse.Json) = Err BadJson
of_parse (Err parse.Memory) = Err Memory

abbrev pub of_field : {A : Type 0} → Result A Fault → Result A Unreadable
of_field (Ok x) = Ok x
of_field (Err fault) = Err (Field fault.0 fault.1)

abbrev pub or_none : {A : Type 0} → Option A → Result A Unreadable
or_none (Some x) = Ok x
or_none None = Err NoSuchState

-- the value, if it is an object
abbrev pub only_object : Data → Option Data
only_object value = if is_some (as_object value) then Some value else None

-- the object under the digits of the hash in the object under the member
unfoldable pub found : List ℕ → ℕ → Data → Option Data
found member hash value = option_and_then only_object (option_and_then (get (hex_text 16 hash)) (get member value))

-- the object of a state in a payload's JSON
unfoldable pub object_in : List ℕ → ℕ → List ℕ → Result Data Unreadable
object_in member hash text = of_parse (parsed text) then λ value. or_none (found member hash value)

-- the answer for all kinds but shader modules
unfoldable pub plain_meaning : Option JsonKind → Key → List ℕ → Result State Unreadable
plain_meaning None key payload = Err (WrongTag key.tag)
plain_meaning (Some kind) key payload =
    object_in (member_of kind) key.hash (json_part payload) then λ object. of_field (state_reading kind object [])

abbrev pub or_no_zero : Bool → Result ⊤ Unreadable
or_no_zero true = Ok tt
or_no_zero false = Err NoZeroByte

-- what the JSON part of a module's payload says
abbrev pub head_in : ℕ → List ℕ → Result (Plains module_head) Unreadable
head_in hash json = object_in modules hash json then λ object. of_field (reading (struct module_head) object [])

-- the same, of the whole payload
unfoldable pub head_of : ℕ → List ℕ → Result (Plains module_head) Unreadable
head_of hash payload =
    or_no_zero (has_zero payload) then λ _. head_in hash (json_part payload)

-- the bytes of the varints, which stand after the zero byte
abbrev pub window_at : ℕ → ℕ → List ℕ → Result (List ℕ) Unreadable
window_at offset size bytes =
    if nat_le (offset + size) (length bytes) then Ok (take size (drop offset bytes)) else Err (Window offset size (length bytes))

unfoldable pub window_of : ℕ → ℕ → ℕ → List ℕ → Result (List ℕ) Unreadable
window_of code_size offset size bytes =
    if (code_size % 4 == 0) && nat_le code_size 67_108_864 then window_at offset size bytes else Err (CodeSize code_size)

abbrev pub module_of : ℕ → Result (List ℕ) VarintError → Result State Unreadable
module_of flags (Ok words) = Ok (ShaderModule (record { flags = flags; code = words }))
module_of flags (Err e) = Err (Varint e)

-- why varints make a module unreadable
abbrev pub of_varint : VarintError → Unreadable
of_varint (varint.Short at) = Varint (varint.Short at)
of_varint (varint.TooLarge at) = Varint (varint.TooLarge at)
of_varint (varint.Extra at) = Varint (varint.Extra at)
of_varint varint.Memory = Memory

-- the answer for a window, whose bytes have one reading as varints
abbrev pub MeansWords : ℕ → ℕ → Result (List ℕ) Unreadable → Result State Unreadable → Type 0
MeansWords flags count (Err cause) answer = answer ≡ Err cause
MeansWords flags count (Ok bytes) answer =
    (words : Result (List ℕ) VarintError) × (words ≢ Err varint.Memory) × varints.Answers bytes count words × (answer ≡ module_of flags words)

unfoldable pub MeansHead : Result (Plains module_head) Unreadable → List ℕ → Result State Unreadable → Type 0
unfolding module_head
MeansHead (Err cause) payload answer = answer ≡ Err cause
MeansHead (Ok head) payload answer = MeansWords head.0 (head.1.0 / 4) (window_of head.1.0 head.1.1.0 head.1.1.1.0 (behind_zero payload)) answer

abbrev pub MeansBy : Bool → Key → List ℕ → Result State Unreadable → Type 0
MeansBy true key payload answer = MeansHead (head_of key.hash payload) payload answer
MeansBy false key payload answer = answer ≡ plain_meaning (kind_of_tag key.tag) key payload

-- What a key and a payload mean.
unfoldable pub Means : Key → List ℕ → Result State Unreadable → Type 0
Means key payload answer = MeansBy (key.tag == 4) key payload answer

-- What a function returned is meant, unless memory ran out.
abbrev pub Gives : Result State Unreadable → (Result State Unreadable → Type 0) → Type 0
Gives (Err Memory) means = ⊤
Gives result means = means result

-- What a function returned, seen by f, is this answer, unless memory ran out.
abbrev pub Finds : {X A : Type 0} → (X → A) → Result X Unreadable → Result A Unreadable → Type 0
Finds f (Ok x) answer = answer ≡ Ok (f x)
Finds f (Err Memory) answer = ⊤
Finds f (Err cause) answer = answer ≡ Err cause
