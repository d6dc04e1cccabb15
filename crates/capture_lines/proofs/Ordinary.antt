-- The state of a line that is shorter than 2^30 bytes is ordinary, and refers to few states.
use Rattle.std.proofs.Common.{◌≡◌, ℕ, suc, ◌+◌, ◌-◌, ◌<◌, ◌≤◌, ◌^◌, List, [], ◌∷◌, length, drop, Option, Some, None, Result, Ok, Err, sym, ap, ◌∙◌, arith}
use Rattle.std.proofs.lemmas.List.{length-drop}
use Rattle.serde_json.specs.Data.{Data}
use Rattle.vk_form.specs.Shape.{struct, Plains}
use Rattle.vk_basic.specs.Tables as basic_table
use Rattle.vk_basic.specs.Plain as basic_plain
use Rattle.json_fold.specs.Fault.{Fault}
use Rattle.json_fold.specs.Reading.{reading}
use Rattle.state_words.specs.declared.state.State.{State}
use Rattle.state_words.specs.declared.state.State.TheVariants as states
use Rattle.state_words.specs.References.{refs_of}
use Rattle.state_words.specs.Words.{IsOrdinaryState}
use Rattle.state_json.specs.Parsed.{parsed}
use Rattle.state_json.specs.States.{state_reading}
use Rattle.state_json.proofs.Base64Size.{AtMost}
use Rattle.state_json.proofs.Size.{size}
use Rattle.state_json.proofs.Weight.{Light, weights, struct_light}
use Rattle.state_json.proofs.StateSize.{parsed_fits, read_ordinary, read_few}
use Rattle.capture_lines.specs.Code.{code_words, with_word}
use Rattle.capture_lines.specs.Cutting.{cut}
use Rattle.capture_lines.specs.Line.{value_meaning, of_state, of_captured, with_words}
use Rattle.capture_lines.specs.Made as made
use Rattle.capture_lines.specs.Tables as table
use Rattle.capture_lines.specs.declared.kind.LineKind.{LineKind}
use Rattle.capture_lines.specs.declared.kind.LineKind.TheVariants.{Object, ShaderModule}
use Rattle.capture_lines.proofs.CutLemmas.{is_cut, cut_at, is_blank}
use Rattle.std.specs.Prelude.{position}

-- ---- the text after the blank

abbrev behind_of : Option (List ℕ × List ℕ) → List ℕ
behind_of None = []
behind_of (Some parts) = parts.1

-- the blank is no part of the text
text_at_fits : (line word text : List ℕ) (at : Option ℕ) → cut_at line at ≡ Some (word, text) → length text ≤ length line - 1
text_at_fits line word text None is = absurd cc
text_at_fits line word text (Some at) is =
    let same : drop (at + 1) line ≡ text = ap behind_of is in
    omega (arith, ap length same, length-drop (at + 1) line)

text_fits : (line word text : List ℕ) → cut line ≡ Some (word, text) → length text ≤ length line - 1
text_fits line word text is = text_at_fits line word text (position is_blank line) (sym (is_cut line) ∙ is)

-- ---- shader modules

one_more : (w n : ℕ) (words : Option (List ℕ)) → AtMost n words → AtMost (suc (suc (suc (suc n)))) (with_word w words)
one_more w n None fits = tt
one_more w n (Some words) fits = omega arith

-- there are no more words than bytes
code_fits : (bytes : List ℕ) → AtMost (length bytes) (code_words bytes)
unfolding code_words
code_fits [] = omega arith
code_fits (a ∷ []) = tt
code_fits (a ∷ b ∷ []) = tt
code_fits (a ∷ b ∷ c ∷ []) = tt
code_fits (a ∷ b ∷ c ∷ d ∷ more) = one_more _ (length more) (code_words more) (code_fits more)

module_ordinary : (flags : ℕ) (code : List ℕ) → length code < 2 ^ 30 → IsOrdinaryState (states.ShaderModule (record { flags = flags; code = code }))
unfolding basic_table.shader_module basic_plain.shader_module
module_ordinary flags code short = (tt, ((short, λ k d within. tt), tt))

words_ordinary : (flags n : ℕ) (words : Option (List ℕ)) (state : State) → AtMost n words → n < 2 ^ 30 → with_words flags words ≡ Ok state → IsOrdinaryState state
words_ordinary flags n None state fits small is = absurd cc
words_ordinary flags n (Some words) state fits small is =
    let same : state ≡ states.ShaderModule (record { flags = flags; code = words }) = cc in
    rw same (module_ordinary flags words (omega arith))

captured_ordinary : (n : ℕ) (captured : Result (Plains table.captured_module) Fault) (state : State) → Light (weights table.captured_module) n captured → n < 2 ^ 30 → of_captured captured ≡ Ok state → IsOrdinaryState state
unfolding table.captured_module made.captured_module
captured_ordinary n (Err fault) state light small is = absurd cc
captured_ordinary n (Ok x) state light small is = words_ordinary x.0 (length x.1.0) (code_words x.1.0) state (code_fits x.1.0) (omega arith) is

module_few : (flags : ℕ) (code : List ℕ) → length (refs_of (states.ShaderModule (record { flags = flags; code = code }))) < 2 ^ 30
unfolding refs_of
module_few flags code = omega arith

words_few : (flags : ℕ) (words : Option (List ℕ)) (state : State) → with_words flags words ≡ Ok state → length (refs_of state) < 2 ^ 30
words_few flags None state is = absurd cc
words_few flags (Some words) state is =
    let same : state ≡ states.ShaderModule (record { flags = flags; code = words }) = cc in
    rw same (module_few flags words)

captured_few : (captured : Result (Plains table.captured_module) Fault) (state : State) → of_captured captured ≡ Ok state → length (refs_of state) < 2 ^ 30
unfolding table.captured_module made.captured_module
captured_few (Err fault) state is = absurd cc
captured_few (Ok x) state is = words_few x.0 (code_words x.1.0) state is

-- ---- states

read_so : (read : Result State Fault) (state : State) → of_state read ≡ Ok state → read ≡ Ok state
read_so (Ok s) state is = cc
read_so (Err fault) state is = absurd cc

value_ordinary : (kind : LineKind) (value : Data) (state : State) → value_meaning kind value ≡ Ok state → size value < 2 ^ 30 → IsOrdinaryState state
unfolding value_meaning
value_ordinary (Object kind) value state is small = read_ordinary kind value [] state (read_so (state_reading kind value []) state is) small
value_ordinary ShaderModule value state is small = captured_ordinary (size value - 1 - 1) (reading (struct table.captured_module) value []) state (struct_light table.captured_module value []) (omega arith) is

pub line_ordinary : (line word text : List ℕ) (kind : LineKind) (value : Data) (state : State) → cut line ≡ Some (word, text) → parsed text ≡ Ok value → value_meaning kind value ≡ Ok state → length line < 2 ^ 30 → IsOrdinaryState state
line_ordinary line word text kind value state parts read means short =
    value_ordinary kind value state means (omega (arith, text_fits line word text parts, parsed_fits text value read, short))

value_few : (kind : LineKind) (value : Data) (state : State) → value_meaning kind value ≡ Ok state → size value + 1 < 2 ^ 30 → length (refs_of state) < 2 ^ 30
unfolding value_meaning
value_few (Object kind) value state is small = read_few kind value [] state (read_so (state_reading kind value []) state is) small
value_few ShaderModule value state is small = captured_few (reading (struct table.captured_module) value []) state is

pub line_few : (line word text : List ℕ) (kind : LineKind) (value : Data) (state : State) → cut line ≡ Some (word, text) → parsed text ≡ Ok value → value_meaning kind value ≡ Ok state → length line < 2 ^ 30 → length (refs_of state) < 2 ^ 30
line_few line word text kind value state parts read means short =
    value_few kind value state means (omega (arith, text_fits line word text parts, parsed_fits text value read, short))
