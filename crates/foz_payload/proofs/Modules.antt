-- The meaning of a shader module's payload, from the answers of its parts.
use Rattle.std.proofs.Common.{◌≡◌, ◌≢◌, ℕ, ◌/◌, List, Result, Ok, Err, None, true, false, inl, inr, refl, sym, ap, ◌∙◌}
use Rattle.std.proofs.lemmas.Bool.Decides.{eqb_tells}
use Rattle.foz_words.specs.declared.key.Key.{Key}
use Rattle.state_words.specs.declared.state.State.{State}
use Rattle.foz_payload.specs.declared.unreadable.Unreadable.{Unreadable}
use Rattle.foz_payload.specs.declared.unreadable.Unreadable.TheVariants.{WrongTag, NoZeroByte, Float, BadJson, NoSuchState, Field, CodeSize, Window, Varint, Memory}
use Rattle.foz_payload.specs.declared.module_head.ModuleHead.{ModuleHead}
use Rattle.foz_payload.specs.Tables as table
use Rattle.foz_payload.specs.Plain as plain
use Rattle.foz_payload.specs.Parts.{has_zero, json_part, behind_zero}
use Rattle.spirv_varint.specs.declared.error.VarintError.{VarintError}
use Rattle.spirv_varint.specs.declared.error.VarintError.TheVariants as varint
use Rattle.spirv_varint.specs.Reading as varints
use Rattle.foz_payload.specs.Meaning.{Finds, Gives, MeansHead, MeansWords, head_in, head_of, window_of, module_of, of_varint, Means, plain_meaning, kind_of_tag}

-- a refusal that is found is meant
pub refused : {X A : Type 0} (f : X → A) (e : Unreadable) (answer : Result A Unreadable) (means : Result State Unreadable → Type 0) → Finds f (Err e) answer → (answer ≡ Err e → means (Err e)) → Gives (Err e) means
refused f (WrongTag tag) answer means found next = next found
refused f NoZeroByte answer means found next = next found
refused f (Float at) answer means found next = next found
refused f BadJson answer means found next = next found
refused f NoSuchState answer means found next = next found
refused f (Field path cause) answer means found next = next found
refused f (CodeSize stated) answer means found next = next found
refused f (Window offset size have) answer means found next = next found
refused f (Varint e) answer means found next = next found
refused f Memory answer means found next = tt

head_is : (hash : ℕ) (payload : List ℕ) → has_zero payload ≡ true → head_of hash payload ≡ head_in hash (json_part payload)
unfolding head_of
head_is hash payload there = rw there refl

pub no_head : (hash : ℕ) (payload : List ℕ) → has_zero payload ≡ false → MeansHead (head_of hash payload) payload (Err NoZeroByte)
unfolding head_of MeansHead
no_head hash payload none = rw none refl

pub head_refused : (hash : ℕ) (payload json : List ℕ) (e : Unreadable) → has_zero payload ≡ true → json ≡ json_part payload → head_in hash json ≡ Err e → MeansHead (head_of hash payload) payload (Err e)
unfolding MeansHead
head_refused hash payload json e there part is = rw (head_is hash payload there ∙ ap (head_in hash) (sym part) ∙ is) refl

pub head_found : (hash : ℕ) (payload json behind : List ℕ) (h : ModuleHead) (answer : Result State Unreadable) → has_zero payload ≡ true → json ≡ json_part payload → behind ≡ behind_zero payload → head_in hash json ≡ Ok (plain.module_head h) → MeansWords h.flags (h.code_size / 4) (window_of h.code_size h.varint_offset h.varint_size behind) answer → MeansHead (head_of hash payload) payload answer
unfolding MeansHead plain.module_head table.module_head
head_found hash payload json behind h answer there part rest is words =
    rw (head_is hash payload there ∙ ap (head_in hash) (sym part) ∙ is) (rw rest at words)

-- the answer of a window is that of its words
pub window_found : (flags count : ℕ) (found : Result (List ℕ) Unreadable) (bytes : List ℕ) (words : Result (List ℕ) VarintError) → found ≡ Ok bytes → words ≢ Err varint.Memory → varints.Answers bytes count words → MeansWords flags count found (module_of flags words)
window_found flags count found bytes words is apart answers = rw is (words, apart, answers, refl)

pub window_refused : (flags count : ℕ) (found : Result (List ℕ) Unreadable) (e : Unreadable) → found ≡ Err e → MeansWords flags count found (Err e)
window_refused flags count found e is = rw is refl

pub words_refused : (flags count : ℕ) (found : Result (List ℕ) Unreadable) (bytes : List ℕ) (e : VarintError) (means : Result State Unreadable → Type 0) → found ≡ Ok bytes → varints.Answers bytes count (Err e) → ((answer : Result State Unreadable) → MeansWords flags count found answer → means answer) → Gives (Err (of_varint e)) means
words_refused flags count found bytes (varint.Short at) means is answers next = next _ (window_found flags count found bytes (Err (varint.Short at)) is (λ same. absurd cc) answers)
words_refused flags count found bytes (varint.TooLarge at) means is answers next = next _ (window_found flags count found bytes (Err (varint.TooLarge at)) is (λ same. absurd cc) answers)
words_refused flags count found bytes (varint.Extra at) means is answers next = next _ (window_found flags count found bytes (Err (varint.Extra at)) is (λ same. absurd cc) answers)
words_refused flags count found bytes varint.Memory means is answers next = tt

pub wrong_tag : (key : Key) (payload : List ℕ) → (key.tag ≡ 4 → ⊥) → kind_of_tag key.tag ≡ None → Means key payload (Err (WrongTag key.tag))
unfolding Means plain_meaning
wrong_tag key payload other none = elim (eqb_tells key.tag 4) [
  | inl same ↦ absurd (other same.1)
  | inr not ↦ rw (not.0, none) refl
]
