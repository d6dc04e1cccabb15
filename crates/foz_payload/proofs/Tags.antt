-- A payload's state has the tag of its key.
use Rattle.std.proofs.Common.{ℕ, ◌≡◌, ◌==◌, Bool, true, false, cond, List, [], Option, Some, None, Result, Ok, Err, refl, sym, ap, ◌∙◌, arith}
use Rattle.std.proofs.lemmas.Bool.Decides.{nat_tests}
use Rattle.foz_words.specs.declared.key.Key.{Key}
use Rattle.serde_json.specs.Data.{Data}
use Rattle.spirv_varint.specs.declared.error.VarintError.{VarintError}
use Rattle.vk_form.specs.Shape.{Plains}
use Rattle.json_fold.specs.Fault.{Fault, ◌>>=◌}
use Rattle.state_words.specs.declared.state.State.{State}
use Rattle.state_words.specs.Plain.{tag_of}
use Rattle.state_json.specs.declared.kind.JsonKind.{JsonKind}
use Rattle.state_json.specs.declared.kind.JsonKind.TheVariants as kind
use Rattle.state_json.specs.States.{state_reading}
use Rattle.foz_payload.specs.declared.unreadable.Unreadable.{Unreadable}
use Rattle.foz_payload.specs.Tables.{module_head}
use Rattle.state_words.specs.declared.state.State.TheVariants.{ShaderModule}
use Rattle.foz_payload.specs.Parts.{json_part}
use Rattle.foz_payload.specs.Meaning.{◌then◌, object_in, member_of, kind_of_tag, of_field, module_of, plain_meaning, head_of, window_of, MeansWords, MeansHead, MeansBy, Means}

abbrev tag_of_kind : JsonKind → ℕ
tag_of_kind kind.Sampler = 1
tag_of_kind kind.SetLayout = 2
tag_of_kind kind.PipelineLayout = 3
tag_of_kind kind.RenderPass = 5
tag_of_kind kind.Graphics = 6
tag_of_kind kind.Compute = 7

module _ (state : State) where
  then_ok : {A : Type 0} (r : Result A Unreadable) (f : A → Result State Unreadable) → Ok state ≡ (r then f) → (x : A) × (Ok state ≡ f x)
  then_ok (Ok x) f e = (x, e)
  then_ok (Err cause) f e = absurd cc

  field_ok : (r : Result State Fault) → Ok state ≡ of_field r → r ≡ Ok state
  field_ok (Ok x) e = let same : x ≡ state = cc in ap Ok same
  field_ok (Err fault) e = absurd cc

  read_tag : {A : Type 0} (r : Result A Fault) (make : A → State) (n : ℕ) → ((x : A) → tag_of (make x) ≡ n) → (r >>= (λ x. Ok (make x))) ≡ Ok state → tag_of state ≡ n
  read_tag (Ok x) make n tags e = let same : make x ≡ state = cc in sym (ap tag_of same) ∙ tags x
  read_tag (Err fault) make n tags e = absurd cc

  kind_tag : (k : JsonKind) (value : Data) → state_reading k value [] ≡ Ok state → tag_of state ≡ tag_of_kind k
  unfolding state_reading
  kind_tag kind.Sampler value e = read_tag _ _ 1 (λ x. refl) e
  kind_tag kind.SetLayout value e = read_tag _ _ 2 (λ x. refl) e
  kind_tag kind.PipelineLayout value e = read_tag _ _ 3 (λ x. refl) e
  kind_tag kind.RenderPass value e = read_tag _ _ 5 (λ x. refl) e
  kind_tag kind.Graphics value e = read_tag _ _ 6 (λ x. refl) e
  kind_tag kind.Compute value e = read_tag _ _ 7 (λ x. refl) e

  plain_tag : (o : Option JsonKind) (key : Key) (payload : List ℕ) → Ok state ≡ plain_meaning o key payload → (k : JsonKind) × (o ≡ Some k) × (tag_of state ≡ tag_of_kind k)
  unfolding plain_meaning
  plain_tag None key payload e = absurd cc
  plain_tag (Some k) key payload e =
      let read = then_ok (object_in (member_of k) key.hash (json_part payload)) (λ x. of_field (state_reading k x [])) e in
      (k, refl, kind_tag k read.0 (field_ok _ read.1))

  words_tag : (flags : ℕ) (words : Result (List ℕ) VarintError) → Ok state ≡ module_of flags words → tag_of state ≡ 4
  words_tag flags (Ok words) e = let same : state ≡ ShaderModule (record { flags = flags; code = words }) = cc in ap tag_of same
  words_tag flags (Err fault) e = absurd cc

  window_tag : (flags count : ℕ) (window : Result (List ℕ) Unreadable) → MeansWords flags count window (Ok state) → tag_of state ≡ 4
  window_tag flags count (Ok bytes) m = words_tag flags m.0 m.3
  window_tag flags count (Err cause) m = absurd cc

  head_tag : (head : Result (Plains module_head) Unreadable) (payload : List ℕ) → MeansHead head payload (Ok state) → tag_of state ≡ 4
  unfolding MeansHead module_head
  head_tag (Ok head) payload m = window_tag head.0 _ _ m
  head_tag (Err cause) payload m = absurd cc

-- the first of these tests that holds gives the kind
some_same : (a b : JsonKind) → Some a ≡ Some b → a ≡ b
some_same a b e = cc

kind_number : (tag : ℕ) (k : JsonKind) → kind_of_tag tag ≡ Some k → tag ≡ tag_of_kind k
kind_number tag k = pick 1 kind.Sampler _ refl (pick 2 kind.SetLayout _ refl (pick 3 kind.PipelineLayout _ refl (pick 5 kind.RenderPass _ refl (pick 6 kind.Graphics _ refl (pick 7 kind.Compute None refl (λ e. absurd cc))))))
  where
    pick : (n : ℕ) (this : JsonKind) (others : Option JsonKind) → n ≡ tag_of_kind this → (others ≡ Some k → tag ≡ tag_of_kind k) → (cond (tag == n) (Some this) others ≡ Some k) → tag ≡ tag_of_kind k
    pick n this others is rest = by (tag == n) refl
      where
        by : (b : Bool) → (tag == n) ≡ b → cond b (Some this) others ≡ Some k → tag ≡ tag_of_kind k
        by true t e = let here : tag ≡ n = grind (arith, nat_tests) in here ∙ (is ∙ ap tag_of_kind (some_same this k e))
        by false t e = rest e

pub means_tag : (key : Key) (payload : List ℕ) (state : State) → Means key payload (Ok state) → key.tag ≡ tag_of state
unfolding Means
means_tag key payload state means = by (key.tag == 4) refl means
  where
    by : (b : Bool) → (key.tag == 4) ≡ b → MeansBy b key payload (Ok state) → key.tag ≡ tag_of state
    by true e m = let four : key.tag ≡ 4 = grind (arith, nat_tests) in four ∙ sym (head_tag state _ payload m)
    by false e m = let p = plain_tag state _ key payload m in kind_number key.tag p.0 p.1 ∙ sym p.2
