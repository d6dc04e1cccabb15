-- What a state's payload means is the state.
use Rattle.std.proofs.Common.{◌≡◌, ℕ, ◌+◌, ◌*◌, ◌/◌, ◌%◌, ◌<◌, ◌≤◌, ◌^◌, ◌==◌, ◌&&◌, Bool, true, false, cond, List, [], ◌∷◌, ◌++◌, length, take, drop, Option, Some, None, option_and_then, is_some, Result, Ok, refl, sym, ap, subst, ◌∙◌, append-nil, arith}
use Rattle.std.proofs.lemmas.Bool.{eq-eqb, le-leb}
use Rattle.std.proofs.lemmas.Cmp.{nat_list_cmp_total, tied_itself}
use Rattle.std.proofs.lemmas.List.{length-append, take_all}
use Rattle.std.specs.Prelude.{All, codes}
use Rattle.std.specs.Str.{is_utf8}
use Rattle.foz_words.specs.declared.key.Key.{Key}
use Rattle.foz_words.specs.Hex.{hex_text}
use Rattle.float_fold.proofs.Folds.{folded_stays}
use Rattle.float_fold.proofs.CompactText.{compact_text-plain}
use Rattle.serde_json.specs.Data as json
use Rattle.serde_json.specs.Data.{Data, no_members, depth}
use Rattle.serde_json.specs.Find.{get, as_object}
use Rattle.serde_json.specs.Read.{read}
use Rattle.serde_json.specs.Written.{compact_text, has_float}
use Rattle.spirv_varint.specs.Varint.{spelling}
use Rattle.spirv_varint.specs.Reading as varints
use Rattle.spirv_varint.proofs.Lengths.{length-spelling, spelling_read, Splits-length}
use Rattle.vk_form.specs.Shape.{struct, Fields, Plains}
use Rattle.json_fold.specs.Written.{whole, written, with_member, AreInRange}
use Rattle.json_fold.specs.Sound.{is_sound}
use Rattle.json_fold.specs.Reading.{reading}
use Rattle.json_fold.proofs.RoundTrip.{written_is_read}
use Rattle.json_fold.proofs.Floats.{with_member_none, written_has_no_float}
use Rattle.vk_basic.specs.declared.shader_module.ShaderModule as shader
use Rattle.vk_basic.specs.Tables as basic_table
use Rattle.vk_basic.specs.Plain as basic_plain
use Rattle.vk_basic.specs.Made as basic_made
use Rattle.vk_basic.specs.Back as basic_back
use Rattle.vk_pass.specs.Tables as pass_table
use Rattle.vk_pass.specs.Plain as pass_plain
use Rattle.vk_pass.specs.Made as pass_made
use Rattle.vk_pass.specs.Back as pass_back
use Rattle.vk_pipe.specs.Tables as pipe_table
use Rattle.vk_pipe.specs.Plain as pipe_plain
use Rattle.vk_pipe.specs.Made as pipe_made
use Rattle.vk_pipe.specs.Back as pipe_back
use Rattle.json_basic.specs.Names as basic_names
use Rattle.json_pass.specs.Names as pass_names
use Rattle.json_pipe.specs.Names as pipe_names
use Rattle.state_words.specs.declared.state.State.{State}
use Rattle.state_words.specs.declared.state.State.TheVariants.{Sampler, SetLayout, PipelineLayout, ShaderModule, RenderPass, Graphics, Compute}
use Rattle.state_words.specs.Words.{key_of}
use Rattle.state_json.specs.declared.kind.JsonKind.{JsonKind}
use Rattle.state_json.specs.declared.kind.JsonKind.TheVariants as kind
use Rattle.state_json.specs.Parsed.{parsed, of_folded, or_json}
use Rattle.state_json.specs.States.{read_as, state_reading, IsInStateRange}
use Rattle.state_json.proofs.ReadAs.{is_read}
use Rattle.foz_payload.specs.declared.unreadable.Unreadable.{Unreadable}
use Rattle.foz_payload.specs.Tables.{module_head}
use Rattle.foz_payload.specs.Names as names
use Rattle.foz_payload.specs.Parts.{json_part, behind_zero}
use Rattle.foz_payload.specs.Meaning.{◌then◌, kind_of_tag, member_of, modules, of_parse, of_field, or_none, or_no_zero, only_object, found, object_in, plain_meaning, head_in, head_of, window_at, window_of, MeansWords, MeansHead, MeansBy, Means}
use Rattle.foz_payload.specs.Held.{IsHeld, IsReadAgain, json_of}
use Rattle.foz_payload.specs.Payload.{payload_value, module_object, member_of_state, object_of, payload}
use Rattle.json_fold.proofs.Depth.{member_within, structure_within}
use Rattle.foz_payload.proofs.NoZero.{NoZero, text_free, all_json, front_json, zero_there, behind_front}

-- ---- the text

or_else_true : {A : Type 0} (b : Bool) (x y : A) → b ≡ true → cond b x y ≡ x
or_else_true true x y e = refl
or_else_true false x y e = absurd cc

both_true : (a b : Bool) → a ≡ true → b ≡ true → (a && b) ≡ true
both_true a b p q = rw (p, q) refl

text_again : (value : Data) → has_float value ≡ false → is_utf8 (compact_text value) ≡ true → read (compact_text value) ≡ Some value → parsed (compact_text value) ≡ Ok value
unfolding parsed
text_again value none utf8 again =
    ap of_folded (folded_stays (compact_text value) (compact_text-plain value none))
    ∙ ap or_json (or_else_true (is_utf8 (compact_text value)) (read (compact_text value)) None utf8 ∙ again)

-- ---- the found_object

under_digits : (digits : List ℕ) (found_object : Data) → get digits (json.object (with_member digits found_object no_members)) ≡ Some found_object
unfolding with_member
under_digits digits found_object = rw (tied_itself nat_list_cmp_total digits) refl

abbrev IsUnder : List ℕ → ℕ → Data → Type 0
IsUnder member hash found_object = get member (payload_value member hash found_object) ≡ Some (json.object (with_member (hex_text 16 hash) found_object no_members))

found_again : (member : List ℕ) (hash : ℕ) (found_object : Data) → IsUnder member hash found_object → is_some (as_object found_object) ≡ true → found member hash (payload_value member hash found_object) ≡ Some found_object
unfolding found
found_again member hash found_object under is_object =
    ap (λ (o : Option Data). option_and_then only_object (option_and_then (get (hex_text 16 hash)) o)) under
    ∙ ap (λ (o : Option Data). option_and_then only_object o) (under_digits (hex_text 16 hash) found_object)
    ∙ or_else_true (is_some (as_object found_object)) (Some found_object) None is_object

object_again : (member : List ℕ) (hash : ℕ) (found_object : Data) (text : List ℕ) → parsed text ≡ Ok (payload_value member hash found_object) → IsUnder member hash found_object → is_some (as_object found_object) ≡ true → object_in member hash text ≡ Ok found_object
unfolding object_in
object_again member hash found_object text again under is_object =
    ap (λ r. of_parse r then λ value. or_none (found member hash value)) again ∙ ap or_none (found_again member hash found_object under is_object)

-- ---- all kinds but shader modules

plain_value : (kind : JsonKind) (key : Key) (found_object : Data) (state : State) (text : List ℕ) → NoZero text → parsed text ≡ Ok (payload_value (member_of kind) key.hash found_object) → IsUnder (member_of kind) key.hash found_object
    → is_some (as_object found_object) ≡ true → state_reading kind found_object [] ≡ Ok state → plain_meaning (Some kind) key text ≡ Ok state
unfolding plain_meaning
plain_value kind key found_object state text free again under is_object reads =
    ap (λ (json : List ℕ). object_in (member_of kind) key.hash json then λ o. of_field (state_reading kind o [])) (all_json text free)
    ∙ ap (λ (r : Result Data Unreadable). r then λ o. of_field (state_reading kind o [])) (object_again (member_of kind) key.hash found_object text again under is_object)
    ∙ ap of_field reads

structure_again : {S : Type 0} (state : S → State) (kind : JsonKind) (fs : Fields) (plain : S → Plains fs) (made : Plains fs → S) → ((x : S) → made (plain x) ≡ x) → is_sound (struct fs) ≡ true
    → ((value : Data) → state_reading kind value [] ≡ read_as state fs made value []) → (key : Key) → kind_of_tag key.tag ≡ Some kind → (key.tag == 4) ≡ false
    → (s : S) (text : List ℕ) → AreInRange fs (plain s) → IsUnder (member_of kind) key.hash (written (struct fs) (plain s)) → NoZero text → parsed text ≡ Ok (payload_value (member_of kind) key.hash (written (struct fs) (plain s)))
    → Means key text (Ok (state s))
unfolding Means
structure_again state kind fs plain made back sound is key of_tag other s text range under free again =
    let found_object = written (struct fs) (plain s) in
    let reads : state_reading kind found_object [] ≡ Ok (state s) = is found_object ∙ is_read state fs plain made back found_object [] s (written_is_read fs (plain s) [] sound range) in
    let means : Ok (state s) ≡ plain_meaning (kind_of_tag key.tag) key text = sym (ap (λ (k : Option JsonKind). plain_meaning k key text) of_tag ∙ plain_value kind key found_object (state s) text free again under refl reads) in
    subst (λ (b : Bool). MeansBy b key text (Ok (state s))) (sym other) means

-- ---- shader modules

window_whole : (count : ℕ) (bytes : List ℕ) → 4 * count ≤ 67_108_864 → window_of (4 * count) 0 (length bytes) bytes ≡ Ok bytes
unfolding window_of
window_whole count bytes fits =
    or_else_true _ (window_at 0 (length bytes) bytes) _ (both_true _ _ (eq-eqb (4 * count % 4) 0 (omega arith)) (le-leb (4 * count) 67_108_864 fits))
    ∙ or_else_true _ (Ok (take (length bytes) (drop 0 bytes))) _ (le-leb (0 + length bytes) (length bytes) (omega arith))
    ∙ ap Ok (take_all (length bytes) bytes (omega arith))

words_again : (m : shader.ShaderModule) → All (λ word. word < 2 ^ 32) m.code → MeansWords m.flags (4 * length m.code / 4) (Ok (spelling m.code)) (Ok (ShaderModule m))
words_again m fits =
    let count : length m.code ≡ 4 * length m.code / 4 = omega arith in
    (Ok m.code, (λ e. cc), subst (λ (n : ℕ). varints.Answers (spelling m.code) n (Ok m.code)) count (spelling_read m.code fits), refl)

unfoldable head_value : shader.ShaderModule → Plains module_head
unfolding module_head
head_value m = (m.flags, (4 * length m.code, (0, (length (spelling m.code), tt))))

head_in_range : (m : shader.ShaderModule) → m.flags < 2 ^ 32 → length m.code ≤ 16_777_216 → AreInRange module_head (head_value m)
unfolding module_head head_value
head_in_range m flags short = (flags, (omega arith, (omega arith, (omega (arith, length-spelling m.code), tt))))

module_again : (hash : ℕ) (m : shader.ShaderModule) (text : List ℕ) → m.flags < 2 ^ 32 → All (λ word. word < 2 ^ 32) m.code → length m.code ≤ 16_777_216 → NoZero text → IsUnder modules hash (module_object m)
    → parsed text ≡ Ok (payload_value modules hash (module_object m)) → MeansHead (head_of hash (text ++ 0 ∷ spelling m.code)) (text ++ 0 ∷ spelling m.code) (Ok (ShaderModule m))
unfolding head_of module_head module_object MeansHead head_value
module_again hash m text flags fits short free under again =
    let bytes = text ++ 0 ∷ spelling m.code in
    let x : Plains module_head = head_value m in
    let reads : reading (struct module_head) (module_object m) [] ≡ Ok x = written_is_read module_head x [] names.module_head (head_in_range m flags short) in
    let json_head : head_in hash text ≡ Ok x =
    ap (λ (r : Result Data Unreadable). r then λ o. of_field (reading (struct module_head) o [])) (object_again modules hash (module_object m) text again under refl) ∙ ap of_field reads in
    let head : head_of hash bytes ≡ Ok x =
    ap (λ (b : Bool). or_no_zero b then λ _. head_in hash (json_part bytes)) (zero_there text (spelling m.code) free) ∙ ap (head_in hash) (front_json text (spelling m.code) free) ∙ json_head in
    let window : window_of (4 * length m.code) 0 (length (spelling m.code)) (behind_zero bytes) ≡ Ok (spelling m.code) =
    ap (window_of (4 * length m.code) 0 (length (spelling m.code))) (behind_front text (spelling m.code) free) ∙ window_whole (length m.code) (spelling m.code) (omega arith) in
    subst (λ (h : Result (Plains module_head) Unreadable). MeansHead h bytes (Ok (ShaderModule m))) (sym head)
    (subst (λ (w : Result (List ℕ) Unreadable). MeansWords m.flags (4 * length m.code / 4) w (Ok (ShaderModule m))) (sym window) (words_again m fits))

-- ---- the value of a payload

under : (of_kind : JsonKind) (hash : ℕ) (inner : Data) → IsUnder (member_of of_kind) hash inner
unfolding payload_value with_member
under kind.Sampler hash inner = refl
under kind.SetLayout hash inner = refl
under kind.PipelineLayout hash inner = refl
under kind.RenderPass hash inner = refl
under kind.Graphics hash inner = refl
under kind.Compute hash inner = refl

under_modules : (hash : ℕ) (inner : Data) → IsUnder modules hash inner
unfolding payload_value with_member
under_modules hash inner = refl

value_has_no_float : (member : List ℕ) (hash : ℕ) (inner : Data) → has_float inner ≡ false → has_float (payload_value member hash inner) ≡ false
unfolding payload_value
value_has_no_float member hash inner none =
    with_member_none (codes "version") (whole 6) _ refl (with_member_none member (json.object (with_member (hex_text 16 hash) inner no_members)) no_members (with_member_none (hex_text 16 hash) inner no_members none refl) refl)

state_has_no_float : (state : State) → has_float (object_of state) ≡ false
unfolding module_object
state_has_no_float (Sampler s) = written_has_no_float (struct basic_table.sampler) (basic_plain.sampler s)
state_has_no_float (SetLayout s) = written_has_no_float (struct basic_table.set_layout) (basic_plain.set_layout s)
state_has_no_float (PipelineLayout s) = written_has_no_float (struct basic_table.pipeline_layout) (basic_plain.pipeline_layout s)
state_has_no_float (ShaderModule m) = written_has_no_float (struct module_head) _
state_has_no_float (RenderPass s) = written_has_no_float (struct pass_table.render_pass) (pass_plain.render_pass s)
state_has_no_float (Graphics s) = written_has_no_float (struct pipe_table.graphics_pipeline) (pipe_plain.graphics_pipeline s)
state_has_no_float (Compute s) = written_has_no_float (struct pipe_table.compute_pipeline) (pipe_plain.compute_pipeline s)

value_within : (member : List ℕ) (hash : ℕ) (inner : Data) → depth (payload_value member hash inner) ≤ depth inner + 2
unfolding payload_value
value_within member hash inner =
    let n = depth inner in
    let by_hash = member_within (hex_text 16 hash) inner no_members n (omega arith) (omega arith) in
    let by_kind = member_within member (json.object (with_member (hex_text 16 hash) inner no_members)) no_members (n + 1) (omega arith) (omega arith) in
    let all = member_within (codes "version") (whole 6) (with_member member (json.object (with_member (hex_text 16 hash) inner no_members)) no_members) (n + 1) (omega arith) by_kind in
    omega arith

within : {a b c : ℕ} → a ≤ b → b ≤ c → a ≤ c
within p q = omega arith

depth_of_state : (state : State) → depth (object_of state) ≤ 100
unfolding module_object module_head basic_table.sampler basic_table.binding basic_table.set_layout basic_table.push_range basic_table.pipeline_layout pass_table.attachment pass_table.attachment_ref pass_table.subpass pass_table.subpass_dependency pass_table.render_pass pipe_table.map_entry pipe_table.spec_info pipe_table.stage pipe_table.vertex_binding pipe_table.vertex_attribute pipe_table.vertex_input pipe_table.input_assembly pipe_table.tessellation pipe_table.viewport pipe_table.scissor pipe_table.viewports pipe_table.rasterization pipe_table.multisample pipe_table.stencil_op pipe_table.depth_stencil pipe_table.blend_attachment pipe_table.color_blend pipe_table.dynamic pipe_table.graphics_pipeline pipe_table.compute_pipeline
depth_of_state (Sampler s) = within (structure_within basic_table.sampler (basic_plain.sampler s)) (omega arith)
depth_of_state (SetLayout s) = within (structure_within basic_table.set_layout (basic_plain.set_layout s)) (omega arith)
depth_of_state (PipelineLayout s) = within (structure_within basic_table.pipeline_layout (basic_plain.pipeline_layout s)) (omega arith)
depth_of_state (ShaderModule m) = within (structure_within module_head _) (omega arith)
depth_of_state (RenderPass s) = within (structure_within pass_table.render_pass (pass_plain.render_pass s)) (omega arith)
depth_of_state (Graphics s) = within (structure_within pipe_table.graphics_pipeline (pipe_plain.graphics_pipeline s)) (omega arith)
depth_of_state (Compute s) = within (structure_within pipe_table.compute_pipeline (pipe_plain.compute_pipeline s)) (omega arith)

-- ---- the law

value_again : (state : State) → IsReadAgain (json_of state) → parsed (compact_text (json_of state)) ≡ Ok (json_of state)
value_again state again =
    let nests = value_within (member_of_state state) (key_of state).hash (object_of state) in
    let small = depth_of_state state in
    text_again (json_of state) (value_has_no_float (member_of_state state) (key_of state).hash (object_of state) (state_has_no_float state)) again.utf8 (again.read (omega arith))

plain_again : {S : Type 0} (state : S → State) (s : S) → Means (key_of (state s)) (compact_text (json_of (state s))) (Ok (state s)) → payload (state s) ≡ compact_text (json_of (state s)) → Means (key_of (state s)) (payload (state s)) (Ok (state s))
plain_again state s means is = subst (λ (bytes : List ℕ). Means (key_of (state s)) bytes (Ok (state s))) (sym is) means

module_means : (m : shader.ShaderModule) → IsHeld (ShaderModule m) → IsReadAgain (json_of (ShaderModule m)) → length (payload (ShaderModule m)) ≤ 16_777_216 → Means (key_of (ShaderModule m)) (payload (ShaderModule m)) (Ok (ShaderModule m))
unfolding key_of payload Means
module_means m held again small =
    let text = compact_text (json_of (ShaderModule m)) in
    let each_byte = Splits-length m.code (spelling m.code) [] (spelling_read m.code held.1).0 in
    module_again (key_of (ShaderModule m)).hash m text held.0 held.1 (omega (arith, each_byte, length-append text (0 ∷ spelling m.code))) (text_free (json_of (ShaderModule m))) (under_modules (key_of (ShaderModule m)).hash (module_object m)) (value_again (ShaderModule m) again)

pub read_back : (state : State) → IsHeld state → IsReadAgain (json_of state) → length (payload state) ≤ 16_777_216 → Means (key_of state) (payload state) (Ok state)
unfolding key_of payload IsInStateRange state_reading
read_back (Sampler s) held again small = plain_again Sampler s (structure_again Sampler kind.Sampler basic_table.sampler basic_plain.sampler basic_made.sampler basic_back.sampler basic_names.sampler (λ value. refl) (key_of (Sampler s)) refl refl s _ held (under kind.Sampler _ _) (text_free (json_of (Sampler s))) (value_again (Sampler s) again)) (append-nil _)
read_back (SetLayout s) held again small = plain_again SetLayout s (structure_again SetLayout kind.SetLayout basic_table.set_layout basic_plain.set_layout basic_made.set_layout basic_back.set_layout basic_names.set_layout (λ value. refl) (key_of (SetLayout s)) refl refl s _ held (under kind.SetLayout _ _) (text_free (json_of (SetLayout s))) (value_again (SetLayout s) again)) (append-nil _)
read_back (PipelineLayout s) held again small = plain_again PipelineLayout s (structure_again PipelineLayout kind.PipelineLayout basic_table.pipeline_layout basic_plain.pipeline_layout basic_made.pipeline_layout basic_back.pipeline_layout basic_names.pipeline_layout (λ value. refl) (key_of (PipelineLayout s)) refl refl s _ held (under kind.PipelineLayout _ _) (text_free (json_of (PipelineLayout s))) (value_again (PipelineLayout s) again)) (append-nil _)
read_back (ShaderModule m) held again small = module_means m held again small
read_back (RenderPass s) held again small = plain_again RenderPass s (structure_again RenderPass kind.RenderPass pass_table.render_pass pass_plain.render_pass pass_made.render_pass pass_back.render_pass pass_names.render_pass (λ value. refl) (key_of (RenderPass s)) refl refl s _ held (under kind.RenderPass _ _) (text_free (json_of (RenderPass s))) (value_again (RenderPass s) again)) (append-nil _)
read_back (Graphics s) held again small = plain_again Graphics s (structure_again Graphics kind.Graphics pipe_table.graphics_pipeline pipe_plain.graphics_pipeline pipe_made.graphics_pipeline pipe_back.graphics_pipeline pipe_names.graphics_pipeline (λ value. refl) (key_of (Graphics s)) refl refl s _ held (under kind.Graphics _ _) (text_free (json_of (Graphics s))) (value_again (Graphics s) again)) (append-nil _)
read_back (Compute s) held again small = plain_again Compute s (structure_again Compute kind.Compute pipe_table.compute_pipeline pipe_plain.compute_pipeline pipe_made.compute_pipeline pipe_back.compute_pipeline pipe_names.compute_pipeline (λ value. refl) (key_of (Compute s)) refl refl s _ held (under kind.Compute _ _) (text_free (json_of (Compute s))) (value_again (Compute s) again)) (append-nil _)
