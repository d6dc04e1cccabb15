-- Which key a frame asks for.
use Rattle.std.proofs.Common.{ℕ, ◌≡◌, ◌-◌, ◌<◌, ◌≤◌, ◌^◌, List, ◌∷◌, ◌++◌, length, Some, None, refl, ap, sym, ◌∙◌, get_or, take, drop, append_assoc, arith}
use Rattle.std.proofs.lemmas.List.{take_all, length-drop}
use Rattle.foz_words.specs.Bytes.{le32, le64}
use Rattle.foz_words.specs.declared.key.Key.{Key}
use Rattle.foz_words.proofs.Words.{le32-append-injective, le64-append-injective}
use Rattle.worker_msg.specs.Frames.{spelling, framed, key_bytes}
use Rattle.worker_msg.specs.Feeds.{Spells}
use Rattle.worker_msg.specs.declared.msg.Msg.{Msg}
use Rattle.worker_msg.specs.declared.msg.Msg.TheVariants.{Hello, Load, Do, Reply, Quit}
use Rattle.worker_msg.specs.declared.side.Side.TheVariants.{Worker}
use Rattle.mem_slot.specs.Acts.{key_asked}

kind_of : (n kind d : ℕ) (rest : List ℕ) → get_or (le32 n ++ kind ∷ rest) 4 d ≡ kind
unfolding le32
kind_of n kind d rest = refl

after_kind : (n kind : ℕ) (rest : List ℕ) → drop 5 (le32 n ++ kind ∷ rest) ≡ rest
unfolding le32
after_kind n kind rest = refl

after_tag : (n kind tag : ℕ) (rest : List ℕ) → drop 9 (le32 n ++ kind ∷ (le32 tag ++ rest)) ≡ rest
unfolding le32
after_tag n kind tag rest = refl

-- how a Load and a Do are spelled
work_parts : (kind : ℕ) (key : Key) (payload : List ℕ) → framed (kind ∷ (key_bytes key ++ payload)) ≡ le32 (length (kind ∷ (key_bytes key ++ payload))) ++ kind ∷ (le32 key.tag ++ (le64 key.hash ++ payload))
unfolding framed
work_parts kind key payload = ap (λ x. le32 (length (kind ∷ (key_bytes key ++ payload))) ++ kind ∷ x) (append_assoc (le32 key.tag) (le64 key.hash) payload)

load_parts : (key : Key) (payload : List ℕ) → (n : ℕ) × (spelling (Load key payload) ≡ le32 n ++ 2 ∷ (le32 key.tag ++ (le64 key.hash ++ payload)))
unfolding spelling
load_parts key payload = (length (2 ∷ (key_bytes key ++ payload)), work_parts 2 key payload)

do_parts : (key : Key) (payload : List ℕ) → (n : ℕ) × (spelling (Do key payload) ≡ le32 n ++ 3 ∷ (le32 key.tag ++ (le64 key.hash ++ payload)))
unfolding spelling
do_parts key payload = (length (3 ∷ (key_bytes key ++ payload)), work_parts 3 key payload)

quit_short : length (spelling Quit) ≡ 5
unfolding spelling framed le32
quit_short = refl

long_enough : (n tag hash : ℕ) (payload : List ℕ) → 17 ≤ length (le32 n ++ 3 ∷ (le32 tag ++ (le64 hash ++ payload)))
unfolding le32 le64
long_enough n tag hash payload = omega arith

pub too_short : (frame : List ℕ) (message : Msg) → Spells Worker frame message → length frame < 17 → None ≡ key_asked message
too_short frame Hello s l = absurd s.sent
too_short frame (Load key payload) s l = refl
too_short frame (Do key payload) s l =
    let parts = do_parts key payload in
    let long = long_enough parts.0 key.tag key.hash payload in
    let same = ap length (s.spelled ∙ parts.1) in
    absurd (omega arith)
too_short frame (Reply key code) s l = absurd s.sent
too_short frame Quit s l = refl

pub other_kind : (frame : List ℕ) (d : ℕ) (message : Msg) → Spells Worker frame message → (get_or frame 4 d ≡ 3 → ⊥) → None ≡ key_asked message
other_kind frame d Hello s differs = absurd s.sent
other_kind frame d (Load key payload) s differs = refl
other_kind frame d (Do key payload) s differs =
    let parts = do_parts key payload in
    absurd (differs (ap (λ f. get_or f 4 d) (s.spelled ∙ parts.1) ∙ kind_of parts.0 3 d (le32 key.tag ++ (le64 key.hash ++ payload))))
other_kind frame d (Reply key code) s differs = absurd s.sent
other_kind frame d Quit s differs = refl

-- what stands after the first bytes, as a slice is read
abbrev pub rest : ℕ → List ℕ → List ℕ
rest n bytes = take (length bytes - n) (drop n bytes)

rest_is : (n : ℕ) (bytes : List ℕ) → rest n bytes ≡ drop n bytes
rest_is n bytes = take_all (length bytes - n) (drop n bytes) (let long = length-drop n bytes in omega arith)

pub asked : (frame : List ℕ) (d tag hash : ℕ) (message : Msg) → Spells Worker frame message → 17 ≤ length frame → get_or frame 4 d ≡ 3 → rest 5 frame ≡ le32 tag ++ drop 4 (rest 5 frame) → rest 9 frame ≡ le64 hash ++ drop 8 (rest 9 frame) → tag < 2 ^ 32 → hash < 2 ^ 64 →
    Some (record { tag = tag; hash = hash }) ≡ key_asked message
asked frame d tag hash Hello s l k t h small_tag small_hash = absurd s.sent
asked frame d tag hash (Reply key code) s l k t h small_tag small_hash = absurd s.sent
asked frame d tag hash Quit s l k t h small_tag small_hash = absurd (let size = ap length s.spelled ∙ quit_short in omega arith)
asked frame d tag hash (Load key payload) s l k t h small_tag small_hash =
    let parts = load_parts key payload in
    let two = ap (λ f. get_or f 4 d) (s.spelled ∙ parts.1) ∙ kind_of parts.0 2 d (le32 key.tag ++ (le64 key.hash ++ payload)) in
    absurd (omega arith)
asked frame d tag hash (Do key payload) s l k t h small_tag small_hash =
    let parts = do_parts key payload in
    let tags = le32-append-injective tag key.tag (drop 4 (rest 5 frame)) (le64 key.hash ++ payload) small_tag s.sent.0.tag (sym t ∙ (rest_is 5 frame ∙ (ap (drop 5) (s.spelled ∙ parts.1) ∙ after_kind parts.0 3 (le32 key.tag ++ (le64 key.hash ++ payload))))) in
    let hashes = le64-append-injective hash key.hash (drop 8 (rest 9 frame)) payload small_hash s.sent.0.hash (sym h ∙ (rest_is 9 frame ∙ (ap (drop 9) (s.spelled ∙ parts.1) ∙ after_tag parts.0 3 key.tag (le64 key.hash ++ payload)))) in
    ap (λ x. Some (record { tag = x; hash = hash })) tags.0 ∙ ap (λ x. Some (record { tag = key.tag; hash = x })) hashes.0
