-- Legal stories: their beginnings, one more note, and the keys of what they add.
use Rattle.std.proofs.Common.{◌≡◌, ◌≢◌, ℕ, zero, suc, ◌+◌, ◌≤◌, ◌⊎◌, Bool, true, false, cond, ◌&&◌, if◌then◌else◌, nat_lt, nat_le, ◌==◌, ◌||◌, position, List, [], ◌∷◌, ◌++◌, length, take, get_or, Some, None, refl, sym, ap, ◌∙◌, subst, append_assoc, length-append, inl, inr, ⊎_elim, arith}
use Rattle.std.specs.List.{position_or_len}
use Rattle.std.proofs.lemmas.Bool.Decides.{nat_tests}
use Rattle.std.proofs.lemmas.List.Sums.{fails_before_first}
use Rattle.foz_words.specs.declared.key.Key.{Key}
use Rattle.foz_words.specs.Key.{is_key}
use Rattle.foz_entry.specs.declared.cut.Entry.{Entry}
use Rattle.foz_entry.specs.Entries.{is_undamaged, end_of, entry_of}
use Rattle.foz_entry.specs.Limits.{payload_limit}
use Rattle.record_words.specs.declared.note.FullNote.{FullNote}
use Rattle.record_words.specs.declared.note.RecordCall.{RecordCall}
use Rattle.record_words.specs.declared.note.RecordCall.TheVariants.{Record}
use Rattle.record_words.specs.declared.note.RecordReply.{RecordReply}
use Rattle.record_words.specs.declared.note.RecordReply.TheVariants.{New, TooLarge, Broken}
use Rattle.foz_crc.specs.Crc32.{crc32_of}
use Rattle.record_words.specs.Entries.{holds_key, holder}
use Rattle.record_words.specs.declared.state.RecorderState.{RecorderState}
use Rattle.record_words.specs.Recorder.{after, reply_of}
use Rattle.record_words.specs.Story.{At, AreApart, after_note, leads, payload_held, Records, Answers, AnswersCall, Legal}
use Rattle.record_words.proofs.Places.{take_more, at_below, at_one, at_here, at_append}
use Rattle.record_words.proofs.Leads.{leads_whole, leads_next, added_by}
use Rattle.record_words.proofs.Law.{new_index}

pub legal_begins : (origin : RecorderState) (a b : List FullNote) → Legal origin (a ++ b) → Legal origin a
legal_begins origin a b legal before n rest e = legal before n (rest ++ b) (ap (λ (z : List FullNote). z ++ b) e ∙ append_assoc before (n ∷ rest) b)

last_or : (a : List FullNote) (n : FullNote) (before : List FullNote) (m : FullNote) (rest : List FullNote) → a ++ n ∷ [] ≡ before ++ m ∷ rest
    → ((before ≡ a) × (m ≡ n)) ⊎ ((r : List FullNote) × (a ≡ before ++ m ∷ r))
last_or [] n [] m rest e = inl (refl, (cc))
last_or [] n (x ∷ xs) m rest e = let l = ap length e in let a = length-append xs (m ∷ rest) in absurd (omega arith)
last_or (y ∷ ys) n [] m rest e = let h : y ≡ m = cc in inr (ys, ap (λ (z : FullNote). z ∷ ys) h)
last_or (y ∷ ys) n (x ∷ xs) m rest e =
    let h : y ≡ x = cc in
    let t : ys ++ n ∷ [] ≡ xs ++ m ∷ rest = cc in
    ⊎_elim (λ (p : (xs ≡ ys) × (m ≡ n)). inl ((let q = p.0 in cc), p.1)) (λ (p : (r : List FullNote) × (ys ≡ xs ++ m ∷ r)). inr (p.0, (let q = p.1 in cc))) (last_or ys n xs m rest t)

pub legal_more : (origin : RecorderState) (story : List FullNote) (n : FullNote) → Legal origin story → Answers (leads origin story) n → Legal origin (story ++ n ∷ [])
legal_more origin story n legal answers before m rest e =
    ⊎_elim (λ (p : (before ≡ story) × (m ≡ n)). subst (λ (z : List FullNote). Answers (leads origin z) m) (sym p.0) (subst (λ (z : FullNote). Answers (leads origin story) z) (sym p.1) answers))
    (λ (p : (r : List FullNote) × (story ≡ before ++ m ∷ r)). legal before m p.0 p.1)
    (last_or story n before m rest e)

-- the list around a place
at_split : {X : Type 0} (xs : List X) (i : ℕ) (x : X) → At xs i x → (rest : List X) × (xs ≡ take i xs ++ x ∷ rest)
at_split [] i x e = absurd cc
at_split {X} (y ∷ ys) zero x e = let h : y ≡ x = cc in (ys, ap (λ (z : X). z ∷ ys) h)
at_split {X} (y ∷ ys) (suc i) x e = let r = at_split ys i x e in (r.0, ap (λ (z : List X). y ∷ z) r.1)

pub legal_at : (origin : RecorderState) (story : List FullNote) (p : ℕ) (n : FullNote) → Legal origin story → At story p n → Answers (leads origin (take p story)) n
legal_at origin story p n legal at = let s = at_split story p n at in legal (take p story) n s.0 s.1

read_at : {X : Type 0} (xs : List X) (p : ℕ) (x d : X) → At xs p x → get_or xs p d ≡ x
read_at [] p x d e = absurd cc
read_at (y ∷ ys) zero x d e = cc
read_at (y ∷ ys) (suc p) x d e = read_at ys p x d e

-- where no element passes the test
none_long : (a n : ℕ) (b : Bool) → nat_lt a n ≡ b → cond b (Some a) None ≡ None → n ≤ a
none_long a n true t e = absurd cc
none_long a n false t e = grind (arith, nat_tests)

none_passes : {X : Type 0} (test : X → Bool) (xs : List X) → position test xs ≡ None → (i : ℕ) (x : X) → At xs i x → test x ≡ false
none_passes {X} test xs e i x at =
    let long = none_long (position_or_len test xs) (length xs) (nat_lt (position_or_len test xs) (length xs)) refl e in
    let below = at_below xs i x at in
    subst (λ (z : X). test z ≡ false) (read_at xs i x x at) (fails_before_first test xs i x (omega arith))

pub unheld : (key : Key) (entries : List Entry) → holder key entries ≡ None → (i : ℕ) (x : Entry) → At entries i x → is_undamaged x ≡ true → x.head.key ≢ key
unfolding holder
unheld key entries e i x at sound same =
    let misses : holds_key key x ≡ false = none_passes (holds_key key) entries e i x at in
    let hits : holds_key key x ≡ true = both_true (is_undamaged x) (is_key key x.head.key) sound (subst (λ (z : Key). is_key key z ≡ true) (sym same) (key_itself key)) in
    cc
  where
    both_true : (a b : Bool) → a ≡ true → b ≡ true → (a && b) ≡ true
    both_true true b p q = q
    both_true false b p q = p

    key_itself : (k : Key) → is_key k k ≡ true
    key_itself k = let a : (k.tag == k.tag) ≡ true = grind (arith, nat_tests) in let b : (k.hash == k.hash) ≡ true = grind (arith, nat_tests) in both_true _ _ a b

-- a note that is New adds this entry
pub record IsAdded (s : RecorderState) (n : FullNote) (key : Key) (payload : List ℕ) (index : ℕ) : Type 0 where
  pub reply : reply_of s.entries key payload ≡ New index
  pub entries : (after_note s n).entries ≡ s.entries ++ entry_of (end_of s.entries) key payload ∷ []

pub not_broken : (b : Bool) (r : RecordReply) (index : ℕ) → New index ≡ (if b then Broken else r) → r ≡ New index
not_broken true r index e = absurd cc
not_broken false r index e = sym e

pub is_added : (s : RecorderState) (n : FullNote) (key : Key) (index : ℕ) → Answers s n → n.note.call ≡ Record key → n.note.reply ≡ New index → (payload : List ℕ) × IsAdded s n key payload index
is_added s n key index answers call reply =
    let a : (given : List ℕ) × Records s key given n = subst (λ (z : RecordCall). AnswersCall s n z) call answers in
    let given = a.0 in
    let new : reply_of s.entries key given ≡ New index = not_broken s.broken (reply_of s.entries key given) index (sym reply ∙ a.1.reply) in
    let held : n.payload ≡ given = a.1.payload ∙ ap (payload_held s.entries given) reply in (
      given,
      record {
        reply = new;
        entries = ap (λ (z : RecordCall). (after s z n.note.reply n.payload).entries) call
            ∙ (ap (λ (z : RecordReply). (after s (Record key) z n.payload).entries) reply
            ∙ ap (λ (z : List ℕ). s.entries ++ entry_of (end_of s.entries) key z ∷ []) held);
      },
    )

-- what a story adds has keys that no undamaged entry before has
pub story_apart : (origin : RecorderState) (story : List FullNote) → Legal origin story → AreApart origin.entries (leads origin story).entries
story_apart origin story legal i x y j low below at_x at_y sound =
    let later = (leads origin story).entries in
    let added = added_by origin story i low (at_below later i x at_x) in
    let p = added.0 in
    let adds = added.1 in
    let s = leads origin (take p story) in
    let is = is_added s adds.note adds.key adds.index (legal_at origin story p adds.note legal adds.at) adds.call adds.reply in
    let entry = entry_of (end_of s.entries) adds.key is.0 in
    let unheld_key = (new_index s.entries adds.key is.0 adds.index is.1.reply).0 in
    let rest = leads_whole origin story (suc p) in
    let next : (leads origin (take (suc p) story)).entries ≡ s.entries ++ entry ∷ [] = ap (λ (z : RecorderState). z.entries) (leads_next origin story p adds.note adds.at) ∙ is.1.entries in
    let spelled : later ≡ s.entries ++ entry ∷ rest.0 = rest.1 ∙ (ap (λ (z : List Entry). z ++ rest.0) next ∙ append_assoc s.entries (entry ∷ []) rest.0) in
    let there : At later i entry = subst (λ (z : ℕ). At later z entry) adds.length_is (subst (λ (z : List Entry). At z (length s.entries) entry) (sym spelled) (at_here s.entries entry rest.0)) in
    let is_x : entry ≡ x = at_one later i entry x there at_x in
    let of_y : At (s.entries ++ entry ∷ rest.0) j y = subst (λ (z : List Entry). At z j y) spelled at_y in
    let length_is = adds.length_is in
    let before_y : At s.entries j y = ⊎_elim (λ (h : At s.entries j y). h) (λ (h : (k : ℕ) × (At (entry ∷ rest.0) k y × (j ≡ length s.entries + k))). absurd (let e = h.1.1 in omega arith)) (at_append s.entries (entry ∷ rest.0) j y of_y) in
    subst (λ (z : Entry). y.head.key ≢ z.head.key) is_x (unheld adds.key s.entries unheld_key j y before_y sound)

within : (b : Bool) (size index : ℕ) (r : RecordReply) → (if b then TooLarge size else r) ≡ New index → b ≡ false
within true size index r e = absurd cc
within false size index r e = refl

either : (a b : Bool) → b ≡ true → (a || b) ≡ true
either true b e = refl
either false b e = e

-- an entry of a permitted size is undamaged
pub entry_sound : (offset : ℕ) (key : Key) (payload : List ℕ) → length payload ≤ payload_limit → is_undamaged (entry_of offset key payload) ≡ true
unfolding is_undamaged
entry_sound offset key payload h =
    let fits : nat_le (length payload) payload_limit ≡ true = grind (arith, nat_tests) in
    let same : (length payload == length payload) ≡ true = grind (arith, nat_tests) in
    let sum : ((crc32_of payload == 0) || (crc32_of payload == crc32_of payload)) ≡ true = either _ _ (let e : (crc32_of payload == crc32_of payload) ≡ true = grind (arith, nat_tests) in e) in
    rw (fits, same, sum)

-- so each that is added is
pub added_sound : (entries : List Entry) (key : Key) (payload : List ℕ) (index offset : ℕ) → reply_of entries key payload ≡ New index → is_undamaged (entry_of offset key payload) ≡ true
unfolding reply_of
added_sound entries key payload index offset e =
    let test = within (nat_lt payload_limit (length payload)) (length payload) index _ e in
    entry_sound offset key payload (grind (arith, nat_tests))

-- what a story adds is undamaged
pub story_sound : (origin : RecorderState) (story : List FullNote) → Legal origin story → (i : ℕ) (x : Entry) → length origin.entries ≤ i → At (leads origin story).entries i x → is_undamaged x ≡ true
story_sound origin story legal i x low at_x =
    let later = (leads origin story).entries in
    let added = added_by origin story i low (at_below later i x at_x) in
    let p = added.0 in
    let adds = added.1 in
    let s = leads origin (take p story) in
    let is = is_added s adds.note adds.key adds.index (legal_at origin story p adds.note legal adds.at) adds.call adds.reply in
    let entry = entry_of (end_of s.entries) adds.key is.0 in
    let rest = leads_whole origin story (suc p) in
    let next : (leads origin (take (suc p) story)).entries ≡ s.entries ++ entry ∷ [] = ap (λ (z : RecorderState). z.entries) (leads_next origin story p adds.note adds.at) ∙ is.1.entries in
    let spelled : later ≡ s.entries ++ entry ∷ rest.0 = rest.1 ∙ (ap (λ (z : List Entry). z ++ rest.0) next ∙ append_assoc s.entries (entry ∷ []) rest.0) in
    let there : At later i entry = subst (λ (z : ℕ). At later z entry) adds.length_is (subst (λ (z : List Entry). At z (length s.entries) entry) (sym spelled) (at_here s.entries entry rest.0)) in
    subst (λ (z : Entry). is_undamaged z ≡ true) (at_one later i entry x there at_x) (added_sound s.entries adds.key is.0 adds.index (end_of s.entries) is.1.reply)

-- of two images, each the first entries and some of the added ones, one begins with the other
pub images_nest : (before added : List Entry) (a b : ℕ) → a ≤ b → (rest : List Entry) × (before ++ take b added ≡ (before ++ take a added) ++ rest)
images_nest before added a b h = let m = take_more added a b h in (m.0, ap (λ (z : List Entry). before ++ z) m.1 ∙ sym (append_assoc before (take a added) m.0))
