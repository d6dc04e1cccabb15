-- What a message of a worker is, and what no message is.
use Rattle.std.proofs.Common.{ℕ, ◌≡◌, ◌≢◌, ◌+◌, ◌≤◌, Bool, true, false, cond, List, [], ◌++◌, length, length-append, refl, ap, sym, ◌∙◌, subst, arith}
use Rattle.std.proofs.lemmas.List.{append-nil, nil_from_length}
use Rattle.std.proofs.lemmas.Bool.{and_parts, and_from, eqb-true, eq-eqb}
use Rattle.foz_words.specs.Bytes.{le32, le64}
use Rattle.foz_words.specs.Key.{is_key}
use Rattle.foz_words.specs.declared.key.Key.{Key}
use Rattle.worker_msg.specs.Frames.{spelling, framed, Sent}
use Rattle.worker_msg.specs.Feeds.{Feeding, TakesMessage, IsBadAt}
use Rattle.worker_msg.specs.Fronts.{IsBad}
use Rattle.worker_msg.specs.declared.msg.Msg.{Msg}
use Rattle.worker_msg.specs.declared.msg.Msg.TheVariants.{Hello, Load, Do, Reply, Quit}
use Rattle.worker_msg.specs.declared.side.Side.TheVariants.{Crew}
use Rattle.slot_log.specs.Answers.{IsWrong, bad_frame, hello, other_key}
use Rattle.replay_crew.specs.Readings.{Reads, reading_by}
use Rattle.replay_crew.specs.declared.reading.Reading.{Reading}
use Rattle.replay_crew.specs.declared.reading.Reading.TheVariants.{Unfinished, Answer, Wrong}

key_same : (a b : Key) → is_key a b ≡ true → a ≡ b
key_same a b e =
    let parts = and_parts _ _ e in
    ap (λ t. record { tag = t; hash = a.hash }) (eqb-true a.tag b.tag parts.0) ∙ ap (λ h. record { tag = b.tag; hash = h }) (eqb-true a.hash b.hash parts.1)

key_itself : (a : Key) → is_key a a ≡ true
key_itself a = and_from _ _ (eq-eqb a.tag a.tag refl) (eq-eqb a.hash a.hash refl)

length-reply : (key : Key) (code : ℕ) → length (spelling (Reply key code)) ≡ 21
unfolding spelling framed le32 le64
length-reply key code = refl

-- a Reply that takes all bytes that there are room for
whole_reply : (key : Key) (code : ℕ) (bytes rest : List ℕ) → bytes ≡ spelling (Reply key code) ++ rest → length bytes ≤ 21 → bytes ≡ spelling (Reply key code)
whole_reply key code bytes rest e few =
    let long = ap length e ∙ length-append (spelling (Reply key code)) rest in
    let size = length-reply key code in
    let none : length rest ≡ 0 = omega arith in
    e ∙ (ap (λ x. spelling (Reply key code) ++ x) (nil_from_length rest none) ∙ append-nil (spelling (Reply key code)))

pub read_message : (key : Key) (old new : Feeding) (message : Msg) → old.side ≡ Crew → length old.kept ≤ 21 → TakesMessage old message new → Reads key old.kept (reading_by key message)
read_message key old new Hello side few t = hello new.kept t.spelled
read_message key old new (Load other payload) side few t = absurd (subst (λ s. Sent s (Load other payload)) side t.sent)
read_message key old new (Do other payload) side few t = absurd (subst (λ s. Sent s (Do other payload)) side t.sent)
read_message key old new Quit side few t = absurd (subst (λ s. Sent s Quit) side t.sent)
read_message key old new (Reply other code) side few t = cases (is_key other key) refl
  where
    cases : (b : Bool) → is_key other key ≡ b → Reads key old.kept (cond b (Answer code) Wrong)
    cases true e = whole_reply key code old.kept new.kept (subst (λ k. old.kept ≡ spelling (Reply k code) ++ new.kept) (key_same other key e) t.spelled) few
    cases false e = other_key other code new.kept (λ same. let wrong : false ≡ true = sym e ∙ (ap (is_key other) (sym same) ∙ key_itself other) in cc) t.spelled

pub never_unfinished : (key : Key) (message : Msg) → reading_by key message ≡ Unfinished → ⊥
never_unfinished key Hello e = let g : Wrong ≡ Unfinished = e in cc
never_unfinished key (Load other payload) e = let g : Wrong ≡ Unfinished = e in cc
never_unfinished key (Do other payload) e = let g : Wrong ≡ Unfinished = e in cc
never_unfinished key Quit e = let g : Wrong ≡ Unfinished = e in cc
never_unfinished key (Reply other code) e = cases (is_key other key) e
  where
    cases : (b : Bool) → cond b (Answer code) Wrong ≡ Unfinished → ⊥
    cases true h = let g : Answer code ≡ Unfinished = h in cc
    cases false h = let g : Wrong ≡ Unfinished = h in cc

pub bad_is_wrong : (key : Key) (feed : Feeding) (at : ℕ) → feed.side ≡ Crew → IsBadAt feed at → IsWrong key feed.kept
bad_is_wrong key feed at side b = bad_frame b.within (subst (λ s. IsBad s feed.kept b.within) side b.bad)
