-- One thing alone stands at the beginning.
use Rattle.std.proofs.Common.{ℕ, ◌≡◌, inl, inr, cond, ltb, List, [], ◌∷◌, ◌++◌, length, ap, sym, subst, ◌∙◌, append_assoc}
use Rattle.std.proofs.lemmas.List.{append-nil}
use Rattle.worker_msg.specs.Frames.{IsBody, framed}
use Rattle.worker_msg.specs.Fronts.{Begins, IsPartial, IsBad}
use Rattle.worker_msg.specs.declared.side.Side.{Side}
use Rattle.worker_msg.proofs.Parts.{body_short, one_frame, comparable, Begins-front}

nothing_left : (x rest : List ℕ) → x ++ rest ≡ [] → rest ≡ []
nothing_left [] rest e = e
nothing_left (h ∷ t) rest e = cc

pub whole_or_partial : (side : Side) (body bytes x : List ℕ) → IsBody side body → bytes ≡ framed body ++ x → IsPartial side bytes → ⊥
whole_or_partial side body bytes x is_body e p =
    let b = p.begins in
    let both : framed body ++ (x ++ b.rest) ≡ framed b.body ++ [] = sym (append_assoc (framed body) x b.rest) ∙ (ap (λ l. l ++ b.rest) (sym e) ∙ (sym b.parts ∙ sym (append-nil (framed b.body)))) in
    p.more (nothing_left x b.rest (one_frame body b.body (x ++ b.rest) [] (body_short side body is_body) (body_short side b.body b.is_body) both).1)

pub whole_or_bad : (side : Side) (body bytes x : List ℕ) (place : ℕ) → IsBody side body → bytes ≡ framed body ++ x → IsBad side bytes place → ⊥
whole_or_bad side body bytes x place is_body e bad =
    elim (comparable bad.good (bad.byte ∷ bad.more) (framed body) x (sym bad.parts ∙ e)) [
      | inl l ↦ longer l.0 l.1 l.2
      | inr r ↦ whole_or_partial side body bad.good r.0 is_body r.1 bad.partial
    ]
  where
    longer : (d : List ℕ) → framed body ≡ bad.good ++ d → bad.byte ∷ bad.more ≡ d ++ x → ⊥
    longer [] parts next = whole_or_partial side body bad.good [] is_body (sym (append-nil bad.good) ∙ (sym parts ∙ sym (append-nil (framed body)))) bad.partial
    longer (k ∷ d) parts next =
        let same : bad.byte ≡ k = cc in
        bad.none (record { body = body; rest = d; is_body = is_body; parts = parts ∙ (ap (λ n. bad.good ++ n ∷ d) (sym same) ∙ sym (append_assoc bad.good (bad.byte ∷ []) d)) })

pub partial_or_bad : (side : Side) (bytes : List ℕ) (place : ℕ) → IsPartial side bytes → IsBad side bytes place → ⊥
partial_or_bad side bytes place p bad =
    bad.none (Begins-front side (bad.good ++ bad.byte ∷ []) bad.more
    (subst (λ (l : List ℕ). Begins side l) (bad.parts ∙ sym (append_assoc bad.good (bad.byte ∷ []) bad.more)) p.begins))

-- no part of a frame goes on with the byte that is bad
not_on : (side : Side) (good more : List ℕ) (byte : ℕ) → (Begins side (good ++ byte ∷ []) → ⊥) → Begins side (good ++ byte ∷ more) → ⊥
not_on side good more byte none b = none (Begins-front side (good ++ byte ∷ []) more (subst (λ (l : List ℕ). Begins side l) (sym (append_assoc good (byte ∷ []) more)) b))

pub one_place : (side : Side) (bytes : List ℕ) (place other : ℕ) → IsBad side bytes place → IsBad side bytes other → place ≡ other
one_place side bytes place other p q =
    let same : p.good ≡ q.good = elim (comparable p.good (p.byte ∷ p.more) q.good (q.byte ∷ q.more) (sym p.parts ∙ q.parts)) [
      | inl l ↦ sym (no_longer p.good q.good p.more q.more p.byte q.byte l.0 p.none q.partial l.1 l.2)
      | inr r ↦ no_longer q.good p.good q.more p.more q.byte p.byte r.0 q.none p.partial r.1 r.2
    ] in
    p.at ∙ (ap (λ (good : List ℕ). cond (ltb (length good) 4) 0 (length good)) same ∙ sym q.at)
  where
    no_longer : (short long more_short more_long : List ℕ) (byte_short byte_long : ℕ) (d : List ℕ) → (Begins side (short ++ byte_short ∷ []) → ⊥) → IsPartial side long → long ≡ short ++ d → byte_short ∷ more_short ≡ d ++ byte_long ∷ more_long → long ≡ short
    no_longer short long more_short more_long byte_short byte_long [] none partial e next = e ∙ append-nil short
    no_longer short long more_short more_long byte_short byte_long (k ∷ d) none partial e next =
        let same : byte_short ≡ k = cc in
        absurd (not_on side short d byte_short none (subst (λ (l : List ℕ). Begins side l) (e ∙ ap (λ n. short ++ n ∷ d) (sym same)) partial.begins))
