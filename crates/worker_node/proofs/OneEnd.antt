-- The bytes that a worker takes come to one end.
use Rattle.std.proofs.Common.{◌≡◌, ◌≢◌, ◌⊎◌, inl, inr, ℕ, ◌+◌, ◌≤◌, List, [], ◌∷◌, ◌++◌, length, refl, sym, ap, ap₂, ◌∙◌, subst, append_assoc, arith}
use Rattle.std.specs.List.{AllByRecursion}
use Rattle.worker_msg.specs.Frames.{spelling, Sent}
use Rattle.worker_msg.specs.Streams.{row_of}
use Rattle.worker_msg.specs.declared.msg.Msg.{Msg}
use Rattle.worker_msg.specs.declared.msg.Msg.TheVariants as msg
use Rattle.worker_msg.specs.declared.side.Side.TheVariants.{Worker}
use Rattle.worker_msg.proofs.Exclusive.{partial_or_bad, one_place}
use Rattle.worker_msg.proofs.Taking.{one_message, message_or_partial, message_or_bad}
use Rattle.worker_node.specs.Ends.{ComesTo, IsEnd, IsToEnd, Stops}
use Rattle.worker_node.specs.declared.served.Served.{Served}
use Rattle.worker_node.specs.declared.served.Served.TheVariants.{Quit, InputEnded, ReadFault, WriteFault, BadFrame, Memory}

-- where a message stands that is worked off, nothing stops
goes_on : (m : Msg) (bytes x : List ℕ) → Sent Worker m → m ≢ msg.Quit → bytes ≡ spelling m ++ x → Stops bytes → ⊥
goes_on m bytes x sent going is (inl quit) = going (one_message Worker m msg.Quit x quit.0 sent tt (sym is ∙ quit.1)).0
goes_on m bytes x sent going is (inr (inl partial)) = message_or_partial Worker m bytes x sent is partial
goes_on m bytes x sent going is (inr (inr bad)) = message_or_bad Worker m bytes x bad.0 sent is bad.1

-- two rows of messages before the same bytes, each up to where none is worked off
one_row : (ms ns : List Msg) (r s : List ℕ) → row_of ms ++ r ≡ row_of ns ++ s → AllByRecursion (Sent Worker) ms → AllByRecursion (λ m. m ≢ msg.Quit) ms
    → AllByRecursion (Sent Worker) ns → AllByRecursion (λ n. n ≢ msg.Quit) ns → Stops r → Stops s → (ms ≡ ns) × (r ≡ s)
unfolding row_of
one_row [] [] r s e a b c d stops other = (refl, e)
one_row [] (n ∷ ns) r s e a b c d stops other = absurd (goes_on n r (row_of ns ++ s) c.0 d.0 (e ∙ append_assoc (spelling n) (row_of ns) s) stops)
one_row (m ∷ ms) [] r s e a b c d stops other = absurd (goes_on m s (row_of ms ++ r) a.0 b.0 (sym e ∙ append_assoc (spelling m) (row_of ms) r) other)
one_row (m ∷ ms) (n ∷ ns) r s e a b c d stops other =
    let first = one_message Worker m n (row_of ms ++ r) (row_of ns ++ s) a.0 c.0 (sym (append_assoc (spelling m) (row_of ms) r) ∙ (e ∙ append_assoc (spelling n) (row_of ns) s)) in
    let rest = one_row ms ns r s first.1 a.1 b.1 c.1 d.1 stops other in
    (ap₂ (λ (x : Msg) (xs : List Msg). x ∷ xs) first.0 rest.0, rest.1)

stops_at : (left : List ℕ) (ms : List Msg) (r : List ℕ) (end : Served) → ComesTo left ms r end → Stops r
stops_at left ms r Quit comes = inl comes
stops_at left ms r (InputEnded size) comes = inr (inl comes.0)
stops_at left ms r (BadFrame at) comes = inr (inr (comes.0, comes.1))
stops_at left ms r ReadFault comes = absurd comes
stops_at left ms r WriteFault comes = absurd comes
stops_at left ms r Memory comes = absurd comes

one_comes : (left : List ℕ) (ms : List Msg) (r : List ℕ) (end other : Served) → ComesTo left ms r end → ComesTo left ms r other → end ≡ other
one_comes left ms r Quit Quit a b = refl
one_comes left ms r Quit (InputEnded size) a b = absurd (message_or_partial Worker msg.Quit r a.0 tt a.1 b.0)
one_comes left ms r Quit (BadFrame at) a b = absurd (message_or_bad Worker msg.Quit r a.0 b.0 tt a.1 b.1)
one_comes left ms r (InputEnded size) Quit a b = absurd (message_or_partial Worker msg.Quit r b.0 tt b.1 a.0)
one_comes left ms r (InputEnded size) (InputEnded size') a b = ap InputEnded (a.1 ∙ sym b.1)
one_comes left ms r (InputEnded size) (BadFrame at) a b = absurd (partial_or_bad Worker r b.0 a.0 b.1)
one_comes left ms r (BadFrame at) Quit a b = absurd (message_or_bad Worker msg.Quit r b.0 a.0 tt b.1 a.1)
one_comes left ms r (BadFrame at) (InputEnded size) a b = absurd (partial_or_bad Worker r a.0 b.0 a.1)
one_comes left ms r (BadFrame at) (BadFrame at') a b = ap BadFrame (a.2 ∙ (ap (λ (n : ℕ). length (row_of ms) + n) (one_place Worker r a.0 b.0 a.1 b.1) ∙ sym b.2))
one_comes left ms r ReadFault other a b = absurd a
one_comes left ms r WriteFault other a b = absurd a
one_comes left ms r Memory other a b = absurd a
one_comes left ms r end ReadFault a b = absurd b
one_comes left ms r end WriteFault a b = absurd b
one_comes left ms r end Memory a b = absurd b

pub one_end : (stream left : List ℕ) (end other : Served) → IsEnd stream left end → IsEnd stream left other → end ≡ other
one_end stream left end other a b =
    let same = one_row a.messages b.messages a.rest b.rest (sym a.cut.split.whole ∙ b.cut.split.whole) a.cut.split.each a.cut.going b.cut.split.each b.cut.going
    (stops_at left a.messages a.rest end a.comes) (stops_at left b.messages b.rest other b.comes) in
    one_comes left a.messages a.rest end other a.comes
    (subst (λ (ms : List Msg). ComesTo left ms a.rest other) (sym same.0) (subst (λ (r : List ℕ). ComesTo left b.messages r other) (sym same.1) b.comes))
