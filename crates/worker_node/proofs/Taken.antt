-- The session over all pieces that a source gives.
use Rattle.std.proofs.Common.{ℕ, false, ◌≡◌, ◌+◌, inl, inr, List, [], ◌++◌, length, take, Option, refl, sym, ap, ◌∙◌, subst, append_assoc, arith}
use Rattle.std.proofs.lemmas.List.{length-append}
use Rattle.foz_words.specs.declared.key.Key.{Key}
use Rattle.state_words.specs.declared.state.State.{State}
use Rattle.worker_msg.specs.Frames.{spelling}
use Rattle.worker_msg.specs.Fronts.{IsPartial}
use Rattle.worker_msg.specs.Feeds.{Feeding, given_to}
use Rattle.worker_msg.specs.declared.msg.Msg.TheVariants.{Hello}
use Rattle.worker_msg.specs.declared.side.Side.TheVariants.{Worker}
use Rattle.worker_node.specs.Sessions.{Standing}
use Rattle.worker_node.specs.Ends.{IsEnd, IsToEnd}
use Rattle.worker_node.specs.Steps.{IsCutting, IsWorking, IsServedBehind, Reaches, IsWorkedOff, stopped_as}
use Rattle.worker_node.specs.declared.ends.End.{End}
use Rattle.worker_node.specs.declared.ends.Stopped.{Stopped}
use Rattle.worker_node.specs.declared.ends.Stopped.TheVariants as stops
use Rattle.worker_node.specs.declared.served.Served.{Served}
use Rattle.worker_node.specs.declared.served.Served.TheVariants as served
use Rattle.worker_node.proofs.Runs.{working_first, working_given, whole_end, short_end}

-- one piece more was taken
pub piece_more : (all taken left piece now : List ℕ) → all ≡ taken ++ left → left ≡ piece ++ now → all ≡ (taken ++ piece) ++ now
piece_more all taken left piece now so_far read = so_far ∙ (ap (λ (l : List ℕ). taken ++ l) read ∙ sym (append_assoc taken piece now))

pub more_given : (old new : Feeding) (piece : List ℕ) → new ≡ record old { kept = old.kept ++ piece } → given_to new ≡ given_to old + length piece
more_given old new piece e =
    let same = ap given_to e in
    let long = length-append old.kept piece in
    omega arith

pub input_ended : (feed : Feeding) (taken left : List ℕ) (size : ℕ) → IsCutting taken feed → IsPartial Worker feed.kept → size ≡ length feed.kept → left ≡ [] → IsEnd taken left (served.InputEnded size)
input_ended feed taken left size c p s l = record { messages = c.messages; rest = feed.kept; cut = c.cut; comes = (p, s, l) }

-- ---- which end it is

pub reached_as : (taken : List ℕ) (feed : Feeding) (result reached : Option End) → result ≡ reached → Reaches taken feed result → Reaches taken feed reached
reached_as taken feed result reached e r = subst (λ (o : Option End). Reaches taken feed o) e r

pub stopped_early : (stopped : Stopped) → IsToEnd (stopped_as stopped) → ⊥
stopped_early stops.WriteFault h = h
stopped_early stops.Memory h = h

-- where nothing came
pub none_came : (n : ℕ) (bytes left now : List ℕ) → n ≡ 0 → left ≡ take n bytes ++ now → left ≡ now
none_came n bytes left now none read = read ∙ ap (λ (k : ℕ). take k bytes ++ now) none

module _ {M : Type 0} (creates : M → Key → State → ℕ → M → Type 0) (before : M) (start : List ℕ) where
  pub worked_as : (taken : List ℕ) (feed : Feeding) (output : List ℕ) (standing : Standing M) (result reached : Option End) → result ≡ reached → IsWorkedOff creates before start taken feed output standing result
      → IsWorkedOff creates before start taken feed output standing reached
  worked_as taken feed output standing result reached e w = subst (λ (o : Option End). IsWorkedOff creates before start taken feed output standing o) e w

  pub served_as : (taken written : List ℕ) (after : M) (end told : Served) → end ≡ told → IsServedBehind creates before start taken written after end → IsServedBehind creates before start taken written after told
  served_as taken written after end told e s = subst (λ (o : Served). IsServedBehind creates before start taken written after o) e s

  -- nothing was taken
  pub nothing_taken : (written : List ℕ) → written ≡ start ++ spelling Hello → IsServedBehind creates before start [] written before served.Memory
  nothing_taken written w =
      let first : Feeding = record { side = Worker; place = 0; kept = [] } in
      let short = short_end creates before start [] first written (record { marked = false; meaning = before }) (working_first creates before start first written refl w) in
      record { out = short.0; is = short.1; served = short.2 }

  module _ (taken : List ℕ) (feed : Feeding) (written : List ℕ) (standing : Standing M) (w : IsWorking creates before start taken feed written standing) where
    pub read_failed : IsPartial Worker feed.kept → IsServedBehind creates before start taken written standing.meaning served.ReadFault
    read_failed p =
        let whole = whole_end creates before start taken feed written standing w (inr (inl p)) in
        record { out = whole.0; is = whole.1; served = whole.2 }

    pub ended_early : (size : ℕ) → IsPartial Worker feed.kept → IsServedBehind creates before start taken written standing.meaning (served.InputEnded size)
    ended_early size p =
        let whole = whole_end creates before start taken feed written standing w (inr (inl p)) in
        record { out = whole.0; is = whole.1; served = whole.2 }

    -- a piece was taken from the source, and there was no room for it
    pub piece_lost : (piece : List ℕ) → IsServedBehind creates before start (taken ++ piece) written standing.meaning served.Memory
    piece_lost piece =
        let longer : Feeding = record feed { kept = feed.kept ++ piece } in
        let short = short_end creates before start (taken ++ piece) longer written standing (working_given creates before start taken piece feed longer written standing refl w) in
        record { out = short.0; is = short.1; served = short.2 }
