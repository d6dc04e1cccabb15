-- How the work on the messages of a feed ends.
use Rattle.std.proofs.Common.{ℕ, ◌≡◌, ◌+◌, ◌<◌, inl, inr, List, ◌++◌, length, take, sym, ap, ◌∙◌, subst, arith}
use Rattle.std.proofs.lemmas.List.{length-append}
use Rattle.foz_words.specs.declared.key.Key.{Key}
use Rattle.state_words.specs.declared.state.State.{State}
use Rattle.worker_msg.specs.Fronts.{IsPartial, IsBad}
use Rattle.worker_msg.specs.Feeds.{Feeding, TakesMessage}
use Rattle.worker_msg.specs.declared.msg.Msg.{Msg}
use Rattle.worker_msg.specs.declared.msg.Msg.TheVariants.{Hello}
use Rattle.worker_msg.specs.declared.side.Side.{Side}
use Rattle.worker_msg.specs.declared.side.Side.TheVariants.{Worker}
use Rattle.worker_msg.specs.Frames.{spelling}
use Rattle.worker_node.specs.Sessions.{Standing}
use Rattle.worker_node.specs.Ends.{IsEnd, IsCutShort}
use Rattle.worker_node.specs.Steps.{IsWork, IsNext, EndsAt, IsUnworked, IsCutting, IsWorking, IsServedBehind, ended, stopped_as}
use Rattle.worker_node.specs.declared.ends.End.{End}
use Rattle.worker_node.specs.declared.ends.End.TheVariants as ends
use Rattle.worker_node.specs.declared.ends.Stopped.{Stopped}
use Rattle.worker_node.specs.declared.ends.Stopped.TheVariants as stops
use Rattle.worker_node.specs.declared.working.Next.{Next}
use Rattle.worker_node.specs.declared.working.Next.TheVariants as nexts
use Rattle.worker_node.specs.declared.served.Served.TheVariants as served
use Rattle.worker_node.proofs.Runs.{spelling_long, whole_end, short_end, worked_short_end, hello_end}

-- the bytes that are kept get fewer
pub fewer : (old new : Feeding) (m : Msg) → TakesMessage old m new → length new.kept < length old.kept
fewer old new m t =
    let whole = ap length t.spelled ∙ length-append (spelling m) new.kept in
    let some = spelling_long m in
    omega arith

pub next_message : (old new : Feeding) (next : Next) (m : Msg) → next ≡ nexts.Message m → IsNext old next new → TakesMessage old m new × IsWork m
next_message old new next m e n = subst (λ (o : Next). IsNext old o new) e n

pub next_partial : (old new : Feeding) (next : Next) → next ≡ nexts.Partial → IsNext old next new → IsPartial old.side old.kept × (new ≡ old)
next_partial old new next e n = subst (λ (o : Next). IsNext old o new) e n

pub next_ends : (old new : Feeding) (next : Next) (end : End) → next ≡ nexts.Ends end → IsNext old next new → EndsAt old end
next_ends old new next end e n = subst (λ (o : Next). IsNext old o new) e n

pub partial_cut : (taken : List ℕ) (old new : Feeding) → IsPartial old.side old.kept × (new ≡ old) → IsCutting taken old → IsCutting taken new × IsPartial Worker new.kept
partial_cut taken old new p c = (
  subst (λ (f : Feeding). IsCutting taken f) (sym p.1) c,
  subst (λ (f : Feeding). IsPartial Worker f.kept) (sym p.1) (subst (λ (s : Side). IsPartial s old.kept) c.side p.0),
)

pub ends_cut : (taken : List ℕ) (old : Feeding) (end : End) → IsCutting taken old → EndsAt old end → (left : List ℕ) → IsEnd taken left (ended end)
ends_cut taken old ends.Quit c h left = record { messages = c.messages; rest = old.kept; cut = c.cut; comes = h }
ends_cut taken old (ends.BadFrame at) c h left = record {
  messages = c.messages;
  rest = old.kept;
  cut = c.cut;
  comes = (h.within, subst (λ (s : Side). IsBad s old.kept h.within) c.side h.bad, h.place ∙ ap (λ (n : ℕ). n + h.within) c.place);
}

module _ {M : Type 0} (creates : M → Key → State → ℕ → M → Type 0) (before : M) (start taken : List ℕ) where
  pub partial_working : (old new : Feeding) (output : List ℕ) (standing : Standing M) → new ≡ old → IsWorking creates before start taken old output standing → IsWorking creates before start taken new output standing
  partial_working old new output standing e w = subst (λ (f : Feeding). IsWorking creates before start taken f output standing) (sym e) w

  pub ends_served : (old : Feeding) (output : List ℕ) (standing : Standing M) (end : End) → IsWorking creates before start taken old output standing → EndsAt old end
      → IsServedBehind creates before start taken output standing.meaning (ended end)
  ends_served old output standing ends.Quit w h =
      let whole = whole_end creates before start taken old output standing w (inl h) in
      record { out = whole.0; is = whole.1; served = whole.2 }
  ends_served old output standing (ends.BadFrame at) w h =
      let whole = whole_end creates before start taken old output standing w (inr (inr (h.within, subst (λ (s : Side). IsBad s old.kept h.within) w.side h.bad))) in
      record { out = whole.0; is = whole.1; served = whole.2 }

  pub out_of_memory : (old : Feeding) (output : List ℕ) (standing : Standing M) → IsWorking creates before start taken old output standing → IsServedBehind creates before start taken output standing.meaning served.Memory
  out_of_memory old output standing w =
      let short = short_end creates before start taken old output standing w in
      record { out = short.0; is = short.1; served = short.2 }

  unworked_short : (old new : Feeding) (m : Msg) (was now : List ℕ) (standing : Standing M) (after : M) → TakesMessage old m new → IsWork m → IsUnworked creates was standing m after now
      → IsWorking creates before start taken old was standing → (out : List ℕ) × (now ≡ start ++ out) × IsCutShort creates before taken out after
  unworked_short old new m was now standing after t k (inl untouched) w =
      let short = short_end creates before start taken old was standing w in
      (short.0, untouched.written ∙ short.1, subst (λ (x : M). IsCutShort creates before taken short.0 x) (sym untouched.meaning) short.2)
  unworked_short old new m was now standing after t k (inr worked) w = worked_short_end creates before start taken old new m was now standing after t k worked w

  stopped_short : (now : List ℕ) (after : M) (stopped : Stopped) → ((out : List ℕ) × (now ≡ start ++ out) × IsCutShort creates before taken out after)
      → IsServedBehind creates before start taken now after (stopped_as stopped)
  stopped_short now after stops.WriteFault short = record { out = short.0; is = short.1; served = short.2 }
  stopped_short now after stops.Memory short = record { out = short.0; is = short.1; served = short.2 }

  pub unworked_end : (old new : Feeding) (m : Msg) (was now : List ℕ) (standing : Standing M) (after : M) (stopped : Stopped) → TakesMessage old m new → IsWork m
      → IsUnworked creates was standing m after now → IsWorking creates before start taken old was standing → IsServedBehind creates before start taken now after (stopped_as stopped)
  unworked_end old new m was now standing after stopped t k u w = stopped_short now after stopped (unworked_short old new m was now standing after t k u w)

  -- no more than a part of the greeting was written
  pub unsent_end : (now : List ℕ) (count : ℕ) → now ≡ start ++ take count (spelling Hello) → IsServedBehind creates before start taken now before served.WriteFault
  unsent_end now count e = stopped_short now before stops.WriteFault (take count (spelling Hello), e, hello_end creates before start taken count)
