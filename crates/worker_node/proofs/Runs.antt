-- One message more, one piece more, and the end.
use Rattle.std.proofs.Common.{ℕ, false, ◌≡◌, ◌≢◌, ◌≤◌, inl, inr, List, [], ◌∷◌, ◌++◌, length, take, drop, refl, sym, ap, ◌∙◌, subst, append_assoc, append-nil, arith}
use Rattle.std.specs.List.{AllByRecursion}
use Rattle.std.proofs.lemmas.List.{length-append, take-append-drop}
use Rattle.foz_words.specs.declared.key.Key.{Key}
use Rattle.state_words.specs.declared.state.State.{State}
use Rattle.worker_msg.specs.Frames.{framed, spelling, body_of, Sent, quit}
use Rattle.worker_msg.specs.Fronts.{IsPartial}
use Rattle.worker_msg.specs.Feeds.{Feeding, TakesMessage}
use Rattle.worker_msg.specs.Streams.{row_of}
use Rattle.worker_msg.specs.declared.msg.Msg.{Msg}
use Rattle.worker_msg.specs.declared.msg.Msg.TheVariants.{Hello, Load, Do, Reply, Quit}
use Rattle.worker_msg.specs.declared.side.Side.{Side}
use Rattle.worker_msg.specs.declared.side.Side.TheVariants.{Worker}
use Rattle.worker_msg.proofs.Parts.{length-framed}
use Rattle.worker_node.specs.Sessions.{Standing, WorksAll, starts, goes_on}
use Rattle.worker_node.specs.Ends.{IsCut, Stops, IsWholeSession, IsCutShort}
use Rattle.worker_node.specs.Steps.{IsWork, IsWorked, IsWorkedShort, IsCutting, IsWorking}

-- ---- rows of messages

row-append : (ms ns : List Msg) → row_of (ms ++ ns) ≡ row_of ms ++ row_of ns
unfolding row_of
row-append [] ns = refl
row-append (m ∷ ms) ns = ap (λ (l : List ℕ). spelling m ++ l) (row-append ms ns) ∙ sym (append_assoc (spelling m) (row_of ms) (row_of ns))

pub row-one : (m : Msg) → row_of (m ∷ []) ≡ spelling m
unfolding row_of
row-one m = append-nil (spelling m)

pub row-none : row_of [] ≡ []
unfolding row_of
row-none = refl

row-push : (ms : List Msg) (m : Msg) → row_of (ms ++ m ∷ []) ≡ row_of ms ++ spelling m
row-push ms m = row-append ms (m ∷ []) ∙ ap (λ (l : List ℕ). row_of ms ++ l) (row-one m)

all_push : (P : Msg → Type 0) (ms : List Msg) (m : Msg) → AllByRecursion P ms → P m → AllByRecursion P (ms ++ m ∷ [])
all_push P [] m all p = (p, tt)
all_push P (n ∷ ms) m all p = (all.0, all_push P ms m all.1 p)

pub spelling_long : (m : Msg) → 4 ≤ length (spelling m)
unfolding spelling
spelling_long m = let long = length-framed (body_of m) in omega arith

-- ---- cuts

cut_none : IsCut [] [] []
cut_none = record { split = record { whole = sym (ap (λ (l : List ℕ). l ++ []) row-none); each = tt }; going = tt }

cut_given : (taken kept piece : List ℕ) (ms : List Msg) → IsCut taken ms kept → IsCut (taken ++ piece) ms (kept ++ piece)
cut_given taken kept piece ms c = record {
  split = record { whole = ap (λ (l : List ℕ). l ++ piece) c.split.whole ∙ append_assoc (row_of ms) kept piece; each = c.split.each };
  going = c.going;
}

not_quit : (m : Msg) → IsWork m → m ≢ Quit
not_quit Hello w = absurd w
not_quit (Load key payload) w = λ e. cc
not_quit (Do key payload) w = λ e. cc
not_quit (Reply key code) w = absurd w
not_quit Quit w = absurd w

cut_took : (taken kept rest : List ℕ) (ms : List Msg) (m : Msg) → IsCut taken ms kept → Sent Worker m → kept ≡ spelling m ++ rest → IsWork m → IsCut taken (ms ++ m ∷ []) rest
cut_took taken kept rest ms m c sent e w = record {
  split = record {
    whole = c.split.whole ∙ (ap (λ (l : List ℕ). row_of ms ++ l) e ∙ (sym (append_assoc (row_of ms) (spelling m) rest) ∙ ap (λ (l : List ℕ). l ++ rest) (sym (row-push ms m))));
    each = all_push (Sent Worker) ms m c.split.each sent;
  };
  going = all_push (λ n. n ≢ Quit) ms m c.going (not_quit m w);
}

-- ---- what the feed keeps

pub cutting_first : (feed : Feeding) → feed ≡ record { side = Worker; place = 0; kept = [] } → IsCutting [] feed
cutting_first feed e = record {
  messages = [];
  side = ap (λ (f : Feeding). f.side) e;
  cut = subst (λ (l : List ℕ). IsCut [] [] l) (sym (ap (λ (f : Feeding). f.kept) e)) cut_none;
  place = ap (λ (f : Feeding). f.place) e ∙ sym (ap length row-none);
}

pub cutting_given : (taken piece : List ℕ) (old new : Feeding) → new ≡ record old { kept = old.kept ++ piece } → IsCutting taken old → IsCutting (taken ++ piece) new
cutting_given taken piece old new e c = record {
  messages = c.messages;
  side = ap (λ (f : Feeding). f.side) e ∙ c.side;
  cut = subst (λ (l : List ℕ). IsCut (taken ++ piece) c.messages l) (sym (ap (λ (f : Feeding). f.kept) e)) (cut_given taken old.kept piece c.messages c.cut);
  place = ap (λ (f : Feeding). f.place) e ∙ c.place;
}

pub cutting_took : (taken : List ℕ) (old new : Feeding) (m : Msg) → TakesMessage old m new → IsWork m → IsCutting taken old → IsCutting taken new
cutting_took taken old new m t w c = record {
  messages = c.messages ++ m ∷ [];
  side = t.side ∙ c.side;
  cut = cut_took taken old.kept new.kept c.messages m c.cut (subst (λ (s : Side). Sent s m) c.side t.sent) t.spelled w;
  place =
      let more = ap length (row-push c.messages m) ∙ length-append (row_of c.messages) (spelling m) in
      let before = c.place in
      let now = t.place in
      omega arith;
}

-- ---- messages that are worked off

module _ {M : Type 0} (creates : M → Key → State → ℕ → M → Type 0) (before : M) (start : List ℕ) where
  pub working_first : (feed : Feeding) (written : List ℕ) → feed ≡ record { side = Worker; place = 0; kept = [] } → written ≡ start ++ spelling Hello
      → IsWorking creates before start [] feed written (record { marked = false; meaning = before })
  working_first feed written e w =
      let c = cutting_first feed e in record {
        messages = [];
        replies = [];
        side = c.side;
        cut = subst (λ (l : List ℕ). IsCut [] [] l) (sym (ap (λ (f : Feeding). f.kept) e)) cut_none;
        works = starts;
        written = w ∙ ap (λ (l : List ℕ). start ++ l) (sym (append-nil (spelling Hello)) ∙ ap (λ (l : List ℕ). spelling Hello ++ l) (sym row-none));
      }

  pub working_given : (taken piece : List ℕ) (old new : Feeding) (written : List ℕ) (standing : Standing M) → new ≡ record old { kept = old.kept ++ piece }
      → IsWorking creates before start taken old written standing → IsWorking creates before start (taken ++ piece) new written standing
  working_given taken piece old new written standing e w = record {
    messages = w.messages;
    replies = w.replies;
    side = ap (λ (f : Feeding). f.side) e ∙ w.side;
    cut = subst (λ (l : List ℕ). IsCut (taken ++ piece) w.messages l) (sym (ap (λ (f : Feeding). f.kept) e)) (cut_given taken old.kept piece w.messages w.cut);
    works = w.works;
    written = w.written;
  }

  replied : (replies more : List Msg) (out : List ℕ) → out ≡ row_of more → (start ++ (spelling Hello ++ row_of replies)) ++ out ≡ start ++ (spelling Hello ++ row_of (replies ++ more))
  replied replies more out e =
      append_assoc start (spelling Hello ++ row_of replies) out
      ∙ ap (λ (l : List ℕ). start ++ l) (append_assoc (spelling Hello) (row_of replies) out ∙ ap (λ (l : List ℕ). spelling Hello ++ l) (ap (λ (l : List ℕ). row_of replies ++ l) e ∙ sym (row-append replies more)))

  pub working_worked : (taken : List ℕ) (old new : Feeding) (m : Msg) (was now : List ℕ) (standing after : Standing M) → TakesMessage old m new → IsWork m
      → IsWorked creates was standing m after now → IsWorking creates before start taken old was standing → IsWorking creates before start taken new now after
  working_worked taken old new m was now standing after t k worked w = record {
    messages = w.messages ++ m ∷ [];
    replies = w.replies ++ worked.replies;
    side = t.side ∙ w.side;
    cut = cut_took taken old.kept new.kept w.messages m w.cut (subst (λ (s : Side). Sent s m) w.side t.sent) t.spelled k;
    works = goes_on w.messages w.replies worked.replies m standing after w.works worked.works;
    written = worked.written ∙ (ap (λ (l : List ℕ). l ++ row_of worked.replies) w.written ∙ replied w.replies worked.replies (row_of worked.replies) refl);
  }

  -- ---- ends

  pub partial_none : IsPartial Worker []
  partial_none =
      let some = length-framed (5 ∷ []) in record {
        begins = record { body = 5 ∷ []; rest = framed (5 ∷ []); is_body = quit refl refl; parts = refl };
        more = λ e. (let none = ap length e in omega arith);
      }

  pub whole_end : (taken : List ℕ) (feed : Feeding) (written : List ℕ) (standing : Standing M) → IsWorking creates before start taken feed written standing → Stops feed.kept
      → (out : List ℕ) × (written ≡ start ++ out) × IsWholeSession creates before taken out standing.meaning
  whole_end taken feed written standing w stops = (
    spelling Hello ++ row_of w.replies,
    w.written,
    record {
      rest = feed.kept;
      session = record { messages = w.messages; replies = w.replies; standing = standing; cut = w.cut; works = w.works; written = refl; meaning = refl };
      stops = stops;
    },
  )

  -- up to the messages that are worked off
  front_session : (messages replies : List Msg) (taken rest : List ℕ) (standing : Standing M) → IsCut taken messages rest → WorksAll creates before messages replies standing
      → IsWholeSession creates before (row_of messages) (spelling Hello ++ row_of replies) standing.meaning
  front_session messages replies taken rest standing c works = record {
    rest = [];
    session = record {
      messages = messages;
      replies = replies;
      standing = standing;
      cut = record { split = record { whole = sym (append-nil (row_of messages)); each = c.split.each }; going = c.going };
      works = works;
      written = refl;
      meaning = refl;
    };
    stops = inr (inl partial_none);
  }

  pub short_end : (taken : List ℕ) (feed : Feeding) (written : List ℕ) (standing : Standing M) → IsWorking creates before start taken feed written standing
      → (out : List ℕ) × (written ≡ start ++ out) × IsCutShort creates before taken out standing.meaning
  short_end taken feed written standing w = (
    spelling Hello ++ row_of w.replies,
    w.written,
    record {
      front = row_of w.messages;
      behind = feed.kept;
      whole = spelling Hello ++ row_of w.replies;
      unwritten = [];
      parts = w.cut.split.whole;
      session = front_session w.messages w.replies taken feed.kept standing w.cut w.works;
      written = sym (append-nil (spelling Hello ++ row_of w.replies));
    },
  )

  pub worked_short_end : (taken : List ℕ) (old new : Feeding) (m : Msg) (was now : List ℕ) (standing : Standing M) (after : M) → TakesMessage old m new → IsWork m → IsWorkedShort creates was standing m after now
      → IsWorking creates before start taken old was standing → (out : List ℕ) × (now ≡ start ++ out) × IsCutShort creates before taken out after
  worked_short_end taken old new m was now standing after t k short w =
      let c = cut_took taken old.kept new.kept w.messages m w.cut (subst (λ (s : Side). Sent s m) w.side t.sent) t.spelled k in
      let works = goes_on w.messages w.replies short.replies m standing short.standing w.works short.works in
      let said : List ℕ = spelling Hello ++ row_of w.replies in
      let session = front_session (w.messages ++ m ∷ []) (w.replies ++ short.replies) taken new.kept short.standing c works in (
        said ++ short.front,
        short.written ∙ (ap (λ (l : List ℕ). l ++ short.front) w.written ∙ append_assoc start said short.front),
        record {
          front = row_of (w.messages ++ m ∷ []);
          behind = new.kept;
          whole = spelling Hello ++ row_of (w.replies ++ short.replies);
          unwritten = short.unwritten;
          parts = c.split.whole;
          session = subst (λ (x : M). IsWholeSession creates before (row_of (w.messages ++ m ∷ [])) (spelling Hello ++ row_of (w.replies ++ short.replies)) x) (sym short.meaning) session;
          written =
              ap (λ (l : List ℕ). spelling Hello ++ l) (row-append w.replies short.replies ∙ ap (λ (l : List ℕ). row_of w.replies ++ l) short.parts)
              ∙ (sym (append_assoc (spelling Hello) (row_of w.replies) (short.front ++ short.unwritten)) ∙ sym (append_assoc said short.front short.unwritten));
        },
      )

  -- no more than a part of the greeting was written
  pub hello_end : (taken : List ℕ) (count : ℕ) → IsCutShort creates before taken (take count (spelling Hello)) before
  hello_end taken count = record {
    front = row_of [];
    behind = taken;
    whole = spelling Hello ++ row_of [];
    unwritten = drop count (spelling Hello);
    parts = ap (λ (l : List ℕ). l ++ taken) (sym row-none);
    session = front_session [] [] [] [] (record { marked = false; meaning = before }) cut_none starts;
    written = ap (λ (l : List ℕ). spelling Hello ++ l) row-none ∙ (append-nil (spelling Hello) ∙ sym (take-append-drop count (spelling Hello)));
  }
