-- One message that is worked off, by what comes of its payload.
use Rattle.std.proofs.Common.{ℕ, ◌≡◌, Bool, true, false, List, [], ◌∷◌, ◌++◌, take, drop, inr, refl, sym, ap, ◌∙◌, subst, append-nil}
use Rattle.std.proofs.lemmas.List.{take-append-drop}
use Rattle.foz_words.specs.declared.key.Key.{Key}
use Rattle.state_words.specs.declared.state.State.{State}
use Rattle.worker_msg.specs.Frames.{spelling}
use Rattle.worker_msg.specs.declared.msg.Msg.{Msg}
use Rattle.worker_msg.specs.declared.msg.Msg.TheVariants.{Load, Do, Reply}
use Rattle.worker_node.specs.Sessions.{Standing, Works, CallsDriver, IsUnreadable, loads, unreadable_load, marked_do, unreadable_do, does}
use Rattle.worker_node.specs.Steps.{IsWorked, IsUnworked}
use Rattle.worker_node.proofs.Runs.{row-one, row-none}

module _ {M : Type 0} (creates : M → Key → State → ℕ → M → Type 0) where
  pub load_zero : (marked : Bool) (key : Key) (payload : List ℕ) (code : ℕ) (before after : M) → code ≡ 0 → CallsDriver creates before key payload code after
      → Works creates (record { marked = marked; meaning = before }) (Load key payload) [] (record { marked = marked; meaning = after })
  load_zero marked key payload code before after e c = loads marked key payload before after (subst (λ (n : ℕ). CallsDriver creates before key payload n after) e c)

  pub load_none : (marked : Bool) (key : Key) (payload : List ℕ) (before after : M) → IsUnreadable key payload → after ≡ before
      → Works creates (record { marked = marked; meaning = before }) (Load key payload) [] (record { marked = true; meaning = after })
  load_none marked key payload before after u e =
      subst (λ (m : M). Works creates (record { marked = marked; meaning = before }) (Load key payload) [] (record { marked = true; meaning = m })) (sym e) (unreadable_load marked key payload before u)

  pub do_marked : (marked : Bool) (key : Key) (payload : List ℕ) (before : M) → marked ≡ true
      → Works creates (record { marked = marked; meaning = before }) (Do key payload) (Reply key 200 ∷ []) (record { marked = false; meaning = before })
  do_marked true key payload before e = marked_do key payload before
  do_marked false key payload before e = absurd cc

  pub do_none : (marked : Bool) (key : Key) (payload : List ℕ) (before after : M) → marked ≡ false → IsUnreadable key payload → after ≡ before
      → Works creates (record { marked = marked; meaning = before }) (Do key payload) (Reply key 201 ∷ []) (record { marked = false; meaning = after })
  do_none true key payload before after n u e = absurd cc
  do_none false key payload before after n u e =
      subst (λ (m : M). Works creates (record { marked = false; meaning = before }) (Do key payload) (Reply key 201 ∷ []) (record { marked = false; meaning = m })) (sym e) (unreadable_do key payload before u)

  pub do_some : (marked : Bool) (key : Key) (payload : List ℕ) (code : ℕ) (before after : M) → marked ≡ false → CallsDriver creates before key payload code after
      → Works creates (record { marked = marked; meaning = before }) (Do key payload) (Reply key code ∷ []) (record { marked = false; meaning = after })
  do_some true key payload code before after n c = absurd cc
  do_some false key payload code before after n c = does key payload code before after c

  -- ---- with what is written

  pub replied : (was now frame : List ℕ) (before after : Standing M) (m reply : Msg) → Works creates before m (reply ∷ []) after → frame ≡ spelling reply → now ≡ was ++ frame → IsWorked creates was before m after now
  replied was now frame before after m reply w spelled e = record { replies = reply ∷ []; works = w; written = e ∙ ap (λ (l : List ℕ). was ++ l) (spelled ∙ sym (row-one reply)) }

  pub cut_short : (was now frame : List ℕ) (count : ℕ) (before after : Standing M) (m reply : Msg) → Works creates before m (reply ∷ []) after → frame ≡ spelling reply → now ≡ was ++ take count frame
      → IsUnworked creates was before m after.meaning now
  cut_short was now frame count before after m reply w spelled e = inr (record {
    replies = reply ∷ [];
    standing = after;
    works = w;
    meaning = refl;
    front = take count (spelling reply);
    unwritten = drop count (spelling reply);
    parts = row-one reply ∙ sym (take-append-drop count (spelling reply));
    written = e ∙ ap (λ (l : List ℕ). was ++ take count l) spelled;
  })

  pub loaded : (m : Msg) (key : Key) (payload slice : List ℕ) (was : List ℕ) (before after : Standing M) → m ≡ Load key payload → slice ≡ payload → Works creates before (Load key slice) [] after → IsWorked creates was before m after was
  loaded m key payload slice was before after is same w = record {
    replies = [];
    works = subst (λ (n : Msg). Works creates before n [] after) (ap (λ (p : List ℕ). Load key p) same ∙ sym is) w;
    written = sym (append-nil was) ∙ ap (λ (l : List ℕ). was ++ l) (sym row-none);
  }
