-- A file holds at most one list of entries.
use Rattle.std.proofs.Common.{◌≡◌, inl, inr, Bool, false, ℕ, ◌+◌, ◌≤◌, get_or, List, [], ◌∷◌, length, drop, refl, sym, ap, subst, ◌∙◌, arith}
use Rattle.foz_entry.specs.declared.cut.Cut.{Cut}
use Rattle.foz_entry.specs.declared.cut.Entry.{Entry}
use Rattle.foz_entry.proofs.Heads.{IsWhole-unique}
use Rattle.foz_archive.specs.declared.scanned.Scanned.{Scanned}
use Rattle.foz_archive.specs.declared.refusal.ArchiveError.{ArchiveError}
use Rattle.foz_archive.specs.declared.refusal.ArchiveError.TheVariants.{BadMagic, BadVersion, TooLong, TooMany}
use Rattle.foz_entry.specs.Limits.{end_limit}
use Rattle.foz_archive.specs.Reading.{Stand, Holds, HasHeader, IsReadingAs, is_clean, is_one_of}
use Rattle.foz_archive.specs.Refusal.{IsRefusedAs, IsTooLong}

abbrev made : ℕ → Cut → List ℕ → Entry
made offset head payload = record { offset = offset; head = head; payload = payload }

same_entry : (d e : Entry) → d.offset ≡ e.offset → d.head ≡ e.head → d.payload ≡ e.payload → d ≡ e
same_entry d e a b c =
    ap (λ (x : ℕ). made x d.head d.payload) a ∙ ap (λ (x : Cut). made e.offset x d.payload) b ∙ ap (λ (x : List ℕ). made e.offset e.head x) c

-- at most one list of entries stands from a place on
pub Stand-unique : (place : ℕ) (bytes : List ℕ) (ds es : List Entry) (c e : ℕ) → Stand place bytes ds c → Stand place bytes es e → (ds ≡ es) × (c ≡ e)
Stand-unique place bytes [] [] c e p q = (refl, sym p.0 ∙ q.0)
Stand-unique place bytes [] (y ∷ es) c e p q = absurd (p.1 y.head y.payload q.1.0 q.1.1)
Stand-unique place bytes (x ∷ ds) [] c e p q = absurd (q.1 x.head x.payload p.1.0 p.1.1)
Stand-unique place bytes (x ∷ ds) (y ∷ es) c e p q =
    let whole = IsWhole-unique bytes x.payload y.payload p.1.0 q.1.0 x.head y.head p.1.1 q.1.1 in
    let next : place + x.head.total ≡ place + y.head.total = ap (λ (h : Cut). place + h.total) whole.0 in
    let behind : Stand (place + y.head.total) q.1.0 ds c = subst (λ (n : ℕ). Stand n q.1.0 ds c) next (subst (λ (bs : List ℕ). Stand (place + x.head.total) bs ds c) whole.2 p.1.2) in
    let rest = Stand-unique (place + y.head.total) q.1.0 ds es c e behind q.1.2 in
    let first : x ≡ y = same_entry x y (p.0 ∙ sym q.0) whole.0 whole.1 in
    (ap (λ (z : Entry). z ∷ ds) first ∙ ap (λ (zs : List Entry). y ∷ zs) rest.0, rest.1)

pub Holds-unique : (file : List ℕ) (ds es : List Entry) → Holds file ds → Holds file es → ds ≡ es
Holds-unique file ds es (inl p) (inl q) = p.1 ∙ sym q.1
Holds-unique file ds es (inl p) (inr q) = absurd (p.0.1 q.1.reads.begins)
Holds-unique file ds es (inr p) (inl q) = absurd (q.0.1 p.1.reads.begins)
Holds-unique file ds es (inr p) (inr q) = (Stand-unique 16 (drop 16 file) ds es p.0 q.0 p.1.reads.stand q.1.reads.stand).0

abbrev reading : List Entry → ℕ → ℕ → Bool → Scanned
reading entries end len clean = record { entries = entries; end = end; length = len; clean = clean }

module _ (versions file : List ℕ) where
  -- a file has at most one reading
  pub IsReadingAs-unique : (r s : Scanned) → IsReadingAs versions file r → IsReadingAs versions file s → r ≡ s
  IsReadingAs-unique r s p q =
      let same = Stand-unique 16 (drop 16 file) r.entries s.entries r.end s.end p.accepted.reads.stand q.accepted.reads.stand in
      ap (λ (x : List Entry). reading x r.end r.length r.clean) same.0
      ∙ ap (λ (x : ℕ). reading s.entries x r.length r.clean) same.1
      ∙ ap (λ (x : ℕ). reading s.entries s.end x r.clean) (p.length ∙ sym q.length)
      ∙ ap (λ (x : Bool). reading s.entries s.end s.length x) (p.clean ∙ ap (λ (n : ℕ). is_clean (drop n file)) same.1 ∙ sym q.clean)

  -- a file that begins with a header isn't refused for it
  no_bad_header : (version : ℕ) → HasHeader versions file → version ≡ get_or file 15 0 → is_one_of versions version ≡ false → ⊥
  no_bad_header version begins at other = absurd (let known = begins.known in let here = ap (is_one_of versions) at in cc)

  -- a row of entries doesn't end below the limit and above it
  too_long_of : (len : ℕ) (entries : List Entry) (end : ℕ) → length file ≤ end_limit + 1 → Stand 16 (drop 16 file) entries end → end ≤ end_limit → IsTooLong versions file len → ⊥
  too_long_of len entries end short stand near too_long = elim too_long.long [
    | inl long ↦ omega (arith, long, short)
    | inr (row, above) ↦ omega (arith, above, near, (Stand-unique 16 (drop 16 file) entries row.entries end row.end stand row.stand).1)
  ]

  pub never_both : (scanned : Scanned) (error : ArchiveError) → IsReadingAs versions file scanned → IsRefusedAs versions file error → ⊥
  never_both scanned (BadMagic len bytes) r bad = bad.no_magic r.accepted.reads.begins.has_magic
  never_both scanned (BadVersion version) r bad = no_bad_header version r.accepted.reads.begins bad.version_is bad.other
  never_both scanned (TooLong len) r bad = too_long_of len scanned.entries scanned.end r.accepted.short r.accepted.reads.stand r.accepted.near bad
  never_both scanned TooMany r bad =
      omega (arith, bad.many, r.accepted.few, ap (λ (es : List Entry). length es) (Stand-unique 16 (drop 16 file) scanned.entries bad.standing.entries scanned.end bad.standing.end r.accepted.reads.stand bad.standing.stand).0)

  -- a file is refused for at most one reason
  pub IsRefusedAs-unique : (d e : ArchiveError) → IsRefusedAs versions file d → IsRefusedAs versions file e → d ≡ e
  IsRefusedAs-unique (BadMagic len bytes) (BadMagic len' bytes') p q = λ i. BadMagic ((p.len_is ∙ sym q.len_is) i) ((p.bytes_are ∙ sym q.bytes_are) i)
  IsRefusedAs-unique (BadMagic len bytes) (BadVersion version) p q = absurd (p.no_magic q.has_magic)
  IsRefusedAs-unique (BadMagic len bytes) (TooLong len') p q = absurd (p.no_magic q.begins.has_magic)
  IsRefusedAs-unique (BadMagic len bytes) TooMany p q = absurd (p.no_magic q.begins.has_magic)
  IsRefusedAs-unique (BadVersion version) (BadMagic len bytes) p q = absurd (q.no_magic p.has_magic)
  IsRefusedAs-unique (BadVersion version) (BadVersion version') p q = ap BadVersion (p.version_is ∙ sym q.version_is)
  IsRefusedAs-unique (BadVersion version) (TooLong len) p q = absurd (no_bad_header version q.begins p.version_is p.other)
  IsRefusedAs-unique (BadVersion version) TooMany p q = absurd (no_bad_header version q.begins p.version_is p.other)
  IsRefusedAs-unique (TooLong len) (BadMagic len' bytes) p q = absurd (q.no_magic p.begins.has_magic)
  IsRefusedAs-unique (TooLong len) (BadVersion version) p q = absurd (no_bad_header version p.begins q.version_is q.other)
  IsRefusedAs-unique (TooLong len) (TooLong len') p q = ap TooLong (p.len_is ∙ sym q.len_is)
  IsRefusedAs-unique (TooLong len) TooMany p q = absurd (too_long_of len q.standing.entries q.standing.end q.short q.standing.stand q.near p)
  IsRefusedAs-unique TooMany (BadMagic len bytes) p q = absurd (q.no_magic p.begins.has_magic)
  IsRefusedAs-unique TooMany (BadVersion version) p q = absurd (no_bad_header version p.begins q.version_is q.other)
  IsRefusedAs-unique TooMany (TooLong len) p q = absurd (too_long_of len p.standing.entries p.standing.end p.short p.standing.stand p.near q)
  IsRefusedAs-unique TooMany TooMany p q = refl
