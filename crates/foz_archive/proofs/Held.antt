-- What each image of an archive holds, from the bytes that the gate leaves.
use Rattle.std.proofs.Common.{◌≡◌, ◌⊎◌, inl, inr, ℕ, ◌+◌, ◌≤◌, List, [], ◌∷◌, ◌++◌, length, get_or, take, drop, sym, ◌∙◌, ap, subst, arith, append_assoc, length-append, length-drop, length-take, take-append-drop, get_or-drop}
use Rattle.std.proofs.lemmas.List.{take_at, take-take, drop_at, drop-append-le}
use Rattle.std.proofs.lemmas.Bool.{cases_lt}
use Rattle.foz_entry.specs.declared.cut.Entry.{Entry}
use Rattle.gate_append.specs.Gate.{IsCutOrClosed, IsWithoutOrWith}
use Rattle.foz_entry.specs.Limits.{end_limit, count_limit}
use Rattle.foz_archive.specs.Reading.{writing, HasHeader, BeginsWithNone, Stand, InRow, Reads, IsAccepted, Holds}
use Rattle.foz_archive.proofs.Fronts.{header_stays}
use Rattle.foz_archive.proofs.Rows.{row_of, rows_join, row_stands, stand_row, none_short, none_shut, none_front}

-- A file in three parts: the header, the entries, and what begins with no whole entry.
pub record Parts (file : List ℕ) (entries : List Entry) (end : ℕ) : Type 0 where
  pub first : List ℕ
  pub sixteen : length first ≡ 16
  pub body : List ℕ
  pub rest : List ℕ
  pub is : file ≡ first ++ (body ++ rest)
  pub ends : end ≡ 16 + length body
  pub before : (other : List ℕ) → InRow 16 (body ++ other) entries end other
  pub none_after : BeginsWithNone rest

pub parts_of : (versions file : List ℕ) (entries : List Entry) (end : ℕ) → Reads versions file entries end → Parts file entries end
parts_of versions file entries end reads =
    let (rest, stands, none) = stand_row 16 end (drop 16 file) entries reads.stand in
    let row = row_of 16 (drop 16 file) entries end rest stands in
    let long = reads.begins.has_magic.long in
    record {
      first = take 16 file;
      sixteen = omega (arith, long, length-take 16 file);
      body = row.spelling;
      rest = rest;
      is = sym (take-append-drop 16 file) ∙ ap (λ (l : List ℕ). take 16 file ++ l) row.is;
      ends = omega (arith, row.long);
      before = row.before;
      none_after = none;
    }

pub reads_of : (versions file first body rest : List ℕ) (entries : List Entry) (end : ℕ) → length first ≡ 16 → HasHeader versions file → file ≡ first ++ (body ++ rest)
    → InRow 16 (body ++ rest) entries end rest → BeginsWithNone rest → Reads versions file entries end
reads_of versions file first body rest entries end sixteen begins is row none = record {
  begins = begins;
  stand = subst (λ (l : List ℕ). Stand 16 l entries end) (sym (ap (drop 16) is ∙ drop_at first (body ++ rest) 16 sixteen)) (row_stands 16 end (body ++ rest) rest entries row none);
}

module _ (versions content : List ℕ) (entries : List Entry) (end : ℕ) (reads : Reads versions content entries end) where
  parts : Parts content entries end
  parts = parts_of versions content entries end reads

  front : List ℕ
  front = parts.first ++ parts.body

  length-front : length front ≡ end
  unfolding front
  length-front = omega (arith, length-append parts.first parts.body, parts.sixteen, parts.ends)

  from_header : 16 ≤ end
  from_header = omega (arith, parts.ends)

  content_is : content ≡ front ++ parts.rest
  unfolding front
  content_is = parts.is ∙ sym (append_assoc parts.first parts.body parts.rest)

  front_is : take end content ≡ front
  front_is = ap (take end) content_is ∙ take_at front parts.rest end length-front

  back_is : drop end content ≡ parts.rest
  back_is = ap (drop end) content_is ∙ drop_at front parts.rest end length-front

  pub end_within : end ≤ length content
  end_within = omega (arith, ap length content_is, length-append front parts.rest, length-front)

  header_kept : (bytes : List ℕ) → take end bytes ≡ take end content → HasHeader versions bytes
  header_kept bytes same =
      let le = from_header in
      header_stays versions content bytes (sym (take-take 16 end bytes le) ∙ ap (take 16) same ∙ take-take 16 end content le) reads.begins

  -- the same entries stand in each file with the same prefix and no whole entry after it
  pub same_front : (bytes : List ℕ) → take end bytes ≡ take end content → BeginsWithNone (drop end bytes) → Reads versions bytes entries end
  unfolding front
  same_front bytes same none =
      reads_of versions bytes parts.first parts.body (drop end bytes) entries end parts.sixteen (header_kept bytes same)
      (sym (take-append-drop end bytes) ∙ ap (λ (l : List ℕ). l ++ drop end bytes) (same ∙ front_is) ∙ append_assoc parts.first parts.body (drop end bytes))
      (parts.before (drop end bytes)) none

  -- each image of an opening holds what the content held
  pub opening_reads : (bytes : List ℕ) → IsCutOrClosed end content bytes → Reads versions bytes entries end
  opening_reads bytes left = same_front bytes left.front_stays (elim left.rest [
    | inl is_front ↦
        let n = length bytes in
        let whole : bytes ++ drop n content ≡ content = ap (λ (l : List ℕ). l ++ drop n content) is_front ∙ take-append-drop n content in
        elim (cases_lt n end) [
          | inl less ↦ none_short (drop end bytes) (omega (arith, length-drop end bytes))
          | inr enough ↦
              let behind : drop end bytes ++ drop n content ≡ parts.rest = sym (drop-append-le end bytes (drop n content) enough) ∙ ap (drop end) whole ∙ back_is in
              none_front (drop end bytes) (drop n content) (subst BeginsWithNone (sym behind) parts.none_after)
        ]
    | inr short ↦ none_short (drop end bytes) (omega (arith, length-drop end bytes))
  ])

  -- the entries and a batch after them
  pub batch_reads : (added : List Entry) (batch : List ℕ) (next : ℕ) → InRow end batch added next (0 ∷ []) → Reads versions (take end content ++ batch) (entries ++ added) next
  unfolding front
  batch_reads added batch next row =
      let it = row_of end batch added next (0 ∷ []) row in
      let joined = rows_join 16 end next (parts.body ++ batch) batch (0 ∷ []) entries added (parts.before batch) row in
      let is = append_assoc parts.body it.spelling (0 ∷ []) in
      let split : parts.body ++ batch ≡ (parts.body ++ it.spelling) ++ 0 ∷ [] = ap (λ (l : List ℕ). parts.body ++ l) it.is ∙ sym is in
      let whole_front : take end (take end content ++ batch) ≡ take end content = take_at (take end content) batch end (ap length front_is ∙ length-front) in
      reads_of versions (take end content ++ batch) parts.first (parts.body ++ it.spelling) (0 ∷ []) (entries ++ added) next parts.sixteen (header_kept (take end content ++ batch) whole_front)
      (ap (λ (l : List ℕ). l ++ batch) front_is ∙ append_assoc parts.first parts.body batch ∙ ap (λ (l : List ℕ). parts.first ++ l) split)
      (subst (λ (l : List ℕ). InRow 16 l (entries ++ added) next (0 ∷ [])) split joined)
      (none_short (0 ∷ []) (omega arith))

  -- each image of an append holds the entries before it, or all of them
  pub append_reads : (added : List Entry) (batch bytes : List ℕ) (next : ℕ) → InRow end batch added next (0 ∷ []) → IsWithoutOrWith (take end content) batch bytes
      → Reads versions bytes entries end ⊎ Reads versions bytes (entries ++ added) next
  append_reads added batch bytes next row (inl without) =
      let long : length (take end content) ≡ end = ap length front_is ∙ length-front in
      inl (same_front bytes (sym (ap (λ (k : ℕ). take k bytes) long) ∙ without.front_stays)
      (none_shut (drop end bytes) (λ is_open.
      let place : end ≡ end + 0 = omega arith in
      without.not_open (ap (λ (k : ℕ). get_or bytes k 0) (long ∙ place) ∙ sym (get_or-drop end bytes 0 0) ∙ is_open))))
  append_reads added batch bytes next row (inr whole) = inr (subst (λ (l : List ℕ). Reads versions l (entries ++ added) next) (sym whole) (batch_reads added batch next row))

module _ (content : List ℕ) (entries : List Entry) (end : ℕ) (accepted : IsAccepted content entries end) where
  pub opening_holds : (bytes : List ℕ) → IsCutOrClosed end content bytes → Holds bytes entries
  opening_holds bytes left = inr (
    end,
    record {
      reads = opening_reads writing content entries end accepted.reads bytes left;
      short = elim left.rest [
        | inl is_front ↦ omega (arith, ap length is_front, length-take (length bytes) content, accepted.short)
        | inr few ↦ omega (arith, few, accepted.near)
      ];
      near = accepted.near;
      few = accepted.few;
    },
  )

  module _ (added : List Entry) (batch : List ℕ) (next : ℕ) (row : InRow end batch added next (0 ∷ [])) (near : next ≤ end_limit) (few : length (entries ++ added) ≤ count_limit) where
    length-batch : end + length batch ≡ next + 1
    length-batch = let it = row_of end batch added next (0 ∷ []) row in omega (arith, ap length it.is, length-append it.spelling (0 ∷ []), it.long)

    length-end : length (take end content) ≡ end
    length-end = omega (arith, length-take end content, end_within writing content entries end accepted.reads)

    pub batch_accepted : IsAccepted (take end content ++ batch) (entries ++ added) next
    batch_accepted = record {
      reads = batch_reads writing content entries end accepted.reads added batch next row;
      short = omega (arith, length-append (take end content) batch, length-end, length-batch, near);
      near = near;
      few = few;
    }

    pub append_holds : (bytes : List ℕ) → IsWithoutOrWith (take end content) batch bytes → Holds bytes entries ⊎ Holds bytes (entries ++ added)
    append_holds bytes (inl without) = elim (append_reads writing content entries end accepted.reads added batch bytes next row (inl without)) [
      | inl reads ↦ inl (inr (end, record { reads = reads; short = omega (arith, without.no_longer, length-end, length-batch, near); near = accepted.near; few = accepted.few }))
      | inr reads ↦ inr (inr (next, record { reads = reads; short = omega (arith, without.no_longer, length-end, length-batch, near); near = near; few = few }))
    ]
    append_holds bytes (inr whole) = inr (inr (next, subst (λ (l : List ℕ). IsAccepted l (entries ++ added) next) (sym whole) batch_accepted))
