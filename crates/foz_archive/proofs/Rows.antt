-- Whole entries in a row, and what may follow them.
use Rattle.std.proofs.Common.{◌≡◌, ◌≢◌, ℕ, ◌+◌, ◌≤◌, List, [], ◌∷◌, ◌++◌, length, get_or, refl, sym, ap, subst, ◌∙◌, append_assoc, length-append, arith}
use Rattle.std.proofs.lemmas.List.{get_or_append_left}
use Rattle.foz_words.specs.Bytes.{le32}
use Rattle.foz_entry.specs.declared.cut.Cut.{Cut}
use Rattle.foz_entry.specs.declared.cut.Entry.{Entry}
use Rattle.foz_entry.specs.Whole.{IsWhole}
use Rattle.foz_entry.proofs.Heads.{length-whole}
use Rattle.foz_archive.specs.Reading.{BeginsWithNone, Stand, InRow}

-- the bytes of one whole entry, whatever follows them
pub record Spelled (bytes : List ℕ) (head : Cut) (payload rest : List ℕ) : Type 0 where
  pub spelling : List ℕ
  pub is : bytes ≡ spelling ++ rest
  pub long : length spelling ≡ head.total
  pub before : (other : List ℕ) → IsWhole (spelling ++ other) head payload other

pub spelled : (bytes : List ℕ) (head : Cut) (payload rest : List ℕ) → IsWhole bytes head payload rest → Spelled bytes head payload rest
spelled bytes head payload rest whole =
    let front = whole.name ++ (le32 head.size ++ (le32 head.format ++ (le32 head.crc ++ (le32 head.uncompressed ++ payload)))) in
    let is : bytes ≡ front ++ rest = whole.begins.laid_out ∙ simp append_assoc in
    record {
      spelling = front;
      is = is;
      long = omega (arith, ap length is, length-append front rest, length-whole bytes payload rest head whole);
      before = λ other. record {
        name = whole.name;
        begins = record { named = whole.begins.named; numbers = whole.begins.numbers; laid_out = simp append_assoc; total = whole.begins.total };
        sized = whole.sized;
      };
    }

-- more after a whole entry keeps it
whole_more : (bytes more : List ℕ) (head : Cut) (payload rest : List ℕ) → IsWhole bytes head payload rest → IsWhole (bytes ++ more) head payload (rest ++ more)
whole_more bytes more head payload rest whole =
    let it = spelled bytes head payload rest whole in
    subst (λ (l : List ℕ). IsWhole l head payload (rest ++ more)) (sym (append_assoc it.spelling rest more) ∙ ap (λ (l : List ℕ). l ++ more) (sym it.is)) (it.before (rest ++ more))

-- the bytes of entries in a row, whatever follows them
pub record Row (place : ℕ) (bytes : List ℕ) (entries : List Entry) (end : ℕ) (rest : List ℕ) : Type 0 where
  pub spelling : List ℕ
  pub is : bytes ≡ spelling ++ rest
  pub long : place + length spelling ≡ end
  pub before : (other : List ℕ) → InRow place (spelling ++ other) entries end other

pub row_of : (place : ℕ) (bytes : List ℕ) (entries : List Entry) (end : ℕ) (rest : List ℕ) → InRow place bytes entries end rest → Row place bytes entries end rest
row_of place bytes [] end rest row = record { spelling = []; is = row.1; long = omega (arith, row.0); before = λ other. (row.0, refl) }
row_of place bytes (entry ∷ entries) end rest row =
    let first = spelled bytes entry.head entry.payload row.1.0 row.1.1 in
    let others = row_of (place + entry.head.total) row.1.0 entries end rest row.1.2 in
    record {
      spelling = first.spelling ++ others.spelling;
      is = first.is ∙ ap (λ (l : List ℕ). first.spelling ++ l) others.is ∙ sym (append_assoc first.spelling others.spelling rest);
      long = omega (arith, length-append first.spelling others.spelling, first.long, others.long);
      before = λ other.
          let whole = subst (λ (l : List ℕ). IsWhole l entry.head entry.payload (others.spelling ++ other)) (sym (append_assoc first.spelling others.spelling other)) (first.before (others.spelling ++ other)) in
          (row.0, (others.spelling ++ other, whole, others.before other));
    }

-- one row after another
pub rows_join : (place mid end : ℕ) (bytes rest last : List ℕ) (first second : List Entry) → InRow place bytes first mid rest → InRow mid rest second end last → InRow place bytes (first ++ second) end last
rows_join place mid end bytes rest last [] second row more =
    subst (λ (p : ℕ). InRow p bytes second end last) (sym row.0) (subst (λ (l : List ℕ). InRow mid l second end last) (sym row.1) more)
rows_join place mid end bytes rest last (entry ∷ first) second row more =
    (row.0, (row.1.0, row.1.1, rows_join (place + entry.head.total) mid end row.1.0 rest last first second row.1.2 more))

pub row_stands : (place end : ℕ) (bytes rest : List ℕ) (entries : List Entry) → InRow place bytes entries end rest → BeginsWithNone rest → Stand place bytes entries end
row_stands place end bytes rest [] row none = (row.0, subst BeginsWithNone (sym row.1) none)
row_stands place end bytes rest (entry ∷ entries) row none = (row.0, (row.1.0, row.1.1, row_stands (place + entry.head.total) end row.1.0 rest entries row.1.2 none))

pub stand_row : (place end : ℕ) (bytes : List ℕ) (entries : List Entry) → Stand place bytes entries end → (rest : List ℕ) × InRow place bytes entries end rest × BeginsWithNone rest
stand_row place end bytes [] stand = (bytes, (stand.0, refl), stand.1)
stand_row place end bytes (entry ∷ entries) stand =
    let others = stand_row (place + entry.head.total) end stand.1.0 entries stand.1.2 in
    (others.0, (stand.0, (stand.1.0, stand.1.1, others.1)), others.2)

pub none_short : (bytes : List ℕ) → length bytes ≤ 1 → BeginsWithNone bytes
none_short bytes short = λ head payload rest whole. omega (arith, short, length-whole bytes payload rest head whole, whole.begins.total)

pub first_of_whole : (bytes : List ℕ) (head : Cut) (payload rest : List ℕ) → IsWhole bytes head payload rest → get_or bytes 0 0 ≡ 48
first_of_whole bytes head payload rest whole =
    let long = whole.begins.named.long in
    ap (λ (l : List ℕ). get_or l 0 0) whole.begins.laid_out
    ∙ get_or_append_left whole.name (le32 head.size ++ (le32 head.format ++ (le32 head.crc ++ (le32 head.uncompressed ++ (payload ++ rest))))) 0 0 (omega arith)
    ∙ whole.begins.named.first

pub none_shut : (bytes : List ℕ) → get_or bytes 0 0 ≢ 48 → BeginsWithNone bytes
none_shut bytes shut = λ head payload rest whole. shut (first_of_whole bytes head payload rest whole)

pub none_front : (bytes more : List ℕ) → BeginsWithNone (bytes ++ more) → BeginsWithNone bytes
none_front bytes more none = λ head payload rest whole. none head payload (rest ++ more) (whole_more bytes more head payload rest whole)
