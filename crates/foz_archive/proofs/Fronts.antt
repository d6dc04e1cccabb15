-- What the first sixteen bytes say of a file.
use Rattle.std.proofs.Common.{◌≡◌, ◌⊎◌, inl, inr, ℕ, ◌-◌, ◌≤◌, min, Bool, true, false, nat_eq, List, ◌++◌, length, get_or, take, drop, replicate, refl, sym, ap, subst, ◌∙◌, arith, take-append-drop, length-append, length-take}
use Rattle.std.specs.Bool.{Decides}
use Rattle.std.specs.List.{starts_with}
use Rattle.std.specs.Str.{bytes_eq}
use Rattle.std.proofs.lemmas.Bool.{cases_lt}
use Rattle.std.proofs.lemmas.Bool.Decides.{not_from_Decides}
use Rattle.std.proofs.lemmas.Slice.Eq.{bytes_eq-Decides}
use Rattle.std.proofs.lemmas.Bool.Decides.{Decides-eqb}
use Rattle.std.proofs.lemmas.Slice.Eq.{starts_is}
use Rattle.std.proofs.lemmas.List.{take_at, take-take, take_min, get_or-take}
use Rattle.foz_archive.specs.Reading.{magic, header, writing, is_one_of, HasMagic, HasHeader}
use Rattle.foz_archive.specs.Refusal.{first_bytes, IsBadMagic, IsBadVersion}

length-magic : length magic ≡ 15
unfolding magic
length-magic = refl

pub has_magic_is : (bytes : List ℕ) (r : Bool) → 16 ≤ length bytes → r ≡ starts_with nat_eq bytes magic → (r ≡ true → HasMagic bytes) × (HasMagic bytes → r ≡ true)
has_magic_is bytes r long is =
    let tells = starts_is Decides-eqb bytes magic r is in (
      λ yes. record { long = long; begins = ap (take 15) (tells.0 yes) ∙ take_at magic (drop (length magic) bytes) 15 length-magic },
      λ has. tells.1 (drop 15 bytes) (sym (take-append-drop 15 bytes) ∙ ap (λ (l : List ℕ). l ++ drop 15 bytes) has.begins),
    )

module _ (file front : List ℕ) (is : take 16 file ≡ front) where
  length-front : length front ≡ min 16 (length file)
  length-front = sym (ap length is) ∙ length-take 16 file

  same_magic : take 15 front ≡ take 15 file
  same_magic = ap (take 15) (sym is) ∙ take-take 15 16 file (omega arith)

  pub magic_of_front : HasMagic front → HasMagic file
  magic_of_front has = record { long = omega (arith, has.long, length-front); begins = sym same_magic ∙ has.begins }

  magic_of_file : HasMagic file → HasMagic front
  magic_of_file has = record { long = omega (arith, has.long, length-front); begins = same_magic ∙ has.begins }

  same_first : first_bytes front ≡ first_bytes file
  unfolding first_bytes
  same_first =
      let left : 16 - length (take 16 file) ≡ 16 - length file = omega (arith, length-take 16 file) in
      ap (λ (l : List ℕ). take 16 l ++ replicate (16 - length l) 0) (sym is) ∙ rw (take-take 16 16 file (omega arith), left)

  pub bad_magic : (len : ℕ) → length file ≡ len → ¬ HasMagic front → IsBadMagic file len (first_bytes front)
  bad_magic len long none = record { no_magic = λ has. none (magic_of_file has); len_is = sym long; bytes_are = same_first }

  same_version : get_or front 15 0 ≡ get_or file 15 0
  same_version = ap (λ (l : List ℕ). get_or l 15 0) (sym is) ∙ get_or-take 16 file 15 0 (omega arith)

  pub bad_version : (versions : List ℕ) (version : ℕ) → HasMagic front → version ≡ get_or front 15 0 → is_one_of versions version ≡ false → IsBadVersion versions file version
  bad_version versions version has at other = record { has_magic = magic_of_front has; version_is = at ∙ same_version; other = other }

  pub header_of_front : (versions : List ℕ) → HasHeader versions front → HasHeader versions file
  header_of_front versions has = record {
    has_magic = magic_of_front has.has_magic;
    known = subst (λ (v : ℕ). is_one_of versions v ≡ true) same_version has.known;
  }

  header_of_file : (versions : List ℕ) → HasHeader versions file → HasHeader versions front
  header_of_file versions has = record {
    has_magic = magic_of_file has.has_magic;
    known = subst (λ (v : ℕ). is_one_of versions v ≡ true) (sym same_version) has.known;
  }

-- a header is known by the first sixteen bytes
pub header_stays : (versions file other : List ℕ) → take 16 other ≡ take 16 file → HasHeader versions file → HasHeader versions other
header_stays versions file other same has = header_of_front other (take 16 file) same versions (header_of_file file (take 16 file) refl versions has)

-- a prefix is what the whole file begins with
pub front_of : (file : List ℕ) (n : ℕ) → n ≡ min (length file) 16 → take 16 file ≡ take n file
front_of file n is = sym (take_min 16 file) ∙ ap (λ (k : ℕ). take k file) (omega (arith, is))

pub header_from : (versions file : List ℕ) (n : ℕ) → n ≡ min (length file) 16 → HasHeader versions (take n file) → HasHeader versions file
header_from versions file n is good = header_of_front file (take n file) (front_of file n is) versions good

pub length-header : length header ≡ 16
unfolding header magic
length-header = refl

-- a file that begins with the header of the version that is written
pub header_there : (rest : List ℕ) → HasHeader writing (header ++ rest)
unfolding header magic
header_there rest = record {
  has_magic = record { long = omega (arith, length-append header rest, length-header); begins = refl };
  known = refl;
}

decide : {P : Type 0} (r : Bool) → Decides r P → P ⊎ (P → ⊥)
decide true told = inl (told.0 refl)
decide false told = inr (not_from_Decides false told refl)

-- a file has such a header, or it hasn't
pub header_or_not : (versions file : List ℕ) → HasHeader versions file ⊎ (HasHeader versions file → ⊥)
header_or_not versions file = elim (cases_lt (length file) 16) [
  | inl less ↦ inr (λ has. let long = has.has_magic.long in omega arith)
  | inr long ↦ elim (decide (bytes_eq (take 15 file) magic) (bytes_eq-Decides (take 15 file) magic)) [
    | inl begins ↦ by_version long begins (is_one_of versions (get_or file 15 0)) refl
    | inr other ↦ inr (λ has. other has.has_magic.begins)
  ]
]
  where
    by_version : 16 ≤ length file → take 15 file ≡ magic → (known : Bool) → is_one_of versions (get_or file 15 0) ≡ known → HasHeader versions file ⊎ (HasHeader versions file → ⊥)
    by_version long begins true is = inl (record { has_magic = record { long = long; begins = begins }; known = is })
    by_version long begins false is = inr (λ has. absurd (let known = has.known in cc))
