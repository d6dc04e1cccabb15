-- The payload of an item fits a frame.
use Rattle.std.proofs.Common.{◌≡◌, ℕ, ◌<◌, ◌≤◌, ◌==◌, zero, suc, Bool, true, false, if◌then◌else◌, nat_le, List, [], ◌∷◌, length, map, refl, arith}
use Rattle.std.specs.Prelude.{All, slice_index_or, take, count_by, Some}
use Rattle.std.specs.List.{items_where_true}
use Rattle.std.specs.Option.{is_none}
use Rattle.std.proofs.lemmas.Bool.Decides.{nat_tests}
use Rattle.std.proofs.lemmas.List.Elements.{All-nil, All-cons}
use Rattle.foz_entry.specs.declared.cut.Entry.{Entry}
use Rattle.foz_entry.specs.declared.cut.Cut.{Cut}
use Rattle.foz_entry.specs.declared.damage.EntryCause.TheVariants.{Deflate, BadFormat, TooLarge, SizeDiffers}
use Rattle.foz_entry.specs.Damage.{damage, checksum_damage}
use Rattle.foz_entry.specs.Entries.{is_undamaged}
use Rattle.foz_entry.specs.Limits.{payload_limit}
use Rattle.foz_crc.specs.Crc32.{crc32_of}
use Rattle.worker_msg.specs.Frames.{limit}
use Rattle.dep_graph.specs.declared.class.Class.{Class}
use Rattle.dep_graph.specs.declared.class.Class.TheVariants.{Damaged, Duplicate, Kept, Unreadable, Item}
use Rattle.dep_graph.specs.Classes.{is_item, HasClass, AreClassesOf}
use Rattle.dep_graph.specs.Items.{item_entries, HasItsSize}

size_within : (head : Cut) (payload : List ℕ) → is_none (damage head payload) ≡ true → head.size ≤ payload_limit
size_within head payload e = by_format (head.format == 2) (head.format == 1) (nat_le head.size payload_limit) refl e
  where
    by_format : (a b c : Bool) → nat_le head.size payload_limit ≡ c
        → is_none (if a then Some Deflate else if b then (if c then (if head.size == head.uncompressed then checksum_damage head.crc (crc32_of payload) else Some (SizeDiffers head.size head.uncompressed)) else Some (TooLarge head.size)) else Some (BadFormat head.format)) ≡ true
        → head.size ≤ payload_limit
    by_format true b c t e = absurd cc
    by_format false false c t e = absurd cc
    by_format false true false t e = absurd cc
    by_format false true true t e = grind (arith, nat_tests)

undamaged_within : (entry : Entry) → is_undamaged entry ≡ true → entry.head.size ≤ payload_limit
unfolding is_undamaged
undamaged_within entry e = size_within entry.head entry.payload e

item_within : (before : List Entry) (items : ℕ) (entry : Entry) (class : Class) → is_item class ≡ true → HasClass before items entry class → HasItsSize entry → length entry.payload ≤ limit
item_within before items entry (Damaged cause) e has sized = absurd cc
item_within before items entry (Duplicate place) e has sized = absurd cc
item_within before items entry Kept e has sized = absurd cc
item_within before items entry (Unreadable cause) e has sized = absurd cc
item_within before items entry (Item number) e has sized = let small : entry.head.size ≤ payload_limit = undamaged_within entry has.0.of_key.sound in omega (arith, small, sized)

-- what holds of the entries whose class is an item's holds of the items
picked : (P : Entry → Type 0) (classes : List Class) (entries : List Entry) → ((i : ℕ) (entry : Entry) (class : Class) → i < length entries → is_item (slice_index_or classes i class) ≡ true → P (slice_index_or entries i entry))
    → length classes ≡ length entries → All P (items_where_true (map is_item classes) entries)
picked P [] entries h long = All-nil P
picked P (class ∷ classes) [] h long = absurd (omega (arith, long))
picked P (class ∷ classes) (entry ∷ entries) h long = first (is_item class) refl (picked P classes entries (λ i d k l e. h (suc i) d k (omega (arith, l)) e) (omega (arith, long)))
  where
    first : (b : Bool) → is_item class ≡ b → All P (items_where_true (map is_item classes) entries) → All P (items_where_true (b ∷ map is_item classes) (entry ∷ entries))
    first true e rest = All-cons P entry (items_where_true (map is_item classes) entries) (h 0 entry class (omega arith) e) rest
    first false e rest = rest

pub items_fit : (entries : List Entry) (classes : List Class) → AreClassesOf entries classes → All HasItsSize entries → All (λ (entry : Entry). length entry.payload ≤ limit) (item_entries entries classes)
unfolding item_entries
items_fit entries classes are sized = picked (λ (entry : Entry). length entry.payload ≤ limit) classes entries
    (λ i entry class inside e. item_within (take i entries) (count_by is_item (take i classes)) (slice_index_or entries i entry) (slice_index_or classes i class) e (are.each i entry class inside) (sized i entry inside)) are.long
