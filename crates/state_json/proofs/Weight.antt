-- A value that was read weighs no more than the JSON that it was read from.
use Rattle.std.proofs.Common.{ℕ, zero, suc, ◌+◌, ◌-◌, ◌<◌, ◌≤◌, ◌^◌, max, List, [], ◌∷◌, length, Option, Some, None, Result, Ok, Err, Ordering, Less, Equal, Greater, arith}
use Rattle.std.specs.Prelude.{All, IfSome, ⊤}
use Rattle.std.specs.Ordering.{nat_cmp, match_ordering}
use Rattle.std.specs.Cmp.Lexicographic.{slice_cmp}
use Rattle.base64.specs.Engines.{standard}
use Rattle.base64.specs.GeneralPurpose.{decoded_of}
use Rattle.serde_json.specs.Data.{Data, null, boolean, string, array, object, Items, no_items, item, Members, no_members, member}
use Rattle.serde_json.specs.Data as json
use Rattle.serde_json.specs.Find.{get, get_member}
use Rattle.vk_form.specs.Shape.{Shape, number, unit, hash, text, bytes, four_units, list, struct, Fields, end, field, optional, Plain, Plains}
use Rattle.vk_form.specs.Ordinary.{IsOrdinary, AreOrdinary}
use Rattle.json_fold.specs.declared.fault.FieldCause.{FieldCause}
use Rattle.json_fold.specs.Fault.{Fault, ◌>>=◌, at, member_path, item_path}
use Rattle.json_fold.specs.Leaf.{or_cause, number_of, unit_of, hash_of, text_of, bytes_of, items_of}
use Rattle.json_fold.specs.Reading.{reading, fields_reading, opened, each, four_of, missing, all_missing, or_missing, if_there}
use Rattle.state_json.proofs.Size.{size, items_size, members_size}
use Rattle.state_json.proofs.Base64Size.{AtMost, decoded_fits}

abbrev pub total : {A : Type 0} → (A → ℕ) → List A → ℕ
total f [] = 0
total f (x ∷ xs) = f x + total f xs

abbrev pub if_there_weight : {A : Type 0} → (A → ℕ) → Option A → ℕ
if_there_weight f None = 0
if_there_weight f (Some x) = f x

-- The elements of lists, and of the fields beside each other the heaviest: two fields may be read from one member.
abbrev mutual
  pub weight : (s : Shape) → Plain s → ℕ
  weight number n = 0
  weight unit u = 0
  weight hash h = 0
  weight text t = length t
  weight bytes b = length b
  weight four_units u = 0
  weight (list s) xs = length xs + total (weight s) xs
  weight (struct fs) xs = weights fs xs

  pub weights : (fs : Fields) → Plains fs → ℕ
  weights end xs = 0
  weights (field name s fs) xs = max (weight s xs.0) (weights fs xs.1)
  weights (optional name o fs) xs = max (if_there_weight (weights o) xs.0) (weights fs xs.1)

-- ---- results

abbrev pub Light : {A E : Type 0} → (A → ℕ) → ℕ → Result A E → Type 0
Light f n (Ok x) = f x ≤ n
Light f n (Err e) = ⊤

pub weightless : {A E : Type 0} (n : ℕ) (r : Result A E) → Light (λ _. 0) n r
weightless n (Ok x) = omega arith
weightless n (Err e) = tt

found_at : {A : Type 0} (f : A → ℕ) (n : ℕ) (path : List ℕ) (r : Result A FieldCause) → Light f n r → Light f n (at path r)
found_at f n path (Ok x) h = h
found_at f n path (Err e) h = tt

pub followed : {A B : Type 0} (f : A → ℕ) (g : B → ℕ) (m n : ℕ) (h : A → Result B Fault) → ((a : A) → f a ≤ m → Light g n (h a)) → (r : Result A Fault) → Light f m r → Light g n (r >>= h)
followed f g m n h k (Ok x) l = k x l
followed f g m n h k (Err e) l = tt

pub heavier : {A E : Type 0} (f : A → ℕ) (m n : ℕ) → m ≤ n → (r : Result A E) → Light f m r → Light f n r
heavier f m n le (Ok x) l = omega arith
heavier f m n le (Err e) l = tt

-- ---- leaves

pub some_size : (d : Data) → 1 ≤ size d
some_size null = omega arith
some_size (boolean b) = omega arith
some_size (json.number n) = omega arith
some_size (string s) = omega arith
some_size (array ds) = omega arith
some_size (object ms) = omega arith

text_light : (d : Data) → Light length (size d - 1) (text_of d)
text_light null = tt
text_light (boolean b) = tt
text_light (json.number n) = tt
text_light (string s) = omega arith
text_light (array ds) = tt
text_light (object ms) = tt

caused : (n : ℕ) (cause : FieldCause) (o : Option (List ℕ)) → AtMost n o → Light length n (or_cause cause o)
caused n cause None l = tt
caused n cause (Some x) l = l

bytes_light : (d : Data) → Light length (size d - 1) (bytes_of d)
unfolding bytes_of
bytes_light null = tt
bytes_light (boolean b) = tt
bytes_light (json.number n) = tt
bytes_light (string s) = heavier length (length s) _ (omega arith) _ (caused (length s) _ (decoded_of standard s) (decoded_fits s))
bytes_light (array ds) = tt
bytes_light (object ms) = tt

items_light : (d : Data) → Light items_size (size d - 1) (items_of d)
items_light null = tt
items_light (boolean b) = tt
items_light (json.number n) = tt
items_light (string s) = tt
items_light (array ds) = omega arith
items_light (object ms) = tt

-- ---- members

abbrev pub Within : ℕ → Option Data → Type 0
Within n None = ⊤
Within n (Some d) = size d ≤ n

one_of : (o : Ordering) (a b c : Option Data) (n : ℕ) → Within n a → Within n b → Within n c → Within n (match_ordering o a b c)
one_of Less a b c n p q r = p
one_of Equal a b c n p q r = q
one_of Greater a b c n p q r = r

more_room : (m n : ℕ) (o : Option Data) → m ≤ n → Within m o → Within n o
more_room m n None le h = tt
more_room m n (Some d) le h = omega arith

member_within : (k : List ℕ) (ms : Members) → Within (members_size ms) (get_member k ms)
member_within k no_members = tt
member_within k (member l e ms) =
    let others = more_room (members_size ms) (size e + members_size ms) (get_member k ms) (omega arith) (member_within k ms) in
    one_of (slice_cmp nat_cmp k l) (get_member k ms) (Some e) (get_member k ms) (size e + members_size ms) others (omega arith) others

pub get_within : (k : List ℕ) (d : Data) → Within (size d - 1) (get k d)
get_within k null = tt
get_within k (boolean b) = tt
get_within k (json.number n) = tt
get_within k (string s) = tt
get_within k (array ds) = tt
get_within k (object ms) = more_room (members_size ms) _ (get_member k ms) (omega arith) (member_within k ms)

-- ---- values

mutual
  missing_light : (s : Shape) → weight s (missing s) ≤ 0
  missing_light number = omega arith
  missing_light unit = omega arith
  missing_light hash = omega arith
  missing_light text = omega arith
  missing_light bytes = omega arith
  missing_light four_units = omega arith
  missing_light (list s) = omega arith
  missing_light (struct fs) = all_missing_light fs

  all_missing_light : (fs : Fields) → weights fs (all_missing fs) ≤ 0
  all_missing_light end = omega arith
  all_missing_light (field name s fs) = omega (arith, missing_light s, all_missing_light fs)
  all_missing_light (optional name o fs) = omega (arith, all_missing_light fs)

abbrev LightReading : {A : Type 0} → (A → ℕ) → (Data → List ℕ → Result A Fault) → Type 0
LightReading f read = (d : Data) (path : List ℕ) → Light f (size d - 1) (read d path)

each_light : {A : Type 0} (f : A → ℕ) (read : Data → List ℕ → Result A Fault) → LightReading f read → (ds : Items) (k : ℕ) (path : List ℕ) → Light (λ xs. length xs + total f xs) (items_size ds) (each read ds k path)
each_light f read light no_items k path = omega arith
each_light f read light (item d ds) k path =
    let some = some_size d in
    followed f (λ xs. length xs + total f xs) (size d - 1) _ _
    (λ x one. followed (λ xs. length xs + total f xs) (λ xs. length xs + total f xs) (items_size ds) _ _ (λ xs more. omega arith) (each read ds (k + 1) path) (each_light f read light ds (k + 1) path))
    (read d (item_path path k)) (light d (item_path path k))

or_missing_light : {A : Type 0} (f : A → ℕ) (m : A) (read : Data → List ℕ → Result A Fault) → f m ≤ 0 → LightReading f read → (n : ℕ) (o : Option Data) (path : List ℕ) → Within n o → Light f (n - 1) (or_missing m read o path)
or_missing_light f m read none light n None path within = omega arith
or_missing_light f m read none light n (Some d) path within = heavier f (size d - 1) (n - 1) (omega arith) (read d path) (light d path)

if_there_light : {A : Type 0} (f : A → ℕ) (read : Data → List ℕ → Result A Fault) → LightReading f read → (n : ℕ) (o : Option Data) (path : List ℕ) → Within n o → Light (if_there_weight f) (n - 1) (if_there read o path)
if_there_light f read light n None path within = omega arith
if_there_light f read light n (Some d) path within = followed f (if_there_weight f) (size d - 1) (n - 1) _ (λ x l. omega arith) (read d path) (light d path)

both_light : {A B : Type 0} (f : A → ℕ) (g : B → ℕ) (n : ℕ) (r : Result A Fault) (more : Result B Fault) → Light f n r → Light g n more → Light (λ (p : A × B). max (f p.0) (g p.1)) n (r >>= λ x. more >>= λ xs. Ok (x, xs))
both_light f g n (Ok x) (Ok xs) p q = omega arith
both_light f g n (Ok x) (Err e) p q = tt
both_light f g n (Err e) more p q = tt

mutual
  pub reading_light : (s : Shape) → LightReading (weight s) (reading s)
  reading_light number d path = weightless _ (at path (number_of d))
  reading_light unit d path = weightless _ (at path (unit_of d))
  reading_light hash d path = weightless _ (at path (hash_of d))
  reading_light text d path = found_at length _ path (text_of d) (text_light d)
  reading_light bytes d path = found_at length _ path (bytes_of d) (bytes_light d)
  reading_light four_units d path = weightless _ (at path (items_of d) >>= λ ds. four_of ds path)
  reading_light (list s) d path =
      followed items_size (weight (list s)) (size d - 1) (size d - 1) _
      (λ ds le. heavier (weight (list s)) (items_size ds) (size d - 1) le _ (each_light (weight s) (reading s) (reading_light s) ds 0 path)) (at path (items_of d)) (found_at items_size _ path (items_of d) (items_light d))
  reading_light (struct fs) d path =
      followed (λ _. 0) (weights fs) 0 (size d - 1) _ (λ _ le. heavier (weights fs) (size d - 1 - 1) (size d - 1) (omega arith) _ (fields_light fs d path)) (opened d path) (weightless 0 (opened d path))

  fields_light : (fs : Fields) (d : Data) (path : List ℕ) → Light (weights fs) (size d - 1 - 1) (fields_reading fs d path)
  fields_light end d path = omega arith
  fields_light (field name s fs) d path =
      both_light (weight s) (weights fs) (size d - 1 - 1) (or_missing (missing s) (reading s) (get name d) (member_path path name)) (fields_reading fs d path)
      (or_missing_light (weight s) (missing s) (reading s) (missing_light s) (reading_light s) (size d - 1) (get name d) (member_path path name) (get_within name d)) (fields_light fs d path)
  fields_light (optional name o fs) d path =
      let inner = λ (e : Data) (p : List ℕ). followed (λ _. 0) (weights o) 0 (size e - 1) _ (λ _ le. heavier (weights o) (size e - 1 - 1) (size e - 1) (omega arith) _ (fields_light o e p)) (opened e p) (weightless 0 (opened e p)) in
      both_light (if_there_weight (weights o)) (weights fs) (size d - 1 - 1) (if_there (λ e p. opened e p >>= λ _. fields_reading o e p) (get name d) (member_path path name)) (fields_reading fs d path)
      (if_there_light (weights o) (λ e p. opened e p >>= λ _. fields_reading o e p) inner (size d - 1) (get name d) (member_path path name) (get_within name d)) (fields_light fs d path)

-- an object is larger by two than what its fields weigh
pub struct_light : (fs : Fields) (d : Data) (path : List ℕ) → Light (weights fs) (size d - 1 - 1) (reading (struct fs) d path)
struct_light fs d path = followed (λ _. 0) (weights fs) 0 (size d - 1 - 1) _ (λ _ le. fields_light fs d path) (opened d path) (weightless 0 (opened d path))

-- ---- light values are ordinary

all_of : {A : Type 0} (f : A → ℕ) (P : A → Type 0) (n : ℕ) → ((x : A) → f x < n → P x) → (xs : List A) → total f xs < n → All P xs
all_of f P n each_one [] light k d within = absurd (omega arith)
all_of f P n each_one (x ∷ xs) light zero d within = each_one x (omega arith)
all_of f P n each_one (x ∷ xs) light (suc k) d within = all_of f P n each_one xs (omega arith) k d (omega arith)

if_some : {A : Type 0} (f : A → ℕ) (P : A → Type 0) (n : ℕ) → ((x : A) → f x < n → P x) → (o : Option A) → if_there_weight f o < n → IfSome o P
if_some f P n each_one None light = tt
if_some f P n each_one (Some x) light = each_one x light

mutual
  ordinary : (s : Shape) (x : Plain s) → weight s x < 2 ^ 30 → IsOrdinary s x
  ordinary number x light = tt
  ordinary unit x light = tt
  ordinary hash x light = tt
  ordinary text x light = light
  ordinary bytes x light = light
  ordinary four_units x light = tt
  ordinary (list s) x light = (omega arith, all_of (weight s) (IsOrdinary s) (2 ^ 30) (ordinary s) x (omega arith))
  ordinary (struct fs) x light = all_ordinary fs x light

  pub all_ordinary : (fs : Fields) (xs : Plains fs) → weights fs xs < 2 ^ 30 → AreOrdinary fs xs
  all_ordinary end xs light = tt
  all_ordinary (field name s fs) xs light = (ordinary s xs.0 (omega arith), all_ordinary fs xs.1 (omega arith))
  all_ordinary (optional name o fs) xs light = (if_some (weights o) (AreOrdinary o) (2 ^ 30) (all_ordinary o) xs.0 (omega arith), all_ordinary fs xs.1 (omega arith))
