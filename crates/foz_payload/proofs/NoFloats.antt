-- A payload's JSON has no float where the object has none.
use Rattle.std.proofs.Common.{◌≡◌, ℕ, List, false, refl}
use Rattle.std.specs.Prelude.{codes}
use Rattle.foz_words.specs.Hex.{hex_text}
use Rattle.serde_json.specs.Data as json
use Rattle.serde_json.specs.Data.{Data, no_members}
use Rattle.serde_json.specs.Written.{has_float}
use Rattle.json_fold.specs.Written.{whole, with_member}
use Rattle.json_fold.proofs.Floats.{with_member_none}
use Rattle.foz_payload.specs.Payload.{payload_value}

pub payload_has_none : (member : List ℕ) (hash : ℕ) (value : Data) → has_float value ≡ false → has_float (payload_value member hash value) ≡ false
unfolding payload_value
payload_has_none member hash value none =
    with_member_none (codes "version") (whole 6) (with_member member (json.object (with_member (hex_text 16 hash) value no_members)) no_members) refl
    (with_member_none member (json.object (with_member (hex_text 16 hash) value no_members)) no_members (with_member_none (hex_text 16 hash) value no_members none refl) refl)
