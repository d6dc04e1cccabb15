use Rattle.std.specs.Prelude.{◌==◌, ◌&&◌, Bool}
use Rattle.foz_words.specs.declared.key.Key.{Key}

-- both keys name the same object
abbrev pub is_key : Key → Key → Bool
is_key a b = (a.tag == b.tag) && (a.hash == b.hash)
