-- What the commands that read hashes and keys are answered.
use Rattle.std.specs.Prelude.{ℕ, pos, List, [], length, map, filter, Option, Some, None, is_some, Bool, codes, if◌then◌else◌}
use Rattle.ft_base.specs.Hash.{Hash}
use Rattle.ft_base.specs.Space.{doc_of}
use Rattle.ft_base.specs.Docs.{Doc}
use Rattle.ft_base.specs.declared.reply.Reply.{Reply}
use Rattle.ft_base.specs.declared.reply.Reply.TheVariants.{Number, Bulk, NullBulk}

-- the hash of a document, without fields where there is none
abbrev pub hash_in : Option Doc → Hash
hash_in None = []
hash_in (Some doc) = doc.hash

-- a value, where there is one
abbrev pub value_reply : Option (List ℕ) → Reply
value_reply None = NullBulk
value_reply (Some value) = Bulk value

-- 1 where something is so, else 0
abbrev pub one_if : Bool → Reply
one_if so = Number (if so then pos 1 else pos 0)

-- the fields alone, and the values alone
abbrev pub names : Hash → List Reply
names hash = map (λ (field : List ℕ × List ℕ). Bulk field.0) hash

abbrev pub values : Hash → List Reply
values hash = map (λ (field : List ℕ × List ℕ). Bulk field.1) hash

-- how many of the keys are there, repeats counted
abbrev pub present : List Doc → List (List ℕ) → ℕ
present docs keys = length (filter (λ key. is_some (doc_of docs key)) keys)

-- the type of a key's value
abbrev pub kind_of : Option Doc → List ℕ
kind_of None = codes "none"
kind_of (Some doc) = codes "hash"
