-- The literals and the buckets that a `Confirm` was built of.
use Rattle.std.specs.Prelude.{ℕ, List, map}
use Rattle.hs_base.specs.Literals.{LiteralByte}
use Rattle.hs_confirm.specs.declared.confirm.Confirm.{Confirm}
use Rattle.hs_confirm.specs.Entries.{literal_in}

-- the literals, by number
unfoldable pub literals_of : Confirm → List (List LiteralByte)
literals_of confirm = map literal_in confirm.entries.items

-- the bucket of each
unfoldable pub buckets_of : Confirm → List ℕ
buckets_of confirm = map (λ entry. entry.bucket) confirm.entries.items
