-- What an iteration over ends has left.
use Rattle.std.specs.Prelude.{ℕ, ◌+◌, List, ◌++◌, length}
use Rattle.hs_confirm.specs.declared.ends.Ends.{Ends}
use Rattle.hs_confirm.specs.Entries.{ends_from}

-- the numbers that are still to come
abbrev pub ends_left : Ends → List ℕ
ends_left ends =
    ends_from ends.confirm.now.entries.items ends.bucket (ends.history.now ++ ends.bytes.now)
    (length ends.history.now + ends.at) ends.next
