use Rattle.std.proofs.Common.{◌≡◌, ◌+◌, ◌++◌, length, map}
use Rattle.std.specs.List.{range_with_len, filter}
use Rattle.hs_base.specs.LiteralView.{literal_byte}
use Rattle.hs_confirm.specs.Plain.{plain_ends_there}
use Rattle.hs_confirm.proofs.plain.plain_ends.Given as goal

abbrev pub invariant-loop-number : goal.invariant-loop-number
invariant-loop-number l =
    l.numbers.items ≡ filter (plain_ends_there (map (λ literal. map literal_byte literal.items) l.literals) l.buckets l.bucket (l.history ++ l.bytes) (length l.history + l.at)) (range_with_len 0 l.number)
