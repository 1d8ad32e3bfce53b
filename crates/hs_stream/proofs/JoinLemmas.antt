-- Writes in a row.
use Rattle.std.proofs.Common.{ℕ, List, [], ◌++◌, sym, subst, append_assoc}
use Rattle.std.proofs.lemmas.List.{append-nil}
use Rattle.hs_base.specs.Told.{Pair}
use Rattle.hs_base.proofs.NewLemmas.{new_nothing, told_more}
use Rattle.hs_base.proofs.ToldLemmas.{new-joins}
use Rattle.hs_compile.specs.Databases.{Compiled}
use Rattle.hs_stream.specs.declared.stream.Stream.{Stream}
use Rattle.hs_stream.specs.Leading.{IsBehind}
use Rattle.hs_stream.specs.Streams.{region_of, Writes}

pub writes-none : (db : Compiled) (stream : Stream) → Writes db stream stream [] []
writes-none db stream plan u told is behind told_is = record {
  behind = subst (λ s. IsBehind plan s (region_of stream)) (sym (append-nil u)) behind;
  reports = new_nothing plan.patterns u told told_is;
}

pub writes-more : (db : Compiled) (a b c : Stream) (x y : List ℕ) (xs ys : List Pair) →
    Writes db a b x xs → Writes db b c y ys → Writes db a c (x ++ y) (xs ++ ys)
writes-more db a b c x y xs ys first second plan u told is behind told_is =
    let before = first plan u told is behind told_is in
    let after = second plan (u ++ x) (told ++ xs) is before.behind (told_more plan.patterns u x told xs told_is before.reports) in
    record {
      behind = subst (λ s. IsBehind plan s (region_of c)) (append_assoc u x y) after.behind;
      reports = new-joins plan.patterns u x y xs ys before.reports after.reports;
    }
