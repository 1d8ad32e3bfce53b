-- Any list of writes.
use Rattle.std.proofs.Common.{◌≡◌, ◌∙◌, ℕ, List, [], ◌∷◌, ◌++◌, sym, ap, subst, append_assoc}
use Rattle.std.proofs.lemmas.List.{append-nil}
use Rattle.hs_kept.proofs.KeptLemmas.{kept-once}
use Rattle.hs_base.proofs.NewLemmas.{told_start}
use Rattle.hs_base.proofs.ToldLemmas.{new-once, last-once}
use Rattle.hs_stream.specs.Leading.{IsLed}
use Rattle.hs_stream.specs.Streams.{region_of, Writes}
use Rattle.hs_stream.specs.Writing.{joined, none, more, WritesJoin, CutsTellNothing, StartsAreAlike}
use Rattle.hs_stream.proofs.JoinLemmas.{writes-none, writes-more}

joined-more : (pieces : List (List ℕ)) (piece : List ℕ) → joined (pieces ++ piece ∷ []) ≡ joined pieces ++ piece
joined-more [] piece = append-nil piece
joined-more (first ∷ pieces) piece = ap (λ bytes. first ++ bytes) (joined-more pieces piece) ∙ sym (append_assoc first (joined pieces) piece)

pub writes-join : WritesJoin
writes-join db start end _ _ none = writes-none db start
writes-join db start end _ _ (more {pieces = pieces} {pairs = pairs} {new = new} {between = between} piece written writes) =
    subst (λ bytes. Writes db start end bytes (pairs ++ new)) (sym (joined-more pieces piece))
    (writes-more db start between end (joined pieces) piece pairs new (writes-join db start between pieces pairs written) writes)

pub cuts-tell_nothing : CutsTellNothing
cuts-tell_nothing db plan u told is told_is start start' end end' pieces pieces' pairs pairs' here here' same written written' =
    let w : List ℕ = u ++ joined pieces in
    let led : IsLed plan u (joined pieces) (region_of end) pairs = writes-join db start end pieces pairs written plan u told is here told_is in
    let led' : IsLed plan u (joined pieces) (region_of end') pairs' =
    subst (λ bytes. IsLed plan u bytes (region_of end') pairs') (sym same) (writes-join db start' end' pieces' pairs' written' plan u told is here' told_is) in
    record {
      reports = new-once plan.patterns u (joined pieces) pairs pairs' led.reports led'.reports;
      behind = led.behind;
      region = kept-once plan w (region_of end') (region_of end) led'.behind.region led.behind.region;
      lasts = λ last last' ends ends'. last-once plan.patterns w last last' (ends plan w is led.behind) (ends' plan w is led'.behind);
    }

pub starts-alike : StartsAreAlike
starts-alike db plan is start start' end end' pieces pieces' pairs pairs' fresh fresh' same written written' =
    cuts-tell_nothing db plan [] [] is (told_start plan.patterns) start start' end end' pieces pieces' pairs pairs' (fresh plan is) (fresh' plan is) same written written'
