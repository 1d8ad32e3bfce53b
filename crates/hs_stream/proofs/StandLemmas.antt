-- A stream from call to call.
use Rattle.std.proofs.Common.{[], ◌++◌, sym, subst}
use Rattle.hs_base.specs.Told.{IsTold, IsNew, IsLast}
use Rattle.hs_base.proofs.NewLemmas.{told_start, told_more}
use Rattle.hs_stream.specs.Standing.{FreshStands, WriteMoves, EndIsLast}

pub fresh-stands : FreshStands
fresh-stands db P stream runs fresh = record { runs = runs; behind = fresh runs.plan runs.is_database; told = []; is_told = told_start P }

pub write-moves : WriteMoves
write-moves db P u v old new pairs stands writes =
    let runs = stands.runs in
    let led = writes runs.plan u stands.told runs.is_database stands.behind (subst (λ Q. IsTold Q u stands.told) (sym runs.patterns) stands.is_told) in
    let reports = subst (λ Q. IsNew Q u v pairs) runs.patterns led.reports in
    record {
      stands = record { runs = runs; behind = led.behind; told = stands.told ++ pairs; is_told = told_more P u v stands.told pairs stands.is_told reports };
      reports = reports;
    }

pub end-last : EndIsLast
end-last db P u stream pairs stands ends =
    let runs = stands.runs in
    subst (λ Q. IsLast Q u pairs) runs.patterns (ends runs.plan u runs.is_database stands.behind)
